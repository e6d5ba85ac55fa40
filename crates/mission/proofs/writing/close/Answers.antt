-- `mission::writing::close` meets its promise. Assumes nothing.
use Rattle.mission.proofs.Ties.{close-tied}
use Rattle.mission.proofs.writing.close.Goals as goal

pub returns : goal.returns
returns c =
    close-tied _ _ _ _ _ _ _ c.close.ensures.0 c.close.ensures.1
