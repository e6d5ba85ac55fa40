-- `mission::writing::begin` meets its promise. Assumes nothing.
use Rattle.mission.proofs.Ties.{begin-tied}
use Rattle.mission.proofs.writing.begin.Goals as goal

pub returns : goal.returns
returns c =
    begin-tied _ _ _ _ c.begin.ensures.0 c.begin.ensures.1
