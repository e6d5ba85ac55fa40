-- `mission::recovering::recover` meets its promise. Assumes nothing.
use Rattle.mission.proofs.Ties.{recover-tied}
use Rattle.mission.proofs.recovering.recover.Goals as goal

pub returns : goal.returns
returns c =
    recover-tied _ _ _ _ c.recover.ensures.0 c.recover.ensures.1
