-- `mission::recovering::repair` meets its promise. Assumes nothing.
use Rattle.mission.proofs.Ties.{repair-tied}
use Rattle.mission.proofs.recovering.repair.Goals as goal

pub returns : goal.returns
returns c =
    repair-tied _ _ _ _ _ c.repair.ensures.0 c.repair.ensures.1
