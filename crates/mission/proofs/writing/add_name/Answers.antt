-- `mission::writing::add_name` meets its promise. Assumes nothing.
use Rattle.mission.proofs.Ties.{name-tied}
use Rattle.mission.proofs.writing.add_name.Goals as goal

pub returns : goal.returns
returns c =
    name-tied _ _ _ _ _ c.add_name.ensures.0 c.add_name.ensures.1
