-- `mission_c::writing::add_name` meets its promise. Assumes nothing.
use Rattle.mission_c.proofs.Ties.{name-tied}
use Rattle.mission_c.proofs.writing.add_name.Goals as goal

pub returns : goal.returns
returns c =
    name-tied _ _ _ _ _ c.hplog_add_name.ensures.0 c.hplog_add_name.ensures.1
