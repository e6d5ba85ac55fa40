-- `mission_c::writing::begin` meets its promise. Assumes nothing.
use Rattle.mission_c.proofs.Ties.{begin-tied}
use Rattle.mission_c.proofs.writing.begin.Goals as goal

pub returns : goal.returns
returns c =
    begin-tied _ _ _ _ c.hplog_begin.ensures.0 c.hplog_begin.ensures.1
