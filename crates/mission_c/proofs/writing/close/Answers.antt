-- `mission_c::writing::close` meets its promise. Assumes nothing.
use Rattle.mission_c.proofs.Ties.{close-tied}
use Rattle.mission_c.proofs.writing.close.Goals as goal

pub returns : goal.returns
returns c =
    close-tied _ _ _ _ _ _ _ c.hplog_close.ensures.0 c.hplog_close.ensures.1
