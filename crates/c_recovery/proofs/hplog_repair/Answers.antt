-- `c_recovery::hplog_repair` meets its contract. Assumes nothing.
use Rattle.c_recovery.proofs.Repairs.{repair-refuses, repair-gives}
use Rattle.c_recovery.proofs.hplog_repair.Goals as goal

pub returns-in-Err : goal.returns-in-Err
returns-in-Err c =
    (repair-refuses _ _ _ _ _ _ c.in-Err.ensures.0 c.from.ensures, c.in-Err.ensures.1)

pub returns-in-Ok : goal.returns-in-Ok
returns-in-Ok c =
    (repair-gives _ _ _ _ _ c.in-Ok.ensures.0 c.accepted.ensures, c.in-Ok.ensures.1)
