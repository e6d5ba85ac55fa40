-- `c_query::hplog_label` meets its contract. Assumes nothing.
use Rattle.c_query.proofs.Labels.{label-refuses, label-gives}
use Rattle.c_query.proofs.hplog_label.Goals as goal

pub returns-in-Err : goal.returns-in-Err
returns-in-Err c =
    (label-refuses _ _ _ _ _ c.in-Err.ensures.0 c.refused.ensures, c.label.ensures.1)

pub returns-in-Ok : goal.returns-in-Ok
returns-in-Ok c =
    (label-gives _ _ _ _ _ c.in-Ok.ensures.0 c.flag.ensures c.accepted.ensures, c.label.ensures.1)
