-- `c_recovery::recover_short` meets its contract. Assumes nothing.
use mathlib.Core.Path.{◌∙◌}
use Rattle.c_recovery.proofs.Recovers.{short-unread, short-rows, short-report}
use Rattle.c_recovery.proofs.recover_short.Goals as goal

pub returns-then-rows-needed : goal.returns-then-rows-needed
returns-then-rows-needed c =
    let a = c.args in
    c.refuse.ensures ∙ short-rows a.log.now a.rows _ c.in-Ok.ensures c.if-rows-needed.true

pub returns-in-Err : goal.returns-in-Err
returns-in-Err c =
    let a = c.args in
    c.from.ensures ∙ short-unread a.log.now a.rows _ _ c.in-Err.ensures

pub returns-else-rows-needed : goal.returns-else-rows-needed
returns-else-rows-needed c =
    let a = c.args in
    c.refuse-in-Ok.ensures ∙ short-report a.log.now a.rows _ c.in-Ok.ensures c.if-rows-needed.false
