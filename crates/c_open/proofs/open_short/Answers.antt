-- `c_open::open_short` meets its contract. Assumes nothing.
use native.Mathlib.Omega.{arith}
use mathlib.Core.Path.{◌∙◌}
use Rattle.c_open.proofs.Opens.{short-unread, short-few, short-rows, short-frame}
use Rattle.c_open.proofs.open_short.Goals as goal

pub overflow_mul-needed : goal.overflow_mul-needed
overflow_mul-needed c =
    let a = c.args in
    let h = short-few a.log.now a.rows _ c.in-Ok.ensures in
    omega arith

pub returns-then-rows-needed : goal.returns-then-rows-needed
returns-then-rows-needed c =
    let a = c.args in
    c.refuse.ensures ∙ short-rows a.log.now a.rows _ c.in-Ok.ensures c.if-rows-needed.true

pub returns-in-Err : goal.returns-in-Err
returns-in-Err c =
    let a = c.args in
    c.from.ensures ∙ short-unread a.log.now a.rows _ _ c.in-Err.ensures

pub returns-else-rows-needed : goal.returns-else-rows-needed
returns-else-rows-needed c =
    let a = c.args in
    c.refuse-in-Ok.ensures ∙ short-frame a.log.now a.rows _ c.in-Ok.ensures c.if-rows-needed.false
