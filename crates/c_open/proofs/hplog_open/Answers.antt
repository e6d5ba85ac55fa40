-- `c_open::hplog_open` meets its contract. Assumes nothing.
use Rattle.c_open.proofs.Opens.{open-short, open-refuses, open_gives}
use Rattle.c_open.proofs.hplog_open.Goals as goal

pub returns-then-frame-lt-FRAME : goal.returns-then-frame-lt-FRAME
returns-then-frame-lt-FRAME c =
    let a = c.args in
    open-short a.log.now a.rows.now a.frame.now _ c.if-frame-lt-FRAME.true c.open_short.ensures

pub returns-in-Err : goal.returns-in-Err
returns-in-Err c =
    let a = c.args in
    open-refuses a.log.now a.rows.now a.frame.now _ c.if-frame-lt-FRAME.false _ _ _
    c.in-Err.ensures.0 c.in-Err.ensures.1 c.from.ensures

pub returns-in-Ok : goal.returns-in-Ok
returns-in-Ok c =
    let a = c.args in
    open_gives a.log.now a.rows.now a.frame.now _ c.if-frame-lt-FRAME.false _ _ _
    c.in-Ok.ensures.0 c.in-Ok.ensures.1 c.accepted.ensures c.put_frame.ensures
