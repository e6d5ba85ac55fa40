-- `c_recovery::hplog_recover` meets its contract. Assumes nothing.
use Rattle.c_recovery.proofs.Recovers.{recover-short, recover-refuses, recover-gives}
use Rattle.c_recovery.proofs.hplog_recover.Goals as goal

pub returns-then-report-lt-REPORT : goal.returns-then-report-lt-REPORT
returns-then-report-lt-REPORT c =
    let a = c.args in
    recover-short a.log.now a.rows.now a.report.now _ c.if-report-lt-REPORT.true c.recover_short.ensures

pub returns-in-Err : goal.returns-in-Err
returns-in-Err c =
    let a = c.args in
    recover-refuses a.log.now a.rows.now a.report.now _ c.if-report-lt-REPORT.false _ _ _
    c.in-Err.ensures.0 c.in-Err.ensures.1 c.from.ensures

pub returns-in-Ok : goal.returns-in-Ok
returns-in-Ok c =
    let a = c.args in
    recover-gives a.log.now a.rows.now a.report.now _ c.if-report-lt-REPORT.false _ _ _
    c.in-Ok.ensures.0 c.in-Ok.ensures.1 c.accepted.ensures c.put_report.ensures
