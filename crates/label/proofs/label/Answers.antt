-- `label`: each way out, by the rule that decides it. Assumes nothing.
use native.Mathlib.Omega.{arith}
use mathlib.Core.Path.{◌∙◌}
use lib.ListN.{length}
use Rattle.label.proofs.Laws.{label-unprintable, label-no-room, label-fits, label-refused, label-whole, label-shortened}
use Rattle.label.proofs.label.Goals as goal

pub returns-in-Some : goal.returns-in-Some
returns-in-Some c =
    let a = c.args in
    label-refused a.name.now a.panel.now _ _ (label-unprintable a.name.now (length a.panel.now) _ c.in-Some.ensures)

pub returns-then-panel-lt16 : goal.returns-then-panel-lt16
returns-then-panel-lt16 c =
    let a = c.args in
    let e = label-no-room a.name.now (length a.panel.now) c.in_default.ensures (omega arith) in
    label-refused a.name.now a.panel.now _ _ e

pub returns-then-name-gt16 : goal.returns-then-name-gt16
returns-then-name-gt16 c =
    let a = c.args in
    let e = label-fits a.name.now (length a.panel.now) c.in_default.ensures (omega arith) in
    let q = label-shortened a.name.now a.panel.now e (omega arith) in
    (q.0, c.abridge.ensures ∙ q.1)

pub returns : goal.returns
returns c =
    let a = c.args in
    let e = label-fits a.name.now (length a.panel.now) c.in_default.ensures (omega arith) in
    let q = label-whole a.name.now a.panel.now e (omega arith) in
    (q.0, c.pad.ensures ∙ q.1)
