-- `abridge`: three parts, each after the one before. Assumes nothing.
use native.Mathlib.Omega.{arith}
use lib.ListN.{length-take}
use Rattle.label.proofs.Laws.{panel-abridged}
use Rattle.label.proofs.abridge.Goals as goal

pub slice_bounds-copy_at-end : goal.slice_bounds-copy_at-end
slice_bounds-copy_at-end c = rw length-take (omega arith)

pub returns : goal.returns
returns c =
    let a = c.args in
    panel-abridged a.name.now a.panel.now (omega arith) _ _ _ c.copy_at.ensures c.put_u8.ensures c.copy_at-2.ensures
