-- `add` meets its contract. The mark is added to those that the element has. Assumes nothing.
use native.Mathlib.Omega.{arith}
use Rattle.bloom.proofs.Marks.{put-added, none-added}
use Rattle.bloom.proofs.add.Goals as goal

pub returns-then-n-gt0 : goal.returns-then-n-gt0
returns-then-n-gt0 c =
    let a = c.args in
    put-added a.filter.now a.x.now c.digest-d.result c.slot-k.result c.mark_of.result
    c.digest-d.ensures c.slot-k.ensures.0 c.mark_of.ensures

pub returns-else-n-gt0 : goal.returns-else-n-gt0
returns-else-n-gt0 c =
    let a = c.args in
    none-added a.filter.now a.x.now (omega arith)
