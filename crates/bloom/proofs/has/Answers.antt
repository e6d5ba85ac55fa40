-- `has` meets its contract. By what it calls. Assumes nothing.
use native.Mathlib.Omega.{arith}
use Rattle.bloom.proofs.Marks.{seen-marked, none-marked}
use Rattle.bloom.proofs.has.Goals as goal

pub returns-then-n-eq0 : goal.returns-then-n-eq0
returns-then-n-eq0 c =
    let a = c.args in
    none-marked a.filter.now a.x.now (omega arith)

pub returns : goal.returns
returns c =
    let a = c.args in
    seen-marked a.filter.now a.x.now c.digest-d.result c.slot-k.result c.mark_of.result
    c.digest-d.ensures c.slot-k.ensures.0 c.mark_of.ensures (omega arith)
