-- `compare_words` meets its contract. The invariant: from k on the bytes agree. Assumes nothing.
use native.Mathlib.Omega.{arith}
use Rattle.order.proofs.Values.{agree-none, agree-more, part-compared, low-decide}
use Rattle.order.proofs.compare_words.Goals as goal

pub loop-k-init : goal.loop-k-init
loop-k-init c = agree-none _ _ _

pub returns-then-a-b : goal.returns-then-a-b
returns-then-a-b c =
    let a = c.args in
    part-compared _ a.x.now a.y.now a.n c.loop-k.k 8 c.loop-k.invariant (omega arith) (λ i. omega (arith, c.type_inv.x i))
    (λ i. omega (arith, c.type_inv.y i)) _ _ (omega arith) (omega arith) c.if-a-b.true c.cmp.ensures

pub loop-k-preserved : goal.loop-k-preserved
loop-k-preserved c =
    let a = c.args in
    agree-more a.x.now a.y.now a.n c.loop-k.k 8 c.loop-k.invariant (omega arith) (omega arith)

pub returns : goal.returns
returns c =
    let a = c.args in
    low-decide c.compare_bytes.result a.x.now a.y.now a.n c.loop-k.k c.loop-k.invariant
    c.compare_bytes.ensures
