-- `compare` meets its contract. The lengths decide, then the numbers that the bytes spell. Assumes nothing.
use native.Mathlib.Omega.{arith}
use Rattle.order.proofs.Values.{value-lengths, value-compared}
use Rattle.order.proofs.compare.Goals as goal

pub returns-then-n-m : goal.returns-then-n-m
returns-then-n-m c =
    let a = c.args in
    value-lengths _ a.x.now a.y.now (λ i. omega (arith, c.type_inv.x i)) (λ i. omega (arith, c.type_inv.y i)) c.if-n-m.true
    c.cmp.ensures

pub returns : goal.returns
returns c =
    let a = c.args in
    value-compared a.x.now a.y.now c.compare_words.result _ (omega arith) (omega arith)
    c.compare_words.ensures
