use native.Mathlib.Omega.{arith}
use Rattle.wire.proofs.Numbers.{le_at-below}
use Rattle.wire.proofs.u32_at.Goals as goal

pub overflow_cast-result : goal.overflow_cast-result
overflow_cast-result c =
    let a = c.args in
    omega (arith, le_at-below 4 a.s.now a.at (λ k. omega (arith, c.shared_slice_known-1.given k)))
