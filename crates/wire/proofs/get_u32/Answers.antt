use native.Mathlib.Omega.{arith}
use Rattle.wire.proofs.Numbers.{le_at-add}
use Rattle.wire.proofs.get_u32.Goals as goal

pub returns : goal.returns
returns c =
    let a = c.args in
    omega (arith, le_at-add 2 2 a.s.now a.at)
