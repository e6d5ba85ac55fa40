use Prim.Native.Nat.{◌+◌}
use native.Mathlib.Omega.{arith}
use Rattle.wire.proofs.Numbers.{le_at-add, le_at-one}
use Rattle.wire.proofs.get_u16.Goals as goal

pub returns : goal.returns
returns c =
    let a = c.args in
    omega (arith, le_at-add 1 1 a.s.now a.at, le_at-one a.s.now a.at, le_at-one a.s.now (a.at + 1))
