-- `test_writings::run` meets its contract. Assumes nothing.
use native.Mathlib.Omega.{arith}
use Rattle.test_writings.proofs.run.Goals as goal

pub loop-at-preserved : goal.loop-at-preserved
loop-at-preserved c = let l = c.loop-at in (
  omega (arith, c.file-1.given, l.invariant),
  omega (arith, c.found-1.given, l.invariant),
  omega (arith, c.dictionary-1.given, l.invariant),
  omega (arith, c.payload-1.given, l.invariant),
  omega (arith, c.table-1.given, l.invariant),
  omega (arith, c.out-1.given, l.invariant),
)
