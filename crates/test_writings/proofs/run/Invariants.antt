-- `test_writings::run` meets its contract. Assumes nothing.
use mathlib.Core.Path.{◌≡◌}
use Prim.Native.Nat.{◌-◌}
use lib.ListN.{length}
use Rattle.test_writings.proofs.run.Given as goal

abbrev pub invariant-loop-at : goal.invariant-loop-at
invariant-loop-at l =
    (length l.file ≡ length l.initial.file) × (length l.found ≡ length l.initial.found) × (length l.dictionary ≡ length l.initial.dictionary)
    × (length l.payload ≡ length l.initial.payload) × (length l.table ≡ length l.initial.table) × (length l.out ≡ length l.initial.out)

abbrev pub decreases-loop-at : goal.decreases-loop-at
decreases-loop-at l =
    length l.input - l.at
