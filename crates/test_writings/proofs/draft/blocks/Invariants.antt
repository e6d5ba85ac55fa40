-- `test_writings::draft::blocks` meets its contract. Assumes nothing.
use mathlib.Core.Path.{◌≡◌}
use lib.ListN.{length}
use Rattle.test_writings.proofs.draft.blocks.Given as goal

abbrev pub invariant-loop-left : goal.invariant-loop-left
invariant-loop-left l = (length l.table ≡ length l.initial.table) × (length l.out ≡ length l.initial.out) × (length l.file ≡ length l.initial.file)

abbrev pub decreases-loop-left : goal.decreases-loop-left
decreases-loop-left l = l.left
