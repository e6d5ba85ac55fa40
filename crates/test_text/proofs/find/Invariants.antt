use Rattle.std.proofs.Common.{◌-◌, ◌≤◌, min, length}
use Rattle.test_text.proofs.find.Given as goal

abbrev pub invariant-loop-i : goal.invariant-loop-i
invariant-loop-i l = min l.from (length l.s) ≤ l.i
