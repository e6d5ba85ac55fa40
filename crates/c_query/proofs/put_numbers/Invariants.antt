-- `c_query::put_numbers` meets its contract. Assumes nothing.
use Prim.Native.Nat.{◌+◌, ◌*◌, ◌≤◌}
use mathlib.Core.Path.{◌≡◌}
use lib.ListN.{length, drop}
use Rattle.wire.specs.Wire.{splice}
use Rattle.query.specs.Query.{chosen}
use Rattle.c_query.specs.Query.{c_rows, numbers_bytes}
use Rattle.c_query.proofs.put_numbers.Given as goal

abbrev pub invariant-loop-i : goal.invariant-loop-i
invariant-loop-i l =
    (length l.out ≡ length l.initial.out) × (l.at + 4 * length (chosen l.from l.to l.i (drop l.i (c_rows l.rows))) ≤ length l.initial.out)
    × (splice l.out l.at (numbers_bytes (chosen l.from l.to l.i (drop l.i (c_rows l.rows))))
    ≡ splice l.initial.out 0 (numbers_bytes (chosen l.from l.to 0 (c_rows l.rows))))
