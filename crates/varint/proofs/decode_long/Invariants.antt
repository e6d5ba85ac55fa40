-- `decode_long` meets its contract: each turn of the loop keeps `Turn`, and there are at most eight. Assumes nothing.
use Prim.Native.Nat.{◌-◌}
use Rattle.varint.proofs.Decoding.{Turn}
use Rattle.varint.proofs.decode_long.Given as goal

abbrev pub invariant-loop : goal.invariant-loop
invariant-loop l = Turn l.s l.at l.value l.scale (8 - l.counter) l.p
