-- `crc32::reduce` meets its contract. Assumes nothing.
use mathlib.Core.Path.{◌≡◌, sym, ap, ap₂, ◌∙◌}
use mathlib.Core.List.{List}
use Prim.Native.Nat.{ℕ, ◌-◌, ◌%◌}
use native.Mathlib.Omega.{arith}
use lib.ListN.{length, drop}
use Rattle.crc32_fold.specs.Fold.{initial, folded, merged, reduced}
use Rattle.crc32_fold.proofs.Window.{chunk-turn, fold_end}
use Rattle.crc32.specs.Far.{far}
use Rattle.crc32.proofs.Ring.{from-begin, part-turn}
use Rattle.crc32.proofs.reduce.Goals as goal

pub loop-at-init : goal.loop-at-init
loop-at-init c =
    let round = c.fold_round.ensures in
    let s = c.args.s.now in
    let end = length s - 4032 in
    let first = end % 4018 in
    let n : 4018 - (4018 - first) ≡ first = omega arith in (
      omega arith,
      omega arith,
      round.0,
      part-turn first (end - first) end 0 first (initial 4018 0xFFFFFFFF) _ s (omega arith) (omega arith)
          (round.1 ∙ ap₂ (λ (k : ℕ) (h : List ℕ). folded far k h s) n c.first_ring-ring.ensures.1),
    )

pub loop-at-preserved : goal.loop-at-preserved
loop-at-preserved c =
    let round = c.fold_round-in-loop-at.ensures in
    let o = c.loop-at in
    let s = c.args.s.now in (
      omega arith,
      omega arith,
      round.0,
      chunk-turn far (length s - 4032) o.at 4018 o.ring _ _ s _ (omega arith) (from-begin o.ring)
          round.1 o.invariant.3,
    )

pub returns : goal.returns
unfolding reduced
returns c =
    let o = c.loop-at in
    let s = c.args.s.now in
    let end = length s - 4032 in
    c.merge.ensures
    ∙ ap (λ (h : List ℕ). merged far 4032 h (drop end s)) (sym
    (fold_end far end o.at o.ring (drop o.at s) (omega arith)) ∙ o.invariant.3)
