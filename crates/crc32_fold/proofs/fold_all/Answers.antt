-- `crc32_fold::fold_all` meets its contract. Assumes nothing.
use mathlib.Core.Path.{sym, ap, ap₂, ◌∙◌}
use mathlib.Core.List.{List}
use Prim.Native.Nat.{ℕ, ◌-◌}
use native.Mathlib.Nat.{sub-zero}
use native.Mathlib.Omega.{arith}
use lib.ListN.{length, take, drop, replicate, length-drop, length-replicate}
use Rattle.wire.specs.Wire.{le}
use Rattle.wire.proofs.Splices.{length-splice}
use Rattle.crc32_register.specs.Register.{crc_from}
use Rattle.crc32_fold.specs.Fold.{merged, reduced, near}
use Rattle.crc32_fold.proofs.Fold.{near-crc}
use Rattle.crc32_fold.proofs.Window.{window-start, chunk-turn, fold_end}
use Rattle.crc32_fold.proofs.Merge.{window-kept, window-clear, length_part, last-part}
use borrow.Author.Rules.{rules}
use Rattle.crc32_fold.proofs.fold_all.Goals as goal

pub loop-at-init : goal.loop-at-init
loop-at-init c =
    let put = c.put_u32.ensures in
    let a = c.args in (
      search rules,
      search rules,
      ap length put ∙ length-splice (replicate 1483 0) 0 (le 4 a.c) ∙ length-replicate {A = ℕ} 1483 0,
      rw (sub-zero, put, window-start 296 1479 a.c (omega arith)),
    )

pub loop-at-preserved : goal.loop-at-preserved
loop-at-preserved c =
    let chunk = c.fold_chunk.ensures in
    let slid = c.slide.ensures in
    let o = c.loop-at in
    let s = c.args.s.now in (
      search rules,
      omega arith,
      chunk.0,
      chunk-turn near (length s - 304) o.at _ (take 300 (drop o.n o.window)) _ _ s _ (search rules)
          slid.1 chunk.1 o.invariant.3,
    )

pub merged_words-requires : goal.merged_words-requires
merged_words-requires c =
    let s = c.args.s.now in
    let clear = c.clear.ensures in (
      length_part _ c.loop-at.n 459 (omega arith),
      omega (arith, ap length (last-part s (length s - 304)), length-drop (length s - 304) s),
      window-clear _ c.loop-at.n clear.2,
    )

pub returns : goal.returns
unfolding reduced
returns c =
    let o = c.loop-at in
    let a = c.args in
    let s = a.s.now in
    let end = length s - 304 in
    c.merged_words.ensures
    ∙ ap₂ (λ (h t : List ℕ). crc_from 0 (merged near 304 h t))
    (window-kept _ _ o.n c.clear.ensures.1 ∙ sym
    (fold_end near end o.at (take 300 (drop o.n o.window)) (drop o.at s) (search rules)) ∙ o.invariant.3)
    (last-part s end)
    ∙ near-crc a.c s (search rules) (omega arith) (λ i. omega (arith, c.shared_slice_known-1.given i))
