-- `crc32_fold::merged_words` meets its contract. Assumes nothing.
use mathlib.Core.Path.{◌≡◌, refl, sym, ap, ◌∙◌}
use mathlib.Core.List.{List}
use Prim.Native.Nat.{ℕ, ◌+◌, ◌≤◌}
use native.Mathlib.Omega.{arith}
use lib.Dec.{lit<}
use lib.ListN.{length, take}
use lib.Bits.{bit_xor, xor_lt}
use Rattle.wire.specs.Wire.{Bytes, le_at}
use Rattle.wire.proofs.Lists.{bytes_take}
use Rattle.crc32_register.specs.Register.{crc_from}
use Rattle.crc32_register.proofs.Word.{none_left}
use Rattle.crc32_register.proofs.Words.{fold_more, five-turn, words-one}
use Rattle.crc32_fold.specs.Fold.{merged, near}
use Rattle.crc32_fold.specs.Inner.{wide_along}
use Rattle.crc32_fold.proofs.Fold.{length_merged, bytes-merged}
use Rattle.crc32_fold.proofs.Merge.{merged-at}
use borrow.Author.Rules.{rules}
use Rattle.crc32_fold.proofs.merged_words.Goals.{At-loop-i}
use Rattle.crc32_fold.proofs.merged_words.Goals as goal

-- the bytes left with what is left at them, and eight of these
abbrev all : At-loop-i → List ℕ
all c = let a = c.args in merged near 304 (take 300 a.window.now) a.s.now

bytes : (c : At-loop-i) → Bytes (all c)
bytes c =
    let a = c.args in
    bytes-merged near 304 (take 300 a.window.now) a.s.now
    (bytes_take 300 a.window.now (λ k. omega (arith, c.shared_slice_known-1.given k)))
    (λ k. omega (arith, c.shared_slice_known-2-1.given k))

eight : (c : At-loop-i) (i : ℕ) → i + 8 ≤ 304 →
    let a = c.args in
    bit_xor (le_at 8 a.s.now i) (wide_along 8 near a.window.now i) ≡ le_at 8 (all c) i
eight c i h =
    let a = c.args in
    sym
    (merged-at a.window.now a.s.now i c.requires.2
    (λ k. omega (arith, c.shared_slice_known-1.given k))
    (λ k. omega (arith, c.shared_slice_known-2-1.given k)) h)

pub loop-i-init : goal.loop-i-init
loop-i-init c =
    record {
      inside = search rules;
      even = refl;
      first = lit< tt;
      second = lit< tt;
      third = lit< tt;
      fourth = lit< tt;
      fifth = lit< tt;
      same = let a = c.args in ap (λ (x : ℕ). crc_from x
          (merged near 304 (take 300 a.window.now) a.s.now)) (words-one 0);
    }

pub loop-i-preserved : goal.loop-i-preserved
loop-i-preserved c =
    let o = c.loop-i in
    let k = c.merged_word in
    let m = all (goal.at.loop-i-preserved c).At-loop-i in
    let size : length m ≡ 304 = length_merged near 304 _ _ in
    record {
      inside = omega arith;
      even = omega arith;
      first = o.invariant.second;
      second = omega arith;
      third = omega arith;
      fourth = omega arith;
      fifth = omega arith;
      same =
          fold_more o.a k.result o.b o.c o.d o.e _ _ _ _ m o.i (bytes (goal.at.loop-i-preserved c).At-loop-i) (omega arith)
          (k.ensures ∙ eight (goal.at.loop-i-preserved c).At-loop-i o.i (omega arith))
          (xor_lt 64 o.a k.result o.invariant.first (omega arith))
          c.at_second-b.ensures c.at_third-c.ensures
          c.at_fourth-d.ensures c.at_fifth-e.ensures
          ∙ o.invariant.same;
    }

pub returns : goal.returns
returns c =
    let o = c.loop-i in
    let m = all (goal.at.returns c).At-loop-i in
    let size : length m ≡ 304 = length_merged near 304 _ _ in
    let e : o.i ≡ 264 = omega arith in
    none_left c.last_five.result m 304 (omega arith)
    ∙ five-turn o.a o.b o.c o.d o.e _ _ _ _ _ _ m 264 (bytes (goal.at.returns c).At-loop-i) (omega arith)
    (c.merged_word-2.ensures ∙ eight (goal.at.returns c).At-loop-i 264 (omega arith))
    (c.merged_word-3.ensures ∙ eight (goal.at.returns c).At-loop-i 272 (omega arith)) (c.merged_word-4.ensures
    ∙ eight (goal.at.returns c).At-loop-i 280 (omega arith))
    (c.merged_word-5.ensures ∙ eight (goal.at.returns c).At-loop-i 288 (omega arith))
    (c.merged_word-6.ensures ∙ eight (goal.at.returns c).At-loop-i 296 (omega arith)) c.last_five.ensures
    ∙ rw e at o.invariant.same
