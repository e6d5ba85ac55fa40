-- `crc32_register::fold_words` meets its contract. Assumes nothing.
use mathlib.Core.Path.{◌≡◌, refl, ap, ◌∙◌}
use Prim.Native.Nat.{ℕ, ◌+◌, ◌*◌, ◌/◌}
use native.Mathlib.Omega.{arith}
use lib.Dec.{lit<}
use lib.ListN.{length}
use lib.Bits.{xor_lt}
use Rattle.crc32_register.specs.Register.{crc_from}
use Rattle.crc32_register.proofs.Words.{fold_more, five-turn, words-one}
use borrow.Author.Rules.{rules}
use Rattle.crc32_register.proofs.fold_words.Goals as goal

pub loop-i-init : goal.loop-i-init
loop-i-init c =
    let a = c.args in
    record {
      inside = search rules;
      even = refl;
      first = omega arith;
      second = lit< tt;
      third = lit< tt;
      fourth = lit< tt;
      fifth = lit< tt;
      same = ap (λ (x : ℕ). crc_from x a.s.now) (words-one a.start);
    }

pub loop-i-preserved : goal.loop-i-preserved
loop-i-preserved c =
    let s = c.args.s.now in
    let o = c.loop-i in
    let w = c.load in
    record {
      inside = search rules;
      even = omega arith;
      first = o.invariant.second;
      second = omega arith;
      third = omega arith;
      fourth = omega arith;
      fifth = omega arith;
      same =
          fold_more o.a w.result o.b o.c o.d o.e _ _ _ _ s o.i
          (λ k. omega (arith, c.shared_slice_known-1.given k)) (search rules) w.ensures
          (xor_lt 64 o.a w.result o.invariant.first (omega arith))
          c.at_second-b.ensures c.at_third-c.ensures
          c.at_fourth-d.ensures c.at_fifth-e.ensures
          ∙ o.invariant.same;
    }

pub returns : goal.returns
returns c =
    let o = c.loop-i in
    let s = c.args.s.now in
    let e : length s / 8 * 8 ≡ o.i + 40 = omega arith in
    rw e
    (five-turn o.a o.b o.c o.d o.e _ _ _ _ _ _ s o.i
    (λ k. omega (arith, c.shared_slice_known-1.given k)) (search rules) c.load-2.ensures
    c.load-3.ensures c.load-4.ensures c.load-5.ensures c.load-6.ensures c.last_five.ensures
    ∙ o.invariant.same)
