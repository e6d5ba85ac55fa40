-- `crc32_register::words_by` meets its contract. Assumes nothing.
use mathlib.Core.Path.{◌≡◌, refl, ap, ◌∙◌}
use Prim.Native.Nat.{ℕ, ◌+◌, ◌*◌, ◌/◌}
use native.Mathlib.Omega.{arith}
use lib.ListN.{length, drop}
use lib.Bits.{bit_xor}
use Rattle.crc32_register.specs.Register.{steps, crc_from}
use Rattle.crc32_register.proofs.Word.{word-turn}
use borrow.Author.Rules.{rules}
use Rattle.crc32_register.proofs.words_by.Goals as goal

pub loop-i-init : goal.loop-i-init
loop-i-init c = (search rules, refl, omega arith, refl)

pub loop-i-preserved : goal.loop-i-preserved
loop-i-preserved c =
    let s = c.args.s.now in (
      search rules,
      omega arith,
      omega arith,
      ap (λ (x : ℕ). crc_from x (drop (c.loop-i.i + 8) s)) (c.word_step-c.ensures
          ∙ ap (λ (k : ℕ). steps 64 (bit_xor c.loop-i.c k)) c.load.ensures)
          ∙ word-turn c.loop-i.c s c.loop-i.i (λ k. omega (arith, c.shared_slice_known-1.given k))
          (search rules) ∙ c.loop-i.invariant.3,
    )

pub returns : goal.returns
returns c =
    let s = c.args.s.now in
    let e : length s / 8 * 8 ≡ c.loop-i.i = omega arith in
    rw e c.loop-i.invariant.3
