-- `crc32_register::last_bytes` meets its contract. Assumes nothing.
use mathlib.Core.Path.{refl, ap, ◌∙◌}
use Prim.Native.Nat.{ℕ, ◌-◌, ◌*◌, ◌/◌, ◌%◌, ◌^◌}
use native.Mathlib.Omega.{arith}
use lib.Pow.{shr_le}
use lib.ListN.{length}
use lib.Bits.{bit_xor}
use Rattle.crc32_register.specs.Register.{steps}
use Rattle.crc32_register.proofs.Word.{none_left, last_turn}
use borrow.Author.Rules.{rules}
use Rattle.crc32_register.proofs.last_bytes.Goals as goal

pub returns-then-n-eq0 : goal.returns-then-n-eq0
returns-then-n-eq0 c =
    let a = c.args in
    none_left a.c a.s.now a.at (search rules)

pub overflow_cast-result : goal.overflow_cast-result
overflow_cast-result c =
    let a = c.args in
    omega (arith, shr_le a.c (8 * (length a.s.now - a.at)))

pub returns : goal.returns
returns c =
    let a = c.args in
    let s = a.s.now in
    let n = length s - a.at in
    ap (λ (x : ℕ). bit_xor x (a.c / 2 ^ (8 * n))) (c.word_step.ensures
    ∙ ap (λ (k : ℕ). steps 64 (bit_xor a.c k * 2 ^ (64 - 8 * n) % 2 ^ 64)) c.u64_at.ensures)
    ∙ last_turn a.c s a.at (64 - 8 * n) (8 * n) (λ i. omega (arith, c.shared_slice_known-1.given i))
    (search rules) (search rules) refl (omega arith)
