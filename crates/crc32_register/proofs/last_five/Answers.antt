-- `crc32_register::last_five` meets its contract. Assumes nothing.
use native.Mathlib.Omega.{arith}
use lib.Bits.{xor_lt}
use Rattle.crc32_register.proofs.Words.{five-steps}
use Rattle.crc32_register.proofs.last_five.Goals as goal

pub returns : goal.returns
returns c =
    let a = c.args in
    let second = xor_lt 64 c.at_next.result a.b (omega arith) (omega arith) in
    let third = xor_lt 64 c.at_next-2.result _ (omega arith)
    (xor_lt 64 c.at_behind.result a.c (omega arith) (omega arith)) in
    five-steps a.a a.b a.c a.d a.e _ _ _ _ _ _ _ _ (omega arith) second third c.at_next.ensures
    c.at_behind.ensures c.at_next-2.ensures
    c.at_behind-2.ensures c.at_next-3.ensures c.at_behind-3.ensures c.word_step.ensures
    c.word_step-2.ensures
