-- `crc32_register::word_step` meets its contract. Assumes nothing.
use mathlib.Core.Path.{ap, ◌∙◌}
use native.Mathlib.Omega.{arith}
use Rattle.crc32_register.specs.Word.{shift_down, above}
use Rattle.crc32_register.proofs.Word.{word-steps, above-small}
use Rattle.crc32_register.proofs.word_step.Goals as goal

pub overflow_cast-result : goal.overflow_cast-result
unfolding above shift_down
overflow_cast-result c =
    let small = above-small c.quotient_of-q.result (omega arith) in
    omega (arith, small)

pub returns : goal.returns
unfolding above shift_down
returns c = ap above c.quotient_of-q.ensures ∙ word-steps c.args.w (omega arith)
