-- The label at the C edge: the library's own, with its answer as numbers. Assumes nothing.
use Rattle.std.specs.Prelude.{List, ℕ}
use Rattle.verdict.specs.Rules.{given, on_given}
use Rattle.label.specs.Label.{label_of}
use Rattle.c_answer.specs.declared.Answer.{Answer}
use Rattle.c_answer.specs.Answer.{answered, flag_of}

-- count: 1 for a shortened name, else 0
unfoldable pub c_label_of : (name : List ℕ) (room : ℕ) → Answer
c_label_of name room = answered (on_given (label_of name room) (λ shortened. given (flag_of shortened)))
