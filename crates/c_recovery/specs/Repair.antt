-- Repair at the C edge: the library's own, with its answer as numbers. Assumes nothing.
use Rattle.std.specs.Prelude.{List, ℕ}
use Rattle.verdict.specs.Rules.{given, on_given}
use Rattle.repair.specs.Repair.{repair_of}
use Rattle.c_answer.specs.declared.Answer.{Answer}
use Rattle.c_answer.specs.Answer.{answered}

-- count: the bytes of the finished file
unfoldable pub c_repair_of : (log dictionary : List ℕ) (room : ℕ) → Answer
c_repair_of log dictionary room = answered (on_given (repair_of log dictionary room) (λ k. given k.length))
