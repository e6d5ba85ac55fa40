-- An answer at the C edge: "number 0: accepted", and "On a refusal count is 0". Assumes nothing.
use Rattle.std.specs.Prelude.{Bool, true, false, ℕ}
use Rattle.verdict.specs.Rules.{Outcome, given, refused}
use Rattle.c_answer.specs.declared.Answer.{Answer}

abbrev pub answered : Outcome ℕ → Answer
answered (given n) = record { number = 0; place = 0; count = n }
answered (refused n p) = record { number = n; place = p; count = 0 }

-- what is or isn't so, as a number
abbrev pub flag_of : Bool → ℕ
flag_of true = 1
flag_of false = 0
