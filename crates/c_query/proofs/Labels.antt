-- Laws of the label at the C edge. Assumes nothing.
use mathlib.Core.Path.{◌≡◌, sym}
use mathlib.Core.Bool.{Bool}
use mathlib.Core.List.{List}
use Prim.Native.Nat.{ℕ}
use Rattle.verdict.specs.Rules.{given, refused}
use Rattle.label.specs.Label.{label_of}
use Rattle.c_answer.specs.declared.Answer.{Answer}
use Rattle.c_answer.specs.Answer.{answered, flag_of}
use Rattle.c_query.specs.Label.{c_label_of}

module _ (name : List ℕ) (room : ℕ) (r : Answer) where
  pub label-refuses : (n p : ℕ) → refused n p ≡ label_of name room → r ≡ answered (refused n p) → r ≡ c_label_of name room
  unfolding c_label_of
  label-refuses n p e a = rw (sym e) a

  pub label-gives : (b : Bool) (k : ℕ) → given b ≡ label_of name room → k ≡ flag_of b → r ≡ answered (given k) → r ≡ c_label_of name room
  unfolding c_label_of
  label-gives b k e f a = rw (sym e, sym f) a
