-- Laws of repair at the C edge. Assumes nothing.
use mathlib.Core.Path.{◌≡◌, sym}
use mathlib.Core.List.{List}
use Prim.Native.Nat.{ℕ}
use Rattle.verdict.specs.Rules.{given, refused}
use Rattle.repair.specs.Repair.{Kept, repair_of}
use Rattle.c_answer.specs.declared.Answer.{Answer}
use Rattle.c_answer.specs.Answer.{answered}
use Rattle.c_recovery.specs.Repair.{c_repair_of}

module _ (log dictionary : List ℕ) (room : ℕ) (r : Answer) where
  pub repair-refuses : (n p : ℕ) → refused n p ≡ repair_of log dictionary room → r ≡ answered (refused n p) → r ≡ c_repair_of log dictionary room
  unfolding c_repair_of
  repair-refuses n p e a = rw (sym e) a

  pub repair-gives : (k : Kept) → given k ≡ repair_of log dictionary room → r ≡ answered (given k.length) → r ≡ c_repair_of log dictionary room
  unfolding c_repair_of
  repair-gives k e a = rw (sym e) a
