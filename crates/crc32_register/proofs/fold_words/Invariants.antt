-- `crc32_register::fold_words` meets its contract. Assumes nothing.
use mathlib.Core.Path.{◌≡◌}
use mathlib.Core.List.{List, [], ◌∷◌}
use Prim.Native.Nat.{ℕ, ◌+◌, ◌-◌, ◌%◌, ◌^◌, ◌<◌, ◌≤◌}
use lib.ListN.{length, drop}
use Rattle.crc32_register.specs.Register.{crc_from}
use Rattle.crc32_register.specs.Word.{words}
use Rattle.crc32_register.proofs.fold_words.Given as goal

-- the bytes that are left, from the five words and the place, give what all of them give from the start
pub record Left (start : ℕ) (s : List ℕ) (a b c d e i : ℕ) : Type 0 where
  pub inside : i + 40 ≤ length s
  pub even : i % 8 ≡ 0
  pub first : a < 2 ^ 64
  pub second : b < 2 ^ 64
  pub third : c < 2 ^ 64
  pub fourth : d < 2 ^ 64
  pub fifth : e < 2 ^ 64
  pub same : crc_from (words (a ∷ b ∷ c ∷ d ∷ e ∷ [])) (drop i s) ≡ crc_from start s

abbrev pub invariant-loop-i : goal.invariant-loop-i
invariant-loop-i l = Left l.start l.s l.a l.b l.c l.d l.e l.i

abbrev pub decreases-loop-i : goal.decreases-loop-i
decreases-loop-i l = length l.s - l.i
