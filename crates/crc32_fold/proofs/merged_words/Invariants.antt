-- `crc32_fold::merged_words` meets its contract. Assumes nothing.
use mathlib.Core.Path.{◌≡◌}
use mathlib.Core.List.{List, [], ◌∷◌}
use Prim.Native.Nat.{ℕ, ◌-◌, ◌%◌, ◌^◌, ◌<◌, ◌≤◌}
use lib.ListN.{take, drop}
use Rattle.crc32_register.specs.Register.{crc_from}
use Rattle.crc32_register.specs.Word.{words}
use Rattle.crc32_fold.specs.Fold.{merged, near}
use Rattle.crc32_fold.proofs.merged_words.Given as goal

-- the bytes that are left, from the five words and the place, give what all of them give
pub record Left (m : List ℕ) (a b c d e i : ℕ) : Type 0 where
  pub inside : i ≤ 264
  pub even : i % 8 ≡ 0
  pub first : a < 2 ^ 64
  pub second : b < 2 ^ 64
  pub third : c < 2 ^ 64
  pub fourth : d < 2 ^ 64
  pub fifth : e < 2 ^ 64
  pub same : crc_from (words (a ∷ b ∷ c ∷ d ∷ e ∷ [])) (drop i m) ≡ crc_from 0 m

abbrev pub invariant-loop-i : goal.invariant-loop-i
invariant-loop-i l = Left (merged near 304 (take 300 l.window) l.s) l.a l.b l.c l.d l.e l.i

abbrev pub decreases-loop-i : goal.decreases-loop-i
decreases-loop-i l = 264 - l.i
