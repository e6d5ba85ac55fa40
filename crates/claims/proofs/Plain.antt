-- A plain dictionary that closing accepts, with any number of names up to 65,535: name i is the letter a, i times. Assumes nothing.
use mathlib.Core.Path.{◌≡◌, sym, ap, ◌∙◌}
use mathlib.Core.Bool.{true}
use mathlib.Core.List.{List, [], ◌∷◌, ◌++◌}
use Prim.Native.Nat.{ℕ, zero, suc, ◌+◌, ◌≤◌, ◌<◌}
use native.Mathlib.Omega.{arith}
use native.Mathlib.Decide.{dec_lt}
use lib.ListN.{length, get_or, replicate, length-append, length-replicate, get_or-append}
use lib.Seq.{get_or_at}
use Rattle.verdict.specs.Rules.{sound, first_broken}
use Rattle.wire.specs.Wire.{le_at}
use Rattle.utf8.specs.Utf8.{utf8_of}
use Rattle.utf8.proofs.Laws.{utf8_nil, utf8-low}
use Rattle.names.specs.Dictionary.{dictionary_rules}
use Rattle.claims.specs.Built.{plain_names}
use Rattle.claims.proofs.Listed as listed

abbrev letters : ℕ → List ℕ
letters i = replicate i 97

length-letters : (i : ℕ) → length (letters i) ≡ i
length-letters i = length-replicate i 97

letters-text : (i : ℕ) → utf8_of (letters i) ≡ true
letters-text zero = utf8_nil
letters-text (suc i) = utf8-low 97 (letters i) (omega arith) ∙ letters-text i

letters-apart : (i j : ℕ) → letters i ≡ letters j → i ≡ j
letters-apart i j e = sym (length-letters i) ∙ ap length e ∙ length-letters j

-- the first k of these names
unfoldable pub first_names : ℕ → List (List ℕ)
first_names zero = []
first_names (suc k) = first_names k ++ (letters k ∷ [])

length-first : (k : ℕ) → length (first_names k) ≡ k
unfolding first_names
length-first zero = omega arith
length-first (suc k) = omega (arith, length-append (first_names k) (letters k ∷ []), length-first k)

name_of : (k i : ℕ) → i < k → get_or (first_names k) i [] ≡ letters i
unfolding first_names
name_of zero i h = absurd (omega arith)
name_of (suc k) i h = go (dec_lt i k) (name_of k i)
  where
    go : Dec (i < k) → (i < k → get_or (first_names k) i [] ≡ letters i) → get_or (first_names k ++ (letters k ∷ [])) i [] ≡ letters i
    go (yes l) ih = get_or-append (first_names k) (letters k ∷ []) [] i (omega (arith, length-first k)) ∙ ih l
    go (no l) ih = let e : i ≡ k = omega arith in rw e (get_or_at (first_names k) (letters k) [] [] k (length-first k))

right : (k : ℕ) → k ≤ 65535 → listed.Right (first_names k)
unfolding first_names
right zero l = listed.right-none
right (suc k) l =
    let n = length-first k in
    listed.right-more (first_names k) (letters k) (right k (omega arith)) (omega arith) (omega (arith, length-letters k)) (letters-text k)
    (λ i h e. omega (arith, letters-apart i k (sym (name_of k i (omega arith)) ∙ e)))

-- ---- the dictionary

unfoldable pub plain_of : ℕ → List ℕ
plain_of k = plain_names (first_names k)

module _ (k : ℕ) (few : k ≤ 65535) where
  pub plain-count : le_at 4 (plain_of k) 0 ≡ k
  unfolding plain_of
  plain-count = listed.plain-count (first_names k) (right k few) ∙ length-first k

  pub plain-sound : first_broken (dictionary_rules (plain_of k)) ≡ sound
  unfolding plain_of
  plain-sound = listed.plain-sound (first_names k) (right k few)
