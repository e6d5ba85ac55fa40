-- Laws of UTF-8 texts: the empty one, a sequence and what follows it, bytes below 80 hex. Assumes nothing.
use mathlib.Core.Path.{◌≡◌, refl, ap, ◌∙◌}
use mathlib.Core.Bool.{true}
use mathlib.Core.List.{List, [], ◌∷◌, ◌++◌}
use Prim.Native.Nat.{ℕ, ◌<◌}
use native.Mathlib.Omega.{arith}
use Rattle.utf8.specs.Utf8.{Range, ◌to◌, tails, Sequence, sequences, followers, utf8_from, utf8_of}
use Rattle.utf8.specs.Grammar.{Spells}
use Rattle.utf8.proofs.Tables.{in-range, first-00}

pub utf8_nil : utf8_of [] ≡ true
unfolding utf8_of utf8_from
utf8_nil = refl

spells-pass : (table : List Sequence) (rs : List Range) (c s : List ℕ) → Spells rs c
    → utf8_from table rs (c ++ s) ≡ utf8_from table [] s
unfolding Spells utf8_from
spells-pass table [] [] s u = refl
spells-pass table [] (b ∷ c) s u = absurd u
spells-pass table (low to high ∷ rs) [] s u = absurd u
spells-pass table (low to high ∷ rs) (b ∷ c) s u =
    simp (in-range low high b u.0 u.1) (spells-pass table rs c s u.2)

-- after a whole sequence what follows decides
pub sequence-pass : (table : List Sequence) (b : ℕ) (c s : List ℕ) {rs : List Range} → followers table b ≡ rs → Spells rs c
    → utf8_from table [] (b ∷ (c ++ s)) ≡ utf8_from table [] s
unfolding utf8_from
sequence-pass table b c s {rs} e u = ap (λ (q : List Range). utf8_from table q (c ++ s)) e ∙ spells-pass table rs c s u

pub utf8-sequence : (b : ℕ) (c s : List ℕ) {rs : List Range} → followers sequences b ≡ rs → Spells rs c
    → utf8_of (b ∷ (c ++ s)) ≡ utf8_of s
unfolding utf8_of
utf8-sequence b c s e u = sequence-pass sequences b c s e u

pub utf8-low : (b : ℕ) (s : List ℕ) → b < 0x80 → utf8_of (b ∷ s) ≡ utf8_of s
unfolding Spells tails
utf8-low b s h = utf8-sequence b [] s (first-00 b (omega arith)) tt
