-- Laws of a call's rules whose last is the room of one more output. Assumes nothing.
use mathlib.Core.Path.{◌≡◌, refl, sym, ap, ◌∙◌}
use mathlib.Core.Bool.{false}
use mathlib.Core.List.{List, [], ◌∷◌, ◌++◌}
use Prim.Native.Nat.{ℕ, ◌≤◌, ◌<◌}
use Rattle.verdict.specs.Rules.{Rule, flag, at_least, Verdict, sound, broken, first_broken, if_sound}
use Rattle.verdict.proofs.Laws.{flag-breaks, least-holds, least-breaks, first-none, first-append, and_then, then-sound, then-broken}

-- what they find where that output has no room
abbrev pub lacking : List Rule → (needed : ℕ) → Verdict
lacking rules needed = first_broken (rules ++ (flag 12 needed false ∷ []))

pub lacking-broken : (rules : List Rule) (needed n p : ℕ) → first_broken rules ≡ broken n p → lacking rules needed ≡ broken n p
lacking-broken rules needed n p e = then-broken rules _ n p e

pub lacking-sound : (rules : List Rule) (needed : ℕ) → first_broken rules ≡ sound → lacking rules needed ≡ broken 12 needed
lacking-sound rules needed e = then-sound rules _ e ∙ flag-breaks 12 needed [] false refl

-- they are the rules with that output's length, and some of them is broken
pub lacking-rules : (rules : List Rule) (needed room : ℕ) → room < needed → first_broken (rules ++ (at_least 12 needed room needed ∷ [])) ≡ lacking rules needed
lacking-rules rules needed room h =
    first-append rules _ ∙ ap (and_then (first_broken rules)) (least-breaks 12 needed [] room needed h ∙ sym (flag-breaks 12 needed [] false refl))
    ∙ sym (first-append rules _)

pub lacking-never : {A : Type 0} (rules : List Rule) (needed : ℕ) (a b : A) → if_sound (lacking rules needed) a b ≡ b
lacking-never rules needed a b = go (first_broken rules) refl
  where
    go : (v : Verdict) → first_broken rules ≡ v → if_sound (lacking rules needed) a b ≡ b
    go sound e = rw (lacking-sound rules needed e)
    go (broken n p) e = rw (lacking-broken rules needed n p e)

-- and where it has room they are the rules before
pub roomy-rules : (rules : List Rule) (needed room : ℕ) → needed ≤ room → first_broken (rules ++ (at_least 12 needed room needed ∷ [])) ≡ first_broken rules
roomy-rules rules needed room h = go (first_broken rules) refl
  where
    go : (v : Verdict) → first_broken rules ≡ v → first_broken (rules ++ (at_least 12 needed room needed ∷ [])) ≡ first_broken rules
    go sound e = then-sound rules _ e ∙ least-holds 12 needed [] room needed h ∙ first-none ∙ sym e
    go (broken n p) e = then-broken rules _ n p e ∙ sym e
