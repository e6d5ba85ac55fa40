-- Laws of rules and verdicts. Assumes nothing.
use mathlib.Core.Path.{◌≡◌, refl, sym, ap}
use Rattle.std.specs.Prelude.{Some, None, Result, Ok, Err, IsErrAnd}
use Rattle.std.specs.Result.{result_ok}
use Rattle.verdict.specs.declared.Refusal.{Refusal}
use mathlib.Core.Bool.{Bool, true, false, cond}
use mathlib.Core.List.{List, [], ◌∷◌, ◌++◌}
use Prim.Native.Nat.{ℕ, ◌≤◌, ◌<◌}
use borrow.Author.Tests.{le-leb, lt-leb, eq-eqb, ne_eqb}
use native.Mathlib.Omega.{arith}
use Rattle.verdict.specs.Rules.{Rule, flag, equal, at_least, at_most, holds, number_of, place_of, Verdict, sound, broken, first_broken, Held, given, refused}
use Rattle.verdict.specs.Rules.{settle, verdict_in, ruled}

-- no rule is broken where there is none
pub first-none : first_broken [] ≡ sound
unfolding first_broken
first-none = refl

-- a rule that holds is passed over, and one that doesn't decides
module _ (r : Rule) (rs : List Rule) where
  pub first_holds : holds r ≡ true → first_broken (r ∷ rs) ≡ first_broken rs
  unfolding first_broken
  first_holds e = rw e

  pub first-breaks : holds r ≡ false → first_broken (r ∷ rs) ≡ broken (number_of r) (place_of r)
  unfolding first_broken
  first-breaks e = rw e

-- each kind of rule, by the numbers that it compares
module _ (n p : ℕ) (rs : List Rule) where
  pub flag-holds : (b : Bool) → b ≡ true → first_broken (flag n p b ∷ rs) ≡ first_broken rs
  unfolding holds
  flag-holds b e = first_holds (flag n p b) rs e

  pub flag-breaks : (b : Bool) → b ≡ false → first_broken (flag n p b ∷ rs) ≡ broken n p
  unfolding holds number_of place_of
  flag-breaks b e = first-breaks (flag n p b) rs e

  module _ (x y : ℕ) where
    pub equal-holds : x ≡ y → first_broken (equal n p x y ∷ rs) ≡ first_broken rs
    unfolding holds
    equal-holds e = first_holds (equal n p x y) rs (eq-eqb x y e)

    pub equal-breaks : (x ≡ y → ⊥) → first_broken (equal n p x y ∷ rs) ≡ broken n p
    unfolding holds number_of place_of
    equal-breaks e = first-breaks (equal n p x y) rs (ne_eqb x y e)

    pub least-holds : y ≤ x → first_broken (at_least n p x y ∷ rs) ≡ first_broken rs
    unfolding holds
    least-holds h = first_holds (at_least n p x y) rs (le-leb y x h)

    pub least-breaks : x < y → first_broken (at_least n p x y ∷ rs) ≡ broken n p
    unfolding holds number_of place_of
    least-breaks h = first-breaks (at_least n p x y) rs (lt-leb y x h)

    pub most-holds : x ≤ y → first_broken (at_most n p x y ∷ rs) ≡ first_broken rs
    unfolding holds
    most-holds h = first_holds (at_most n p x y) rs (le-leb x y h)

    pub most-breaks : y < x → first_broken (at_most n p x y ∷ rs) ≡ broken n p
    unfolding holds number_of place_of
    most-breaks h = first-breaks (at_most n p x y) rs (lt-leb x y h)

-- rules, and then more rules: the later ones count where the earlier ones hold
abbrev pub and_then : Verdict → Verdict → Verdict
and_then sound w = w
and_then (broken n p) w = broken n p

cond-then : (t : Bool) (n p : ℕ) (v w : Verdict) → cond t (and_then v w) (broken n p) ≡ and_then (cond t v (broken n p)) w
cond-then true n p v w = refl
cond-then false n p v w = refl

pub first-append : (rs qs : List Rule) → first_broken (rs ++ qs) ≡ and_then (first_broken rs) (first_broken qs)
unfolding first_broken
first-append [] qs = refl
first-append (r ∷ rs) qs = rw (first-append rs qs) (cond-then (holds r) (number_of r) (place_of r) (first_broken rs) (first_broken qs))

pub then-sound : (rs qs : List Rule) → first_broken rs ≡ sound → first_broken (rs ++ qs) ≡ first_broken qs
then-sound rs qs e = rw (first-append rs qs, e)

pub then-broken : (rs qs : List Rule) (n p : ℕ) → first_broken rs ≡ broken n p → first_broken (rs ++ qs) ≡ broken n p
then-broken rs qs n p e = rw (first-append rs qs, e)

-- where none is broken all hold, and the other way round
pub sound-held : (rs : List Rule) → first_broken rs ≡ sound → Held rs
unfolding first_broken
sound-held [] e = tt
sound-held (r ∷ rs) e = go (holds r) refl (sound-held rs) e
  where
    go : (t : Bool) → holds r ≡ t → (first_broken rs ≡ sound → Held rs) → cond t (first_broken rs) (broken (number_of r) (place_of r)) ≡ sound
        → (holds r ≡ true) × Held rs
    go true q ih f = (q, ih f)
    go false q ih f = let z : ◌≡◌ {A = ℕ} 0 1 = cc in absurd (omega arith)

pub held-sound : (rs : List Rule) → Held rs → first_broken rs ≡ sound
unfolding first_broken
held-sound [] h = refl
held-sound (r ∷ rs) h = rw h.0 (held-sound rs h.1)

pub held-parts : (rs qs : List Rule) → Held (rs ++ qs) → Held rs × Held qs
held-parts [] qs h = (tt, h)
held-parts (r ∷ rs) qs h = let q = held-parts rs qs h.1 in ((h.0, q.0), q.1)

-- rules behind rules hold where all of them do
pub parts-sound : (rs qs : List Rule) → first_broken (rs ++ qs) ≡ sound → (first_broken rs ≡ sound) × (first_broken qs ≡ sound)
parts-sound rs qs e =
    let h = held-parts rs qs (sound-held (rs ++ qs) e) in
    (held-sound rs h.0, held-sound qs h.1)

-- what is broken isn't sound
pub never_both : (v : Verdict) (n p : ℕ) → v ≡ broken n p → v ≡ sound → ⊥
never_both v n p b s = let z : ◌≡◌ {A = ℕ} 0 1 = cc in omega arith

-- an answer says what its rules say
pub settle-verdict : {A : Type 0} (v : Verdict) (a : A) → verdict_in (settle v a) ≡ v
settle-verdict sound a = refl
settle-verdict (broken n p) a = refl

-- what an outcome says of the verdict
pub settle-given : {A : Type 0} (v : Verdict) (a b : A) → given b ≡ settle v a → (v ≡ sound) × (b ≡ a)
settle-given sound a b e = (cc, cc)
settle-given (broken n p) a b e = absurd (let z : ◌≡◌ {A = ℕ} 0 1 = cc in omega arith)

pub settle-refused : {A : Type 0} (v : Verdict) (a : A) (n p : ℕ) → refused n p ≡ settle v a → v ≡ broken n p
settle-refused sound a n p e = absurd (let z : ◌≡◌ {A = ℕ} 0 1 = cc in omega arith)
settle-refused (broken m q) a n p e = cc

-- the rules that stand for a verdict say it again
pub first-ruled : (v : Verdict) → first_broken (ruled v) ≡ v
unfolding ruled
first-ruled sound = first-none
first-ruled (broken n p) = flag-breaks n p [] false refl

-- what a pair that a call gives is made of
pub given-pair : {A B E : Type 0} (a c : A) (b d : B) → ◌≡◌ {A = Result (A × B) E} (Ok (a, b)) (Ok (c, d)) → (a ≡ c) × (b ≡ d)
given-pair {A} {B} a c b d e =
    let p : ◌≡◌ {A = A × B} (a, b) (c, d) = cc in
    (ap (λ (q : A × B). q.0) p, ap (λ (q : A × B). q.1) p)

-- what a `?` hands back where a call refuses
pub err-passed : {A : Type 0} (r : Result A Refusal) (w : Refusal) → IsErrAnd r (λ e. e ≡ w) → r ≡ Err w
err-passed (Ok x) w h = absurd h
err-passed (Err e) w h = ap Err h

-- what a call gave or refused, by the `ok` of it
pub ok-given : {A : Type 0} (r : Result A Refusal) (x : A) → Some x ≡ result_ok r → r ≡ Ok x
ok-given (Ok y) x e = let q : x ≡ y = cc in ap Ok (sym q)
ok-given (Err w) x e = let z : ◌≡◌ {A = ℕ} 0 1 = cc in absurd (omega arith)

pub ok-refused : {A : Type 0} (r : Result A Refusal) → None ≡ result_ok r → (w : Refusal) × (r ≡ Err w)
ok-refused (Ok y) e = let z : ◌≡◌ {A = ℕ} 0 1 = cc in absurd (omega arith)
ok-refused (Err w) e = (w, refl)
