-- Rules as data: document 01 gives checks as ordered sentences, each with a number and a place. Assumes nothing.
use Rattle.std.specs.Prelude.{ℕ, ◌≡◌, Bool, true, false, cond, List, [], ◌∷◌, leb, eqb}

-- a rule has the number and the place of its refusal, and what it compares: a test, or the number read and the one it
-- must equal, or the number read and the bound that it must not fall below or exceed
pub data Rule : Type 0 where
  flag : (number place : ℕ) (holds : Bool) → Rule
  equal : (number place read wanted : ℕ) → Rule
  at_least : (number place read bound : ℕ) → Rule
  at_most : (number place read bound : ℕ) → Rule

unfoldable pub holds : Rule → Bool
holds (flag n p b) = b
holds (equal n p x y) = eqb x y
holds (at_least n p x y) = leb y x
holds (at_most n p x y) = leb x y

unfoldable pub number_of : Rule → ℕ
number_of (flag n p b) = n
number_of (equal n p x y) = n
number_of (at_least n p x y) = n
number_of (at_most n p x y) = n

unfoldable pub place_of : Rule → ℕ
place_of (flag n p b) = p
place_of (equal n p x y) = p
place_of (at_least n p x y) = p
place_of (at_most n p x y) = p

-- what checking rules in order finds: all hold, or the number and the place of the first that doesn't
pub data Verdict : Type 0 where
  sound : Verdict
  broken : (number place : ℕ) → Verdict

unfoldable pub first_broken : List Rule → Verdict
first_broken [] = sound
first_broken (r ∷ rs) = cond (holds r) (first_broken rs) (broken (number_of r) (place_of r))

-- all rules hold
abbrev pub Held : List Rule → Type 0
Held [] = Unit {0}
Held (r ∷ rs) = (holds r ≡ true) × Held rs

abbrev pub is_sound : Verdict → Bool
is_sound sound = true
is_sound (broken n p) = false

-- what is there where no rule is broken, and where one is
abbrev pub if_sound : {A : Type 0} → Verdict → A → A → A
if_sound sound a b = a
if_sound (broken n p) a b = b

-- what a call hands back: what it gives, or the number and the place of its refusal
pub data Outcome (A : Type 0) : Type 0 where
  given : A → Outcome A
  refused : (number place : ℕ) → Outcome A

-- what is given where no rule is broken
abbrev pub settle : {A : Type 0} → Verdict → A → Outcome A
settle sound a = given a
settle (broken n p) a = refused n p

-- what a call goes on with where an earlier one gives something
abbrev pub on_given : {A B : Type 0} → Outcome A → (A → Outcome B) → Outcome B
on_given (given a) f = f a
on_given (refused n p) f = refused n p

-- what an outcome says of the rules, and what it gives, or something else where it refuses
abbrev pub verdict_in : {A : Type 0} → Outcome A → Verdict
verdict_in (given a) = sound
verdict_in (refused n p) = broken n p

abbrev pub given_or : {A : Type 0} → A → Outcome A → A
given_or d (given a) = a
given_or d (refused n p) = d

-- a verdict found elsewhere, as rules
unfoldable pub ruled : Verdict → List Rule
ruled sound = []
ruled (broken n p) = flag n p false ∷ []
