-- What is stored in full of stores, and of later ones behind them: it comes first. Assumes nothing.
use mathlib.Core.Path.{◌≡◌, refl, sym, ap, ◌∙◌}
use mathlib.Core.Bool.{cond}
use mathlib.Core.List.{List, [], ◌∷◌, ◌++◌, append_assoc}
use Prim.Native.Nat.{ℕ, ◌+◌, ◌<◌}
use native.Mathlib.Nat.{add-zero, add_assoc}
use native.Mathlib.Omega.{arith}
use native.Mathlib.Decide.{dec_le}
use lib.ListN.{length}
use borrow.Author.Tests.{le-leb, lt-leb}
use Rattle.disk.specs.Disk.{Store, store_bytes, total, in_full}

-- what all of the stores hold
unfoldable pub held : {A : Type 0} → (Store → List A) → List Store → List A
held of [] = []
held of (s ∷ ss) = of s ++ held of ss

pub held-append : {A : Type 0} (of : Store → List A) (ss us : List Store) → held of (ss ++ us) ≡ held of ss ++ held of us
unfolding held
held-append of [] us = refl
held-append of (s ∷ ss) us = rw (held-append of ss us, append_assoc)

-- none is where the cut came before
none-in-full : {A : Type 0} (of : Store → List A) (p cut : ℕ) (ss : List Store) → cut < p → in_full of p cut ss ≡ []
unfolding in_full
none-in-full of p cut [] l = refl
none-in-full of p cut (s ∷ ss) l =
    let q = p + length (store_bytes s) in
    rw (lt-leb q cut (omega arith)) (none-in-full of q cut ss (omega arith))

-- the first of a list
pub record Front {A : Type 0} (xs first : List A) : Type 0 where
  pub later : List A
  pub all : xs ≡ first ++ later

pub in-full-front : {A : Type 0} (of : Store → List A) (p cut : ℕ) (ss : List Store) → Front (held of ss) (in_full of p cut ss)
unfolding held in_full
in-full-front of p cut [] = record { later = []; all = refl }
in-full-front of p cut (s ∷ ss) =
    let q = p + length (store_bytes s) in
    elim (dec_le q cut) [
      | yes l ↦
          (let i = in-full-front of q cut ss in
          rw (le-leb q cut l)
          (record { later = i.later; all = ap (λ (xs : List _). of s ++ xs) i.all ∙ sym (append_assoc (of s) (in_full of q cut ss) i.later) }))
      | no l ↦
          rw (lt-leb q cut (omega arith), none-in-full of q cut ss (omega arith))
          (record { later = of s ++ held of ss; all = refl })
    ]
