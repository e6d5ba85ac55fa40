-- What a mark that is put does, and what a missing one says. Assumes nothing.
use mathlib.Core.Path.{◌≡◌, refl, sym, ap, ap₂, ◌∙◌}
use mathlib.Core.Bool.{true, or-true}
use mathlib.Core.List.{List, [], ◌∷◌, ◌++◌, append-nil}
use Prim.Native.Nat.{ℕ, ◌+◌, ◌-◌, ◌*◌, ◌/◌, ◌%◌, ◌≤◌, ◌<◌, max}
use native.Mathlib.Nat.{add-zero, mod-lt}
use native.Mathlib.Omega.{arith}
use native.Mathlib.Decide.{dec_lt}
use lib.Arith.{bin_ind}
use lib.Bits.{bit_or, or_step, or_comm, or_self, or_shr}
use lib.Dec.{eqb}
use lib.ListN.{length, get_or, set, take, drop, replicate, length-set}
use lib.Seq.{drop-length, get_or-set_same, get_or-set_other}
use borrow.Author.Tests.{eqb-true, eq-eqb, ne_eqb}
use Rattle.wire.specs.Wire.{le_at}
use Rattle.wire.proofs.Numbers.{le_at-drop, le_at-take}
use Rattle.bloom.specs.Filter.{digest_of, slot_of, mark_of, place_in, added, cleared, marked}

-- ---- bits

or-half : (a b : ℕ) → bit_or a b / 2 ≡ bit_or (a / 2) (b / 2)
or-half a b = or_shr a b 1

or-odd : (a b : ℕ) → bit_or a b % 2 ≡ max (a % 2) (b % 2)
or-odd a b = omega (arith, or_step a b)

max_assoc : (x y z : ℕ) → max (max x y) z ≡ max x (max y z)
max_assoc x y z = omega arith

or_assoc : (a b c : ℕ) → bit_or (bit_or a b) c ≡ bit_or a (bit_or b c)
or_assoc a =
    bin_ind (λ (n : ℕ). (b c : ℕ) → bit_or (bit_or n b) c ≡ bit_or n (bit_or b c)) (λ b c. refl)
    (λ n ih b c.
    or_step (bit_or n b) c
    ∙ ap₂ (λ (x y : ℕ). bit_or x (c / 2) * 2 + max y (c % 2)) (or-half n b) (or-odd n b)
    ∙ ap₂ (λ (x y : ℕ). x * 2 + y) (ih (b / 2) (c / 2)) (max_assoc (n % 2) (b % 2) (c % 2))
    ∙ sym (or_step n (bit_or b c)
    ∙ ap₂ (λ (x y : ℕ). bit_or (n / 2) x * 2 + max (n % 2) y) (or-half b c) (or-odd b c))) a

-- ---- what the functions compute

module _ (f x : List ℕ) (d k m : ℕ) (ed : d ≡ digest_of x) (ek : k ≡ slot_of (length f) d) (em : m ≡ mark_of d) where
  pub put-added : set f k (bit_or (get_or f k 0) m) ≡ added f x
  unfolding added place_in
  put-added = rw (em, ek, ed)

  pub seen-marked : 0 < length f → eqb (bit_or (get_or f k 0) m) (get_or f k 0) ≡ marked f x
  unfolding marked place_in
  seen-marked h = rw (em, ek, ed, ne_eqb (length f) 0 (λ e. omega arith))

-- without elements
pub none-added : (f x : List ℕ) → length f ≤ 0 → f ≡ added f x
unfolding added
none-added [] x h = refl
none-added (y ∷ f) x h = absurd (omega arith)

pub none-marked : (f x : List ℕ) → length f ≡ 0 → true ≡ marked f x
unfolding marked
none-marked f x h = rw h

pub all-cleared : (f : List ℕ) (i : ℕ) → length f ≤ i → i ≤ length f → replicate i 0 ++ drop i f ≡ cleared f
unfolding cleared
all-cleared f i h l =
    let e : i ≡ length f = omega arith in
    rw (e, drop-length f) (append-nil (replicate (length f) 0))

-- ---- the digest

module _ (x : List ℕ) where
  pub digest-short : length x < 8 → (v : ℕ) → v ≡ le_at 8 x 0 → v % 0x8000000000000000 + v % 0x8000000000000000 ≡ digest_of x
  unfolding digest_of
  digest-short h v e =
      let k : length x - 8 ≡ 0 = omega arith in
      rw (k, ← e)

  pub digest-long : 8 ≤ length x → (v w : ℕ) → v ≡ le_at 8 (take 8 x) 0
      → w ≡ le_at 8 (take (length x - (length x - 8)) (drop (length x - 8) x)) 0
      → v % 0x8000000000000000 + w % 0x8000000000000000 ≡ digest_of x
  unfolding digest_of
  digest-long h v w ev ew =
      let n : length x - (length x - 8) ≡ 8 = omega arith in
      let first : le_at 8 x 0 ≡ v = sym (ev ∙ le_at-take 8 8 x 0 (omega arith)) in
      let last : le_at 8 x (length x - 8) ≡ w =
      sym (ew ∙ ap (λ (k : ℕ). le_at 8 (take k (drop (length x - 8) x)) 0) n
      ∙ le_at-take 8 8 (drop (length x - 8) x) 0 (omega arith) ∙ le_at-drop 8 (length x - 8) x 0
      ∙ ap (le_at 8 x) (add-zero (length x - 8))) in
      rw (first, last)

-- ---- a mark is put: it is there, and all others are kept

module _ (f x : List ℕ) where
  length-added : length (added f x) ≡ length f
  unfolding added
  length-added = simp length-set

  -- where a string has its mark
  place-added : (y : List ℕ) → place_in (added f x) y ≡ place_in f y
  unfolding place_in
  place-added y = ap (λ (n : ℕ). slot_of n (digest_of y)) length-added

  place-within : 0 < length f → (y : List ℕ) → place_in f y < length f
  unfolding place_in slot_of
  place-within h y = mod-lt (digest_of y % 65521) h

  -- what is seen of the element where y has its mark
  seen : (y : List ℕ) (w : ℕ) → get_or (added f x) (place_in f y) 0 ≡ w → bit_or w (mark_of (digest_of y)) ≡ w
      → marked (added f x) y ≡ true
  unfolding marked
  seen y w e h =
      rw (place-added y, e, eq-eqb (bit_or w (mark_of (digest_of y))) w h) (or-true (eqb (length (added f x)) 0))

  kept : (y : List ℕ) → place_in f x < length f → bit_or (get_or f (place_in f y) 0) (mark_of (digest_of y)) ≡ get_or f (place_in f y) 0
      → Dec (place_in f y < place_in f x) → Dec (place_in f x < place_in f y) → marked (added f x) y ≡ true
  unfolding added
  kept y r h (yes d) c =
      seen y (get_or f (place_in f y) 0) (get_or-set_other f (place_in f x) (place_in f y) _ 0 (λ e. omega arith)) h
  kept y r h (no d) (yes c) =
      seen y (get_or f (place_in f y) 0) (get_or-set_other f (place_in f x) (place_in f y) _ 0 (λ e. omega arith)) h
  kept y r h (no d) (no c) =
      let e : place_in f y ≡ place_in f x = omega arith in
      let m = get_or f (place_in f x) 0 in
      let v = mark_of (digest_of x) in
      let w = mark_of (digest_of y) in
      let g : bit_or m w ≡ m = rw e at h in
      seen y (bit_or m v) (rw e (get_or-set_same f (place_in f x) (bit_or m v) 0 r))
      (or_assoc m v w ∙ ap (bit_or m) (or_comm v w) ∙ sym (or_assoc m w v) ∙ ap (λ (t : ℕ). bit_or t v) g)

  pub added-marked : marked (added f x) x ≡ true
  unfolding added
  added-marked = go (dec_lt 0 (length f))
    where
      go : Dec (0 < length f) → marked (added f x) x ≡ true
      go (yes h) =
          let m = get_or f (place_in f x) 0 in
          let v = mark_of (digest_of x) in
          seen x (bit_or m v) (get_or-set_same f (place_in f x) (bit_or m v) 0 (place-within h x))
          (or_assoc m v v ∙ ap (bit_or m) (or_self v))
      go (no h) = sym (none-marked (added f x) x (omega (arith, length-added)))

  pub added-kept : (y : List ℕ) → marked f y ≡ true → marked (added f x) y ≡ true
  unfolding place_in
  added-kept y e = go (dec_lt 0 (length f))
    where
      go : Dec (0 < length f) → marked (added f x) y ≡ true
      go (yes h) =
          kept y (place-within h x)
          (eqb-true (bit_or (get_or f (place_in f y) 0) (mark_of (digest_of y))) (get_or f (place_in f y) 0)
          (seen-marked f y (digest_of y) (place_in f y) (mark_of (digest_of y)) refl refl refl h ∙ e))
          (dec_lt (place_in f y) (place_in f x)) (dec_lt (place_in f x) (place_in f y))
      go (no h) = sym (none-marked (added f x) y (omega (arith, length-added)))
