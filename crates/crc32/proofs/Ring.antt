-- Laws of the ring: the turns of the loops that fold bytes through it, and of merging it. Assumes nothing.
use mathlib.Core.Path.{◌≡◌, refl, sym, ap, ap₂, ◌∙◌}
use mathlib.Core.List.{List, [], ◌∷◌, ◌++◌, append_assoc, append-nil}
use Prim.Native.Nat.{ℕ, zero, suc, ◌+◌, ◌-◌, ◌%◌, ◌<◌, ◌≤◌, min}
use native.Mathlib.Nat.{add-zero, add_comm}
use native.Mathlib.Numerals.{add-one}
use native.Mathlib.Decide.{dec_le}
use native.Mathlib.Omega.{arith}
use lib.Dec.{lit<}
use lib.ListN.{length, get_or, take, drop, set, replicate, length-append, length-take, length-drop, length-set}
use lib.ListN.{length-replicate, get_or-append, get_or-eq_default}
use lib.Seq.{get_or-take, get_or-drop, get_or-append-add, drop-set-lt, drop-set-add, take-set-le, take-set-lt, take-suc-set}
use lib.Seq.{set-append_left, drop-append-le, drop-drop, take_all, ext_get_or}
use lib.Bits.{bit_xor, xor_comm, xor_zero_r}
use Rattle.wire.specs.Wire.{splice, le}
use Rattle.crc32_fold.specs.Fold.{carry, folded, merged, initial}
use Rattle.crc32_fold.proofs.Fold.{length_merged}
use Rattle.crc32_register.proofs.Xor.{xor_assoc}
use Rattle.crc32_fold.proofs.Window.{folded-add, get_or-merged, made_more}
use Rattle.crc32.specs.Far.{far}
use Rattle.crc32.specs.Inner.{from, added}

-- ---- reading from a place on

length_from : (i : ℕ) (w : List ℕ) → length (from i w) ≡ length w
unfolding from
length_from i w = length-append (drop i w) (take i w) ∙ omega (arith, length-drop i w, length-take i w)

-- a byte before the ring's end, and one that stands from its begin on
behind : (i p : ℕ) (w : List ℕ) → i + p < length w → get_or (from i w) p 0 ≡ get_or w (i + p) 0
unfolding from
behind i p w h = get_or-append (drop i w) (take i w) 0 p (omega (arith, length-drop i w)) ∙ get_or-drop i w p 0

around : (i p k : ℕ) (w : List ℕ) → i ≤ length w → k < i → i + p ≡ length w + k → get_or (from i w) p 0 ≡ get_or w k 0
unfolding from
around i p k w h l e =
    let n : p ≡ length (drop i w) + k = omega (arith, length-drop i w) in
    ap (λ (j : ℕ). get_or (drop i w ++ take i w) j 0) n ∙ get_or-append-add (drop i w) (take i w) k 0 ∙ get_or-take i w k 0 l

-- a byte is put in the place of the oldest
from_next : (i v : ℕ) (w : List ℕ) → i < length w → from (i + 1) (set w i v) ≡ drop 1 (from i w) ++ (v ∷ [])
unfolding from
from_next i v w h =
    ap₂ (λ (x y : List ℕ). x ++ y) (drop-set-lt (i + 1) w i v (omega arith) ∙ sym (drop-drop 1 i w))
    (ap (λ (k : ℕ). take k (set w i v)) (add-one i) ∙ take-suc-set w i v h)
    ∙ sym (append_assoc (drop 1 (drop i w)) (take i w) (v ∷ []))
    ∙ ap (λ (x : List ℕ). x ++ (v ∷ [])) (sym (drop-append-le 1 (drop i w) (take i w) (omega (arith, length-drop i w))))

-- read from the begin, or from the end
pub from-begin : (w : List ℕ) → from 0 w ≡ w
unfolding from
from-begin w = append-nil w

pub from_end : (w : List ℕ) → length w ≡ 4018 → from 4018 w ≡ w
unfolding from
from_end w h = ap₂ (λ (x y : List ℕ). x ++ y) (none 4018 w (omega arith)) (take_all 4018 w (omega arith))
  where
    none : (n : ℕ) (l : List ℕ) → length l ≤ n → drop n l ≡ []
    none zero [] h = refl
    none (suc n) [] h = refl
    none zero (x ∷ l) h = absurd (omega (arith, h))
    none (suc n) (x ∷ l) h = none n l (omega (arith, h))

-- ---- the ring before the first byte

set-behind : (xs ys : List ℕ) (n v : ℕ) → set (xs ++ ys) (length xs + n) v ≡ xs ++ set ys n v
set-behind [] ys n v = let e : 0 + n ≡ n = omega arith in rw e
set-behind (x ∷ xs) ys n v = let e : suc (length xs) + n ≡ suc (length xs + n) = omega arith in rw e
    (ap (λ (l : List ℕ). x ∷ l) (set-behind xs ys n v))

from-set : (i k v : ℕ) (w : List ℕ) → length w ≡ 4018 → i ≤ 4018 → k < 4018
    → from i (set w ((i + k) % 4018) v) ≡ set (from i w) k v
unfolding from
from-set i k v w h l m =
    elim (dec_le 4018 (i + k)) [
      | no b ↦
          (let e : (i + k) % 4018 ≡ i + k = omega arith in
          ap (λ (j : ℕ). drop i (set w j v) ++ take i (set w j v)) e
          ∙ ap₂ (λ (x y : List ℕ). x ++ y) (drop-set-add i w k v) (take-set-le i w (i + k) v (omega arith))
          ∙ sym (set-append_left (drop i w) (take i w) k v (omega (arith, length-drop i w))))
      | yes b ↦
          (let j = i + k - 4018 in
          let e : (i + k) % 4018 ≡ j = omega arith in
          let n : length (drop i w) + j ≡ k = omega (arith, length-drop i w) in
          ap (λ (x : ℕ). drop i (set w x v) ++ take i (set w x v)) e
          ∙ ap₂ (λ (x y : List ℕ). x ++ y) (drop-set-lt i w j v (omega arith)) (take-set-lt i w j v (omega arith))
          ∙ sym (set-behind (drop i w) (take i w) j v) ∙ ap (λ (x : ℕ). set (drop i w ++ take i w) x v) n)
    ]

zero-at : (n k : ℕ) → ◌≡◌ {A = ℕ} (get_or (replicate n 0) k 0) 0
zero-at zero k = refl
zero-at (suc n) zero = refl
zero-at (suc n) (suc k) = zero-at n k

from-zeros : (i : ℕ) → i ≤ 4018 → from i (replicate 4018 0) ≡ replicate 4018 0
from-zeros i l =
    let w : List ℕ = replicate 4018 0 in
    let size : length w ≡ 4018 = length-replicate {A = ℕ} 4018 0 in
    ext_get_or 0 (from i w) w (length_from i w)
    (λ k h. elim (dec_le 4018 (i + k)) [
      | no b ↦ behind i k w (omega arith) ∙ zero-at 4018 (i + k) ∙ sym (zero-at 4018 k)
      | yes b ↦ around i k (i + k - 4018) w (omega arith) (omega (arith, length_from i w)) (omega arith)
          ∙ zero-at 4018 (i + k - 4018) ∙ sym (zero-at 4018 k)
    ])

pub first-ring : (i : ℕ) → i ≤ 4018
    → from i (set (set (set (set (replicate 4018 0) (i % 4018) 255) ((i + 1) % 4018) 255) ((i + 2) % 4018) 255)
    ((i + 3) % 4018) 255) ≡ initial 4018 0xFFFFFFFF
unfolding le
first-ring i l =
    let w₀ : List ℕ = replicate 4018 0 in
    let w₁ = set w₀ (i % 4018) 255 in
    let w₂ = set w₁ ((i + 1) % 4018) 255 in
    let w₃ = set w₂ ((i + 2) % 4018) 255 in
    let n₀ : length w₀ ≡ 4018 = length-replicate {A = ℕ} 4018 0 in
    let n₁ : length w₁ ≡ 4018 = length-set w₀ (i % 4018) 255 ∙ n₀ in
    let n₂ : length w₂ ≡ 4018 = length-set w₁ ((i + 1) % 4018) 255 ∙ n₁ in
    let n₃ : length w₃ ≡ 4018 = length-set w₂ ((i + 2) % 4018) 255 ∙ n₂ in
    let first : from i w₁ ≡ set (replicate 4018 0) 0 255 =
    ap (λ (k : ℕ). from i (set w₀ (k % 4018) 255)) (sym (add-zero i)) ∙ from-set i 0 255 w₀ n₀ l (lit< tt)
    ∙ ap (λ (x : List ℕ). set x 0 255) (from-zeros i l) in
    from-set i 3 255 w₃ n₃ l (lit< tt)
    ∙ ap (λ (x : List ℕ). set x 3 255) (from-set i 2 255 w₂ n₂ l (lit< tt)
    ∙ ap (λ (x : List ℕ). set x 2 255) (from-set i 1 255 w₁ n₁ l (lit< tt) ∙ ap (λ (x : List ℕ). set x 1 255) first))

-- ---- a byte more is taken out

module _ (w : List ℕ) (k : ℕ) (size : length w ≡ 4018) where
  pub carry-first : k < 1927 → bit_xor (get_or w k 0) (bit_xor (get_or w (k + 1837) 0) (get_or w (k + 2091) 0)) ≡ carry far
      (from k w)
  unfolding carry
  carry-first h =
      sym
      (ap₂ bit_xor (behind k 0 w (omega arith) ∙ ap (λ (j : ℕ). get_or w j 0) (add-zero k))
      (ap₂ bit_xor (behind k 1837 w (omega arith)) (xor_zero_r (get_or (from k w) 2091 0)
      ∙ behind k 2091 w (omega arith))))

  pub carry-second : 1927 ≤ k → k < 2181 → bit_xor (get_or w k 0)
      (bit_xor (get_or w (k + 1837) 0) (get_or w (k - 1927) 0)) ≡ carry far (from k w)
  unfolding carry
  carry-second l h =
      sym
      (ap₂ bit_xor (behind k 0 w (omega arith) ∙ ap (λ (j : ℕ). get_or w j 0) (add-zero k))
      (ap₂ bit_xor (behind k 1837 w (omega arith)) (xor_zero_r (get_or (from k w) 2091 0)
      ∙ around k 2091 (k - 1927) w (omega arith) (omega arith) (omega arith))))

  pub carry-third : 2181 ≤ k → k < 4018 → bit_xor (get_or w k 0)
      (bit_xor (get_or w (k - 2181) 0) (get_or w (k - 1927) 0)) ≡ carry far (from k w)
  unfolding carry
  carry-third l h =
      sym
      (ap₂ bit_xor (behind k 0 w (omega arith) ∙ ap (λ (j : ℕ). get_or w j 0) (add-zero k))
      (ap₂ bit_xor (around k 1837 (k - 2181) w (omega arith) (omega arith) (omega arith))
      (xor_zero_r (get_or (from k w) 2091 0) ∙ around k 2091 (k - 1927) w (omega arith) (omega arith) (omega arith))))

pub ring-turn : (n k i at x : ℕ) (w s : List ℕ) → k < length w → k < n → i ≤ k → x ≡ carry far (from k w)
    → folded far (n - (k + 1)) (from (k + 1) (set w k (bit_xor (get_or s (at + (k - i)) 0) x))) (drop (at + (k + 1 - i)) s)
    ≡ folded far (n - k) (from k w) (drop (at + (k - i)) s)
unfolding folded
ring-turn n k i at x w s h l m e =
    let p = at + (k - i) in
    let v = bit_xor (get_or s p 0) x in
    let c : n - k ≡ suc (n - (k + 1)) = omega arith in
    let j : at + (k + 1 - i) ≡ p + 1 = omega arith in
    let same : v ≡ bit_xor (get_or (drop p s) 0 0) (carry far (from k w)) =
    ap₂ bit_xor (ap (λ (y : ℕ). get_or s y 0) (sym (add-zero p)) ∙ sym (get_or-drop p s 0 0)) e in
    rw c
    (ap₂ (folded far (n - (k + 1))) (from_next k v w h) (ap (λ (y : ℕ). drop y s) j ∙ sym (drop-drop 1 p s))
    ∙ ap (λ (y : ℕ). folded far (n - (k + 1)) (drop 1 (from k w) ++ (y ∷ [])) (drop 1 (drop p s))) same)

-- behind the last
pub ring-end : (n k i : ℕ) (w s all : List ℕ) → n ≤ k → k ≡ i + (n - i) → folded far (n - k) (from k w) s ≡ all
    → from (i + (n - i)) w ≡ all
unfolding folded
ring-end n k i w s all h e inv =
    let z : n - k ≡ 0 = omega arith in
    ap (λ (j : ℕ). from j w) (sym e) ∙ (rw z at inv)

-- one part after another
pub part-turn : (n m t at at' : ℕ) (h next s : List ℕ) → t ≡ n + m → at' ≡ at + n → next ≡ folded far n h (drop at s)
    → folded far m next (drop at' s) ≡ folded far t h (drop at s)
part-turn n m t at at' h next s e f g =
    ap₂ (folded far m) g (ap (λ (k : ℕ). drop k s) f ∙ sym (drop-drop n at s)) ∙ sym (folded-add far n m h (drop at s))
    ∙ ap (λ (k : ℕ). folded far k h (drop at s)) (sym e)

-- the places at which the parts of a round begin
begins : (i a b x y : ℕ) → x ≡ i + a → y ≡ x + b → y ≡ i + (a + b)
begins i a b x y e f = omega arith

reads : (i t y at d : ℕ) → y ≡ i + t → d ≡ at + (y - i) → d ≡ at + t
reads i t y at d e f = omega arith

lasts : (i t y n : ℕ) → y ≡ i + t → y ≤ n → n - i ≡ t + (n - y)
lasts i t y n e h = omega arith

-- the three parts of a round
pub round-parts : (i x y at b d : ℕ) (w w₁ w₂ w₃ s : List ℕ) → i ≤ 4018 → x ≡ i + (1927 - i) → y ≡ i + (2181 - i)
    → b ≡ at + (x - i) → d ≡ at + (y - i) → length w₃ ≡ 4018
    → from (i + (1927 - i)) w₁ ≡ folded far (1927 - i) (from i w) (drop at s)
    → from (x + (2181 - x)) w₂ ≡ folded far (2181 - x) (from x w₁) (drop b s)
    → from (y + (4018 - y)) w₃ ≡ folded far (4018 - y) (from y w₂) (drop d s)
    → w₃ ≡ folded far (4018 - i) (from i w) (drop at s)
round-parts i x y at b d w w₁ w₂ w₃ s h ex ey eb ed size f g k =
    let t = 1927 - i + (2181 - x) in
    let e₂ : y ≡ x + (2181 - x) = omega arith in
    let low : y ≤ 4018 = omega arith in
    let e₃ : 4018 ≡ y + (4018 - y) = omega arith in
    let et : y ≡ i + t = begins i (1927 - i) (2181 - x) x y ex e₂ in
    let one : from x w₁ ≡ folded far (1927 - i) (from i w) (drop at s) = ap (λ (j : ℕ). from j w₁) ex ∙ f in
    let two : from y w₂ ≡ folded far t (from i w) (drop at s) =
    ap (λ (j : ℕ). from j w₂) e₂ ∙ g
    ∙ part-turn (1927 - i) (2181 - x) t at b (from i w) (from x w₁) s refl (reads i (1927 - i) x at b ex eb) one in
    sym (from_end w₃ size) ∙ ap (λ (j : ℕ). from j w₃) e₃ ∙ k
    ∙ part-turn t (4018 - y) (4018 - i) at d (from i w) (from y w₂) s (lasts i t y 4018 et low)
    (reads i t y at d et ed) two

-- ---- merging

pub length-added : (xs ys : List ℕ) → length (added xs ys) ≡ length xs
unfolding added
length-added [] ys = refl
length-added (x ∷ xs) [] = refl
length-added (x ∷ xs) (y ∷ ys) = ap suc (length-added xs ys)

get_or-added : (xs ys : List ℕ) (k : ℕ) → k < length xs → get_or (added xs ys) k 0 ≡ bit_xor (get_or xs k 0) (get_or ys k 0)
unfolding added
get_or-added [] ys k h = absurd (omega (arith, h))
get_or-added (x ∷ xs) [] zero h = sym (xor_zero_r x)
get_or-added (x ∷ xs) [] (suc k) h = sym (xor_zero_r (get_or xs k 0))
get_or-added (x ∷ xs) (y ∷ ys) zero h = refl
get_or-added (x ∷ xs) (y ∷ ys) (suc k) h = get_or-added xs ys k (omega (arith, h))

-- a byte more is added, where those from i on are as they were
module _ (l₀ l s : List ℕ) (i : ℕ) (same : drop i l ≡ drop i l₀)
    (made : (k : ℕ) → k < i → get_or l k 0 ≡ bit_xor (get_or l₀ k 0) (get_or s k 0)) where
  as_it_was : (k : ℕ) → i ≤ k → get_or l k 0 ≡ get_or l₀ k 0
  as_it_was k h =
      let e : k ≡ i + (k - i) = omega arith in
      ap (λ (j : ℕ). get_or l j 0) e ∙ sym (get_or-drop i l (k - i) 0) ∙ ap (λ (x : List ℕ). get_or x (k - i) 0) same
      ∙ get_or-drop i l₀ (k - i) 0
      ∙ ap (λ (j : ℕ). get_or l₀ j 0) (sym e)

  pub add_turn : i < length l → (k : ℕ) → k < i + 1 → get_or (set l i (bit_xor (get_or l i 0) (get_or s i 0))) k 0 ≡ bit_xor
      (get_or l₀ k 0) (get_or s k 0)
  add_turn h =
      made_more (λ (k : ℕ). bit_xor (get_or l₀ k 0) (get_or s k 0)) l i (bit_xor (get_or l i 0) (get_or s i 0)) h
      (ap (λ (x : ℕ). bit_xor x (get_or s i 0)) (as_it_was i (omega arith))) made

  pub add-end : length l ≡ length l₀ → min (length l₀) (length s) ≤ i → l ≡ added l₀ s
  add-end size end =
      ext_get_or 0 l (added l₀ s) (size ∙ sym (length-added l₀ s))
      (λ k h.
      elim (dec_le i k) [
        | no b ↦ made k (omega arith) ∙ sym (get_or-added l₀ s k (omega arith))
        | yes b ↦
            (let none : get_or s k 0 ≡ 0 = get_or-eq_default s 0 (omega arith) in
            as_it_was k b ∙ sym (get_or-added l₀ s k (omega arith) ∙ ap (bit_xor (get_or l₀ k 0)) none
            ∙ xor_zero_r (get_or l₀ k 0)))
      ])

-- what the bytes taken out leave, place by place
merged-add : (p : ℕ) (ps h s : List ℕ) (n : ℕ) → merged (p ∷ ps) n h s ≡ added (merged ps n h s) (drop p h)
unfolding carry
merged-add p ps h s n =
    let m = merged ps n h s in
    let size = length_merged ps n h s in
    ext_get_or 0 (merged (p ∷ ps) n h s) (added m (drop p h)) (length_merged (p ∷ ps) n h s
    ∙ sym (length-added m (drop p h) ∙ size))
    (λ k l.
    let inside : k < n = omega (arith, length_merged (p ∷ ps) n h s) in
    let b : get_or (drop k h) p 0 ≡ get_or (drop p h) k 0 =
    get_or-drop k h p 0 ∙ ap (λ (j : ℕ). get_or h j 0) (add_comm k p) ∙ sym (get_or-drop p h k 0) in
    let c = carry ps (drop k h) in
    get_or-merged (p ∷ ps) n h s k inside
    ∙ ap (λ (x : ℕ). bit_xor (get_or s k 0) (bit_xor x c)) b
    ∙ ap (bit_xor (get_or s k 0)) (xor_comm (get_or (drop p h) k 0) c)
    ∙ sym (xor_assoc (get_or s k 0) c (get_or (drop p h) k 0))
    ∙ sym (get_or-added m (drop p h) k (omega arith) ∙ ap (λ (x : ℕ). bit_xor x (get_or (drop p h) k 0))
    (get_or-merged ps n h s k inside)))

merged-none : (n : ℕ) (h s : List ℕ) → n ≤ length s → merged [] n h s ≡ take n s
unfolding carry
merged-none n h s l =
    ext_get_or 0 (merged [] n h s) (take n s) (length_merged [] n h s ∙ sym (omega (arith, length-take n s)))
    (λ k m.
    let inside : k < n = omega (arith, length_merged [] n h s) in
    get_or-merged [] n h s k inside ∙ xor_zero_r (get_or s k 0) ∙ sym (get_or-take n s k 0 inside))

pub merged-far : (w t : List ℕ) → 4032 ≤ length t → added (added (added (take 4032 t) (drop 2091 w)) (drop 1837 w))
    w ≡ merged far 4032 w t
merged-far w t h =
    sym
    (merged-add 0 (1837 ∷ 2091 ∷ []) w t 4032
    ∙ ap (λ (x : List ℕ). added x w)
    (merged-add 1837 (2091 ∷ []) w t 4032
    ∙ ap (λ (x : List ℕ). added x (drop 1837 w)) (merged-add 2091 [] w t 4032
    ∙ ap (λ (x : List ℕ). added x (drop 2091 w)) (merged-none 4032 w t h))))

pub splice-whole : (l xs : List ℕ) → length xs ≡ length l → splice l 0 xs ≡ xs
unfolding splice
splice-whole [] [] h = refl
splice-whole [] (x ∷ xs) h = absurd (omega (arith, h))
splice-whole (b ∷ l) [] h = absurd (omega (arith, h))
splice-whole (b ∷ l) (x ∷ xs) h = ap (λ (t : List ℕ). x ∷ t) (splice-whole l xs (omega (arith, h)))
