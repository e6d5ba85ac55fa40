-- Laws of decimal digits. Assumes nothing.
use mathlib.Core.Path.{◌≡◌, refl, sym, ap, ◌∙◌}
use mathlib.Core.List.{List, [], ◌∷◌, ◌++◌, append_assoc}
use Prim.Native.Nat.{ℕ, zero, suc, ◌+◌, ◌-◌, ◌/◌, ◌%◌, ◌^◌, ◌≤◌, ◌<◌}
use native.Mathlib.Nat.{pow-suc, pow-zero, suc-add}
use native.Mathlib.Omega.{arith}
use native.Mathlib.Decide.{dec_lt}
use lib.ListN.{length, set, length-append}
use borrow.Author.Tests.{lt-ltb, le-ltb}
use Rattle.wire.specs.Wire.{splice}
use Rattle.wire.proofs.Splices.{splice-nil, splice-set, splice-cons, splice-join, length-splice}
use Rattle.listing_digits.specs.Digits.{digit, decimal_in, decimal_of}
use Rattle.listing_digits.specs.Inner.{pair_of, four_of}

-- with more digits allowed than a number has, it is the same
decimal-more : (k n : ℕ) → n < 10 ^ suc k → decimal_in (suc k) n ≡ decimal_in (suc (suc k)) n
unfolding decimal_in
decimal-more zero n h = let l : n < 10 = omega (arith, h, pow-suc 10 0, pow-zero 10) in rw (lt-ltb n 10 l)
decimal-more (suc k) n h =
    elim (dec_lt n 10) [
      | yes l ↦ rw (lt-ltb n 10 l)
      | no l ↦
          (let q : n / 10 < 10 ^ suc k = omega (arith, h, pow-suc 10 (suc k)) in
          rw (le-ltb n 10 (omega arith)) (ap (λ (d : List ℕ). d ++ (digit (n % 10) ∷ [])) (decimal-more k (n / 10) q)))
    ]

pub decimal-small : (n : ℕ) → n < 10 → decimal_of n ≡ digit n ∷ []
unfolding decimal_of decimal_in
decimal-small n h = rw (lt-ltb n 10 h)

decimal-first : (k n : ℕ) → 10 ≤ n → decimal_in (suc k) n ≡ decimal_in k (n / 10) ++ (digit (n % 10) ∷ [])
unfolding decimal_in
decimal-first k n h = rw (le-ltb n 10 h)

pub decimal_step : (n : ℕ) → 10 ≤ n → n < 10 ^ 20 → decimal_of n ≡ decimal_of (n / 10) ++ (digit (n % 10) ∷ [])
unfolding decimal_of
decimal_step n h l =
    decimal-first 19 n h ∙ ap (λ (d : List ℕ). d ++ (digit (n % 10) ∷ [])) (decimal-more 18 (n / 10) (omega (arith, pow-suc 10 19)))

-- ---- how many digits there are

length-step : (n : ℕ) → 10 ≤ n → n < 10 ^ 20 → length (decimal_of n) ≡ length (decimal_of (n / 10)) + 1
length-step n h l = ap length (decimal_step n h l) ∙ length-append (decimal_of (n / 10)) (digit (n % 10) ∷ [])

pub length-four : (n : ℕ) → 10000 ≤ n → n < 10 ^ 20 → length (decimal_of n) ≡ length (decimal_of (n / 10000)) + 4
length-four n h l =
    let e : n / 10 / 10 / 10 / 10 ≡ n / 10000 = omega arith in
    let g : length (decimal_of (n / 10 / 10 / 10 / 10)) ≡ length (decimal_of (n / 10000)) = ap (λ (x : ℕ). length (decimal_of x)) e in
    omega (
      arith,
      length-step n (omega arith) l,
      length-step (n / 10) (omega arith) (omega (arith, l)),
      length-step (n / 10 / 10) (omega arith) (omega (arith, l)),
      length-step (n / 10 / 10 / 10) (omega arith) (omega (arith, l)),
      g,
    )

pub length-one : (n : ℕ) → n < 10 → 1 ≡ length (decimal_of n)
length-one n h = ap length (sym (decimal-small n h))

pub length_more : (n k : ℕ) → 10 ≤ n → n < 10 ^ 20 → k ≡ length (decimal_of (n / 10)) → k + 1 ≡ length (decimal_of n)
length_more n k h l e = omega (arith, length-step n h l, e)

-- twenty digits at most
decimal-room : (k n : ℕ) → length (decimal_in k n) ≤ k
unfolding decimal_in
decimal-room zero n = omega arith
decimal-room (suc k) n =
    elim (dec_lt n 10) [
      | yes l ↦ rw (lt-ltb n 10 l) (omega arith)
      | no l ↦ rw (le-ltb n 10 (omega arith), length-append) (omega (arith, decimal-room k (n / 10)))
    ]

pub decimal-short : (n : ℕ) → length (decimal_of n) ≤ 20
unfolding decimal_of
decimal-short n = decimal-room 20 n

-- one at least
decimal-many : (k n : ℕ) → 1 ≤ length (decimal_in (suc k) n)
unfolding decimal_in
decimal-many k n =
    elim (dec_lt n 10) [
      | yes l ↦ rw (lt-ltb n 10 l) (omega arith)
      | no l ↦ rw (le-ltb n 10 (omega arith), length-append) (omega arith)
    ]

pub decimal-some : (n : ℕ) → 1 ≤ length (decimal_of n)
unfolding decimal_of
decimal-some n = decimal-many 19 n

-- what is laid right before what was laid
splice-behind : (l xs ys : List ℕ) (at : ℕ) → splice (splice l (at + length xs) ys) at xs ≡ splice l at (xs ++ ys)
unfolding splice
splice-behind [] xs ys at = refl
splice-behind (b ∷ l) [] ys zero = splice-nil (splice (b ∷ l) 0 ys) 0
splice-behind (b ∷ l) (x ∷ xs) ys zero =
    let e : 0 + suc (length xs) ≡ suc (0 + length xs) = omega arith in
    rw e (ap (λ (m : List ℕ). x ∷ m) (splice-behind l xs ys 0))
splice-behind (b ∷ l) xs ys (suc at) = rw suc-add (ap (λ (m : List ℕ). b ∷ m) (splice-behind l xs ys at))

-- ---- two digits at a time

pub two-stores : (l : List ℕ) (at a b : ℕ) → set (set l at a) (at + 1) b ≡ splice l at (a ∷ b ∷ [])
two-stores l at a b = splice-set (set l at a) (at + 1) b ∙ splice-cons l at a (b ∷ [])

pub length-pair : (v : ℕ) → length (pair_of v) ≡ 2
unfolding pair_of
length-pair v = refl

pub four-stores : (l : List ℕ) (at a b c d : ℕ) → set (set (set (set l at a) (at + 1) b) (at + 2) c) (at + 3) d ≡ splice l at (a ∷ b ∷ c ∷ d ∷ [])
four-stores l at a b c d =
    let e : at + 3 ≡ at + 2 + 1 = omega arith in
    ap (λ (k : ℕ). set (set (set (set l at a) (at + 1) b) (at + 2) c) k d) e ∙ two-stores (set (set l at a) (at + 1) b) (at + 2) c d
    ∙ ap (λ (m : List ℕ). splice m (at + 2) (c ∷ d ∷ [])) (two-stores l at a b) ∙ splice-join l (a ∷ b ∷ []) (c ∷ d ∷ []) at

decimal-pair : (n : ℕ) → 100 ≤ n → n < 10 ^ 20 → decimal_of n ≡ decimal_of (n / 100) ++ pair_of (n % 100)
unfolding pair_of
decimal-pair n h l =
    let a : n / 10 / 10 ≡ n / 100 = omega arith in
    let b : n / 10 % 10 ≡ n % 100 / 10 = omega arith in
    let c : n % 10 ≡ n % 100 % 10 = omega arith in
    decimal_step n (omega arith) l ∙ ap (λ (t : List ℕ). t ++ (digit (n % 10) ∷ [])) (decimal_step (n / 10) (omega arith) (omega (arith, l)))
    ∙ append_assoc (decimal_of (n / 10 / 10)) (digit (n / 10 % 10) ∷ []) (digit (n % 10) ∷ [])
    ∙ rw (a, b, c)

pub short-two : (n : ℕ) → 10 ≤ n → n < 100 → pair_of n ≡ decimal_of n
unfolding pair_of
short-two n h l =
    let e : n < 10 ^ 20 = omega arith in
    sym (decimal_step n h e ∙ ap (λ (t : List ℕ). t ++ (digit (n % 10) ∷ [])) (decimal-small (n / 10) (omega arith)))

pub short-three : (n : ℕ) → 100 ≤ n → n < 1000 → digit (n / 100) ∷ pair_of (n % 100) ≡ decimal_of n
short-three n h l =
    let e : n < 10 ^ 20 = omega arith in
    sym (decimal-pair n h e ∙ ap (λ (t : List ℕ). t ++ pair_of (n % 100)) (decimal-small (n / 100) (omega arith)))

pub short-four : (n : ℕ) → 1000 ≤ n → n < 10000 → four_of n ≡ decimal_of n
unfolding four_of
short-four n h l =
    let e : n < 10 ^ 20 = omega arith in
    sym (decimal-pair n (omega arith) e ∙ ap (λ (t : List ℕ). t ++ pair_of (n % 100)) (sym (short-two (n / 100) (omega arith) (omega arith))))

pub length-fours : (v : ℕ) → length (four_of v) ≡ 4
unfolding four_of pair_of
length-fours v = refl

decimal-four : (n : ℕ) → 10000 ≤ n → n < 10 ^ 20 → decimal_of n ≡ decimal_of (n / 10000) ++ four_of (n % 10000)
unfolding four_of
decimal-four n h l =
    let a : n / 100 / 100 ≡ n / 10000 = omega arith in
    let b : n / 100 % 100 ≡ n % 10000 / 100 = omega arith in
    let c : n % 100 ≡ n % 10000 % 100 = omega arith in
    decimal-pair n (omega arith) l ∙ ap (λ (t : List ℕ). t ++ pair_of (n % 100)) (decimal-pair (n / 100) (omega arith) (omega (arith, l)))
    ∙ append_assoc (decimal_of (n / 100 / 100)) (pair_of (n / 100 % 100)) (pair_of (n % 100))
    ∙ rw (a, b, c)

-- ---- from the last digit on: x is left of n, and its digits end at i

pub record Digits (n : ℕ) (out₀ : List ℕ) (at : ℕ) (out : List ℕ) (i x : ℕ) : Type 0 where
  pub size : length out ≡ length out₀
  pub room : i ≤ length out₀
  pub ends : at + length (decimal_of x) ≡ i
  pub fits : x < 10 ^ 20
  pub rest : splice out at (decimal_of x) ≡ splice out₀ at (decimal_of n)

pub digits-all : (n : ℕ) (out : List ℕ) (at end : ℕ) → at + length (decimal_of n) ≡ end → end ≤ length out → n < 10 ^ 20 → Digits n out at out end n
digits-all n out at end e h l = record { size = refl; room = h; ends = e; fits = l; rest = refl }

module _ (n : ℕ) (out₀ : List ℕ) (at : ℕ) (out : List ℕ) (i x : ℕ) (v : Digits n out₀ at out i x) (h : 10000 ≤ x) where
  pub four-left : at + 5 ≤ i
  four-left = omega (arith, v.ends, length-four x h v.fits, decimal-some (x / 10000))

  pub digits-four : (m : List ℕ) → m ≡ splice out (i - 4) (four_of (x % 10000)) → Digits n out₀ at m (i - 4) (x / 10000)
  digits-four m g =
      let d = decimal_of (x / 10000) in
      let q = four_of (x % 10000) in
      let s = decimal-four x h v.fits in
      let k : i - 4 ≡ at + length d = omega (arith, v.ends, ap length s, length-append d q, length-fours (x % 10000)) in
      record {
        size = ap length g ∙ length-splice out (i - 4) q ∙ v.size;
        room = omega (arith, v.room);
        ends = sym k;
        fits = omega (arith, v.fits);
        rest = ap (λ (l : List ℕ). splice l at d) (g ∙ ap (λ (j : ℕ). splice out j q) k) ∙ splice-behind out d q at ∙ ap (splice out at) (sym s) ∙ v.rest;
      }
