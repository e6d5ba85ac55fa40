-- Byte strings as numbers: how they compare, and that equal numbers are equal strings. Assumes nothing.
use mathlib.Core.Path.{◌≡◌, sym, ap, ◌∙◌}
use mathlib.Core.List.{List}
use Prim.Native.Nat.{ℕ, ◌+◌, ◌-◌, ◌*◌, ◌^◌, ◌≤◌, ◌<◌}
use native.Mathlib.Nat.{pow-suc, pow-le-pow_right, mul-le-mul_right, suc-mul, zero-add, add-zero, add-sub_cancel_left}
use native.Mathlib.Omega.{arith}
use native.Mathlib.Decide.{dec_lt}
use lib.Dec.{lit<}
use lib.ListN.{length, take, drop}
use lib.Seq.{take-length}
use Rattle.wire.specs.Wire.{Bytes, le, le_at}
use Rattle.wire.proofs.Numbers.{le_at-zero, le_at-add, le_at-below, le_at-drop, le_at-take, le-from_le}
use Rattle.std.specs.declared.cmp.Ordering.{Ordering}
use Rattle.std.specs.declared.cmp.Ordering.TheVariants.{Less, Equal, Greater}
use Rattle.std.specs.Ordering.{MatchOrdering, nat_cmp}
use Rattle.std.proofs.lemmas.Cmp.{ranked}
use Rattle.order.specs.Value.{Compared, value_of}

-- ---- eight bytes

pub word-taken : (x : List ℕ) (at : ℕ) → le_at 8 (take (at + 8 - at) (drop at x)) 0 ≡ le_at 8 x at
word-taken x at =
    ap (λ (k : ℕ). le_at 8 (take k (drop at x)) 0) (add-sub_cancel_left at 8) ∙ le_at-take 8 8 (drop at x) 0 (omega arith)
    ∙ le_at-drop 8 at x 0
    ∙ ap (le_at 8 x) (add-zero at)

-- ---- the numbers of the first n bytes, of which those from k on were looked at

pub record Agree (x y : List ℕ) (n k : ℕ) : Type 0 where
  pub within : k ≤ n
  pub top : le_at (n - k) x k ≡ le_at (n - k) y k

pub agree-none : (x y : List ℕ) (n : ℕ) → Agree x y n n
agree-none x y n =
    let e : n - n ≡ 0 = omega arith in
    record { within = omega arith; top = rw (e, le_at-zero x n, le_at-zero y n) }

-- the number of n bytes is that of the k low ones and of those above them
parts : (x : List ℕ) (n k : ℕ) → k ≤ n → le_at n x 0 ≡ le_at k x 0 + le_at (n - k) x k * 256 ^ k
parts x n k h =
    let e : n ≡ k + (n - k) = omega arith in
    ap (λ (m : ℕ). le_at m x 0) e ∙ le_at-add k (n - k) x 0
    ∙ ap (λ (m : ℕ). le_at k x 0 + le_at (n - k) x m * 256 ^ k) (zero-add k)

-- where the high bytes agree the low ones decide
pub low-decide : (r : Ordering) (x y : List ℕ) (n k : ℕ) → Agree x y n k → Compared r (le_at k x 0) (le_at k y 0)
    → Compared r (le_at n x 0) (le_at n y 0)
low-decide r x y n k g c = go r c
  where
    more : le_at n x 0 + le_at k y 0 ≡ le_at n y 0 + le_at k x 0
    more = rw (parts x n k g.within, parts y n k g.within, g.top) (omega arith)

    go : (r : Ordering) → Compared r (le_at k x 0) (le_at k y 0) → Compared r (le_at n x 0) (le_at n y 0)
    go Less c = omega (arith, more)
    go Equal c = omega (arith, more)
    go Greater c = omega (arith, more)

-- a larger high part outweighs every low one
outweighs : (p low a b : ℕ) → low < p → a < b → low + a * p < b * p
outweighs p low a b l h = omega (arith, mul-le-mul_right p h, suc-mul a p)

module _ (x y : List ℕ) (n k w : ℕ) (g : Agree x y n k) (h : w ≤ k) where
  -- the next w bytes, and those above them
  next-part : (z : List ℕ) → le_at (n - (k - w)) z (k - w) ≡ le_at w z (k - w) + le_at (n - k) z k * 256 ^ w
  next-part z =
      let l = g.within in
      let e : n - (k - w) ≡ w + (n - k) = omega arith in
      let f : k - w + w ≡ k = omega arith in
      ap (λ (m : ℕ). le_at m z (k - w)) e ∙ le_at-add w (n - k) z (k - w)
      ∙ ap (λ (m : ℕ). le_at w z (k - w) + le_at (n - k) z m * 256 ^ w) f

  pub agree-more : le_at w x (k - w) ≡ le_at w y (k - w) → Agree x y n (k - w)
  agree-more e =
      let l = g.within in
      record { within = omega arith; top = rw (next-part x, next-part y, g.top, e) }

  pub part-decides : Bytes x → le_at w x (k - w) < le_at w y (k - w) → le_at n x 0 < le_at n y 0
  part-decides bytes l =
      let i = g.within in
      let t : le_at (n - (k - w)) x (k - w) < le_at (n - (k - w)) y (k - w) =
      rw (next-part x, next-part y, g.top) (omega arith) in
      let o = outweighs (256 ^ (k - w)) (le_at (k - w) x 0) _ _ (le_at-below (k - w) x 0 bytes) t in
      rw (parts x n (k - w) (omega arith), parts y n (k - w) (omega arith)) (omega arith)

pub agree-turned : (x y : List ℕ) (n k : ℕ) → Agree x y n k → Agree y x n k
agree-turned x y n k g = record { within = g.within; top = sym g.top }

-- where the next w bytes differ they decide
pub part-compared : (r : Ordering) (x y : List ℕ) (n k w : ℕ) → Agree x y n k → w ≤ k → Bytes x → Bytes y
    → (a b : ℕ) → a ≡ le_at w x (k - w) → b ≡ le_at w y (k - w) → (a ≡ b → ⊥) → r ≡ nat_cmp a b
    → Compared r (le_at n x 0) (le_at n y 0)
part-compared r x y n k w g h p q a b e f d c = go r (ranked a b r c)
  where
    go : (r : Ordering) → MatchOrdering r (a < b) (a ≡ b) (b < a) → Compared r (le_at n x 0) (le_at n y 0)
    go Less l = part-decides x y n k w g h p (omega arith)
    go Equal l = absurd (d l)
    go Greater l = part-decides y x n k w (agree-turned x y n k g) h q (omega arith)

pub all-agree : (x y : List ℕ) (n k : ℕ) → Agree x y n k → k ≤ 0 → le_at n x 0 ≡ le_at n y 0
all-agree x y n k g h =
    let e : k ≡ 0 = omega arith in
    low-decide Equal x y n k g (rw (e, le_at-zero x 0, le_at-zero y 0))

-- ---- values

-- a shorter string has a smaller value
pub value-shorter : (x y : List ℕ) → Bytes x → length x < length y → value_of x < value_of y
unfolding value_of
value-shorter x y bytes h =
    omega (arith, le_at-below (length x) x 0 bytes, pow-suc 256 (length x), pow-le-pow_right {n = 256} (lit< tt) h)

pub value-lengths : (r : Ordering) (x y : List ℕ) → Bytes x → Bytes y → (length x ≡ length y → ⊥) → r ≡ nat_cmp (length x) (length y)
    → Compared r (value_of x) (value_of y)
value-lengths r x y p q d c = go r (ranked (length x) (length y) r c)
  where
    go : (r : Ordering) → MatchOrdering r (length x < length y) (length x ≡ length y) (length y < length x)
        → Compared r (value_of x) (value_of y)
    go Less l = value-shorter x y p l
    go Equal l = absurd (d l)
    go Greater l = value-shorter y x q l

-- of strings of one length the bytes decide
pub value-compared : (x y : List ℕ) (r : Ordering) (n : ℕ) → n ≡ length x → n ≡ length y
    → Compared r (le_at n x 0) (le_at n y 0) → Compared r (value_of x) (value_of y)
unfolding value_of
value-compared x y r n e f c = rw (← e, ← f) (go r c)
  where
    go : (r : Ordering) → Compared r (le_at n x 0) (le_at n y 0)
        → Compared r (le_at n x 0 + 256 ^ n) (le_at n y 0 + 256 ^ n)
    go Less c = omega arith
    go Equal c = omega arith
    go Greater c = omega arith

-- a string's bytes are those of its number
own-bytes : (x : List ℕ) → Bytes x → x ≡ le (length x) (le_at (length x) x 0)
unfolding le_at
own-bytes x bytes = sym (le-from_le (length x) x bytes (omega arith) ∙ take-length x)

-- strings of one value are equal
pub value-equal : (x y : List ℕ) → Bytes x → Bytes y → value_of x ≡ value_of y → x ≡ y
unfolding value_of
value-equal x y bx by e = go (dec_lt (length x) (length y)) (dec_lt (length y) (length x))
  where
    go : Dec (length x < length y) → Dec (length y < length x) → x ≡ y
    go (yes l) m = let z = value-shorter x y bx l in absurd (omega arith)
    go (no l) (yes m) = let z = value-shorter y x by m in absurd (omega arith)
    go (no l) (no m) =
        let n : length x ≡ length y = omega arith in
        let v = rw n at e in
        own-bytes x bx ∙ ap (λ (k : ℕ). le k (le_at k x 0)) n ∙ ap (le (length y)) (omega arith) ∙ sym (own-bytes y by)
