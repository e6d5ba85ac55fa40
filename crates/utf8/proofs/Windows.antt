-- Bytes that may each stand after the three before them: what the tests say, and from one window to the next. Assumes
-- nothing.
use mathlib.Core.Path.{◌≡◌, refl, sym, ◌∙◌}
use mathlib.Core.Bool.{Bool, true, false, false≢true, not, beq, ◌&&◌, ◌||◌}
use mathlib.Core.List.{List}
use Prim.Native.Nat.{ℕ, ◌+◌, ◌-◌, ◌≤◌, ◌<◌}
use native.Mathlib.Omega.{arith}
use native.Mathlib.Decide.{dec_lt}
use lib.Dec.{leb, ltb, eqb}
use borrow.Author.Tests.{ltb-true, ltb-false, leb-true, leb-false, lt-ltb, le-leb, lt-leb, eq-eqb}
use lib.ListN.{length, get_or}
use Rattle.utf8.specs.Steps.{Tail, Fits, FitsAt, Fitting, Settled, Windows}
use Rattle.utf8.proofs.Tables.{and-true}

-- ---- tests

pub or-false : (t u : Bool) → (t || u) ≡ false → (t ≡ false) × (u ≡ false)
or-false false u e = (refl, e)
or-false true u e = absurd (false≢true (sym e))

or_left : (t u : Bool) → t ≡ true → (t || u) ≡ true
or_left true u e = refl
or_left false u e = absurd (false≢true e)

or_right : (t u : Bool) → u ≡ true → (t || u) ≡ true
or_right true u e = refl
or_right false u e = e

and_left : (t u : Bool) → (t && u) ≡ false → u ≡ true → t ≡ false
and_left true u e h = absurd (false≢true (sym e ∙ h))
and_left false u e h = refl

and-false : (t u : Bool) → (t && u) ≡ false → t ≡ true → u ≡ false
and-false true u e h = e
and-false false u e h = absurd (false≢true h)

pub xor-false : (t u : Bool) → not (beq t u) ≡ false → t ≡ u
xor-false true true e = refl
xor-false true false e = absurd (false≢true (sym e))
xor-false false true e = absurd (false≢true (sym e))
xor-false false false e = refl

-- what the tests of four bytes say
module _ (a b c d : ℕ) where
  pub fits_by : ((leb 0xC0 c || leb 0xE0 b) || leb 0xF0 a) ≡ (leb 0x80 d && ltb d 0xC0)
      → ((leb 0xC0 d && ltb d 0xC2) || leb 0xF5 d) ≡ false
      → ((eqb c 0xE0 && ltb d 0xA0) || (eqb c 0xED && leb 0xA0 d)) ≡ false
      → ((eqb c 0xF0 && ltb d 0x90) || (eqb c 0xF4 && leb 0x90 d)) ≡ false
      → Fits a b c d
  fits_by owed first three four =
      record {
        second = λ h. tail (or_left (leb 0xC0 c || leb 0xE0 b) _ (or_left (leb 0xC0 c) _ (le-leb 0xC0 c h)));
        third = λ h. tail (or_left (leb 0xC0 c || leb 0xE0 b) _ (or_right (leb 0xC0 c) _ (le-leb 0xE0 b h)));
        fourth = λ h. tail (or_right (leb 0xC0 c || leb 0xE0 b) _ (le-leb 0xF0 a h));
        alone = λ x y z h. leb-false 0x80 d (and_left (leb 0x80 d) (ltb d 0xC0) (low x y z) (lt-ltb d 0xC0 h));
        first = λ h.
            let p = or-false (leb 0xC0 d && ltb d 0xC2) (leb 0xF5 d) first in
            (ltb-false d 0xC2 (and-false (leb 0xC0 d) (ltb d 0xC2) p.0 (le-leb 0xC0 d h)), omega (arith, leb-false 0xF5 d p.1));
        after-E0 = λ e. ltb-false d 0xA0 (and-false (eqb c 0xE0) _ (or-false (eqb c 0xE0 && ltb d 0xA0) _ three).0 (eq-eqb c 0xE0 e));
        after-ED = λ e. omega (arith, leb-false 0xA0 d (and-false (eqb c 0xED) _ (or-false (eqb c 0xE0 && ltb d 0xA0) _ three).1 (eq-eqb c 0xED e)));
        after-F0 = λ e. ltb-false d 0x90 (and-false (eqb c 0xF0) _ (or-false (eqb c 0xF0 && ltb d 0x90) _ four).0 (eq-eqb c 0xF0 e));
        after-F4 = λ e. omega (arith, leb-false 0x90 d (and-false (eqb c 0xF4) _ (or-false (eqb c 0xF0 && ltb d 0x90) _ four).1 (eq-eqb c 0xF4 e)));
      }
    where
      tail : ((leb 0xC0 c || leb 0xE0 b) || leb 0xF0 a) ≡ true → Tail d
      tail e =
          let p = and-true (leb 0x80 d) (ltb d 0xC0) (sym owed ∙ e) in
          record { low = leb-true 0x80 d p.0; high = omega (arith, ltb-true d 0xC0 p.1) }

      low : c < 0xC0 → b < 0xE0 → a < 0xF0 → (leb 0x80 d && ltb d 0xC0) ≡ false
      low x y z = sym owed ∙ simp (lt-leb 0xC0 c x, lt-leb 0xE0 b y, lt-leb 0xF0 a z)

-- what the tests of three bytes say
pub settled-by : (s : List ℕ) (i : ℕ) → ((leb 0xF0 (get_or s i 0) || leb 0xE0 (get_or s (i + 1) 0)) || leb 0xC0 (get_or s (i + 2) 0)) ≡ false → Settled s i
settled-by s i e =
    let p = or-false (leb 0xF0 (get_or s i 0) || leb 0xE0 (get_or s (i + 1) 0)) _ e in
    let q = or-false (leb 0xF0 (get_or s i 0)) _ p.0 in
    record { four = leb-false 0xF0 _ q.0; three = leb-false 0xE0 _ q.1; two = leb-false 0xC0 _ p.1 }

-- ---- from one window to the next

pub fitting-none : (s : List ℕ) (i : ℕ) → Fitting 0 s i
fitting-none s i = record { each = λ k l. absurd (omega arith) }

pub fitting-more : (w : ℕ) (s : List ℕ) (i : ℕ) → Fitting w s i
    → FitsAt s (i + w) → Fitting (w + 1) s i
fitting-more w s i p f = record { each = λ k l. go k l (dec_lt k w) }
  where
    go : (k : ℕ) → k < w + 1 → Dec (k < w) → FitsAt s (i + k)
    go k l (yes h) = p.each k h
    go k l (no h) = let e : k ≡ w = omega arith in rw e f

pub windows-none : (s : List ℕ) (i : ℕ) → i + 3 ≤ length s → Windows s i i
windows-none s i h = record { from = omega arith; within = h; fits = λ k l m. absurd (omega arith) }

pub windows-more : (s : List ℕ) (i j : ℕ) → Windows s i j → (w : ℕ) → Fitting w s j → j + w + 3 ≤ length s → Windows s i (j + w)
windows-more s i j p w f h = record { from = omega (arith, p.from); within = h; fits = λ k l m. go k l m (dec_lt k j) }
  where
    go : (k : ℕ) → i ≤ k → k < j + w → Dec (k < j) → FitsAt s k
    go k l m (yes q) = p.fits k l q
    go k l m (no q) = let e : j + (k - j) ≡ k = omega arith in rw e at (f.each (k - j) (omega arith))

pub windows-both : (s : List ℕ) (i j k : ℕ) → Windows s i j → Windows s j k → Windows s i k
windows-both s i j k p q = record { from = omega (arith, p.from, q.from); within = q.within; fits = λ m l h. go m l h (dec_lt m j) }
  where
    go : (m : ℕ) → i ≤ m → m < k → Dec (m < j) → FitsAt s m
    go m l h (yes r) = p.fits m l r
    go m l h (no r) = q.fits m (omega arith) h

-- windows but for the last
pub windows-less : (s : List ℕ) (i j k : ℕ) → Windows s i j → i ≤ k → k ≤ j → Windows s i k
windows-less s i j k p l h =
    record { from = l; within = omega (arith, p.within); fits = λ m a b. p.fits m a (omega arith) }
