-- Windows between whole sequences are whole sequences. Assumes nothing.
use mathlib.Core.Path.{◌≡◌, refl, sym, ap, ◌∙◌}
use mathlib.Core.List.{List, [], ◌∷◌, ◌++◌}
use Prim.Native.Nat.{ℕ, zero, suc, ◌+◌, ◌-◌, ◌≤◌, ◌<◌}
use native.Mathlib.Omega.{arith}
use native.Mathlib.Decide.{dec_lt}
use lib.ListN.{length, get_or, take, drop, length-take, take-append-drop}
use lib.Seq.{drop-cons, drop-drop}
use Rattle.utf8.specs.Utf8.{◌to◌, tails, sequences, followers, utf8_of}
use Rattle.utf8.specs.Grammar.{Spells}
use Rattle.utf8.specs.Steps.{Passed, Tail, Fits, FitsAt, Settled, Windows}
use Rattle.utf8.proofs.Laws.{utf8-low, utf8-sequence}
use Rattle.utf8.proofs.Tables.{first-C2, first-E0, first-E1, first-ED, first-EE, first-F0, first-F1, first-F4}

-- ---- sequences of two, three and four bytes

module _ (s : List ℕ) (a b d e : ℕ) (second : Fits a b d e) where
  two : 0xC2 ≤ d → d ≤ 0xDF → utf8_of (d ∷ e ∷ s) ≡ utf8_of s
  unfolding Spells tails
  two l h = let t = second.second (omega arith) in utf8-sequence d (e ∷ []) s (first-C2 d l h) (t.low, t.high, tt)

  module _ (f : ℕ) (third : Tail f) where
    three-by : (low high : ℕ) → followers sequences d ≡ low to high ∷ tails 1 → low ≤ e → e ≤ high → utf8_of (d ∷ e ∷ f ∷ s) ≡ utf8_of s
    unfolding Spells tails
    three-by low high q x y = utf8-sequence d (e ∷ f ∷ []) s q (x, y, (third.low, third.high, tt))

    three : 0xE0 ≤ d → d ≤ 0xEF → utf8_of (d ∷ e ∷ f ∷ s) ≡ utf8_of s
    unfolding tails
    three l h = go (second.second (omega arith)) (dec_lt d 0xE1) (dec_lt d 0xED) (dec_lt d 0xEE)
      where
        go : Tail e → Dec (d < 0xE1) → Dec (d < 0xED) → Dec (d < 0xEE) → utf8_of (d ∷ e ∷ f ∷ s) ≡ utf8_of s
        go t (yes x) y z = three-by 0xA0 0xBF (first-E0 d (omega arith)) (second.after-E0 (omega arith)) t.high
        go t (no x) (yes y) z = three-by 0x80 0xBF (first-E1 d (omega arith) (omega arith)) t.low t.high
        go t (no x) (no y) (yes z) = three-by 0x80 0x9F (first-ED d (omega arith)) t.low (second.after-ED (omega arith))
        go t (no x) (no y) (no z) = three-by 0x80 0xBF (first-EE d (omega arith) h) t.low t.high

    module _ (g : ℕ) (fourth : Tail g) where
      four-by : (low high : ℕ) → followers sequences d ≡ low to high ∷ tails 2 → low ≤ e → e ≤ high
          → utf8_of (d ∷ e ∷ f ∷ g ∷ s) ≡ utf8_of s
      unfolding Spells tails
      four-by low high q x y = utf8-sequence d (e ∷ f ∷ g ∷ []) s q (x, y, (third.low, third.high, (fourth.low, fourth.high, tt)))

      four : 0xF0 ≤ d → d ≤ 0xF4 → utf8_of (d ∷ e ∷ f ∷ g ∷ s) ≡ utf8_of s
      unfolding tails
      four l h = go (second.second (omega arith)) (dec_lt d 0xF1) (dec_lt d 0xF4)
        where
          go : Tail e → Dec (d < 0xF1) → Dec (d < 0xF4) → utf8_of (d ∷ e ∷ f ∷ g ∷ s) ≡ utf8_of s
          go t (yes x) y = four-by 0x90 0xBF (first-F0 d (omega arith)) (second.after-F0 (omega arith)) t.high
          go t (no x) (yes y) = four-by 0x80 0xBF (first-F1 d (omega arith) (omega arith)) t.low t.high
          go t (no x) (no y) = four-by 0x80 0x8F (first-F4 d (omega arith)) t.low (second.after-F4 (omega arith))

-- ---- whole sequences

-- each of some bytes may stand after the three before it, of which a, b and c are the first; and after the last of them
-- no sequence goes on
Linked : ℕ → ℕ → ℕ → List ℕ → Type 0
Linked a b c [] = (a < 0xF0) × (b < 0xE0) × (c < 0xC0)
Linked a b c (d ∷ ds) = Fits a b c d × Linked b c d ds

-- at most n such bytes are whole sequences, so that what follows them decides
Pass : ℕ → List ℕ → Type 0
Pass n s = (ds : List ℕ) → length ds ≤ n → (a b c : ℕ) → a < 0xF0 → b < 0xE0 → c < 0xC0 → Linked a b c ds → utf8_of (ds ++ s) ≡ utf8_of s

-- one sequence, by its first byte d, and then at most n bytes
module _ (n : ℕ) (s : List ℕ) (rest : Pass n s) (b c d : ℕ) (y : b < 0xE0) (z : c < 0xC0) where
  one_then : d < 0x80 → (ds : List ℕ) → length ds ≤ n → Linked b c d ds → utf8_of (d ∷ (ds ++ s)) ≡ utf8_of s
  unfolding Pass
  one_then h ds l k = utf8-low d (ds ++ s) h ∙ rest ds l b c d (omega arith) (omega arith) (omega arith) k

  two_then : 0xC2 ≤ d → d ≤ 0xDF → (ds : List ℕ) → length ds ≤ n → Linked b c d ds → utf8_of (d ∷ (ds ++ s)) ≡ utf8_of s
  unfolding Pass Linked
  two_then l h [] m k = absurd (omega (arith, k.2))
  two_then l h (e ∷ ds) m k =
      let t = k.0.second (omega arith) in
      two (ds ++ s) b c d e k.0 l h ∙ rest ds (omega arith) c d e (omega arith) (omega arith) (omega arith) k.1

  three-then : 0xE0 ≤ d → d ≤ 0xEF → (ds : List ℕ) → length ds ≤ n → Linked b c d ds → utf8_of (d ∷ (ds ++ s)) ≡ utf8_of s
  unfolding Pass Linked
  three-then l h [] m k = absurd (omega (arith, k.2))
  three-then l h (e ∷ []) m k = absurd (omega (arith, k.1.1))
  three-then l h (e ∷ f ∷ ds) m k =
      let t = k.0.second (omega arith) in
      let u = k.1.0.third l in
      three (ds ++ s) b c d e k.0 f u l h ∙ rest ds (omega arith) d e f (omega arith) (omega arith) (omega arith) k.1.1

  four-then : 0xF0 ≤ d → d ≤ 0xF4 → (ds : List ℕ) → length ds ≤ n → Linked b c d ds → utf8_of (d ∷ (ds ++ s)) ≡ utf8_of s
  unfolding Pass Linked
  four-then l h [] m k = absurd (omega (arith, k.2))
  four-then l h (e ∷ []) m k = absurd (omega (arith, k.1.1))
  four-then l h (e ∷ f ∷ []) m k = absurd (omega (arith, k.1.1.0))
  four-then l h (e ∷ f ∷ g ∷ ds) m k =
      let t = k.0.second (omega arith) in
      let u = k.1.0.third (omega arith) in
      let v = k.1.1.0.fourth l in
      four (ds ++ s) b c d e k.0 f u g v l h ∙ rest ds (omega arith) e f g (omega arith) (omega arith) (omega arith) k.1.1.1

pass-none : (s : List ℕ) → Pass 0 s
unfolding Pass
pass-none s [] l a b c x y z k = refl
pass-none s (d ∷ ds) l a b c x y z k = absurd (omega arith)

pass-more : (n : ℕ) (s : List ℕ) → Pass n s → Pass (suc n) s
unfolding Pass Linked
pass-more n s rest [] l a b c x y z k = refl
pass-more n s rest (d ∷ ds) l a b c x y z k = go (dec_lt d 0x80) (dec_lt d 0xC0) (dec_lt d 0xE0) (dec_lt d 0xF0)
  where
    go : Dec (d < 0x80) → Dec (d < 0xC0) → Dec (d < 0xE0) → Dec (d < 0xF0) → utf8_of (d ∷ (ds ++ s)) ≡ utf8_of s
    go (yes h) p q r = one_then n s rest b c d y z h ds (omega arith) k.1
    go (no h) (yes p) q r = absurd (omega (arith, k.0.alone z y x p))
    go (no h) (no p) (yes q) r =
        let f = k.0.first (omega arith) in
        two_then n s rest b c d y z f.0 (omega arith) ds (omega arith) k.1
    go (no h) (no p) (no q) (yes r) = three-then n s rest b c d y z (omega arith) (omega arith) ds (omega arith) k.1
    go (no h) (no p) (no q) (no r) =
        let f = k.0.first (omega arith) in
        four-then n s rest b c d y z (omega arith) f.1 ds (omega arith) k.1

linked-pass : (n : ℕ) (s : List ℕ) → Pass n s
linked-pass zero s = pass-none s
linked-pass (suc n) s = pass-more n s (linked-pass n s)

-- ---- the windows of a text

linked-windows : (n : ℕ) (s : List ℕ) (i : ℕ) → i + n + 3 ≤ length s → ((k : ℕ) → k < n → FitsAt s (i + k))
    → Settled s (i + n) → Linked (get_or s i 0) (get_or s (i + 1) 0) (get_or s (i + 2) 0) (take n (drop (i + 3) s))
unfolding Linked
linked-windows zero s i l f z =
    let e : i + 0 ≡ i = omega arith in
    (rw e at z.four, rw e at z.three, rw e at z.two)
linked-windows (suc n) s i l f z =
    let e : i + 0 ≡ i = omega arith in
    let e1 : i + 1 + 1 ≡ i + 2 = omega arith in
    let e2 : i + 1 + 2 ≡ i + 3 = omega arith in
    let e3 : i + 1 + 3 ≡ suc (i + 3) = omega arith in
    let en : i + 1 + n ≡ i + suc n = omega arith in
    let more = linked-windows n s (i + 1) (omega arith)
    (λ k h. let ek : i + 1 + k ≡ i + suc k = omega arith in rw ek (f (suc k) (omega arith)))
    (rw en z) in
    rw (drop-cons s (i + 3) 0 (omega arith)) (rw e at (f 0 (omega arith)), rw (e1, e2, e3) at more)

-- where no sequence goes on before them and none after them, windows are whole sequences
pub windows-passed : (s : List ℕ) (i j : ℕ) → Settled s i → Windows s i j → Settled s j → Passed s (i + 3) (j + 3)
unfolding Pass
windows-passed s i j y w z =
    let f = w.from in
    let e : i + (j - i) ≡ j = omega arith in
    let r : i + 3 + (j - i) ≡ j + 3 = omega arith in
    let l = linked-windows (j - i) s i (omega (arith, w.within)) (λ k h. w.fits (i + k) (omega arith) (omega arith)) (rw e z) in
    let whole = rw (drop-drop (j - i) (i + 3) s, r) at (take-append-drop (j - i) (drop (i + 3) s)) in
    let p = linked-pass (j - i) (drop (j + 3) s) (take (j - i) (drop (i + 3) s)) (simp length-take (omega arith))
    (get_or s i 0) (get_or s (i + 1) 0) (get_or s (i + 2) 0) y.four y.three y.two l in
    record { from = omega arith; within = w.within; rest = sym p ∙ ap utf8_of whole }
