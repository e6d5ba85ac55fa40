-- From one place in a text to the next. Assumes nothing.
use mathlib.Core.Path.{◌≡◌, refl, sym, ap, subst, ◌∙◌}
use mathlib.Core.Bool.{Bool, true, false}
use mathlib.Core.List.{List, [], ◌∷◌}
use Prim.Native.Nat.{ℕ, zero, suc, ◌+◌, ◌-◌, ◌≤◌, ◌<◌, zero-le}
use native.Mathlib.Nat.{add-zero}
use native.Mathlib.Numerals.{add-one, unary_clauses}
use native.Mathlib.Omega.{arith}
use native.Mathlib.Decide.{dec_lt}
use lib.Bits.{bit_or, or_add_and, and_le_l, and_le_r}
use lib.ListN.{length, get_or, drop, drop_of_length-le, get_or-eq_default}
use lib.Seq.{drop-cons}
use Rattle.utf8.specs.Utf8.{Range, ◌to◌, tails, sequences, nothing, followers, utf8_from, utf8_of}
use Rattle.utf8.specs.Steps.{Low, Passed, Stepped}
use Rattle.utf8.proofs.Tables.{in-range, below-range, above-range, nothing-follows}
use Rattle.utf8.proofs.Laws.{utf8_nil, utf8-low}

-- ---- bytes below 80 hex

pub or-low : (a b : ℕ) → bit_or a b < 0x80 → (a < 0x80) × (b < 0x80)
or-low a b h =
    let s = or_add_and a b in
    let l = and_le_l a b in
    let r = and_le_r a b in
    (omega arith, omega arith)

pub low-none : (s : List ℕ) (i : ℕ) → Low 0 s i
low-none s i = record { below = λ k l. absurd (omega arith) }

pub low-more : (w : ℕ) (s : List ℕ) (i : ℕ) → Low w s i → get_or s (i + w) 0 < 0x80 → Low (w + 1) s i
low-more w s i p b = record { below = λ k l. go k l (dec_lt k w) }
  where
    go : (k : ℕ) → k < w + 1 → Dec (k < w) → get_or s (i + k) 0 < 0x80
    go k l (yes h) = p.below k h
    go k l (no h) = let e : k ≡ w = omega arith in rw e b

pass-one : (s : List ℕ) (i : ℕ) → i < length s → get_or s i 0 < 0x80 → utf8_of (drop (i + 1) s) ≡ utf8_of (drop i s)
pass-one s i h b = rw (add-one, drop-cons s i 0 h) (sym (utf8-low (get_or s i 0) (drop (suc i) s) b))

pass : (w : ℕ) (s : List ℕ) (i : ℕ) → i + w ≤ length s → ((k : ℕ) → k < w → get_or s (i + k) 0 < 0x80) → utf8_of (drop (i + w) s) ≡ utf8_of (drop i s)
pass zero s i h b = rw add-zero
pass (suc w) s i h b =
    let b0 : get_or s i 0 < 0x80 = rw add-zero at (b 0 (omega arith)) in
    let e : i + suc w ≡ i + 1 + w = omega arith in
    rw e
    (pass w s (i + 1) (omega arith) (λ k l. let f : i + 1 + k ≡ i + suc k = omega arith in rw f (b (suc k) (omega arith)))
    ∙ pass-one s i (omega arith) b0)

pub passed_none : (s : List ℕ) (i : ℕ) → i ≤ length s → Passed s i i
passed_none s i h = record { from = omega arith; within = h; rest = refl }

pub passed-more : (s : List ℕ) (i j : ℕ) → Passed s i j → (w : ℕ) → Low w s j → j + w ≤ length s → Passed s i (j + w)
passed-more s i j p w l h = let f = p.from in record { from = omega arith; within = h; rest = pass w s j h l.below ∙ p.rest }

pub passed-both : (s : List ℕ) (i j k : ℕ) → Passed s i j → Passed s j k → Passed s i k
passed-both s i j k p q =
    let f = p.from in
    let g = q.from in
    record { from = omega arith; within = q.within; rest = q.rest ∙ p.rest }

-- ---- bytes that have to follow

pub byte-there : (s : List ℕ) (at : ℕ) → 0 < get_or s at 0 → at < length s
byte-there s at b = go (dec_lt at (length s))
  where
    go : Dec (at < length s) → at < length s
    go (yes h) = h
    go (no h) = absurd (omega (arith, get_or-eq_default s 0 {n = at} (omega arith)))

-- the byte at a place against the range that it has to be in
module _ (s : List ℕ) (at low high : ℕ) (rs : List Range) where
  pub byte_low : get_or s at 0 < low → utf8_from sequences (low to high ∷ rs) (drop at s) ≡ false
  unfolding utf8_from
  byte_low b = go (dec_lt at (length s))
    where
      go : Dec (at < length s) → utf8_from sequences (low to high ∷ rs) (drop at s) ≡ false
      go (yes h) = rw (drop-cons s at 0 h) (simp (below-range low high (get_or s at 0) b))
      go (no h) = rw (drop_of_length-le s {i = at} (omega arith))

  pub byte_high : 0 < low → low ≤ get_or s at 0 → high < get_or s at 0 → utf8_from sequences (low to high ∷ rs) (drop at s) ≡ false
  unfolding utf8_from
  byte_high p l h = rw (drop-cons s at 0 (byte-there s at (omega arith))) (simp (above-range low high (get_or s at 0) l h))

  pub byte-right : 0 < low → low ≤ get_or s at 0 → get_or s at 0 ≤ high
      → utf8_from sequences rs (drop (at + 1) s) ≡ utf8_from sequences (low to high ∷ rs) (drop at s)
  unfolding utf8_from
  byte-right p l h =
      sym (rw (add-one, drop-cons s at 0 (byte-there s at (omega arith))) (simp (in-range low high (get_or s at 0) l h)))

tails-more : (left : ℕ) → (left ≡ 0 → ⊥) → tails left ≡ 0x80 to 0xBF ∷ tails (left - 1)
unfolding tails
tails-more zero n = absurd (n refl)
tails-more (suc left) n = simp unary_clauses

-- the same of the next of several tails
module _ (s : List ℕ) (at left : ℕ) (owed : left ≡ 0 → ⊥) where
  pub tail-low : get_or s at 0 < 0x80 → utf8_from sequences (tails left) (drop at s) ≡ false
  tail-low b = rw (tails-more left owed) (byte_low s at 0x80 0xBF (tails (left - 1)) b)

  pub tail-high : 0xC0 ≤ get_or s at 0 → utf8_from sequences (tails left) (drop at s) ≡ false
  tail-high b = rw (tails-more left owed) (byte_high s at 0x80 0xBF (tails (left - 1)) (omega arith) (omega arith) (omega arith))

  pub tail-right : 0x80 ≤ get_or s at 0 → get_or s at 0 < 0xC0
      → utf8_from sequences (tails (left - 1)) (drop (at + 1) s) ≡ utf8_from sequences (tails left) (drop at s)
  tail-right b c =
      byte-right s at 0x80 0xBF (tails (left - 1)) (omega arith) b (omega arith)
      ∙ ap (λ (rs : List Range). utf8_from sequences rs (drop at s)) (sym (tails-more left owed))

pub tails_end : (s : List ℕ) (at left : ℕ) → left ≡ 0 → utf8_of (drop at s) ≡ utf8_from sequences (tails left) (drop at s)
unfolding utf8_of tails
tails_end s at left e = rw e

-- ---- one sequence

module _ (s : List ℕ) (i : ℕ) where
  pub step-none : {v : Bool} → v ≡ false → Stepped v s i 0
  step-none e = record { within = zero-le; none = λ z. e; past = λ n. absurd (n refl) }

  pub step_past : (j : ℕ) → i < j → j ≤ length s → {v : Bool} → utf8_of (drop j s) ≡ v → Stepped v s i j
  step_past j l h e = record { within = h; none = λ z. absurd (omega arith); past = λ n. (l, e) }

  -- the same from the byte before
  pub step-on : {u v : Bool} → u ≡ v → {j : ℕ} → Stepped u s (i + 1) j → Stepped v s i j
  step-on e {j} p =
      record {
        within = p.within;
        none = λ z. sym e ∙ p.none z;
        past = λ n. (omega (arith, (p.past n).0), (p.past n).1 ∙ e);
      }

  -- and then past whole sequences
  pub step-passed : {v : Bool} {j : ℕ} → Stepped v s i j → (j ≡ 0 → ⊥) → {k : ℕ} → Passed s j k → Stepped v s i k
  step-passed p n {k} q = let l = p.past n in step_past k (omega (arith, l.0, q.from)) q.within (q.rest ∙ l.1)

  module _ (h : i < length s) where
    -- the first byte decides what has to follow
    first : {rs : List Range} → followers sequences (get_or s i 0) ≡ rs → utf8_of (drop i s) ≡ utf8_from sequences rs (drop (i + 1) s)
    unfolding utf8_of utf8_from
    first e = rw (← e, add-one, drop-cons s i 0 h)

    pub first-wrong : followers sequences (get_or s i 0) ≡ nothing ∷ [] → Stepped (utf8_of (drop i s)) s i 0
    first-wrong e = step-none (first e ∙ nothing-follows sequences [] (drop (i + 1) s))

    pub first-right : {rs : List Range} → followers sequences (get_or s i 0) ≡ rs → {j : ℕ} → Stepped (utf8_from sequences rs (drop (i + 1) s)) s i j
        → Stepped (utf8_of (drop i s)) s i j
    first-right e {j} p = subst (λ (v : Bool). Stepped v s i j) (sym (first e)) p

    pub first-low : get_or s i 0 < 0x80 → {j : ℕ} → Passed s (i + 1) j → Stepped (utf8_of (drop i s)) s i j
    first-low b {j} p = let f = p.from in step_past j (omega arith) p.within (p.rest ∙ pass-one s i h b)

-- ---- the end

pub end-right : (s : List ℕ) (i : ℕ) → length s ≤ i → true ≡ utf8_of (drop i s)
end-right s i h = rw (drop_of_length-le s h) (sym utf8_nil)
