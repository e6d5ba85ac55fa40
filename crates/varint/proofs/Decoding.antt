-- Decoding at a position, byte by byte, and the turns of the loop that goes on after the first byte. Assumes nothing.
use Rattle.std.specs.Prelude.{Result, Ok, Err}
use Rattle.varint.specs.declared.DecodeError.TheVariants.{Cut, Malformed}
use Rattle.varint.specs.declared.DecodeError.{DecodeError}
use mathlib.Core.Path.{◌≡◌, refl, sym, ap, ◌∙◌}
use mathlib.Core.List.{List}
use Prim.Native.Nat.{ℕ, zero, suc, ◌+◌, ◌-◌, ◌*◌, ◌^◌, ◌≤◌, ◌<◌}
use native.Mathlib.Nat.{pow-suc, one-le-pow, add-mul, mul_assoc, mul_comm, mul-one, mul-le-mul_left, mul-le-mul_right}
use native.Mathlib.Omega.{arith}
use native.Mathlib.Numerals.{add-one}
use lib.Dec.{lit<}
use lib.ListN.{length, get_or, drop, drop_of_length-le}
use lib.Seq.{drop-cons}
use borrow.Author.Tests.{lt-ltb, le-ltb, le-leb, lt-leb}
use Rattle.varint.specs.Varint.{Decoding, value, cut, malformed, above, decode_in, decode}
use Rattle.varint.specs.Answer.{answer_at, decoded_at}

decode_in-end : (k : ℕ) (s : List ℕ) (p : ℕ) → length s ≤ p → decode_in k (drop p s) ≡ cut
unfolding decode_in
decode_in-end zero s p h = rw (drop_of_length-le s h)
decode_in-end (suc k) s p h = rw (drop_of_length-le s h)

-- with the byte b at p
module _ (s : List ℕ) (p b : ℕ) (here : b ≡ get_or s p 0) (l : p < length s) where
  decode_in-last : (k : ℕ) → 0 < k → b < 128 → decode_in k (drop p s) ≡ value b 1
  unfolding decode_in
  decode_in-last zero q h = absurd (omega arith)
  decode_in-last (suc k) q h = rw (drop-cons s p 0 l, ← here, lt-ltb b 128 h)

  decode_in-more : (k : ℕ) → 0 < k → 128 ≤ b → decode_in k (drop p s) ≡ above (b - 128) (decode_in (k - 1) (drop (p + 1) s))
  unfolding decode_in
  decode_in-more zero q h = absurd (omega arith)
  decode_in-more (suc k) q h =
      let e : suc k - 1 ≡ k = omega arith in
      rw (e, drop-cons s p 0 l, ← here, le-ltb b 128 h, add-one p)

  decode_in-tenth : (k : ℕ) → k ≤ 0 → b ≤ 1 → decode_in k (drop p s) ≡ value b 1
  unfolding decode_in
  decode_in-tenth zero q h = rw (drop-cons s p 0 l, ← here, le-leb b 1 h)
  decode_in-tenth (suc k) q h = absurd (omega arith)

  decode_in-long : (k : ℕ) → k ≤ 0 → 1 < b → decode_in k (drop p s) ≡ malformed
  unfolding decode_in
  decode_in-long zero q h = rw (drop-cons s p 0 l, ← here, lt-leb b 1 h)
  decode_in-long (suc k) q h = absurd (omega arith)

-- ---- the first byte

pub first-end : (s : List ℕ) (at : ℕ) → length s ≤ at → (Err Cut) ≡ decoded_at s at
unfolding decoded_at answer_at decode
first-end s at h = rw (decode_in-end 9 s at h)

pub first-last : (s : List ℕ) (at b : ℕ) → b ≡ get_or s at 0 → at < length s → b < 128 → Ok (b, at + 1) ≡ decoded_at s at
unfolding decoded_at answer_at decode
first-last s at b e l h = rw (decode_in-last s at b e l 9 (omega arith) h)

-- ---- the loop

-- the answer where the groups before p make the number low: the value that is decoded at p counts times the scale
unfoldable pub over : ℕ → ℕ → ℕ → Decoding → Result (ℕ × ℕ) DecodeError
over low scale p (value v n) = Ok (low + v * scale, p + n)
over low scale p cut = Err Cut
over low scale p malformed = Err Malformed

-- the group at p goes to those before it
over-above : (low scale p g : ℕ) (d : Decoding) → over low scale p (above g d) ≡ over (low + g * scale) (scale * 128) (p + 1) d
unfolding over above
over-above low scale p g (value v n) =
    let e : low + (g + 128 * v) * scale ≡ low + g * scale + v * (scale * 128) = omega (
      arith,
      add-mul g (128 * v) scale,
      mul_assoc 128 v scale,
      mul_assoc v scale 128,
    ) in
    let f : p + suc n ≡ p + 1 + n = omega arith in
    rw (e, f)
over-above low scale p g cut = refl
over-above low scale p g malformed = refl

-- the scale of the next group, and of the tenth
scale-next : (scale left : ℕ) → 0 < left → scale * 128 ^ left ≡ 2 ^ 63 → scale * 128 * 128 ^ (left - 1) ≡ 2 ^ 63
scale-next scale zero q h = absurd (omega arith)
scale-next scale (suc left) q h =
    let e : suc left - 1 ≡ left = omega arith in
    rw e (mul_assoc scale 128 (128 ^ left) ∙ ap (λ (x : ℕ). scale * x) (mul_comm 128 (128 ^ left) ∙ sym (pow-suc 128 left)) ∙ h)

scale-tenth : (scale left : ℕ) → left ≤ 0 → scale * 128 ^ left ≡ 2 ^ 63 → scale ≡ 2 ^ 63
scale-tenth scale zero q h = omega arith
scale-tenth scale (suc left) q h = absurd (omega arith)

-- where a turn begins: the groups before p make the number low, and at most `left` more bytes may have the high bit set
pub record Turn (s : List ℕ) (at low scale left p : ℕ) : Type 0 where
  pub below : low < scale
  pub scaled : scale * 128 ^ left ≡ 2 ^ 63
  pub rest : over low scale p (decode_in left (drop p s)) ≡ decoded_at s at

-- after the first byte
answer-above : (at low : ℕ) (d : Decoding) → over low 128 (at + 1) d ≡ answer_at at (above low d)
unfolding over above answer_at
answer-above at low (value v n) =
    let e : low + v * 128 ≡ low + 128 * v = omega arith in
    let f : at + 1 + n ≡ at + suc n = omega arith in
    rw (e, f)
answer-above at low cut = refl
answer-above at low malformed = refl

pub turn-first : (s : List ℕ) (at low : ℕ) → at < length s → 128 + low ≡ get_or s at 0 → low < 128 → Turn s at low 128 8 (at + 1)
unfolding decoded_at decode
turn-first s at low l e h =
    let g : 128 + low - 128 ≡ low = omega arith in
    record {
      below = h;
      scaled = refl;
      rest = rw (decode_in-more s at (128 + low) e l 9 (omega arith) (omega arith), g) (answer-above at low (decode_in 8 (drop (at + 1) s)));
    }

module _ {s : List ℕ} {at low scale left p : ℕ} (t : Turn s at low scale left p) where
  -- a group and the tenth byte, times the scale, fit 64 bits
  pub turn-group : (g : ℕ) → 0 < left → g < 128 → (g * scale ≤ 127 * scale) × (scale * 128 ≤ 2 ^ 63)
  turn-group g q h = (
    mul-le-mul_right scale (omega arith),
    omega (
      arith,
      scale-next scale left q t.scaled,
      mul-le-mul_left (scale * 128) (one-le-pow (left - 1) 128 (lit< tt)),
      mul-one (scale * 128),
    ),
  )

  pub turn-high : (b : ℕ) → left ≤ 0 → b ≤ 1 → (b * scale ≤ 1 * scale) × (scale ≡ 2 ^ 63)
  turn-high b q h = (mul-le-mul_right scale h, scale-tenth scale left q t.scaled)

  pub turn_end : length s ≤ p → (Err Cut) ≡ decoded_at s at
  unfolding over
  turn_end h = rw (decode_in-end left s p h) at t.rest

  module _ (b : ℕ) (here : b ≡ get_or s p 0) (l : p < length s) where
    pub turn_last : 0 < left → b < 128 → Ok (low + b * scale, p + 1) ≡ decoded_at s at
    unfolding over
    turn_last q h = rw (decode_in-last s p b here l left q h) at t.rest

    pub turn_more : 0 < left → 128 ≤ b → b < 256 → Turn s at (low + (b - 128) * scale) (scale * 128) (left - 1) (p + 1)
    turn_more q h g =
        let f = turn-group (b - 128) q (omega arith) in
        record {
          below = omega (arith, t.below);
          scaled = scale-next scale left q t.scaled;
          rest = sym (over-above low scale p (b - 128) (decode_in (left - 1) (drop (p + 1) s))) ∙ rw (decode_in-more s p b here l left q h) at t.rest;
        }

    pub turn-tenth : left ≤ 0 → b ≤ 1 → Ok (low + b * scale, p + 1) ≡ decoded_at s at
    unfolding over
    turn-tenth q h = rw (decode_in-tenth s p b here l left q h) at t.rest

    pub turn-long : left ≤ 0 → 1 < b → (Err Malformed) ≡ decoded_at s at
    unfolding over
    turn-long q h = rw (decode_in-long s p b here l left q h) at t.rest
