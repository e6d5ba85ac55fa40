-- Laws of decoding and encoding: over the number k of bytes that may have the high bit set, and from "of ten bytes" on those for callers. Assumes nothing.
use mathlib.Core.Path.{◌≡◌, refl, sym, ap, ◌∙◌}
use mathlib.Core.Bool.{Bool, true, false, cond}
use mathlib.Core.List.{List, [], ◌∷◌, ◌++◌}
use Prim.Native.Nat.{ℕ, zero, suc, ◌+◌, ◌-◌, ◌*◌, ◌/◌, ◌%◌, ◌^◌, ◌≤◌, ◌<◌}
use native.Mathlib.Nat.{pow-suc, one-le-pow}
use native.Mathlib.Omega.{arith}
use native.Mathlib.Decide.{dec_le}
use lib.Dec.{leb, ltb, lit<}
use lib.ListN.{length, drop}
use borrow.Author.Tests.{lt-ltb, le-ltb, le-leb, ltb-true, ltb-false, leb-true}
use Rattle.wire.specs.Wire.{Bytes}
use Rattle.varint.specs.Varint.{Decoding, value, cut, malformed, above, decode_in, decode, encode_in, encode, Shortest}

-- ---- what is decoded

-- bytes that begin with a form of v of n bytes
data Form : ℕ → List ℕ → ℕ → ℕ → Type 0 where
  tenth : {b : ℕ} {s : List ℕ} → b ≤ 1 → Form 0 (b ∷ s) b 1
  last : {k b : ℕ} {s : List ℕ} → b < 128 → Form (suc k) (b ∷ s) b 1
  more : {k b : ℕ} {s : List ℕ} {v n : ℕ} → 128 ≤ b → Form k s v n → Form (suc k) (b ∷ s) (b - 128 + 128 * v) (suc n)

-- what is decoded has a form
form : (k : ℕ) (s : List ℕ) (v n : ℕ) → decode_in k s ≡ value v n → Form k s v n
unfolding decode_in above
form zero [] v n e = let z : ◌≡◌ {A = ℕ} 0 1 = cc in absurd (omega arith)
form zero (b ∷ s) v n e = go (leb b 1) refl e
  where
    go : (t : Bool) → leb b 1 ≡ t → cond t (value b 1) malformed ≡ value v n → Form 0 (b ∷ s) v n
    go true q e = let x : b ≡ v = cc in let y : 1 ≡ n = cc in rw (← x, ← y) (tenth (leb-true b 1 q))
    go false q e = let z : ◌≡◌ {A = ℕ} 0 1 = cc in absurd (omega arith)
form (suc k) [] v n e = let z : ◌≡◌ {A = ℕ} 0 1 = cc in absurd (omega arith)
form (suc k) (b ∷ s) v n e = go (ltb b 128) refl (decode_in k s) (form k s) e
  where
    go : (t : Bool) → ltb b 128 ≡ t → (d : Decoding) → ((w m : ℕ) → d ≡ value w m → Form k s w m) → cond t (value b 1) (above (b - 128) d) ≡ value v n
        → Form (suc k) (b ∷ s) v n
    go true q d ih e = let x : b ≡ v = cc in let y : 1 ≡ n = cc in rw (← x, ← y) (last (ltb-true b 128 q))
    go false q (value w m) ih e = let x : b - 128 + 128 * w ≡ v = cc in let y : suc m ≡ n = cc in rw (← x, ← y) (more (ltb-false b 128 q) (ih w m refl))
    go false q cut ih e = let z : ◌≡◌ {A = ℕ} 0 1 = cc in absurd (omega arith)
    go false q malformed ih e = let z : ◌≡◌ {A = ℕ} 0 1 = cc in absurd (omega arith)

-- ---- what is encoded, by its low group

encode_in-last : (k v : ℕ) → v < 128 → encode_in k v ≡ v ∷ []
unfolding encode_in
encode_in-last zero v h = refl
encode_in-last (suc k) v h = rw (lt-ltb v 128 h)

encode_in-more : (k v : ℕ) → 128 ≤ v → encode_in (suc k) v ≡ (128 + v % 128) ∷ encode_in k (v / 128)
unfolding encode_in
encode_in-more k v h = rw (le-ltb v 128 h)

-- from a byte with the high bit set and the value above it
encode_in-joined : (k b v : ℕ) → 128 ≤ b → b < 256 → 1 ≤ v → encode_in (suc k) (b - 128 + 128 * v) ≡ b ∷ encode_in k v
encode_in-joined k b v h l p =
    let x : 128 + (b - 128 + 128 * v) % 128 ≡ b = omega arith in
    let y : (b - 128 + 128 * v) / 128 ≡ v = omega arith in
    rw (encode_in-more k (b - 128 + 128 * v) (omega arith), x, y)

-- ---- what a form says of its value, its length and its bytes

form-used : {k : ℕ} {s : List ℕ} {v n : ℕ} → Form k s v n → (1 ≤ n) × (n ≤ length s) × (n ≤ suc k)
form-used (tenth h) = omega arith
form-used (last h) = omega arith
form-used (more h f) = let i = form-used f in omega arith

form-below : {k : ℕ} {s : List ℕ} {v n : ℕ} → Bytes s → Form k s v n → v < 2 * 128 ^ k
form-below bs (tenth h) = omega arith
form-below bs (last {k} h) = rw pow-suc (omega (arith, one-le-pow k 128 (lit< tt)))
form-below bs (more h f) = let i = form-below (λ j. bs (suc j)) f in rw pow-suc (omega (arith, bs 0))

form-short : {k : ℕ} {s : List ℕ} {v n : ℕ} → Bytes s → Form k s v n → length (encode_in k v) ≤ n
form-short bs (tenth {b} h) = rw (encode_in-last 0 b (omega arith)) (omega arith)
form-short bs (last {k} {b} h) = rw (encode_in-last (suc k) b h) (omega arith)
form-short bs (more {k} {b} {s} {v} {n} h f) =
    elim (dec_le 1 v) [
      | no c ↦ rw (encode_in-last (suc k) (b - 128 + 128 * v) (omega (arith, bs 0))) (omega arith)
      | yes c ↦ rw (encode_in-joined k b v h (bs 0) c) (omega (arith, form-short (λ j. bs (suc j)) f))
    ]

form-encode : {k : ℕ} {s : List ℕ} {v n : ℕ} → Bytes s → Form k s v n → n ≡ length (encode_in k v) → s ≡ encode_in k v ++ drop n s
form-encode bs (tenth {b} h) e = rw (encode_in-last 0 b (omega arith))
form-encode bs (last {k} {b} h) e = rw (encode_in-last (suc k) b h)
form-encode bs (more {k} {b} {s} {v} {n} h f) e =
    elim (dec_le 1 v) [
      | no c ↦ absurd (omega (arith, rw (encode_in-last (suc k) (b - 128 + 128 * v) (omega (arith, bs 0))) at e, form-used f))
      | yes c ↦
          (let z = encode_in-joined k b v h (bs 0) c in
          let l : n ≡ length (encode_in k v) = omega (arith, rw z at e) in
          rw z (ap (λ (t : List ℕ). b ∷ t) (form-encode (λ j. bs (suc j)) f l)))
    ]

-- ---- what an encoding says of its value, its length and its bytes

decode_in-encode_in : (k v : ℕ) (t : List ℕ) → v < 2 * 128 ^ k → decode_in k (encode_in k v ++ t) ≡ value v (length (encode_in k v))
unfolding decode_in encode_in above
decode_in-encode_in zero v t h = let l : v ≤ 1 = omega arith in rw (le-leb v 1 l)
decode_in-encode_in (suc k) v t h =
    elim (dec_le 128 v) [
      | no c ↦ rw (lt-ltb v 128 (omega arith), lt-ltb v 128 (omega arith))
      | yes c ↦
          (let q : v / 128 < 2 * 128 ^ k = omega (arith, rw pow-suc at h) in
          let e : 128 + v % 128 - 128 + 128 * (v / 128) ≡ v = omega arith in
          rw (le-ltb v 128 c, le-ltb (128 + v % 128) 128 (omega arith), decode_in-encode_in k (v / 128) t q, e))
    ]

encode_in-length : (k v : ℕ) → (1 ≤ length (encode_in k v)) × (length (encode_in k v) ≤ suc k)
unfolding encode_in
encode_in-length zero v = omega arith
encode_in-length (suc k) v =
    elim (dec_le 128 v) [
      | no c ↦ rw (lt-ltb v 128 (omega arith)) (omega arith)
      | yes c ↦ rw (le-ltb v 128 c) (omega (arith, encode_in-length k (v / 128)))
    ]

-- a k that is large enough makes no difference
encode_in-room : (k v : ℕ) → v < 2 * 128 ^ k → encode_in (suc k) v ≡ encode_in k v
encode_in-room zero v h = let l : v < 128 = omega arith in encode_in-last 1 v l ∙ sym (encode_in-last 0 v l)
encode_in-room (suc k) v h =
    elim (dec_le 128 v) [
      | no c ↦ let l : v < 128 = omega arith in encode_in-last (suc (suc k)) v l ∙ sym (encode_in-last (suc k) v l)
      | yes c ↦
          (let i = encode_in-room k (v / 128) (omega (arith, rw pow-suc at h)) in
          rw (encode_in-more (suc k) v c, encode_in-more k v c, i))
    ]

-- ---- of ten bytes

-- what is written is read back, whatever follows it
pub decode-encode : (v : ℕ) (t : List ℕ) → v < 2 ^ 64 → decode (encode v ++ t) ≡ value v (length (encode v))
unfolding decode encode
decode-encode v t h = decode_in-encode_in 9 v t h

module _ (s : List ℕ) (v n : ℕ) where
  pub decode-used : decode s ≡ value v n → (1 ≤ n) × (n ≤ length s)
  unfolding decode
  decode-used e = let u = form-used (form 9 s v n e) in omega arith

  pub decode-below : Bytes s → decode s ≡ value v n → v < 2 ^ 64
  unfolding decode
  decode-below b e = form-below b (form 9 s v n e)

  -- no form is shorter than the shortest, and the shortest is what is written
  pub decode-short : Bytes s → decode s ≡ value v n → length (encode v) ≤ n
  unfolding decode encode
  decode-short b e = form-short b (form 9 s v n e)

  pub encode-decode : Bytes s → decode s ≡ value v n → Shortest v n → s ≡ encode v ++ drop n s
  unfolding decode encode
  encode-decode b e h = form-encode b (form 9 s v n e) h

module _ (v : ℕ) where
  pub encode-some : 1 ≤ length (encode v)
  unfolding encode
  encode-some = (encode_in-length 9 v).0

  pub encode-ten : length (encode v) ≤ 10
  unfolding encode
  encode-ten = (encode_in-length 9 v).1

  -- the shortest form, by its low group
  pub encode-last : v < 128 → encode v ≡ v ∷ []
  unfolding encode
  encode-last h = encode_in-last 9 v h

  pub encode-more : 128 ≤ v → v < 2 ^ 64 → encode v ≡ (128 + v % 128) ∷ encode (v / 128)
  unfolding encode
  encode-more h b = rw (encode_in-more 8 v h, encode_in-room 8 (v / 128) (omega arith))
