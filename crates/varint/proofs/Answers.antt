-- The answer for a position, taken apart. Assumes nothing.
use Rattle.std.specs.Prelude.{Ok, Err}
use Rattle.varint.specs.declared.DecodeError.TheVariants.{Cut, Malformed}
use mathlib.Core.Path.{◌≡◌, refl, sym, ap}
use mathlib.Core.List.{List}
use Prim.Native.Nat.{ℕ, ◌+◌}
use native.Mathlib.Omega.{arith}
use lib.ListN.{drop}
use Rattle.varint.specs.Varint.{Decoding, value, cut, malformed, decode}
use Rattle.varint.specs.Answer.{answer_at, decoded_at}

module _ (s : List ℕ) (at : ℕ) where
  pub decoded-value : {P : Type 0} (v next : ℕ) → decoded_at s at ≡ Ok (v, next) → ((n : ℕ) → decode (drop at s) ≡ value v n → next ≡ at + n → P) → P
  unfolding decoded_at answer_at
  decoded-value {P} v next e k = go (decode (drop at s)) e k
    where
      go : (d : Decoding) → answer_at at d ≡ Ok (v, next) → ((n : ℕ) → d ≡ value v n → next ≡ at + n → P) → P
      go (value w n) e k =
          let p : ◌≡◌ {A = ℕ × ℕ} (w, at + n) (v, next) = cc in
          k n (ap (λ (q : ℕ × ℕ). value q.0 n) p) (sym (ap (λ (q : ℕ × ℕ). q.1) p))
      go cut e k = let z : ◌≡◌ {A = ℕ} 0 1 = cc in absurd (omega arith)
      go malformed e k = let z : ◌≡◌ {A = ℕ} 0 1 = cc in absurd (omega arith)

  pub decoded-cut : decoded_at s at ≡ Err Cut → decode (drop at s) ≡ cut
  unfolding decoded_at answer_at
  decoded-cut e = go (decode (drop at s)) e
    where
      go : (d : Decoding) → answer_at at d ≡ Err Cut → d ≡ cut
      go (value w n) e = let z : ◌≡◌ {A = ℕ} 0 1 = cc in absurd (omega arith)
      go cut e = refl
      go malformed e = let z : ◌≡◌ {A = ℕ} 0 1 = cc in absurd (omega arith)

  pub decoded-malformed : decoded_at s at ≡ Err Malformed → decode (drop at s) ≡ malformed
  unfolding decoded_at answer_at
  decoded-malformed e = go (decode (drop at s)) e
    where
      go : (d : Decoding) → answer_at at d ≡ Err Malformed → d ≡ malformed
      go (value w n) e = let z : ◌≡◌ {A = ℕ} 0 1 = cc in absurd (omega arith)
      go cut e = let z : ◌≡◌ {A = ℕ} 0 1 = cc in absurd (omega arith)
      go malformed e = refl
