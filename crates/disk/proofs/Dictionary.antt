-- A dictionary that stands at a place of a file, whole or cut. Assumes nothing.
use mathlib.Core.Path.{◌≡◌, sym, ap, ◌∙◌}
use mathlib.Core.Bool.{true, false}
use mathlib.Core.List.{List, [], ◌++◌, append_assoc}
use Prim.Native.Nat.{ℕ, ◌+◌, ◌-◌, ◌^◌, ◌≤◌, ◌<◌}
use native.Mathlib.Nat.{add-zero}
use native.Mathlib.Omega.{arith}
use native.Mathlib.Decide.{dec_le}
use lib.ListN.{length, take, drop, length-append}
use lib.Seq.{take-append_seam, drop_at, drop-drop, length-take-le}
use Rattle.wire.specs.Wire.{le, le_at, part}
use Rattle.wire.proofs.Lists.{take_past}
use Rattle.wire.proofs.Numbers.{length-le, le_at-drop, le_at-le}
use Rattle.layout.specs.Layout.{dictionary_bytes}
use Rattle.layout.proofs.Parts.{length-dictionary}
use Rattle.frame.specs.Frame.{size_at, whole_dictionary}
use Rattle.frame.proofs.Rules.{dictionary-short, dictionary-cut, dictionary-sound, whole-sound, whole-broken}

module _ (d : List ℕ) (some_byte : 1 ≤ length d) (fits : length d < 256 ^ 4) (f : List ℕ) (at : ℕ) (above : 1 ≤ at) where
  -- its size is read wherever its first four bytes stand
  size-read : (t : List ℕ) → drop at f ≡ le 4 (length d) ++ t → size_at f at ≡ length d
  size-read t here =
      ap (le_at 4 f) (sym (add-zero at)) ∙ sym (le_at-drop 4 at f 0) ∙ ap (λ (l : List ℕ). le_at 4 l 0) here ∙ le_at-le 4 (length d) [] t fits

  module _ (t : List ℕ) (here : drop at f ≡ dictionary_bytes d ++ t) where
    here-size : drop at f ≡ le 4 (length d) ++ (d ++ t)
    unfolding dictionary_bytes
    here-size = here ∙ append_assoc (le 4 (length d)) d t

    pub dictionary-part : part f (at + 4) (size_at f at) ≡ d
    dictionary-part =
        let e : drop (at + 4) f ≡ d ++ t = sym (drop-drop 4 at f) ∙ ap (drop 4) here-size ∙ drop_at (le 4 (length d)) (d ++ t) 4 (length-le 4 (length d)) in
        rw (e, size-read (d ++ t) here-size, take-append_seam d t)

    pub dictionary-whole : length f ≡ at + length (dictionary_bytes d ++ t) → whole_dictionary f at ≡ true
    dictionary-whole l =
        let e = size-read (d ++ t) here-size in
        let m : length f ≡ at + (4 + length d + length t) = omega (arith, length-append (dictionary_bytes d) t, length-dictionary d) in
        whole-sound f at (λ z. omega arith) (dictionary-sound f at (omega arith) (omega arith) (omega arith))

  pub dictionary-short-of : (j : ℕ) (t : List ℕ) → drop at f ≡ take j (dictionary_bytes d ++ t) → length f ≡ at + length (take j (dictionary_bytes d ++ t))
      → j < 4 + length d → whole_dictionary f at ≡ false
  unfolding dictionary_bytes
  dictionary-short-of j t here l h =
      let x = le 4 (length d) ++ d in
      let m : length x ≡ 4 + length d = omega (arith, length-append (le 4 (length d)) d, length-le 4 (length d)) in
      let k : length (take j (x ++ t)) ≡ j = length-take-le j (x ++ t) (omega (arith, length-append x t)) in
      elim (dec_le 4 j) [
        | no c ↦ whole-broken f at (λ z. omega arith) 6 at (dictionary-short f at (omega arith))
        | yes c ↦
            (let there : drop at f ≡ le 4 (length d) ++ take (j - 4) (d ++ t) =
            here ∙ ap (take j) (append_assoc (le 4 (length d)) d t) ∙ take_past j 4 (le 4 (length d)) (d ++ t) (length-le 4 (length d)) c in
            let e = size-read (take (j - 4) (d ++ t)) there in
            whole-broken f at (λ z. omega arith) 6 at (dictionary-cut f at (omega arith) (omega arith) (omega arith)))
      ]
