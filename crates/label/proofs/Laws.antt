-- Laws of the label's rules and bytes. Assumes nothing.
use mathlib.Core.Path.{◌≡◌, refl, sym, ap, ◌∙◌}
use mathlib.Core.Bool.{Bool, true, false}
use mathlib.Core.List.{List, [], ◌∷◌, ◌++◌, append_assoc}
use Prim.Native.Nat.{ℕ, zero, suc, ◌+◌, ◌-◌, ◌≤◌, ◌<◌}
use native.Mathlib.Nat.{sub-zero, zero-sub, suc-sub-suc}
use native.Mathlib.Omega.{arith}
use native.Mathlib.Numerals.{add-one}
use lib.ListN.{length, take, drop, replicate, length-take, length-drop, length-append, length-replicate}
use lib.Seq.{take_all}
use borrow.Author.Tests.{lt-ltb, le-ltb}
use Rattle.wire.specs.Wire.{le, splice}
use Rattle.wire.proofs.Splices.{splice-join}
use Rattle.std.specs.Prelude.{Option, Some, None, cond, not}
use Rattle.std.specs.List.{position_from}
use Rattle.verdict.specs.Rules.{Verdict, flag, at_least, sound, broken, first_broken, given, refused}
use Rattle.verdict.proofs.Laws.{flag-holds, flag-breaks, least-holds, least-breaks, then-sound, then-broken}
use Rattle.label.specs.Label.{printable, print_rules, label_rules, shortened, label_of, padded, abridged, label_bytes, label_out}

-- ---- printable bytes

-- what the first byte that isn't printable says of the rules
abbrev first_of : Option ℕ → Verdict
first_of None = sound
first_of (Some p) = broken 15 p

print-first : (name : List ℕ) (i : ℕ) → first_broken (print_rules i name) ≡ first_of (position_from (λ b. not (printable b)) i name)
unfolding print_rules first_broken
print-first [] i = refl
print-first (b ∷ s) i = go (printable b) (ap (λ (k : ℕ). first_broken (print_rules k s)) (sym (add-one i)) ∙ print-first s (i + 1))
  where
    go : (t : Bool) → first_broken (print_rules (suc i) s) ≡ first_of (position_from (λ b. not (printable b)) (i + 1) s)
        → first_broken (flag 15 i t ∷ print_rules (suc i) s)
        ≡ first_of (cond (not t) (Some i) (position_from (λ b. not (printable b)) (i + 1) s))
    go true h = flag-holds 15 i (print_rules (suc i) s) true refl ∙ h
    go false h = flag-breaks 15 i (print_rules (suc i) s) false refl

-- ---- the rules, by what was found

module _ (name : List ℕ) (room : ℕ) where
  pub label-unprintable : (p : ℕ) → Some p ≡ position_from (λ b. not (printable b)) 0 name
      → first_broken (label_rules name room) ≡ broken 15 p
  unfolding label_rules
  label-unprintable p e = then-broken (print_rules 0 name) _ 15 p (print-first name 0 ∙ ap first_of (sym e))

  all-print : None ≡ position_from (λ b. not (printable b)) 0 name
      → first_broken (label_rules name room) ≡ first_broken (at_least 12 16 room 16 ∷ [])
  unfolding label_rules
  all-print e = then-sound (print_rules 0 name) _ (print-first name 0 ∙ ap first_of (sym e))

  pub label-no-room : None ≡ position_from (λ b. not (printable b)) 0 name → room < 16 → first_broken (label_rules name room) ≡ broken 12 16
  label-no-room h r = all-print h ∙ least-breaks 12 16 [] room 16 r

  pub label-fits : None ≡ position_from (λ b. not (printable b)) 0 name → 16 ≤ room → first_broken (label_rules name room) ≡ sound
  unfolding first_broken
  label-fits h r = all-print h ∙ least-holds 12 16 [] room 16 r

-- ---- the answer and the panel

module _ (name panel : List ℕ) where
  pub label-refused : (n p : ℕ) → first_broken (label_rules name (length panel)) ≡ broken n p
      → (refused n p ≡ label_of name (length panel)) × (panel ≡ label_out name panel)
  unfolding label_of label_out
  label-refused n p e = (rw e, rw e)

  module _ (e : first_broken (label_rules name (length panel)) ≡ sound) where
    pub label-whole : length name ≤ 16
        → (given false ≡ label_of name (length panel)) × (splice panel 0 (padded name) ≡ label_out name panel)
    unfolding label_of label_out label_bytes shortened
    label-whole h = (rw (e, le-ltb 16 (length name) h), rw (e, le-ltb 16 (length name) h))

    pub label-shortened : 16 < length name
        → (given true ≡ label_of name (length panel)) × (splice panel 0 (abridged name) ≡ label_out name panel)
    unfolding label_of label_out label_bytes shortened
    label-shortened h = (rw (e, lt-ltb 16 (length name) h), rw (e, lt-ltb 16 (length name) h))

-- ---- what is put, one part after the other

drop-replicate : (m n x : ℕ) → drop m (replicate n x) ≡ replicate (n - m) x
drop-replicate zero n x = rw sub-zero
drop-replicate (suc m) zero x = rw zero-sub
drop-replicate (suc m) (suc n) x = rw suc-sub-suc (drop-replicate m n x)

-- the spaces from a place on, as a part of sixteen
spaces-from : (from : ℕ) → take {A = ℕ} (16 - from) (drop from (replicate 16 0x20)) ≡ replicate (16 - from) 0x20
spaces-from from =
    let spaces : List ℕ = replicate 16 0x20 in
    let e : length (drop from spaces) ≤ 16 - from = rw (drop-replicate from 16 0x20, length-replicate) (omega arith) in
    take_all (16 - from) (drop from spaces) e ∙ drop-replicate from 16 0x20

-- bytes laid after those at the front
after_front : (panel xs ys : List ℕ) (n : ℕ) → length xs ≡ n → splice (splice panel 0 xs) n ys ≡ splice panel 0 (xs ++ ys)
after_front panel xs ys n e =
    let z : n ≡ 0 + length xs = omega arith in
    rw z (splice-join panel xs ys 0)

module _ (name panel : List ℕ) where
  pub panel-padded : (one two : List ℕ) → one ≡ splice panel 0 name
      → two ≡ splice one (length name) (take (16 - length name) (drop (length name) (replicate 16 0x20)))
      → two ≡ splice panel 0 (padded name)
  unfolding padded
  panel-padded one two e f = rw (f, e, spaces-from (length name)) (after_front panel name _ (length name) refl)

  pub panel-abridged : 16 < length name → (one two three : List ℕ) → one ≡ splice panel 0 (take 8 name)
      → two ≡ splice one 8 (le 1 0x7E) → three ≡ splice two 9 (take (length name - (length name - 7)) (drop (length name - 7) name))
      → three ≡ splice panel 0 (abridged name)
  unfolding abridged le
  panel-abridged h one two three e f g =
      let rest = drop (length name - 7) name in
      let eight : length (take 8 name) ≡ 8 = rw length-take (omega arith) in
      let nine : length (take 8 name ++ (0x7E ∷ [])) ≡ 9 = rw (length-append, eight) in
      let whole = take_all (length name - (length name - 7)) rest (rw length-drop (omega arith)) in
      rw (g, f, e, whole, after_front panel (take 8 name) (0x7E ∷ []) 8 eight)
      (after_front panel (take 8 name ++ (0x7E ∷ [])) rest 9 nine ∙ ap (splice panel 0) (append_assoc (take 8 name) (0x7E ∷ []) rest))
