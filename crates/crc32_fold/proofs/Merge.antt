-- Laws of the bytes left, eight at a time, with what those taken out leave at them. Assumes nothing.
use mathlib.Core.Path.{◌≡◌, refl, sym, ap, ap₂, ◌∙◌}
use mathlib.Core.List.{List, [], ◌∷◌}
use Prim.Native.Nat.{ℕ, zero, suc, ◌+◌, ◌-◌, ◌*◌, ◌^◌, ◌<◌, ◌≤◌}
use native.Mathlib.Nat.{add-zero, zero-add, add-sub_cancel_left}
use native.Mathlib.Omega.{arith}
use lib.Dec.{lit<}
use lib.ListN.{length, get_or, take, drop, length-take, length-drop}
use lib.Seq.{get_or-take, get_or-drop, take_all}
use lib.Bits.{bit_xor, xor_lt, xor_block, xor_zero_r}
use Rattle.wire.specs.Wire.{Bytes, le_at}
use Rattle.wire.proofs.Lists.{drop-take, take_within}
use Rattle.wire.proofs.Numbers.{le_at-zero, le_at-suc}
use Rattle.crc32_fold.specs.Fold.{merged, near}
use Rattle.crc32_fold.specs.Inner.{Clear, wide_along}
use Rattle.crc32_fold.proofs.Fold.{near-look}
use Rattle.crc32_fold.proofs.Window.{along, byte_at, merge-byte}

wide-none : (ps w : List ℕ) (i : ℕ) → wide_along 0 ps w i ≡ 0
unfolding wide_along
wide-none [] w i = refl
wide-none (p ∷ ps) w i = ap₂ bit_xor (le_at-zero w (i + p)) (wide-none ps w i)

along-byte : (ps w : List ℕ) (i : ℕ) → Bytes w → along ps w i < 256
unfolding along
along-byte [] w i b = lit< tt
along-byte (p ∷ ps) w i b = xor_lt 8 (get_or w (i + p) 0) (along ps w i) (b (i + p)) (along-byte ps w i b)

-- a byte more
wide-suc : (n : ℕ) (ps w : List ℕ) (i : ℕ) → Bytes w → wide_along (suc n) ps w i ≡ wide_along n ps w
    (i + 1) * 2 ^ 8 + along ps w i
unfolding wide_along along
wide-suc n [] w i b = refl
wide-suc n (p ∷ ps) w i b =
    let e : i + p + 1 ≡ i + 1 + p = omega arith in
    let one : le_at (suc n) w (i + p) ≡ le_at n w (i + 1 + p) * 2 ^ 8 + get_or w (i + p) 0 =
    le_at-suc n w (i + p) ∙ ap (λ (k : ℕ). get_or w (i + p) 0 + 256 * le_at n w k) e ∙ omega arith in
    ap₂ bit_xor one (wide-suc n ps w i b)
    ∙ xor_block 8 (le_at n w (i + 1 + p)) (wide_along n ps w (i + 1)) (get_or w (i + p) 0) (along ps w i) (b (i + p))
    (along-byte ps w i b)

-- n bytes at once, where each is the sum of one of s and of those of w
module _ (ps w s m : List ℕ) (bw : Bytes w) (bs : Bytes s) where
  wide-merged : (n i : ℕ) → ((k : ℕ) → k < n → get_or m (i + k) 0 ≡ bit_xor (get_or s (i + k) 0) (along ps w (i + k)))
      → le_at n m i ≡ bit_xor (le_at n s i) (wide_along n ps w i)
  wide-merged zero i h = le_at-zero m i ∙ sym (ap₂ bit_xor (le_at-zero s i) (wide-none ps w i))
  wide-merged (suc n) i h =
      let step : (k : ℕ) → k < n → get_or m (i + 1 + k) 0 ≡ bit_xor (get_or s (i + 1 + k) 0) (along ps w (i + 1 + k)) =
      λ k l. let e : i + 1 + k ≡ i + suc k = omega arith in rw e (h (suc k) (omega arith)) in
      let first : get_or m i 0 ≡ bit_xor (get_or s i 0) (along ps w i) = rw (add-zero i) at (h 0 (omega arith)) in
      let rest = wide-merged n (i + 1) step in
      let low : le_at (suc n) s i ≡ le_at n s (i + 1) * 2 ^ 8 + get_or s i 0 = le_at-suc n s i ∙ omega arith in
      le_at-suc n m i ∙ ap₂ (λ (x y : ℕ). x + 256 * y) first rest ∙ omega arith
      ∙ sym (xor_block 8 (le_at n s (i + 1)) (wide_along n ps w (i + 1)) (get_or s i 0) (along ps w i) (bs i)
      (along-byte ps w i bw))
      ∙ sym (ap₂ bit_xor low (wide-suc n ps w i bw))

-- eight of the bytes left
pub merged-at : (w s : List ℕ) (i : ℕ) → Clear 300 w 459 → Bytes w → Bytes s → i + 8 ≤ 304
    → le_at 8 (merged near 304 (take 300 w) s) i ≡ bit_xor (le_at 8 s i) (wide_along 8 near w i)
unfolding byte_at
merged-at w s i clear bw bs h =
    wide-merged near w s (merged near 304 (take 300 w) s) bw bs 8 i
    (λ k l. rw zero-add at (sym (merge-byte 300 w (i + k) 156 (λ j low m. clear j low (omega arith)) near s 0 304
    (omega arith) near-look)))

pub near-wide : (w : List ℕ) (i : ℕ)
    → bit_xor (le_at 8 w i) (bit_xor (le_at 8 w (i + 89)) (bit_xor (le_at 8 w (i + 117)) (le_at 8 w (i + 155)))) ≡
    wide_along 8 near w i
unfolding wide_along
near-wide w i = rw (add-zero i, xor_zero_r (le_at 8 w (i + 155)))

-- the window from a place on, and that it's cleared behind
pub window-kept : (w w' : List ℕ) (n : ℕ) → take (n + 300) w' ≡ take (n + 300) w
    → take 300 (take (n + 459 - n) (drop n w')) ≡ take 300 (drop n w)
window-kept w w' n e =
    ap (λ (k : ℕ). take 300 (take k (drop n w'))) (add-sub_cancel_left n 459)
    ∙ take_within 300 459 (drop n w') (omega arith)
    ∙ ap (λ (k : ℕ). take k (drop n w')) (sym (add-sub_cancel_left n 300)) ∙ sym (drop-take n (n + 300) w')
    ∙ ap (drop n) e ∙ drop-take n (n + 300) w ∙ ap (λ (k : ℕ). take k (drop n w)) (add-sub_cancel_left n 300)

pub window-clear : (w : List ℕ) (n : ℕ) → Clear (n + 300) w (n + 459) → Clear 300 (take (n + 459 - n) (drop n w)) 459
window-clear w n clear k low h =
    ap (λ (m : ℕ). get_or (take m (drop n w)) k 0) (add-sub_cancel_left n 459) ∙ get_or-take 459 (drop n w) k 0 h
    ∙ get_or-drop n w k 0
    ∙ clear (n + k) (omega arith) (omega arith)

-- parts of a list: n bytes from a place on, and the last n
pub length_part : (w : List ℕ) (at n : ℕ) → at + n ≤ length w → length (take (at + n - at) (drop at w)) ≡ n
length_part w at n h =
    let e : at + n - at ≡ n = add-sub_cancel_left at n in
    omega (arith, length-take (at + n - at) (drop at w), length-drop at w)

pub last-part : (s : List ℕ) (at : ℕ) → take (length s - at) (drop at s) ≡ drop at s
last-part s at = take_all (length s - at) (drop at s) (omega (arith, length-drop at s))
