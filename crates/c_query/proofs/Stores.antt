-- Laws of the numbers that a query writes, one after another. Assumes nothing.
use mathlib.Core.Path.{◌≡◌, refl, sym}
use mathlib.Core.List.{List, [], ◌∷◌, ◌++◌, append_assoc, append-nil}
use Prim.Native.Nat.{ℕ, ◌+◌, ◌*◌, ◌-◌, ◌≤◌}
use native.Mathlib.Nat.{add-sub_cancel_left}
use native.Mathlib.Omega.{arith}
use lib.ListN.{length, take, drop, length-append, length-take, length-drop, drop_of_length-le}
use lib.Seq.{drop-drop}
use Rattle.wire.specs.Wire.{le, splice}
use Rattle.wire.proofs.Numbers.{length-le}
use Rattle.wire.proofs.Splices.{splice-nil, splice-join, splice-parts}
use Rattle.rows.specs.declared.Row.{Row}
use Rattle.parts.specs.declared.time.Epoch.{Epoch}
use Rattle.query.specs.Query.{chosen}
use Rattle.query.proofs.Chosen.{chosen-cons, chosen-nil}
use Rattle.c_query.specs.Query.{numbers_bytes}

-- ---- numbers, four bytes each

pub length-numbers : (ns : List ℕ) → length (numbers_bytes ns) ≡ 4 * length ns
unfolding numbers_bytes
length-numbers [] = refl
length-numbers (n ∷ ns) = omega (arith, length-append (le 4 n) (numbers_bytes ns), length-le 4 n, length-numbers ns)

numbers-append : (ns ms : List ℕ) → numbers_bytes (ns ++ ms) ≡ numbers_bytes ns ++ numbers_bytes ms
unfolding numbers_bytes
numbers-append [] ms = refl
numbers-append (n ∷ ns) ms = rw (numbers-append ns ms, append_assoc (le 4 n) (numbers_bytes ns) (numbers_bytes ms))

pub numbers-one : (n : ℕ) → numbers_bytes (n ∷ []) ≡ le 4 n
unfolding numbers_bytes
numbers-one n = append-nil (le 4 n)

pub numbers-none : (l : List ℕ) (at : ℕ) → splice l at (numbers_bytes []) ≡ l
unfolding numbers_bytes
numbers-none l at = splice-nil l at

-- the part of a slice that they take up, lent and back again
pub part-back : (l : List ℕ) (at n : ℕ) (xs r : List ℕ) → length xs ≡ n → at + n ≤ length l → r ≡ splice (take (at + n - at) (drop at l)) 0 xs
    → take at l ++ (r ++ drop (at + n - at) (drop at l)) ≡ splice l at xs
part-back l at n xs r e h w =
    let k : at + n ≡ at + length xs = omega (arith, e) in
    let f : 0 + length xs ≤ length (take (length xs) (drop at l)) = simp (length-take, length-drop) (omega (arith, e)) in
    let g : length (take (length xs) (drop at l)) ≤ 0 + length xs = simp (length-take, length-drop) (omega (arith, e)) in
    rw (
      w,
      k,
      add-sub_cancel_left at (length xs),
      splice-parts (take (length xs) (drop at l)) xs 0 f,
      drop_of_length-le (take (length xs) (drop at l)) g,
      append-nil xs,
      drop-drop (length xs) at l,
    )
    (sym (splice-parts l xs at (omega (arith, e))))

-- ---- the numbers of the listed rows, row by row: what is left to be laid over the output, before and after a turn, and where none is left

module _ (t1 t2 : Epoch) (out : List ℕ) (at i : ℕ) where
  pub put-turn : (r : Row) (rs : List Row)
      → splice (splice out at (numbers_bytes (chosen t1 t2 i (r ∷ [])))) (at + 4 * length (chosen t1 t2 i (r ∷ []))) (numbers_bytes (chosen t1 t2 (i + 1) rs))
      ≡ splice out at (numbers_bytes (chosen t1 t2 i (r ∷ rs)))
  put-turn r rs =
      let one = chosen t1 t2 i (r ∷ []) in
      let rest = chosen t1 t2 (i + 1) rs in
      rw (← length-numbers one, chosen-cons t1 t2 r i rs, numbers-append one rest) (splice-join out (numbers_bytes one) (numbers_bytes rest) at)

  pub put-end : splice out at (numbers_bytes (chosen t1 t2 i [])) ≡ out
  put-end = rw (chosen-nil t1 t2 i) (numbers-none out at)
