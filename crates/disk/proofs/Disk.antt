-- What stands on the disk after a cut, and what of the stores is in full: before the second header is whole, and from then on. Assumes nothing.
use mathlib.Core.Path.{◌≡◌, refl, sym, ap, ◌∙◌}
use mathlib.Core.Bool.{Bool, true, false, cond}
use mathlib.Core.List.{List, [], ◌∷◌, ◌++◌, map, append_assoc, append-nil}
use Prim.Native.Nat.{ℕ, zero, suc, ◌+◌, ◌-◌, ◌^◌, ◌≤◌, ◌<◌}
use native.Mathlib.Nat.{add-zero, add_assoc, sub-zero, zero-sub, suc-sub-suc, sub-add-eq, not-suc-le-zero, lt_of_not-le}
use native.Mathlib.Omega.{arith}
use native.Mathlib.Decide.{dec_le}
use lib.Dec.{leb, leb-suc-zero}
use lib.ListN.{length, take, drop, length-append}
use lib.Seq.{take-nil, take_all, drop_at, length-take-le}
use borrow.Author.Tests.{le-leb, lt-leb}
use Rattle.rows.specs.declared.Row.{Row}
use Rattle.parts.specs.Parts.{empty_header, header_bytes, footer_bytes}
use Rattle.parts.proofs.Parts.{length-header}
use Rattle.layout.specs.Layout.{Block, block_bytes, block_size, blocks_bytes, dictionary_bytes, index_bytes, tail_bytes, closed_header}
use Rattle.layout.specs.Layout.{closing_bytes, finished_bytes, table_of}
use Rattle.layout.proofs.Parts.{length-block, length-dictionary, length-tail, length-closing}
use Rattle.writer_blocks.specs.Block.{Adding, block_for}
use Rattle.disk.specs.Disk.{Store, header_store, block_store, dictionary_store, end_store, store_bytes, total, headed, put, disk, finished}
use Rattle.disk.specs.Disk.{adding_of, dictionary_of, in_full, dictionaries_in_full, standing}
use Rattle.disk.proofs.Stores.{stores_bytes, block_stores, closing_stores, open_stores, closed_stores, Begun, opened, closed}
use Rattle.disk.proofs.Full.{full, full-all, part_of, part_none}

-- what closing hands out is its stores end to end
closing-bytes : (at : ℕ) (rows : List Row) (d : List ℕ) → stores_bytes (closing_stores at rows d) ≡ closing_bytes at rows d
unfolding stores_bytes closing_stores store_bytes closing_bytes tail_bytes
closing-bytes at rows d = rw (append-nil (footer_bytes (record { index = at + 4 + length d })))

-- ---- a part of two lists

take-both : {A : Type 0} (k : ℕ) (xs ys : List A) → take k (xs ++ ys) ≡ take k xs ++ take (k - length xs) ys
take-both k [] ys = rw (take-nil, sub-zero)
take-both zero (x ∷ xs) ys = rw zero-sub
take-both (suc k) (x ∷ xs) ys = rw suc-sub-suc (ap (λ (l : List _). x ∷ l) (take-both k xs ys))

-- ---- stores behind the cut leave the file

put-zero : (f : List ℕ) (s : Store) → put 0 f s ≡ f
unfolding put headed
put-zero [] (header_store []) = refl
put-zero (y ∷ f) (header_store []) = refl
put-zero [] (header_store (x ∷ xs)) = rw leb-suc-zero
put-zero (y ∷ f) (header_store (x ∷ xs)) = rw leb-suc-zero
put-zero f (block_store a x) = append-nil f
put-zero f (dictionary_store d x) = append-nil f
put-zero f (end_store x) = append-nil f

disk-zero : (f : List ℕ) (ss : List Store) → disk 0 f ss ≡ f
unfolding disk
disk-zero f [] = refl
disk-zero f (s ∷ ss) = rw (zero-sub, put-zero) (disk-zero f ss)

-- ---- blocks

disk-blocks : (k n : ℕ) (f : List ℕ) (xs : List Adding) (ss : List Store) → (
    let bs = map block_for xs in
    disk k f (block_stores n xs ++ ss) ≡ disk (k - length (blocks_bytes n bs)) (f ++ take k (blocks_bytes n bs)) ss)
unfolding disk block_stores blocks_bytes put store_bytes
disk-blocks k n f [] ss = rw (sub-zero, take-nil, append-nil)
disk-blocks k n f (a ∷ xs) ss =
    let x = block_bytes n (block_for a) in
    rw (disk-blocks (k - length x) (suc n) (f ++ take k x) xs ss, take-both, length-append, sub-add-eq, append_assoc)

-- ---- headers, whole and not

put_whole : (k : ℕ) (f x : List ℕ) → length x ≤ k → put k f (header_store x) ≡ x ++ drop (length x) f
unfolding put headed
put_whole k f x h = rw le-leb

put-part : (k : ℕ) (f x : List ℕ) → k < length x → 1 ≤ length f → put k f (header_store x) ≡ f
unfolding put headed
put-part k [] x h l = absurd (not-suc-le-zero l)
put-part k (y ∷ f) x h l = rw lt-leb

-- the first header
abbrev first : List ℕ
first = header_bytes empty_header

disk-first : (cut : ℕ) (ss : List Store) → 64 ≤ cut → disk cut [] (header_store first ∷ ss) ≡ disk (cut - 64) first ss
unfolding disk store_bytes
disk-first cut ss h =
    let l : length first ≤ cut = rw length-header h in
    rw (put_whole cut [] first l, length-header empty_header, append-nil first)

disk-none : (cut : ℕ) (ss : List Store) → cut < 64 → length (disk cut [] (header_store first ∷ ss)) ≡ cut
unfolding disk put headed store_bytes
disk-none cut ss h =
    let e : cut - 64 ≡ 0 = omega arith in
    rw (length-header empty_header, lt-leb 64 cut h, e, disk-zero (take cut first) ss) (length-take-le cut first (rw length-header (omega arith)))

-- the last four stores
module _ (k at : ℕ) (f : List ℕ) (rows : List Row) (d : List ℕ) where
  disk-cut : k < 64 → 64 ≤ length f → disk k f (closing_stores at rows d) ≡ f
  unfolding disk store_bytes closing_stores
  disk-cut h l =
      let e : k - 64 ≡ 0 = omega arith in
      let m : k < length (header_bytes (closed_header at rows)) = rw length-header h in
      rw (put-part k f (header_bytes (closed_header at rows)) m (omega arith), length-header (closed_header at rows), e)
      (disk-zero f (dictionary_store d (dictionary_bytes d) ∷ end_store (index_bytes rows) ∷ end_store (footer_bytes (record { index = at + 4 + length d }))
      ∷ []))

  disk-closed : 64 ≤ k
      → disk k f (closing_stores at rows d) ≡ header_bytes (closed_header at rows) ++ (drop 64 f ++ take (k - 64) (tail_bytes (at + 4 + length d) rows d))
  unfolding disk put headed store_bytes closing_stores tail_bytes
  disk-closed h = simp (length-header, le-leb, take-both, append_assoc)

-- ---- what is in full

pub cond_same : {A : Type 0} (t : Bool) (a : A) → cond t a a ≡ a
cond_same true a = refl
cond_same false a = refl

-- the blocks of the addings in full, with p bytes stored before
abbrev pub blocks_in : ℕ → ℕ → List Store → List Block
blocks_in p cut ss = map block_for (in_full adding_of p cut ss)

block-cond : (t : Bool) (a : Adding) (xs : List Adding) → map block_for (cond t (a ∷ []) [] ++ xs) ≡ cond t (block_for a ∷ []) [] ++ map block_for xs
block-cond true a xs = refl
block-cond false a xs = refl

full-blocks : (p cut n : ℕ) (xs : List Adding) (ss : List Store)
    → blocks_in p cut (block_stores n xs ++ ss) ≡ full p cut (map block_for xs) ++ blocks_in (p + length (blocks_bytes n (map block_for xs))) cut ss
unfolding in_full block_stores blocks_bytes full store_bytes adding_of
full-blocks p cut n [] ss = rw add-zero
full-blocks p cut n (a ∷ xs) ss =
    let b = block_for a in
    rw (
      length-append,
      length-block n b,
      ← add_assoc p (block_size b) (length (blocks_bytes (suc n) (map block_for xs))),
      block-cond (leb (p + block_size b) cut) a (in_full adding_of (p + block_size b) cut (block_stores (suc n) xs ++ ss)),
      full-blocks (p + block_size b) cut (suc n) xs ss,
      append_assoc,
    )

full-dictionaries : (p cut n : ℕ) (xs : List Adding) (ss : List Store)
    → in_full dictionary_of p cut (block_stores n xs ++ ss) ≡ in_full dictionary_of (p + length (blocks_bytes n (map block_for xs))) cut ss
unfolding in_full block_stores blocks_bytes store_bytes dictionary_of
full-dictionaries p cut n [] ss = rw add-zero
full-dictionaries p cut n (a ∷ xs) ss =
    rw (length-append, ← add_assoc, cond_same) (full-dictionaries (p + length (block_bytes n (block_for a))) cut (suc n) xs ss)

-- what stands of the next block
standing-blocks : (p cut n : ℕ) (xs : List Adding) (ss : List Store) → ((q : ℕ) → standing q cut ss ≡ 0)
    → standing p cut (block_stores n xs ++ ss) ≡ part_of p cut (map block_for xs)
unfolding standing block_stores part_of
standing-blocks p cut n [] ss z = z p
standing-blocks p cut n (a ∷ xs) ss z =
    rw (length-block n (block_for a), standing-blocks (p + block_size (block_for a)) cut (suc n) xs ss z)

-- of a closing: no block, and the dictionary by its last byte
pub closing-addings : (p cut at : ℕ) (rows : List Row) (d : List ℕ) → in_full adding_of p cut (closing_stores at rows d) ≡ []
unfolding in_full closing_stores store_bytes adding_of
closing-addings p cut at rows d = simp cond_same

closing-standing : (p cut at : ℕ) (rows : List Row) (d : List ℕ) → standing p cut (closing_stores at rows d) ≡ 0
unfolding standing closing_stores
closing-standing p cut at rows d = refl

closing-dictionaries : (p cut at : ℕ) (rows : List Row) (d : List ℕ)
    → in_full dictionary_of p cut (closing_stores at rows d) ≡ cond (leb (p + 64 + (4 + length d)) cut) (d ∷ []) []
unfolding in_full closing_stores store_bytes dictionary_of
closing-dictionaries p cut at rows d = simp (cond_same, length-header, length-dictionary, append-nil)

leb-same : (a b c e : ℕ) → (a ≤ b → c ≤ e) → (c ≤ e → a ≤ b) → leb a b ≡ leb c e
leb-same a b c e f g =
    elim (dec_le a b) [
      | yes h ↦ rw (le-leb a b h, le-leb c e (f h))
      | no h ↦ rw (lt-leb a b (omega (arith, h)), lt-leb c e (lt_of_not-le (λ x. h (g x))))
    ]

-- ---- the disk: the first header and a part of the blocks, or the last header, all blocks and a part of what follows

-- with the first header
abbrev pub open_file : List ℕ → List ℕ
open_file t = header_bytes empty_header ++ t

-- where blocks end, which is D then
abbrev pub end_of : List Block → ℕ
end_of bs = 64 + length (blocks_bytes 0 bs)

-- with the last header, and the blocks
abbrev pub closed_file : List Block → List ℕ → List ℕ
closed_file bs r = header_bytes (closed_header (end_of bs) (table_of bs)) ++ (blocks_bytes 0 bs ++ r)

-- before the second header is whole
pub record Before (ss : List Store) (cut : ℕ) (bs : List Block) : Type 0 where
  pub reached : 64 ≤ cut
  pub disk-is : disk cut [] ss ≡ open_file (take (cut - 64) (blocks_bytes 0 bs))
  pub blocks : blocks_in 0 cut ss ≡ full 64 cut bs
  pub stands : standing 0 cut ss ≡ part_of 64 cut bs
  pub dictionaries : dictionaries_in_full cut ss ≡ []

-- from then on, with j bytes of what stands behind the blocks
pub record Behind (ss : List Store) (cut : ℕ) (bs : List Block) (d : List ℕ) (j : ℕ) : Type 0 where
  pub disk-is : disk cut [] ss ≡ closed_file bs (take j (tail_bytes (end_of bs + 4 + length d) (table_of bs) d))
  pub blocks : blocks_in 0 cut ss ≡ bs
  pub stands : standing 0 cut ss ≡ 0
  pub dictionaries : dictionaries_in_full cut ss ≡ cond (leb (4 + length d) j) (d ∷ []) []

pub data View (ss : List Store) (cut : ℕ) (xs : List Adding) : Type 0 where
  before : Before ss cut (map block_for xs) → View ss cut xs
  behind : (d : List ℕ) (j : ℕ) → ss ≡ closed_stores xs d → 1 ≤ length d → length d < 256 ^ 4 → Behind ss cut (map block_for xs) d j → View ss cut xs

module _ (cut : ℕ) (xs : List Adding) (ss : List Store) where
  -- what is in full of a header, blocks and stores behind them
  in_blocks : in_full adding_of (end_of (map block_for xs)) cut ss ≡ [] → blocks_in 0 cut (open_stores xs ++ ss) ≡ full 64 cut (map block_for xs)
  unfolding open_stores in_full store_bytes adding_of
  in_blocks e = rw (cond_same, length-header, full-blocks 64 cut 0 xs ss, e, append-nil)

  in-dictionaries : dictionaries_in_full cut (open_stores xs ++ ss) ≡ in_full dictionary_of (end_of (map block_for xs)) cut ss
  unfolding open_stores in_full store_bytes dictionary_of
  in-dictionaries = rw (cond_same, length-header, full-dictionaries 64 cut 0 xs ss)

  in-standing : ((q : ℕ) → standing q cut ss ≡ 0) → standing 0 cut (open_stores xs ++ ss) ≡ part_of 64 cut (map block_for xs)
  unfolding open_stores standing
  in-standing z = ap (λ (q : ℕ). standing (0 + q) cut (block_stores 0 xs ++ ss)) (length-header empty_header) ∙ standing-blocks 64 cut 0 xs ss z

  disk-opened : 64 ≤ cut
      → disk cut [] (open_stores xs ++ ss) ≡ disk (cut - 64 - length (blocks_bytes 0 (map block_for xs)))
      (first ++ take (cut - 64) (blocks_bytes 0 (map block_for xs))) ss
  unfolding open_stores
  disk-opened h = disk-first cut (block_stores 0 xs ++ ss) h ∙ disk-blocks (cut - 64) 0 first xs ss

-- where a header stands the cut came behind the first
reached-by : (cut : ℕ) (xs : List Adding) (ss : List Store) → 64 ≤ length (disk cut [] (open_stores xs ++ ss)) → 64 ≤ cut
unfolding open_stores
reached-by cut xs ss h =
    elim (dec_le 64 cut) [
      | yes c ↦ c
      | no c ↦ absurd (omega (arith, disk-none cut (block_stores 0 xs ++ ss) (omega arith)))
    ]

module _ (cut : ℕ) (xs : List Adding) (h : 64 ≤ cut) where
  abbrev bs : List Block
  bs = map block_for xs

  open-before : Before (open_stores xs) cut bs
  unfolding disk in_full standing
  open-before =
      let e = append-nil (open_stores xs) in
      record {
        reached = h;
        disk-is = ap (disk cut []) (sym e) ∙ disk-opened cut xs [] h;
        blocks = ap (blocks_in 0 cut) (sym e) ∙ in_blocks cut xs [] refl;
        stands = ap (standing 0 cut) (sym e) ∙ in-standing cut xs [] (λ q. refl);
        dictionaries = ap (in_full dictionary_of 0 cut) (sym e) ∙ in-dictionaries cut xs [];
      }

  module _ (d : List ℕ) where
    closed-before : cut < end_of bs + 64 → Before (closed_stores xs d) cut bs
    unfolding closed_stores
    closed-before l =
        let X = blocks_bytes 0 bs in
        let D = end_of bs in
        let ss = closing_stores D (table_of bs) d in
        let Y = take (cut - 64) X in
        let m : length (first ++ Y) ≡ 64 + length Y = omega (arith, length-append first Y, length-header empty_header) in
        record {
          reached = h;
          disk-is = disk-opened cut xs ss h ∙ disk-cut (cut - 64 - length X) D (first ++ Y) (table_of bs) d (omega arith) (omega arith);
          blocks = in_blocks cut xs ss (closing-addings D cut D (table_of bs) d);
          stands = in-standing cut xs ss (λ q. closing-standing q cut D (table_of bs) d);
          dictionaries = in-dictionaries cut xs ss ∙ closing-dictionaries D cut D (table_of bs) d
              ∙ ap (λ (t : Bool). cond t (d ∷ []) []) (lt-leb (D + 64 + (4 + length d)) cut (omega arith));
        }

    closed-behind : end_of bs + 64 ≤ cut → Behind (closed_stores xs d) cut bs d (cut - (end_of bs + 64))
    unfolding closed_stores
    closed-behind l =
        let X = blocks_bytes 0 bs in
        let D = end_of bs in
        let rows = table_of bs in
        let ss = closing_stores D rows d in
        let k = cut - 64 - length X in
        let e : take (cut - 64) X ≡ X = take_all (cut - 64) X (omega arith) in
        let j : k - 64 ≡ cut - (D + 64) = omega arith in
        record {
          disk-is = disk-opened cut xs ss h ∙ ap (λ (x : List ℕ). disk k (first ++ x) ss) e
              ∙ disk-closed k D (first ++ X) rows d (omega arith)
              ∙ rw (drop_at first X 64 (length-header empty_header), j);
          blocks = in_blocks cut xs ss (closing-addings D cut D rows d) ∙ full-all 64 cut 0 bs (omega arith);
          stands = in-standing cut xs ss (λ q. closing-standing q cut D rows d) ∙ part_none 64 cut 0 bs (omega arith);
          dictionaries = in-dictionaries cut xs ss ∙ closing-dictionaries D cut D rows d
              ∙ ap (λ (t : Bool). cond t (d ∷ []) []) (leb-same (D + 64 + (4 + length d)) cut (4 + length d) (cut - (D + 64)) (λ x. omega arith)
              (λ x. omega arith));
        }

-- every cut of the stores of a writer that began
pub view : (xs : List Adding) {ss : List Store} → Begun xs ss → (cut : ℕ) → 64 ≤ length (disk cut [] ss) → View ss cut xs
unfolding closed_stores
view xs opened cut h = before (open-before cut xs (reached-by cut xs [] (rw (append-nil (open_stores xs)) h)))
view xs (closed d some fits) cut h =
    let bs = map block_for xs in
    let c : 64 ≤ cut = reached-by cut xs (closing_stores (end_of bs) (table_of bs) d) h in
    elim (dec_le (end_of bs + 64) cut) [
      | yes l ↦ behind d (cut - (end_of bs + 64)) refl some fits (closed-behind cut xs c d l)
      | no l ↦ before (closed-before cut xs c d (omega arith))
    ]

-- ---- all the stores make the finished file

total-stores : (ss : List Store) → total ss ≡ length (stores_bytes ss)
unfolding total stores_bytes
total-stores [] = refl
total-stores (s ∷ ss) = omega (arith, length-append (store_bytes s) (stores_bytes ss), total-stores ss)

stores-append : (ss us : List Store) → stores_bytes (ss ++ us) ≡ stores_bytes ss ++ stores_bytes us
unfolding stores_bytes
stores-append [] us = refl
stores-append (s ∷ ss) us = rw (stores-append ss us, append_assoc (store_bytes s) (stores_bytes ss) (stores_bytes us))

stores-blocks : (n : ℕ) (xs : List Adding) → stores_bytes (block_stores n xs) ≡ blocks_bytes n (map block_for xs)
unfolding stores_bytes block_stores blocks_bytes store_bytes
stores-blocks n [] = refl
stores-blocks n (a ∷ xs) = rw (stores-blocks (suc n) xs)

-- what a file that isn't closed, and one that is, were handed out as
open-bytes : (xs : List Adding) → stores_bytes (open_stores xs) ≡ header_bytes empty_header ++ blocks_bytes 0 (map block_for xs)
unfolding open_stores stores_bytes store_bytes
open-bytes xs = rw (stores-blocks 0 xs)

closed-bytes : (xs : List Adding) (d : List ℕ) → (
    let bs = map block_for xs in
    stores_bytes (closed_stores xs d) ≡ stores_bytes (open_stores xs) ++ closing_bytes (end_of bs) (table_of bs) d)
unfolding closed_stores
closed-bytes xs d =
    let bs = map block_for xs in
    let D = end_of bs in
    stores-append (open_stores xs) (closing_stores D (table_of bs) d)
    ∙ ap (λ (x : List ℕ). stores_bytes (open_stores xs) ++ x) (closing-bytes D (table_of bs) d)

total-closed : (xs : List Adding) (d : List ℕ) → (
    let bs = map block_for xs in
    total (closed_stores xs d) ≡ end_of bs + 64 + length (tail_bytes (end_of bs + 4 + length d) (table_of bs) d))
total-closed xs d =
    let bs = map block_for xs in
    let X = blocks_bytes 0 bs in
    let D = end_of bs in
    let C = closing_bytes D (table_of bs) d in
    let a : length (stores_bytes (closed_stores xs d)) ≡ length (stores_bytes (open_stores xs) ++ C) = ap length (closed-bytes xs d) in
    let b : length (stores_bytes (open_stores xs)) ≡ length (first ++ X) = ap length (open-bytes xs) in
    let c : length C ≡ 64 + length (tail_bytes (D + 4 + length d) (table_of bs) d) =
    omega (arith, length-closing D (table_of bs) d, length-tail (D + 4 + length d) (table_of bs) d) in
    omega (arith, total-stores (closed_stores xs d), length-append (stores_bytes (open_stores xs)) C, length-append first X, length-header empty_header)

pub finished-closed : (xs : List Adding) (d : List ℕ) → (
    let bs = map block_for xs in finished (closed_stores xs d) ≡ finished_bytes (table_of bs) (blocks_bytes 0 bs) d)
unfolding finished_bytes
finished-closed xs d =
    let bs = map block_for xs in
    let X = blocks_bytes 0 bs in
    let D = end_of bs in
    let T = tail_bytes (D + 4 + length d) (table_of bs) d in
    let c = total (closed_stores xs d) in
    let e : c ≡ D + 64 + length T = total-closed xs d in
    (closed-behind c xs (omega arith) d (omega arith)).disk-is
    ∙ ap (λ (x : List ℕ). header_bytes (closed_header D (table_of bs)) ++ (X ++ x)) (take_all (c - (D + 64)) T (omega arith))
