-- Which blocks are stored in full: they come first, and all of them do where the cut came behind the last. Assumes nothing.
use mathlib.Core.Path.{◌≡◌, refl, sym, ap, ◌∙◌}
use mathlib.Core.Bool.{cond}
use mathlib.Core.List.{List, [], ◌∷◌, ◌++◌, append_assoc}
use Prim.Native.Nat.{ℕ, suc, ◌+◌, ◌-◌, ◌≤◌, ◌<◌, zero-le}
use native.Mathlib.Omega.{arith}
use native.Mathlib.Decide.{dec_le}
use lib.Dec.{leb}
use lib.ListN.{length, take, length-append}
use lib.Seq.{take-nil}
use borrow.Author.Tests.{le-leb, lt-leb}
use Rattle.wire.proofs.Lists.{take_past}
use Rattle.layout.specs.Layout.{Block, block_bytes, block_size, blocks_bytes}
use Rattle.layout.proofs.Parts.{length-block}
use Rattle.disk.proofs.Blocks.{Valid}

-- those of blocks whose last byte came before the cut, with p bytes stored before them
unfoldable pub full : ℕ → ℕ → List Block → List Block
full p cut [] = []
full p cut (b ∷ bs) = cond (leb (p + block_size b) cut) (b ∷ []) [] ++ full (p + block_size b) cut bs

-- none of them is in full where the cut came before the first
pub full-none : (p cut : ℕ) (bs : List Block) → cut ≤ p → full p cut bs ≡ []
unfolding full
full-none p cut [] h = refl
full-none p cut (b ∷ bs) h = rw (lt-leb (p + block_size b) cut (omega arith), full-none (p + block_size b) cut bs (omega arith))

pub full-first : (p cut : ℕ) (b : Block) (bs : List Block) → p + block_size b ≤ cut → full p cut (b ∷ bs) ≡ b ∷ full (p + block_size b) cut bs
unfolding full
full-first p cut b bs h = rw (le-leb (p + block_size b) cut h)

pub full-part : (p cut : ℕ) (b : Block) (bs : List Block) → cut < p + block_size b → full p cut (b ∷ bs) ≡ []
unfolding full
full-part p cut b bs h = rw (lt-leb (p + block_size b) cut h, full-none (p + block_size b) cut bs (omega arith))

pub full-all : (p cut n : ℕ) (bs : List Block) → p + length (blocks_bytes n bs) ≤ cut → full p cut bs ≡ bs
unfolding full blocks_bytes
full-all p cut n [] h = refl
full-all p cut n (b ∷ bs) h =
    let l : p + (block_size b + length (blocks_bytes (suc n) bs)) ≤ cut = rw (length-append, length-block) at h in
    rw (le-leb (p + block_size b) cut (omega arith)) (ap (λ (r : List Block). b ∷ r) (full-all (p + block_size b) cut (suc n) bs (omega arith)))

-- they come first, and so do their bytes, of which k came before the cut
pub record Prefix (n k earliest : ℕ) (bs fs : List Block) : Type 0 where
  pub later : List Block
  pub rest : List ℕ
  pub blocks-are : bs ≡ fs ++ later
  pub bytes-are : take k (blocks_bytes n bs) ≡ blocks_bytes n fs ++ rest
  pub valid : Valid earliest fs
  pub few : length fs ≤ length bs

pub prefix : (n k p cut earliest : ℕ) (bs : List Block) → Valid earliest bs → p + k ≡ cut → Prefix n k earliest bs (full p cut bs)
unfolding full blocks_bytes Valid
prefix n k p cut earliest [] v e = record { later = []; rest = []; blocks-are = refl; bytes-are = take-nil k; valid = tt; few = zero-le }
prefix n k p cut earliest (b ∷ bs) v e =
    elim (dec_le (block_size b) k) [
      | yes c ↦
          (let i : Prefix (suc n) (k - block_size b) b.end bs (full (p + block_size b) cut bs) =
          prefix (suc n) (k - block_size b) (p + block_size b) cut b.end bs v.1 (omega arith) in
          rw (full-first p cut b bs (omega arith))
          (record {
            later = i.later;
            rest = i.rest;
            blocks-are = ap (λ (l : List Block). b ∷ l) i.blocks-are;
            bytes-are = take_past k (block_size b) (block_bytes n b) (blocks_bytes (suc n) bs) (length-block n b) c
                ∙ ap (λ (l : List ℕ). block_bytes n b ++ l) i.bytes-are
                ∙ sym (append_assoc (block_bytes n b) (blocks_bytes (suc n) (full (p + block_size b) cut bs)) i.rest);
            valid = (v.0, i.valid);
            few = omega (arith, i.few);
          }))
      | no c ↦
          rw (full-part p cut b bs (omega arith))
          (record {
            later = b ∷ bs;
            rest = take k (block_bytes n b
                ++ blocks_bytes (suc n) bs);
            blocks-are = refl;
            bytes-are = refl;
            valid = tt;
            few = zero-le;
          })
    ]

-- ---- what stands of the first of them that isn't in full

unfoldable pub part_of : (p cut : ℕ) → List Block → ℕ
part_of p cut [] = 0
part_of p cut (b ∷ bs) = cond (leb (p + block_size b) cut) (part_of (p + block_size b) cut bs) (cut - p)

pub part-first : (p cut : ℕ) (b : Block) (bs : List Block) → p + block_size b ≤ cut → part_of p cut (b ∷ bs) ≡ part_of (p + block_size b) cut bs
unfolding part_of
part-first p cut b bs h = rw (le-leb (p + block_size b) cut h)

pub part-here : (p cut : ℕ) (b : Block) (bs : List Block) → cut < p + block_size b → part_of p cut (b ∷ bs) ≡ cut - p
unfolding part_of
part-here p cut b bs h = rw (lt-leb (p + block_size b) cut h)

-- none where all of them are
pub part_none : (p cut n : ℕ) (bs : List Block) → p + length (blocks_bytes n bs) ≤ cut → part_of p cut bs ≡ 0
unfolding part_of blocks_bytes
part_none p cut n [] h = refl
part_none p cut n (b ∷ bs) h =
    let l : p + (block_size b + length (blocks_bytes (suc n) bs)) ≤ cut = rw (length-append, length-block) at h in
    rw (le-leb (p + block_size b) cut (omega arith)) (part_none (p + block_size b) cut (suc n) bs (omega arith))
