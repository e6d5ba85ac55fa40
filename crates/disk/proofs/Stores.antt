-- The stores of a writer that began, in its normal form: the first header, its blocks in order, and perhaps a closing. Assumes nothing.
use mathlib.Core.List.{List, [], ◌∷◌, ◌++◌, map}
use Prim.Native.Nat.{ℕ, suc, ◌+◌, ◌^◌, ◌≤◌, ◌<◌}
use lib.ListN.{length}
use Rattle.rows.specs.declared.Row.{Row}
use Rattle.parts.specs.Parts.{empty_header, header_bytes, footer_bytes}
use Rattle.layout.specs.Layout.{block_bytes, blocks_bytes, closed_header, dictionary_bytes, index_bytes, table_of}
use Rattle.writer_blocks.specs.Block.{Adding, block_for}
use Rattle.disk.specs.Disk.{Store, header_store, block_store, dictionary_store, end_store, store_bytes}

-- stores end to end, as a call hands them out
unfoldable pub stores_bytes : List Store → List ℕ
stores_bytes [] = []
stores_bytes (s ∷ ss) = store_bytes s ++ stores_bytes ss

-- the blocks of addings, the first of them number n
unfoldable pub block_stores : ℕ → List Adding → List Store
block_stores n [] = []
block_stores n (a ∷ xs) = block_store a (block_bytes n (block_for a)) ∷ block_stores (suc n) xs

-- "header again with final values; dictionary; index; footer", where the blocks end at d
unfoldable pub closing_stores : ℕ → List Row → List ℕ → List Store
closing_stores d rows s =
    header_store (header_bytes (closed_header d rows)) ∷ dictionary_store s (dictionary_bytes s) ∷ end_store (index_bytes rows)
    ∷ end_store (footer_bytes (record { index = d + 4 + length s })) ∷ []

-- "header with D, count and times 0; each block", of a file that isn't closed
unfoldable pub open_stores : List Adding → List Store
open_stores xs = header_store (header_bytes empty_header) ∷ block_stores 0 xs

-- all the stores of a file, with its stored dictionary
unfoldable pub closed_stores : List Adding → List ℕ → List Store
closed_stores xs d =
    open_stores xs ++ closing_stores (64 + length (blocks_bytes 0 (map block_for xs))) (table_of (map block_for xs)) d

-- the stores of a writer that began: its blocks, in order, and perhaps a closing with a stored dictionary, "u32 stored size (at least 1)"
pub data Begun (xs : List Adding) : List Store → Type 0 where
  opened : Begun xs (open_stores xs)
  closed : (d : List ℕ) → 1 ≤ length d → length d < 256 ^ 4 → Begun xs (closed_stores xs d)
