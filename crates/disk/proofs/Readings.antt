-- What the reader finds in the plain bytes of a block that was added: the entries that the adding took, whatever names came later. Assumes nothing.
use mathlib.Core.Path.{◌≡◌, refl, ◌∙◌}
use mathlib.Core.List.{List, ◌∷◌, ◌++◌}
use Prim.Native.Nat.{ℕ, ◌^◌, ◌≤◌, ◌<◌}
use lib.ListN.{length}
use Rattle.verdict.specs.Rules.{sound, given}
use Rattle.verdict.proofs.Laws.{first-none, equal-holds}
use Rattle.parts.specs.declared.BlockHeader.{BlockHeader}
use Rattle.blocks.specs.Blocks.{head_at}
use Rattle.layout.specs.Layout.{Block, head_of, blocks_bytes, end_from, finished_bytes, table_of}
use Rattle.entries.specs.Model.{Entry}
use Rattle.entries.specs.Reading.{entries_of, last_time}
use Rattle.entries.specs.Block.{block_rules, held_against, block_verdict}
use Rattle.entries.proofs.RoundTrip.{read_known}
use Rattle.writer_blocks.specs.Block.{Adding, read_by, block_for}
use Rattle.disk.proofs.Blocks.{Valid}
use Rattle.disk.proofs.Opens.{head-finished}

-- entries that are held against a header that says what they are
held : (s : List ℕ) (h : BlockHeader) (names : ℕ) (es : List Entry) → entries_of s h.start.0 names ≡ given es → last_time h.start.0 es ≡ h.end.0
    → length es ≡ h.entries → length s ≡ h.plain → block_verdict s h names ≡ sound
unfolding block_verdict held_against block_rules
held s h names es e a b c =
    rw e (equal-holds 11 (length s) _ _ _ a ∙ equal-holds 11 (length s) _ _ _ b ∙ equal-holds 11 (length s) _ _ _ c ∙ first-none)

module _ (a : Adding) (es : List Entry) (taken : read_by a ≡ given es) (names : ℕ) (known : a.names ≤ names) where
  -- with the names of the dictionary, of which there are no fewer
  pub more-names : entries_of a.plain a.start.0 names ≡ given es
  unfolding read_by
  more-names = read_known a.names a.start.0 es a.plain taken names known

  -- the header of the block that is stored, whatever its number, says what they are
  pub block_reads : (n : ℕ) → block_verdict a.plain (head_of n (block_for a)) names ≡ sound
  unfolding head_of block_for
  block_reads n =
      held a.plain (head_of n (block_for a)) names es more-names (rw taken) (rw taken) refl

-- in a finished file: the header that stands where the block's row leads accepts the plain bytes
module _ (bs : List Block) (v : Valid 0 bs) (few : length bs ≤ 4096) (d : List ℕ) (some : 1 ≤ length d) (fits : length d < 256 ^ 4) where
  pub block-finished : (a : Adding) (es : List Entry) → read_by a ≡ given es → (names : ℕ) → a.names ≤ names → (before after : List Block)
      → bs ≡ before ++ (block_for a ∷ after)
      → block_verdict a.plain (head_at (finished_bytes (table_of bs) (blocks_bytes 0 bs) d) (end_from 64 before)) names ≡ sound
  block-finished a es taken names known before after split =
      rw (head-finished bs v few d some fits before (block_for a) after split) (block_reads a es taken names known (length before))
