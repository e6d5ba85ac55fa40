-- Demand 2: what our writer finishes our reader opens, with the same entries bit for bit; document 01, "Writing": "A
-- finished file's entries and names are those of the plain bytes its accepted addings and closing took". One claim over
-- every list of calls and every closing. Assumes nothing.
use Rattle.std.specs.Prelude.{◌≡◌, List, [], ◌∷◌, ◌++◌, map, ℕ, ◌+◌, ◌*◌, ◌≤◌, length}
use Rattle.verdict.specs.Rules.{sound, broken, Outcome, given}
use Rattle.wire.specs.Wire.{Bytes, le_at, splice}
use Rattle.rows.specs.declared.Row.{Row}
use Rattle.rows.specs.Rows.{stride, table_bytes, first_time}
use Rattle.rows.specs.Rows as rows
use Rattle.layout.specs.Layout.{Block, blocks_bytes, row_for, end_from, finished_bytes, table_of}
use Rattle.blocks.specs.Blocks.{head_at}
use Rattle.entries.specs.Model.{Entry}
use Rattle.entries.specs.Reading.{entries_of, last_time}
use Rattle.entries.specs.Block.{block_verdict}
use Rattle.entries.specs.Shortest.{OnlyShortest}
use Rattle.entries.specs.Packing.{pack_entry, pack, GoodEntry, Good}
use Rattle.names.specs.Dictionary.{name_of, dictionary_of}
use Rattle.frame.specs.declared.Frame.{Frame}
use Rattle.reader.specs.Open.{open_of, open_out}
use Rattle.access.specs.Access.{row_in, stored_of, dictionary_in}
use Rattle.writer.specs.declared.state.Writer.{Writer}
use Rattle.writer.specs.State.{new_writer}
use Rattle.writer_blocks.specs.Block.{Adding, read_by, block_for}
use Rattle.claims.specs.Calls.{Call, close, verdict_for, next, last, addings, new_writing, Fair, Closes, file_of}
use Rattle.claims.specs.Lookups.{LooksUp}
use Rattle.claims.specs.Steps.{EntriesFound}

-- ---- what the reader finds

-- what opening a file of these blocks and this stored dictionary answers, and leaves in a lent table
pub record Opening (answer : Outcome Frame) (f table left stored : List ℕ) (bs : List Block) : Type 0 where
  pub frame : Frame
  pub gives : answer ≡ given frame
  -- "u64 block count": as many as were added
  pub blocks : frame.blocks ≡ length bs
  -- blocks "start at 64, lie end to end and stop at D"
  pub place : frame.dictionary ≡ 64 + length (blocks_bytes 0 bs)
  -- "dictionary: u32 stored size [..]; stored bytes", and the index behind them
  pub size : frame.stored ≡ length stored
  pub index : frame.index ≡ 64 + length (blocks_bytes 0 bs) + 4 + length stored
  -- "First and last time are the first block's start and the last block's end, both 0 with no blocks"
  pub first : frame.first.0 ≡ first_time (table_of bs)
  pub last : frame.last.0 ≡ rows.last_time (table_of bs)
  -- the table then has "start taken, end (the last entry's time), place [..], stored length" of each block, and is
  -- unchanged behind them
  pub leaves : left ≡ splice table 0 (table_bytes (table_of bs))
  -- the dictionary that is handed back is the one that closing took
  pub dictionary : dictionary_in f frame ≡ stored

-- the block of an adding behind others, in a file of so many blocks, with the table that open left and the number of
-- names
pub record Reading (f table : List ℕ) (blocks names : ℕ) (before : List Adding) (a : Adding) : Type 0 where
  -- asked for by its number it has its own row: "numbered 0, 1, 2"
  pub row : Row
  pub located : row_in table blocks (length before) ≡ given row
  pub row_is : row ≡ row_for (length before) (end_from 64 (map block_for before)) (block_for a)
  -- "stored bytes (in the file, opaque)": those that the adding took
  pub stored : stored_of f row ≡ a.stored
  -- the header that stands in the file there accepts the plain bytes that the adding took, "by the reader's rules",
  -- with all names
  pub start : (head_at f row.offset).start ≡ a.start
  pub accepted : block_verdict a.plain (head_at f row.offset) names ≡ sound
  -- "A finished file's entries [..] are those of the plain bytes its accepted addings [..] took": what is read from
  -- there is what the adding read, and what the cursor's steps find
  pub entries : List Entry
  pub took : read_by a ≡ given entries
  pub reads : entries_of a.plain (head_at f row.offset).start.0 names ≡ given entries
  pub steps : EntriesFound a.plain names (head_at f row.offset).start.0 0 entries

-- all of it, of a file, the addings, and what closing took
pub record Finished (f : List ℕ) (xs : List Adding) (plain stored : List ℕ) : Type 0 where
  -- "The file, byte by byte", of the addings' blocks and the stored dictionary
  pub bytes : f ≡ finished_bytes (table_of (map block_for xs)) (blocks_bytes 0 (map block_for xs)) stored
  pub opens : (table : List ℕ) → length xs * stride ≤ length table
      → Opening (open_of f (length table)) f table (open_out f table) stored (map block_for xs)
  pub blocks : (table : List ℕ) → length xs * stride ≤ length table
      → (before : List Adding) (a : Adding) (later : List Adding) → xs ≡ before ++ (a ∷ later)
      → Reading f (open_out f table) (length xs) (le_at 4 plain 0) before a
  -- "A finished file's [..] names are those of the plain bytes its [..] closing took": by the reader's rules of a plain
  -- dictionary, and by lookup
  pub accepted : dictionary_of plain ≡ given (le_at 4 plain 0)
  pub names : LooksUp plain (le_at 4 plain 0) (name_of plain)

-- ---- the demand

-- "close comes last [..] Any other turn is 17": each call of a list is out of turn
unfoldable pub AllLate : Writer → List Call → Type 0
AllLate w [] = Unit {0}
AllLate w (c ∷ cs) = (verdict_for w c ≡ broken 17 0) × AllLate (next w c) cs

-- every list of calls of a new writer, every closing that is accepted behind them, and any calls behind that
pub record Demand2 : Type 0 where
  pub finished : (cs : List Call) (t plain stored out : List ℕ)
      → Fair new_writing (cs ++ (close t plain stored out ∷ [])) → Closes cs t plain stored out → (later : List Call)
      → Finished (file_of cs t plain stored out later) (addings new_writer cs) plain stored
  pub late : (cs : List Call) (t plain stored out : List ℕ) → Closes cs t plain stored out → (later : List Call)
      → AllLate (last new_writer (cs ++ (close t plain stored out ∷ []))) later

-- ---- plain bytes and entries

-- the round trips of a block's plain bytes, with a number of names and a start
pub record RoundTrips (names start : ℕ) (es : List Entry) : Type 0 where
  -- entries that can be packed are read as they were, with only shortest varints: "the writer makes the shortest"
  pub read-packed : 1 ≤ length es → Good names start 0 start es → entries_of (pack start es) start names ≡ given es
  pub packed-short : Good names start 0 start es → OnlyShortest (pack start es)
  -- plain bytes that are read, and have only shortest varints, are packed again as the same bytes
  pub packed-read : (s : List ℕ) → Bytes s → entries_of s start names ≡ given es → OnlyShortest s → pack start es ≡ s
  -- "The reader accepts longer forms": entries read from them are packed into bytes that are read as the same entries
  pub packed-anew : (s : List ℕ) → Bytes s → entries_of s start names ≡ given es
      → entries_of (pack start es) start names ≡ given es
  -- an entry that can be packed behind them is read behind them
  pub read-appended : (s : List ℕ) → entries_of s start names ≡ given es → (e : Entry)
      → GoodEntry names start (length es) (last_time start es) e
      → entries_of (s ++ pack_entry start e) start names ≡ given (es ++ (e ∷ []))

-- of any names, start and entries
unfoldable pub EntryTrips : Type 0
EntryTrips = (names start : ℕ) (es : List Entry) → RoundTrips names start es
