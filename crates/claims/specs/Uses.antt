-- A whole use: names and entries added over several blocks, closed, opened and stepped through. What was added under a
-- name is read under that name, with its time and its bits. Assumes nothing.
use Rattle.std.specs.Prelude.{◌≡◌, List, [], ◌∷◌, ◌++◌, map, ℕ, ◌*◌, ◌≤◌, length, get_or}
use Rattle.verdict.specs.Rules.{sound, given}
use Rattle.rows.specs.declared.Row.{Row}
use Rattle.rows.specs.Rows.{stride}
use Rattle.blocks.specs.Blocks.{head_at}
use Rattle.cursor.specs.Model.{Val}
use Rattle.cursor.specs.Model as model
use Rattle.entries.specs.Model.{Entry}
use Rattle.lookup.specs.Lookup.{lookup_of, name_in}
use Rattle.packing.specs.Entry.{fields_in}
use Rattle.packing.specs.Table.{records_in, fields_of}
use Rattle.reader.specs.Open.{open_of, open_out}
use Rattle.access.specs.Access.{row_in, stored_of}
use Rattle.writer.specs.declared.state.Writer.{Writer}
use Rattle.writer.specs.State.{new_writer}
use Rattle.writer_entries.specs.Entry.{entry_of}
use Rattle.writer_blocks.specs.Block.{Adding, block_for, block_of}
use Rattle.claims.specs.Calls.{Call, begin, name, entry, block, close, if_given, verdict_for, next, addings}
use Rattle.claims.specs.Calls.{Writing, new_writing, after, behind, Fair, Closes, file_of}
use Rattle.claims.specs.Built.{held_after, names_held, built_names, open_adding}
use Rattle.claims.specs.Demand2.{Opening}
use Rattle.claims.specs.Lookups.{LooksUp}
use Rattle.claims.specs.Steps.{EntriesFound}

-- ---- what a caller adds

-- a field under its name, and an entry of such fields
pub record NamedField : Type 0 where
  pub name : List ℕ
  pub value : Val

pub record NamedEntry : Type 0 where
  pub time : ℕ
  pub fields : List NamedField

-- entries, their fields under the names that their numbers have
unfoldable pub named_fields : (ℕ → List ℕ) → List model.Field → List NamedField
named_fields of [] = []
named_fields of (f ∷ fs) = record { name = of f.id; value = f.value } ∷ named_fields of fs

unfoldable pub named : (ℕ → List ℕ) → List Entry → List NamedEntry
named of [] = []
named of (e ∷ es) = record { time = e.time; fields = named_fields of e.fields } ∷ named of es

-- those of the open block after a call, with the names held before it: an entry that is accepted comes behind them,
-- under the names held then; "Adding a block ends any open one"
unfoldable pub named_after : List NamedEntry → List (List ℕ) → Writer → Call → List NamedEntry
named_after os ns w (begin out) = os
named_after os ns w (name d bytes) = os
named_after os ns w (entry p t text fields) =
    if_given (entry_of w t text (records_in fields) (fields_of fields) (length p))
    (λ v. os ++ named (λ i. get_or ns i []) (record { time = t.0; fields = fields_in text (fields_of fields) } ∷ []))
    os
named_after os ns w (block t a out) = if_given (block_of w a (length t) (length out)) (λ s. []) os
named_after os ns w (close t plain stored out) = os

-- the block that a call ends
unfoldable pub ended_by : List NamedEntry → Writer → Call → List (List NamedEntry)
ended_by os w (begin out) = []
ended_by os w (name d bytes) = []
ended_by os w (entry p t text fields) = []
ended_by os w (block t a out) = if_given (block_of w a (length t) (length out)) (λ s. os ∷ []) []
ended_by os w (close t plain stored out) = []

unfoldable pub log_behind : List NamedEntry → List (List ℕ) → Writer → List Call → List (List NamedEntry)
log_behind os ns w [] = []
log_behind os ns w (c ∷ cs) = ended_by os w c ++ log_behind (named_after os ns w c) (held_after ns w c) (next w c) cs

-- the entries of each block that the calls ended, in order
abbrev pub log_of : List Call → List (List NamedEntry)
log_of cs = log_behind [] [] new_writer cs

-- ---- what is asked of the calls

-- a block that is added is the open one: its start, its plain bytes and the names held
abbrev pub OfOpen : Writing → Call → Type 0
OfOpen h (begin out) = Unit {0}
OfOpen h (name d bytes) = Unit {0}
OfOpen h (entry p t text fields) = Unit {0}
OfOpen h (block t a out) = verdict_for h.writer (block t a out) ≡ sound → a ≡ open_adding h a.stored
OfOpen h (close t plain stored out) = Unit {0}

unfoldable pub AllOfOpen : Writing → List Call → Type 0
AllOfOpen h [] = Unit {0}
AllOfOpen h (c ∷ cs) = OfOpen h c × AllOfOpen (after h c) cs

-- ---- what a reader finds

-- block i of a file, with the table that open left: its row by its number, the stored bytes that its adding took, and,
-- by the steps over the plain bytes of which those are the stored ones, its entries, each field under the name that
-- lookup finds for its number
pub record BlockRead
    (f table plain : List ℕ) (blocks names i : ℕ) (xs : List Adding) (es : List NamedEntry) : Type 0 where
  pub before : List Adding
  pub added : Adding
  pub later : List Adding
  pub addings-are : xs ≡ before ++ (added ∷ later)
  pub number : length before ≡ i
  pub row : Row
  pub located : row_in table blocks i ≡ given row
  pub stored : stored_of f row ≡ added.stored
  pub start : row.start ≡ (head_at f row.offset).start
  pub entries : List Entry
  pub steps : EntriesFound added.plain names row.start.0 0 entries
  pub named-are : es ≡ named (λ i. name_in (lookup_of plain i) plain) entries

-- of a file, the calls that stored it, and the plain and the stored dictionary that closing took
pub record Used (f : List ℕ) (cs : List Call) (plain stored : List ℕ) : Type 0 where
  -- as many blocks as the calls ended, and the names that they held
  pub blocks : length (addings new_writer cs) ≡ length (log_of cs)
  pub names : LooksUp plain (length (names_held cs)) (λ i. get_or (names_held cs) i [])
  pub opens : (table : List ℕ) → length (log_of cs) * stride ≤ length table
      → Opening (open_of f (length table)) f table (open_out f table) stored (map block_for (addings new_writer cs))
  -- each block is read as it was added, under its names
  pub reads : (table : List ℕ) → length (log_of cs) * stride ≤ length table
      → (done : List (List NamedEntry)) (es : List NamedEntry) (later : List (List NamedEntry))
      → log_of cs ≡ done ++ (es ∷ later) → (
      let blocks = length (log_of cs) in
      let names = length (names_held cs) in
      BlockRead f (open_out f table) plain blocks names (length done) (addings new_writer cs) es)

-- every list of calls of a new writer, refused ones too, in which the blocks that are added are the open ones, a
-- closing that is accepted behind them with the plain dictionary that they built, and any calls behind that
unfoldable pub WholeUse : Type 0
WholeUse =
    (cs : List Call) (t stored out : List ℕ) → (
    let plain = built_names (behind new_writing cs) in
    Fair new_writing (cs ++ (close t plain stored out ∷ [])) → AllOfOpen new_writing cs → 1 ≤ length (names_held cs)
    → Closes cs t plain stored out → (later : List Call) → Used (file_of cs t plain stored out later) cs plain stored)
