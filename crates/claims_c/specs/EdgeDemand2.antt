-- Demand 2 over the calls of include/hplog.h: what the writer's calls finished is opened by hplog_open, stepped through
-- by hplog_delta, hplog_count and hplog_field, and named by hplog_names and hplog_name. Assumes nothing.
use Rattle.std.specs.Prelude.{◌≡◌, List, [], ◌∷◌, ◌++◌, map, ℕ, zero, suc, ◌+◌, ◌*◌, ◌≤◌, ◌<◌, eqb, length, get_or}
use Rattle.verdict.specs.Rules.{given, refused}
use Rattle.wire.specs.Wire.{le_at, part, splice}
use Rattle.rows.specs.Rows.{stride, row_at}
use Rattle.cursor.specs.Model.{Val, text, whole, real, truth, null, json}
use Rattle.cursor.specs.Model as model
use Rattle.cursor.specs.Answers.{delta_at, count_at, field_at}
use Rattle.entries.specs.Model.{Entry}
use Rattle.names.specs.Dictionary.{name_of}
use Rattle.frame.specs.declared.Frame.{Frame}
use Rattle.writer.specs.State.{new_writer}
use Rattle.writer_blocks.specs.Block.{Adding, read_by, block_for}
use Rattle.c_answer.specs.Answer.{answered}
use Rattle.c_open.specs.Open.{frame_bytes, c_open_of, c_open_rows, c_open_frame}
use Rattle.c_names.specs.Names.{c_names_of, c_name_of}
use Rattle.c_payload.specs.Steps.{delta_answer, count_answer, field_answer}
use Rattle.disk.specs.Disk.{finished}
use Rattle.claims.specs.Calls.{Call, close, addings, new_writing, behind, Fair}
use Rattle.claims.specs.Built.{names_held, built_names}
use Rattle.claims.specs.Demand2.{Opening}
use Rattle.claims.specs.Uses.{NamedEntry, named, log_of, AllOfOpen}
use Rattle.claims_c.specs.Edge.{new_state, answer_to, c_last, c_run}

-- ---- the steps

-- the value that hplog_field answers, by its type: "bits: of 1 the number in two's complement, of 2 the bits of the
-- real, of 3 0 or 1 [..] from, length: where in the payload the bytes of 0 and 5 stand"
unfoldable pub value_in : (payload : List ℕ) (kind bits from length : ℕ) → Val
value_in s zero bits from n = text (part s from n)
value_in s (suc zero) bits from n = whole bits
value_in s (suc (suc zero)) bits from n = real bits
value_in s (suc (suc (suc zero))) bits from n = truth (eqb bits 1)
value_in s (suc (suc (suc (suc zero)))) bits from n = null
value_in s (suc (suc (suc (suc (suc k))))) bits from n = json (part s from n)

-- k calls of hplog_field from a position are accepted, answer these fields, and end at a position
unfoldable pub EdgeFields : (s : List ℕ) (names k at : ℕ) → List model.Field → (end : ℕ) → Type 0
EdgeFields s names zero at [] end = at ≡ end
EdgeFields s names zero at (f ∷ fs) end = ⊥
EdgeFields s names (suc k) at [] end = ⊥
EdgeFields s names (suc k) at (f ∷ fs) end =
    let r = field_answer (field_at s names at) in
    (r.number ≡ 0) × (r.id ≡ f.id) × (value_in s r.kind r.bits r.from r.length ≡ f.value)
    × EdgeFields s names k r.next.at fs end

-- "a delta, a field count, so many fields": an entry by hplog_delta, hplog_count behind it, and hplog_field
unfoldable pub EdgeEntry : (s : List ℕ) (names start at : ℕ) → Entry → (end : ℕ) → Type 0
EdgeEntry s names start at e end =
    let d = delta_answer (delta_at s at) in
    let c = count_answer (count_at s d.next.at) in
    (d.number ≡ 0) × (start + d.value ≡ e.time) × (c.number ≡ 0)
    × EdgeFields s names c.value c.next.at e.fields end

-- these entries from a position on; at the payload's end hplog_delta answers 11, "place: the payload's length"
unfoldable pub EdgeSteps : (s : List ℕ) (names start at : ℕ) → List Entry → Type 0
EdgeSteps s names start at [] =
    let d = delta_answer (delta_at s at) in
    (length s ≤ at) × (d.number ≡ 11) × (d.place ≡ length s)
EdgeSteps s names start at (e ∷ es) =
    (at < length s) × ((end : ℕ) × EdgeEntry s names start at e end × EdgeSteps s names start end es)

-- ---- names

-- "place = the offset of its bytes, count = how many they are": the bytes that hplog_name answers for a number
abbrev pub c_name_in : (dictionary : List ℕ) (i : ℕ) → List ℕ
c_name_in s i = part s (c_name_of s i).place (c_name_of s i).count

-- hplog_names answers with so many names, hplog_name with each of them, and with (14, i) from their number on
pub record EdgeNames (dictionary : List ℕ) (count : ℕ) (name : ℕ → List ℕ) : Type 0 where
  pub counted : c_names_of dictionary ≡ answered (given count)
  pub accepted : (i : ℕ) → i < count → (c_name_of dictionary i).number ≡ 0
  pub bytes : (i : ℕ) → i < count → c_name_in dictionary i ≡ name i
  pub past : (i : ℕ) → count ≤ i → c_name_of dictionary i ≡ answered (refused 14 i)

-- ---- opening, and a block

-- what hplog_open is lent: room for the rows and for a frame
pub record Lends (rows frame : List ℕ) (blocks : ℕ) : Type 0 where
  pub room : blocks * stride ≤ length rows
  pub frame-room : 40 ≤ length frame

-- hplog_open answers with the number of blocks, and leaves the bytes of a frame and the rows, as opening gives both: a
-- row of each block, and a frame that says which part of the file the stored dictionary is
pub record EdgeOpening (f rows frame stored : List ℕ) (xs : List Adding) : Type 0 where
  pub answers : c_open_of f (length rows) (length frame) ≡ answered (given (length xs))
  pub found : Frame
  pub leaves-frame : c_open_frame f (length rows) frame ≡ splice frame 0 (frame_bytes found)
  pub opens : Opening (given found) f rows (c_open_rows f rows (length frame)) stored (map block_for xs)

-- an adding's block by row i of the rows that hplog_open left: its start, its stored bytes behind 36 of header, and the
-- entries that the steps find in its plain bytes
pub record EdgeBlock (f rows : List ℕ) (names i : ℕ) (a : Adding) (es : List Entry) : Type 0 where
  pub start : (row_at rows i).start ≡ a.start
  pub stored : part f ((row_at rows i).offset + 36) (row_at rows i).stored ≡ a.stored
  pub steps : EdgeSteps a.plain names (row_at rows i).start.0 0 es

-- ---- the demand

-- hplog_close is accepted behind these calls
abbrev pub HostCloses : List Call → (table plain stored out : List ℕ) → Type 0
HostCloses cs t plain stored out = (answer_to (c_last new_state cs) (close t plain stored out)).answer.number ≡ 0

-- the file that the calls and hplog_close store, with any calls behind it
abbrev pub c_file : List Call → (table plain stored out : List ℕ) → List Call → List ℕ
c_file cs t plain stored out later = finished (c_run new_state (cs ++ (close t plain stored out ∷ later)))

-- of a file, the addings, and what closing took: the file opens, each block has the entries that its adding read, and
-- the names are those of the plain dictionary
pub record EdgeFinished (f : List ℕ) (xs : List Adding) (plain stored : List ℕ) : Type 0 where
  pub opens : (rows frame : List ℕ) → Lends rows frame (length xs) → EdgeOpening f rows frame stored xs
  pub blocks : (rows frame : List ℕ) → Lends rows frame (length xs)
      → (before : List Adding) (a : Adding) (later : List Adding) → xs ≡ before ++ (a ∷ later)
      → (es : List Entry) × (read_by a ≡ given es)
      × EdgeBlock f (c_open_rows f rows (length frame)) (le_at 4 plain 0) (length before) a es
  pub names : EdgeNames plain (le_at 4 plain 0) (name_of plain)

-- every list of calls of a new writer, every hplog_close that is accepted behind them, and any calls behind that
unfoldable pub EdgeDemand2 : Type 0
EdgeDemand2 =
    (cs : List Call) (t plain stored out : List ℕ) → Fair new_writing (cs ++ (close t plain stored out ∷ []))
    → HostCloses cs t plain stored out → (later : List Call)
    → EdgeFinished (c_file cs t plain stored out later) (addings new_writer cs) plain stored

-- ---- the whole use

-- block i is read as these entries, each field under the name that hplog_name answers for its id
pub record EdgeNamed (f rows plain : List ℕ) (names i : ℕ) (xs : List Adding) (es : List NamedEntry) : Type 0 where
  pub before : List Adding
  pub added : Adding
  pub later : List Adding
  pub addings-are : xs ≡ before ++ (added ∷ later)
  pub number : length before ≡ i
  pub entries : List Entry
  pub block : EdgeBlock f rows names i added entries
  pub named-are : es ≡ named (c_name_in plain) entries

-- of a file, the calls that stored it, and the plain and the stored dictionary that closing took
pub record EdgeUsed (f : List ℕ) (cs : List Call) (plain stored : List ℕ) : Type 0 where
  -- as many blocks as the calls ended, and the names that they held
  pub blocks : length (addings new_writer cs) ≡ length (log_of cs)
  pub names : EdgeNames plain (length (names_held cs)) (λ i. get_or (names_held cs) i [])
  pub opens : (rows frame : List ℕ) → Lends rows frame (length (log_of cs))
      → EdgeOpening f rows frame stored (addings new_writer cs)
  -- each block is read as it was added, under its names
  pub reads : (rows frame : List ℕ) → Lends rows frame (length (log_of cs))
      → (done : List (List NamedEntry)) (es : List NamedEntry) (later : List (List NamedEntry))
      → log_of cs ≡ done ++ (es ∷ later) → (
      let left = c_open_rows f rows (length frame) in
      EdgeNamed f left plain (length (names_held cs)) (length done) (addings new_writer cs) es)

-- every list of calls of a new writer, refused ones too, in which the blocks that are added are the open ones, an
-- hplog_close that is accepted behind them with the plain dictionary that they built, and any calls behind that
unfoldable pub EdgeUse : Type 0
EdgeUse =
    (cs : List Call) (t stored out : List ℕ) → (
    let plain = built_names (behind new_writing cs) in
    Fair new_writing (cs ++ (close t plain stored out ∷ [])) → AllOfOpen new_writing cs → 1 ≤ length (names_held cs)
    → HostCloses cs t plain stored out → (later : List Call)
    → EdgeUsed (c_file cs t plain stored out later) cs plain stored)
