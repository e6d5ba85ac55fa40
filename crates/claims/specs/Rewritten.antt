-- The last sentence of demand 2, over the writer's calls: "Entries read from a payload under 30 seconds with only
-- shortest varints are written again as the same bytes". One claim behind every list of calls. Assumes nothing.
use Rattle.std.specs.Prelude.{◌≡◌, true, false, List, [], ◌∷◌, ℕ, ◌+◌, ◌≤◌, ◌<◌, length}
use Rattle.verdict.specs.Rules.{sound, given}
use Rattle.wire.specs.Wire.{Bytes}
use Rattle.parts.specs.Time.{block_span}
use Rattle.entries.specs.Model.{Entry}
use Rattle.entries.specs.Reading.{entries_of, last_time}
use Rattle.entries.specs.Shortest.{OnlyShortest}
use Rattle.packing.specs.Entry.{fields_in}
use Rattle.packing.specs.Inner.{AllWithin}
use Rattle.packing.specs.Rules.{largest}
use Rattle.packing.specs.Table.{fields_of}
use Rattle.writer.specs.declared.state.Writer.{Writer}
use Rattle.writer.specs.State.{is_open, is_begun}
use Rattle.claims.specs.Calls.{Call, entry, verdict_for, next, lent_to, left_by}
use Rattle.claims.specs.Calls.{Writing, new_writing, behind, Fair}
use Rattle.claims.specs.Built.{built_plain}

-- ---- calls that add entries

-- a table of records and a text stand for an entry's fields: each by its id and value, a text by "its place and length"
pub record Stands (e : Entry) (text fields : List ℕ) : Type 0 where
  pub same : fields_in text (fields_of fields) ≡ e.fields
  pub within : AllWithin (length text) (fields_of fields)

-- one call for each entry, in order ("order is kept"), with its time and its fields, lent a buffer with so much room
pub data Adds (room : ℕ) : List Entry → List Call → Type 0 where
  none : Adds room [] []
  more : {e : Entry} {es : List Entry} {payload text fields : List ℕ} {cs : List Call}
      → Stands e text fields → room ≤ length payload → Adds room es cs
      → Adds room (e ∷ es) (entry payload (record { 0 = e.time }) text fields ∷ cs)

-- each call of a list is accepted
unfoldable pub AllAccepted : Writer → List Call → Type 0
AllAccepted w [] = Unit {0}
AllAccepted w (c ∷ cs) = (verdict_for w c ≡ sound) × AllAccepted (next w c) cs

-- they are lent one buffer: this one first, and then what the call before left of it
unfoldable pub InBuffer : List ℕ → Writer → List Call → Type 0
InBuffer p w [] = Unit {0}
InBuffer p w (c ∷ cs) = ((lent_to c).kept ≡ p) × InBuffer (left_by w c).kept (next w c) cs

-- ---- the claim

-- where a payload can be written: behind begin, with no block open; its start isn't "below [..] the block's end
-- before"; "Blocks, at most 4,096", and this is one more; its names are held; its "plain length" isn't "above 32 bits"
pub record Ready (w : Writer) (s : List ℕ) (start names : ℕ) : Type 0 where
  pub turn : is_begun w.turn ≡ true
  pub shut : is_open w ≡ false
  pub after : w.end.0 ≤ start
  pub few : w.blocks < 4096
  pub known : names ≤ w.names
  pub fits : length s ≤ largest

-- a payload that reads as these entries, "under 30 seconds with only shortest varints"
pub record Payload (s : List ℕ) (start names : ℕ) (es : List Entry) : Type 0 where
  pub bytes : Bytes s
  pub reads : entries_of s start names ≡ given es
  pub shortest : OnlyShortest s
  pub soon : last_time start es < start + block_span

-- each call is accepted, and "the open block's plain bytes" are then the payload, byte for byte, with its start and the
-- last entry's time
pub record Rewrites (k : Writing) (s : List ℕ) (start : ℕ) (es : List Entry) (ds : List Call) : Type 0 where
  pub accepted : AllAccepted k.writer ds
  pub bytes : built_plain (behind k ds) ≡ s
  pub plain : (behind k ds).writer.pending.plain ≡ length s
  pub first : (behind k ds).writer.pending.start.0 ≡ start
  pub last : (behind k ds).writer.pending.last.0 ≡ last_time start es

-- behind every list of calls, whatever calls add the entries of such a payload, and whatever buffers they are lent
unfoldable pub Rewritten : Type 0
Rewritten =
    (cs : List Call) → (
    let k = behind new_writing cs in
    (s : List ℕ) (start names : ℕ) (es : List Entry) → Payload s start names es → Ready k.writer s start names
    → (ds : List Call) → Adds (length s) es ds → Fair k ds → Rewrites k s start es ds)

-- calls that add entries in one buffer
pub record Rewriting (k : Writing) (room : ℕ) (p : List ℕ) (es : List Entry) : Type 0 where
  pub calls : List Call
  pub adds : Adds room es calls
  pub fair : Fair k calls
  pub lent : InBuffer p k.writer calls

-- and there are such calls, in any buffer with room
unfoldable pub Rewritable : Type 0
Rewritable =
    (cs : List Call) → (
    let k = behind new_writing cs in
    (s : List ℕ) (start names : ℕ) (es : List Entry) → Payload s start names es → Ready k.writer s start names
    → (p : List ℕ) → length s ≤ length p → Rewriting k (length s) p es)
