-- The entries of a payload by the cursor's three steps (document 01: "Each reading step takes a position and gives the
-- next one back"). Assumes nothing.
use Rattle.std.specs.Prelude.{Ok, Err}
use Rattle.std.specs.Prelude.{◌≡◌, List, [], ◌∷◌, ℕ, zero, suc, ◌+◌, ◌≤◌, ◌<◌, length}
use Rattle.verdict.specs.Rules.{given}
use Rattle.wire.specs.Wire.{Bytes}
use Rattle.parts.specs.declared.time.Delta.{Delta}
use Rattle.cursor.specs.Model as model
use Rattle.cursor.specs.Answers.{refusal, delta_at, count_at, field_at, val_in}
use Rattle.cursor.specs.declared.Field.{Field}
use Rattle.cursor.specs.declared.Cursor.{Cursor}
use Rattle.entries.specs.Model.{Entry}
use Rattle.entries.specs.Reading.{entries_of}

-- k field steps from a position find these fields, and end at a position
unfoldable pub FieldsFound : (s : List ℕ) (names k at : ℕ) → List model.Field → (end : ℕ) → Type 0
FieldsFound s names zero at [] end = at ≡ end
FieldsFound s names zero at (f ∷ fs) end = ⊥
FieldsFound s names (suc k) at [] end = ⊥
FieldsFound s names (suc k) at (f ∷ fs) end =
    (found : Field) × (c : Cursor) × (field_at s names at ≡ Ok (found, c))
    × (f ≡ record { id = found.id; value = val_in s found.value }) × FieldsFound s names k c.at fs end

-- an entry's delta, its count and its fields, found from a position on
pub record EntryFound (s : List ℕ) (names start at : ℕ) (e : Entry) (end : ℕ) : Type 0 where
  pub delta : Delta
  pub behind-delta : Cursor
  pub fields : ℕ
  pub behind-count : Cursor
  pub delta-is : delta_at s at ≡ Ok (delta, behind-delta)
  pub time-is : e.time ≡ start + delta.0
  pub count-is : count_at s behind-delta.at ≡ Ok (fields, behind-count)
  pub found : FieldsFound s names fields behind-count.at e.fields end

-- the steps find these entries from a position on, and then stand at the payload's end, where the next step is "11 at
-- its length"
unfoldable pub EntriesFound : (s : List ℕ) (names start at : ℕ) → List Entry → Type 0
EntriesFound s names start at [] = (length s ≤ at) × (delta_at s at ≡ Err (refusal 11 (length s)))
EntriesFound s names start at (e ∷ es) =
    (at < length s) × ((end : ℕ) × EntryFound s names start at e end × EntriesFound s names start end es)

-- every payload that is read: the steps find what `entries_of` gives
unfoldable pub StepsRead : Type 0
StepsRead =
    (s : List ℕ) (start names : ℕ) (es : List Entry) → Bytes s → entries_of s start names ≡ given es
    → EntriesFound s names start 0 es
