-- The reading steps at the C edge: "On a refusal all but number and place is 0" (include/hplog.h). Assumes nothing.
use Rattle.std.specs.Prelude.{Result, Ok, Err}
use Rattle.cursor.specs.declared.Field.{Field}
use Rattle.parts.specs.declared.time.Delta.{Delta}
use Rattle.std.specs.Prelude.{ℕ}
use Rattle.std.proofs.Common.{of_z}
use Rattle.std.specs.Int.{w64}
use Rattle.verdict.specs.declared.Refusal.{Refusal}
use Rattle.cursor.specs.Model.{bit_of}
use Rattle.cursor.specs.declared.values.Value.{Value}
use Rattle.cursor.specs.declared.values.Value.TheVariants.{Text, Whole, Real, Truth, Null, Json}
use Rattle.cursor.specs.declared.Cursor.{Cursor}
use Rattle.packing.specs.Entry.{kind_code}
use Rattle.c_payload.specs.declared.Step.{Step}
use Rattle.c_payload.specs.declared.FieldAnswer.{FieldAnswer}

abbrev pub front : Cursor
front = record { at = 0 }

abbrev pub stepped : (value : ℕ) → Cursor → Step
stepped value next = record { number = 0; place = 0; value = value; next = next }

abbrev pub stopped : Refusal → Step
stopped r = record { number = r.number; place = r.place; value = 0; next = front }

abbrev pub delta_answer : Result (Delta × Cursor) Refusal → Step
delta_answer (Ok (d, c)) = stepped d.0 c
delta_answer (Err r) = stopped r

abbrev pub count_answer : Result (ℕ × Cursor) Refusal → Step
count_answer (Ok (n, c)) = stepped n c
count_answer (Err r) = stopped r

-- "of 1 the number in two's complement, of 2 the bits of the real, of 3 0 or 1; else 0"
abbrev pub bits_of : Value → ℕ
bits_of (Text p n) = 0
bits_of (Whole z) = of_z w64 z
bits_of (Real x b) = b
bits_of (Truth b) = bit_of b
bits_of Null = 0
bits_of (Json p n) = 0

-- "where in the payload the bytes of 0 and 5 stand; else 0"
abbrev pub from_of : Value → ℕ
from_of (Text p n) = p
from_of (Whole z) = 0
from_of (Real x b) = 0
from_of (Truth b) = 0
from_of Null = 0
from_of (Json p n) = p

abbrev pub length_of : Value → ℕ
length_of (Text p n) = n
length_of (Whole z) = 0
length_of (Real x b) = 0
length_of (Truth b) = 0
length_of Null = 0
length_of (Json p n) = n

abbrev pub read_field : (id kind bits from length : ℕ) → Cursor → FieldAnswer
read_field id kind bits from length next =
    record { number = 0; place = 0; id = id; kind = kind; bits = bits; from = from; length = length; next = next }

abbrev pub field_answer : Result (Field × Cursor) Refusal → FieldAnswer
field_answer (Ok (f, c)) =
    read_field f.id (kind_code f.value) (bits_of f.value) (from_of f.value) (length_of f.value) c
field_answer (Err r) =
    record { number = r.number; place = r.place; id = 0; kind = 0; bits = 0; from = 0; length = 0; next = front }
