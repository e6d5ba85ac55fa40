-- Calls that add the entries of a payload: for each a table of records and a text that stand for its fields. Assumes nothing.
use mathlib.Core.Path.{◌≡◌, refl, sym, ap, ap₂, ◌∙◌}
use mathlib.Core.Bool.{true, false}
use mathlib.Core.List.{List, [], ◌∷◌, ◌++◌, append_assoc}
use Prim.Native.Nat.{ℕ, suc, ◌+◌, ◌-◌, ◌*◌, ◌/◌, ◌^◌, ◌≤◌, ◌<◌}
use native.Mathlib.Omega.{arith}
use lib.ListN.{length, take, drop, length-append}
use lib.Seq.{drop-append_seam, take-append_seam}
use lib.Ieee.{binary64, of_bits}
use mir.Val.{to_z, of_z}
use mir.ValLaws.{of_z-to_z}
use mir.Syntax.{w64}
use borrow.Author.Tests.{le-leb}
use Rattle.verdict.specs.Rules.{Verdict, sound, broken, first_broken, if_sound}
use Rattle.wire.specs.Wire.{Bytes, le, le_at, splice}
use Rattle.wire.proofs.Lists.{bytes-append}
use Rattle.wire.proofs.Numbers.{length-le, le_bytes, le_at-back, le_at-le}
use Rattle.wire.proofs.Splices.{length-splice}
use Rattle.varint.specs.Varint.{encode}
use Rattle.cursor.specs.Model.{Val, text, whole, real, truth, null, json, kind_of, bytes_of, bit_of}
use Rattle.cursor.specs.Model as model
use Rattle.cursor.specs.Answers.{val_in}
use Rattle.cursor.specs.declared.values.Value.{Value}
use Rattle.cursor.specs.declared.values.Value.TheVariants.{Text, Whole, Real, Truth, Null, Json}
use Rattle.cursor.specs.declared.Field.{Field}
use Rattle.entries.specs.Model.{Entry}
use Rattle.entries.specs.Packing.{pack_field, pack_fields, pack_entry, pack, GoodVal, GoodFields, GoodEntry, Good}
use Rattle.entries.proofs.RoundTrip.{packed-read, read-good}
use Rattle.packing.specs.Entry.{kind_code, size_of, field_in, fields_in}
use Rattle.packing.specs.Inner.{Within, AllWithin}
use Rattle.packing.specs.Rules.{largest}
use Rattle.packing.specs.Table.{records_in, truth_for, value_for, record_at, records_from, fields_of}
use Rattle.writer.specs.declared.state.Writer.{Writer}
use Rattle.writer_entries.specs.Entry.{entry_rules, entry_of, entry_out}
use Rattle.claims.specs.Calls.{Call, entry, next, lent_to, left_by, Writing, new_writing, payload_after, after, behind, Fair}
use Rattle.claims.specs.Rewritten.{Stands, Adds, none, more, InBuffer, Rewritable}
use Rattle.claims.proofs.Entries.{not-open}

-- ---- the texts of fields end to end, and the fields that say where they stand

unfoldable text_of : Val → List ℕ
text_of (text s) = s
text_of (whole n) = []
text_of (real n) = []
text_of (truth b) = []
text_of null = []
text_of (json s) = s

unfoldable placed : (at : ℕ) → Val → Value
placed at (text s) = Text at (length s)
placed at (whole n) = Whole (to_z w64 n)
placed at (real n) = Real (of_bits binary64 n) n
placed at (truth b) = Truth b
placed at null = Null
placed at (json s) = Json at (length s)

unfoldable texts_of : List model.Field → List ℕ
texts_of [] = []
texts_of (f ∷ fs) = text_of f.value ++ texts_of fs

unfoldable all_placed : (at : ℕ) → List model.Field → List Field
all_placed at [] = []
all_placed at (f ∷ fs) = record { id = f.id; value = placed at f.value } ∷ all_placed (at + length (text_of f.value)) fs

part-there : (a s b : List ℕ) → take (length s) (drop (length a) (a ++ (s ++ b))) ≡ s
part-there a s b = rw (drop-append_seam a (s ++ b)) (take-append_seam s b)

value-back : (a b : List ℕ) (v : Val) → GoodVal v → val_in (a ++ (text_of v ++ b)) (placed (length a) v) ≡ v
unfolding val_in text_of placed GoodVal
value-back a b (text s) g = ap text (part-there a s b)
value-back a b (whole n) g = ap whole (of_z-to_z w64 n (record { fits = g }))
value-back a b (real n) g = refl
value-back a b (truth t) g = refl
value-back a b null g = refl
value-back a b (json s) g = ap json (part-there a s b)

fields_back : (names : ℕ) (fs : List model.Field) (a : List ℕ) → GoodFields names fs → fields_in (a ++ texts_of fs) (all_placed (length a) fs) ≡ fs
unfolding fields_in field_in texts_of all_placed GoodFields
fields_back names [] a g = refl
fields_back names (f ∷ fs) a g =
    let t = text_of f.value in
    let r : fields_in (a ++ (t ++ texts_of fs)) (all_placed (length a + length t) fs) ≡ fs =
    rw (append_assoc a t (texts_of fs), length-append a t) at (fields_back names fs (a ++ t) g.1) in
    ap₂ ◌∷◌ (ap (λ (v : Val). record { id = f.id; value = v }) (value-back a (texts_of fs) f.value g.0.value)) r

value-within : (at all : ℕ) (v : Val) → at + length (text_of v) ≤ all → length (text_of v) ≤ largest
    → Within all (placed at v) × (size_of (placed at v) < 4294967296)
unfolding placed text_of
value-within at all (text s) h l = (h, omega arith)
value-within at all (whole n) h l = (tt, omega arith)
value-within at all (real n) h l = (tt, omega arith)
value-within at all (truth t) h l = (tt, omega arith)
value-within at all null h l = (tt, omega arith)
value-within at all (json s) h l = (h, omega arith)

fields_within : (all at : ℕ) (fs : List model.Field) → at + length (texts_of fs) ≤ all → length (texts_of fs) ≤ largest → AllWithin all (all_placed at fs)
unfolding AllWithin texts_of all_placed
fields_within all at [] h l = tt
fields_within all at (f ∷ fs) h l =
    let e = length-append (text_of f.value) (texts_of fs) in
    (value-within at all f.value (omega arith) (omega arith), fields_within all (at + length (text_of f.value)) fs (omega arith) (omega arith))

-- ---- a record: u16 id, u8 type, 5 bytes of no meaning, u64 bits or place, u64 length

abbrev first_of : Value → ℕ
first_of (Text p n) = p
first_of (Whole z) = of_z w64 z
first_of (Real x b) = b
first_of (Truth b) = bit_of b
first_of Null = 0
first_of (Json p n) = p

abbrev second_of : Value → ℕ
second_of (Text p n) = n
second_of (Whole z) = 0
second_of (Real x b) = 0
second_of (Truth b) = 0
second_of Null = 0
second_of (Json p n) = n

unfoldable record_for : Field → List ℕ
record_for f = le 2 f.id ++ (le 1 (kind_code f.value) ++ (le 5 0 ++ (le 8 (first_of f.value) ++ le 8 (second_of f.value))))

-- a field that a record can say
record Exact (f : Field) : Type 0 where
  small : f.id < 256 ^ 2
  kind : kind_code f.value < 256 ^ 1
  first : first_of f.value < 256 ^ 8
  second : second_of f.value < 256 ^ 8
  back : value_for (kind_code f.value) (first_of f.value) (second_of f.value) ≡ f.value

module _ (f : Field) (x : Exact f) (b : List ℕ) where
  abbrev A : List ℕ
  A = le 2 f.id

  abbrev B : List ℕ
  B = le 1 (kind_code f.value)

  abbrev C : List ℕ
  C = le 5 0

  abbrev D : List ℕ
  D = le 8 (first_of f.value)

  abbrev E : List ℕ
  E = le 8 (second_of f.value)

  whole-record : record_for f ++ b ≡ A ++ (B ++ (C ++ (D ++ (E ++ b))))
  unfolding record_for
  whole-record = simp append_assoc

  past : (w k : ℕ) (s t : List ℕ) (n : ℕ) → length s ≡ n → le_at w (s ++ t) (n + k) ≡ le_at w t k
  past w k s t n e = rw (← e) (le_at-back w s t k)

  id-there : le_at 2 (record_for f ++ b) 0 ≡ f.id
  id-there = rw whole-record (le_at-le 2 f.id [] _ x.small)

  kind-there : le_at 1 (record_for f ++ b) 2 ≡ kind_code f.value
  kind-there = rw whole-record (past 1 0 A _ 2 (length-le 2 f.id) ∙ le_at-le 1 (kind_code f.value) [] _ x.kind)

  first-there : le_at 8 (record_for f ++ b) 8 ≡ first_of f.value
  first-there =
      rw whole-record
      (past 8 6 A _ 2 (length-le 2 f.id) ∙ past 8 5 B _ 1 (length-le 1 (kind_code f.value)) ∙ past 8 0 C _ 5 (length-le 5 0)
      ∙ le_at-le 8 (first_of f.value) [] _ x.first)

  second-there : le_at 8 (record_for f ++ b) 16 ≡ second_of f.value
  second-there =
      rw whole-record
      (past 8 14 A _ 2 (length-le 2 f.id) ∙ past 8 13 B _ 1 (length-le 1 (kind_code f.value)) ∙ past 8 8 C _ 5 (length-le 5 0)
      ∙ past 8 0 D _ 8 (length-le 8 (first_of f.value)) ∙ le_at-le 8 (second_of f.value) [] _ x.second)

length-record : (f : Field) → length (record_for f) ≡ 24
unfolding record_for
length-record f = simp (length-append, length-le)

bytes-record : (f : Field) → Bytes (record_for f)
unfolding record_for
bytes-record f =
    let v = f.value in
    let d = le 8 (first_of v) in
    let e = le 8 (second_of v) in
    bytes-append (le 2 f.id) (le 1 (kind_code v) ++ (le 5 0 ++ (d ++ e))) (le_bytes 2 f.id)
    (bytes-append (le 1 (kind_code v)) (le 5 0 ++ (d ++ e)) (le_bytes 1 (kind_code v))
    (bytes-append (le 5 0) (d ++ e) (le_bytes 5 0) (bytes-append d e (le_bytes 8 (first_of v)) (le_bytes 8 (second_of v)))))

record-back : (a : List ℕ) (f : Field) (b : List ℕ) → Exact f → record_at (a ++ (record_for f ++ b)) (length a) ≡ f
unfolding record_at
record-back a f b x =
    let t = record_for f ++ b in
    let z : length a + 0 ≡ length a = omega arith in
    let l : length a + 24 ≤ length (a ++ t) = omega (arith, length-append a t, length-append (record_for f) b, length-record f) in
    let i : le_at 2 (a ++ t) (length a) ≡ f.id = ap (λ (k : ℕ). le_at 2 (a ++ t) k) (sym z) ∙ le_at-back 2 a t 0 ∙ id-there f x b in
    rw (
      le-leb (length a + 24) (length (a ++ t)) l,
      i,
      le_at-back 1 a t 2 ∙ kind-there f x b,
      le_at-back 8 a t 8 ∙ first-there f x b,
      le_at-back 8 a t 16 ∙ second-there f x b,
      x.back,
    )

-- ---- a table

unfoldable table_for : List Field → List ℕ
table_for [] = []
table_for (f ∷ fs) = record_for f ++ table_for fs

unfoldable AllExact : List Field → Type 0
AllExact [] = Unit {0}
AllExact (f ∷ fs) = Exact f × AllExact fs

length-table : (fs : List Field) → length (table_for fs) ≡ length fs * 24
unfolding table_for
length-table [] = refl
length-table (f ∷ fs) = omega (arith, length-append (record_for f) (table_for fs), length-record f, length-table fs)

bytes-table : (fs : List Field) → Bytes (table_for fs)
unfolding table_for
bytes-table [] = λ k. omega arith
bytes-table (f ∷ fs) = bytes-append (record_for f) (table_for fs) (bytes-record f) (bytes-table fs)

records-back : (fs : List Field) (a : List ℕ) (i : ℕ) → length a ≡ i * 24 → AllExact fs → records_from (length fs) i (a ++ table_for fs) ≡ fs
unfolding records_from table_for AllExact
records-back [] a i e x = refl
records-back (f ∷ fs) a i e x =
    let l : length (a ++ record_for f) ≡ suc i * 24 = omega (arith, length-append a (record_for f), length-record f) in
    let r : records_from (length fs) (suc i) (a ++ (record_for f ++ table_for fs)) ≡ fs =
    rw (append_assoc a (record_for f) (table_for fs)) at (records-back fs (a ++ record_for f) (suc i) l x.1) in
    ap₂ ◌∷◌ (ap (record_at (a ++ (record_for f ++ table_for fs))) (sym e) ∙ record-back a f (table_for fs) x.0) r

table-back : (fs : List Field) → AllExact fs → fields_of (table_for fs) ≡ fs
unfolding fields_of records_in
table-back fs x =
    let e = length-table fs in
    let n : (length (table_for fs) + 23) / 24 ≡ length fs = omega arith in
    rw n (records-back fs [] 0 refl x)

exact-value : (i at : ℕ) (v : Val) → i < 256 ^ 2 → GoodVal v → at + length (text_of v) ≤ largest → Exact (record { id = i; value = placed at v })
unfolding GoodVal text_of placed value_for truth_for
exact-value i at (text s) h g l = record { small = h; kind = omega arith; first = omega arith; second = omega arith; back = refl }
exact-value i at (whole n) h g l =
    let e = of_z-to_z w64 n (record { fits = g }) in
    record { small = h; kind = omega arith; first = rw e (omega (arith, g)); second = omega arith; back = rw e }
exact-value i at (real n) h g l = record { small = h; kind = omega arith; first = omega (arith, g); second = omega arith; back = refl }
exact-value i at (truth true) h g l = record { small = h; kind = omega arith; first = omega arith; second = omega arith; back = refl }
exact-value i at (truth false) h g l = record { small = h; kind = omega arith; first = omega arith; second = omega arith; back = refl }
exact-value i at null h g l = record { small = h; kind = omega arith; first = omega arith; second = omega arith; back = refl }
exact-value i at (json s) h g l = record { small = h; kind = omega arith; first = omega arith; second = omega arith; back = refl }

all-exact : (names : ℕ) (fs : List model.Field) (at : ℕ) → GoodFields names fs → at + length (texts_of fs) ≤ largest → AllExact (all_placed at fs)
unfolding AllExact all_placed texts_of GoodFields
all-exact names [] at g l = tt
all-exact names (f ∷ fs) at g l =
    let e = length-append (text_of f.value) (texts_of fs) in (
      exact-value f.id at f.value (omega (arith, g.0.small)) g.0.value (omega arith),
      all-exact names fs (at + length (text_of f.value)) g.1 (omega arith),
    )

-- ---- an entry

abbrev text_for : Entry → List ℕ
text_for e = texts_of e.fields

abbrev fields_for : Entry → List ℕ
fields_for e = table_for (all_placed 0 e.fields)

stands : (names start n prev : ℕ) (e : Entry) → GoodEntry names start n prev e → length (text_for e) ≤ largest → Stands e (text_for e) (fields_for e)
stands names start n prev e g l =
    let t = table-back (all_placed 0 e.fields) (all-exact names e.fields 0 g.fields (omega arith)) in
    record {
      same = rw t (fields_back names e.fields [] g.fields);
      within = rw t (fields_within (length (text_for e)) 0 e.fields (omega arith) l);
    }

-- the texts take no more room than the packed entries
text-fits : (v : Val) → length (text_of v) ≤ length (bytes_of v)
unfolding text_of
text-fits (text s) = omega arith
text-fits (whole n) = omega arith
text-fits (real n) = omega arith
text-fits (truth b) = omega arith
text-fits null = omega arith
text-fits (json s) = omega arith

field_fits : (f : model.Field) → length (text_of f.value) ≤ length (pack_field f)
unfolding pack_field
field_fits f =
    let x = bytes_of f.value in
    let n = encode (length x) in
    omega (arith, text-fits f.value, length-append n x, length-append (le 2 f.id) (kind_of f.value ∷ (n ++ x)))

texts-fit : (fs : List model.Field) → length (texts_of fs) ≤ length (pack_fields fs)
unfolding texts_of pack_fields
texts-fit [] = omega arith
texts-fit (f ∷ fs) =
    omega (arith, length-append (text_of f.value) (texts_of fs), length-append (pack_field f) (pack_fields fs), texts-fit fs, field_fits f)

entry-fits : (start : ℕ) (e : Entry) → length (text_for e) ≤ length (pack_entry start e)
unfolding pack_entry
entry-fits start e = omega (arith, texts-fit e.fields, length-append (encode (e.time - start)) (length e.fields ∷ pack_fields e.fields))

-- ---- the calls, each lent what the one before left

abbrev call_for : List ℕ → Entry → Call
call_for p e = entry p (record { 0 = e.time }) (text_for e) (fields_for e)

unfoldable calls_for : Writer → List ℕ → List Entry → List Call
calls_for w p [] = []
calls_for w p (e ∷ es) = call_for p e ∷ calls_for (next w (call_for p e)) (left_by w (call_for p e)).kept es

length-left : (w : Writer) (p : List ℕ) (e : Entry) → length (left_by w (call_for p e)).kept ≡ length p
unfolding left_by entry_out
length-left w p e = go (first_broken (entry_rules w (record { 0 = e.time }) (text_for e) (records_in (fields_for e)) (fields_of (fields_for e)) (length p))) _
  where
    go : (v : Verdict) (x : List ℕ) → length (if_sound v (splice p w.pending.plain x) p) ≡ length p
    go sound x = length-splice p w.pending.plain x
    go (broken n q) x = refl

calls-add : (names start n prev room : ℕ) (es : List Entry) → Good names start n prev es → length (pack start es) ≤ largest → (w : Writer) (p : List ℕ)
    → room ≤ length p → Adds room es (calls_for w p es)
unfolding Good pack calls_for
calls-add names start n prev room [] g l w p r = none
calls-add names start n prev room (e ∷ es) g l w p r =
    let a = length-append (pack_entry start e) (pack start es) in
    let u = (left_by w (call_for p e)).kept in
    more (stands names start n prev e g.0 (omega (arith, entry-fits start e))) r
    (calls-add names start (suc n) e.time room es g.1 (omega arith) (next w (call_for p e)) u (omega (arith, length-left w p e)))

-- what a call leaves in its buffer agrees with what is kept, whether it is accepted or not
module _ (h : Writing) (p : List ℕ) (e : Entry) (a : take h.writer.pending.plain p ≡ take h.writer.pending.plain h.payload) where
  abbrev Agreed : Type 0
  Agreed =
      let n = (next h.writer (call_for p e)).pending.plain in
      take n (left_by h.writer (call_for p e)).kept ≡ take n (payload_after h (call_for p e))

  abbrev ruled : Verdict
  ruled = first_broken (entry_rules h.writer (record { 0 = e.time }) (text_for e) (records_in (fields_for e)) (fields_of (fields_for e)) (length p))

  agreed-by : (v : Verdict) → ruled ≡ v → Agreed
  unfolding next left_by payload_after entry_of entry_out
  agreed-by sound x = rw x refl
  agreed-by (broken n q) x = rw x a

  agreed : Agreed
  agreed = agreed-by ruled refl

calls-fair : (names start n prev : ℕ) (es : List Entry) → Good names start n prev es → (h : Writing) (p : List ℕ)
    → take h.writer.pending.plain p ≡ take h.writer.pending.plain h.payload → Fair h (calls_for h.writer p es)
unfolding Good calls_for Fair
calls-fair names start n prev [] g h p a = tt
calls-fair names start n prev (e ∷ es) g h p a = (
  ((g.0.fits, bytes-table (all_placed 0 e.fields)), λ v. a),
  calls-fair names start (suc n) e.time es g.1 (after h (call_for p e)) (left_by h.writer (call_for p e)).kept (agreed h p e a),
)

calls-lent : (es : List Entry) (w : Writer) (p : List ℕ) → InBuffer p w (calls_for w p es)
unfolding calls_for InBuffer lent_to
calls-lent [] w p = tt
calls-lent (e ∷ es) w p = (refl, calls-lent es (next w (call_for p e)) (left_by w (call_for p e)).kept)

-- ---- the claim

pub rewritable : Rewritable
unfolding Rewritable
rewritable cs s start names es y r p l =
    let k = behind new_writing cs in
    let z = not-open k.writer r.shut in
    let good = read-good names start es s y.reads y.bytes in
    let same : pack start es ≡ s = packed-read names start es s y.reads y.bytes y.shortest in
    record {
      calls = calls_for k.writer p es;
      adds = calls-add names start 0 start (length s) es good (rw same r.fits) k.writer p l;
      fair = calls-fair names start 0 start es good k p (rw z refl);
      lent = calls-lent es k.writer p;
    }
