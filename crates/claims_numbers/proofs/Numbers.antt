-- Every refusal has a number of the table: the rules of files, rows, the writer and the listing, and the C edge. Assumes nothing.
use Rattle.std.specs.Prelude.{Result, Ok, Err}
use Rattle.cursor.specs.declared.Cursor.{Cursor}
use Rattle.parts.specs.declared.time.Delta.{Delta}
use Rattle.verdict.specs.declared.Refusal.{Refusal}
use mathlib.Core.Path.{◌≡◌, refl}
use mathlib.Core.Bool.{Bool, true, false, cond}
use mathlib.Core.List.{List, [], ◌∷◌}
use Prim.Native.Nat.{ℕ, zero, suc, ◌+◌, ◌/◌}
use lib.Dec.{ltb, eqb}
use lib.ListN.{length}
use Rattle.verdict.specs.Rules.{Rule, flag, number_of, Verdict, sound, broken, first_broken, Outcome, given, refused, settle, on_given, verdict_in, ruled}
use Rattle.crc32.specs.Crc.{crc32}
use Rattle.rows.specs.declared.Row.{Row}
use Rattle.parts.specs.declared.time.Epoch.{Epoch}
use Rattle.parts.specs.Parts.{header_of}
use Rattle.parts.specs.Rules.{header_rules}
use Rattle.blocks.specs.Blocks as blocks
use Rattle.cursor.specs.declared.Field.{Field}
use Rattle.cursor.specs.Answers.{delta_at, count_at, field_at}
use Rattle.entries.specs.Reading.{entries_of}
use Rattle.entries.specs.Block.{block_verdict}
use Rattle.packing.specs.Rules as packing
use Rattle.names.specs.Dictionary as names
use Rattle.lookup.specs.declared.Span.{Span}
use Rattle.lookup.specs.Lookup.{lookup_of}
use Rattle.name_search.specs.Search.{Found, numbered, missing, seek_of}
use Rattle.label.specs.Label.{label_of}
use Rattle.frame.specs.Frame as frame
use Rattle.reader.specs.Open as reader
use Rattle.rows.specs.Rows.{stride, room_rules}
use Rattle.access.specs.Access as access
use Rattle.query.specs.Query as query
use Rattle.query_slice.specs.Slices as slices
use Rattle.recovery.specs.Recovery as recovery
use Rattle.repair.specs.Repair as repair
use Rattle.writer.specs.declared.state.Writer.{Writer}
use Rattle.writer.specs.State.{bound_rules, begun_rules}
use Rattle.writer.specs.Begin.{Step, begin_rules, begin_of}
use Rattle.writer_close.specs.Close.{end_rules, last_rules, close_rules, close_of}
use Rattle.writer_names.specs.Name as naming
use Rattle.writer_entries.specs.Entry as entering
use Rattle.writer_blocks.specs.Block.{Adding, read_by, take_rules, store_rules, block_rules, block_of}
use Rattle.book.specs.Book as book
use Rattle.contents.specs.Contents as contents
use Rattle.listing_input.specs.Input as input
use Rattle.listing_input.specs.Ranges as range
use Rattle.c_answer.specs.Answer.{answered}
use Rattle.c_open.specs.Open.{c_open_rules, c_open_of}
use Rattle.c_recovery.specs.Recover.{stop_number, c_recover_rules, c_recover_of}
use Rattle.c_recovery.specs.Repair.{c_repair_of}
use Rattle.c_query.specs.Query.{c_rows, c_query_rules, c_query_of}
use Rattle.c_query.specs.Label.{c_label_of}
use Rattle.access.specs.declared.Span as access-span
use Rattle.c_stored.specs.Stored as stored
use Rattle.c_block.specs.Header.{header_answer, header_in, c_header_of}
use Rattle.c_block.specs.Header as block
use Rattle.c_block.specs.Block.{c_block_rules, c_block_of}
use Rattle.book.specs.declared.Span as book-span
use Rattle.book.specs.declared.Tally.{Tally}
use Rattle.c_book.specs.Books as books
use Rattle.listing_numbers.specs.declared.Listing.{Listing}
use Rattle.c_listing.specs.declared.Listed as lister
use Rattle.c_listing.specs.Answers.{c_list_of, c_range_of, Went}
use Rattle.c_writer.specs.declared.State.{State}
use Rattle.c_writer.specs.State.{writer_in}
use Rattle.c_writer.specs.Answers as edge
use Rattle.c_names.specs.Names.{span_answer, number_answer, c_names_of, c_name_of, c_name_at_of, c_number_of}
use Rattle.c_payload.specs.Steps.{delta_answer, count_answer, field_answer}
use Rattle.claims_numbers.specs.Numbers.{Listed, Returns, delta_verdict, count_verdict, field_verdict, TableNumbers}
use Rattle.claims_numbers.proofs.Payloads.{all_listed, cond-listed, first-listed, both, ruled-numbered, settled}
use Rattle.claims_numbers.proofs.Payloads.{delta-at, count_at_lem, field-at, rest-listed, entries-listed, block_listed, pack-numbered}
use Rattle.claims_numbers.proofs.Payloads.{dictionary-numbered, dictionary-listed, lookup-listed, seek-listed, label-listed}

-- ---- files

header-numbered : (f : List ℕ) → all_listed (header_rules f) ≡ true
unfolding header_rules all_listed number_of
header-numbered f = refl

at-numbered : (f : List ℕ) (at : ℕ) → all_listed (frame.dictionary_rules f at) ≡ true
unfolding frame.dictionary_rules all_listed number_of
at-numbered f at = refl

frame-numbered : (f : List ℕ) → all_listed (frame.frame_rules f) ≡ true
unfolding frame.frame_rules frame.place_rules frame.dictionary_rules frame.length_rules frame.index_rules frame.footer_rules all_listed number_of
frame-numbered f = both (header_rules f) _ (header-numbered f) refl

block-numbered : (sum : List ℕ → ℕ) (f : List ℕ) (limit at number earliest : ℕ) → all_listed (blocks.block_rules sum f limit at number earliest) ≡ true
unfolding blocks.block_rules blocks.head_rules blocks.sum_rule all_listed number_of
block-numbered sum f limit at number earliest = refl

blocks-numbered : (sum : List ℕ → ℕ) (n : ℕ) (f : List ℕ) (limit at number earliest row : ℕ)
    → all_listed (reader.blocks_rules sum n f limit at number earliest row) ≡ true
unfolding reader.blocks_rules reader.row_rules all_listed number_of
blocks-numbered sum zero f limit at number earliest row = refl
blocks-numbered sum (suc n) f limit at number earliest row =
    both (blocks.block_rules sum f limit at number earliest) _ (block-numbered sum f limit at number earliest) (blocks-numbered sum n f limit _ _ _ _)

open-numbered : (f : List ℕ) → all_listed (reader.open_rules crc32 f) ≡ true
unfolding reader.open_rules reader.after_rules all_listed number_of
open-numbered f = both (frame.frame_rules f) _ (frame-numbered f)
    (both (reader.blocks_rules crc32 _ f _ 64 0 0 _) _ (blocks-numbered crc32 _ f _ 64 0 0 _) refl)

open-call-numbered : (f : List ℕ) (room : ℕ) → all_listed (reader.call_rules f room) ≡ true
unfolding reader.call_rules room_rules all_listed number_of
open-call-numbered f room = both (reader.open_rules crc32 f) _ (open-numbered f) refl

recover-numbered : (f : List ℕ) → all_listed (recovery.recover_rules f) ≡ true
unfolding recovery.recover_rules recovery.offset_rules all_listed number_of
recover-numbered f = both (header_rules f) _ (header-numbered f) refl

recover-call-numbered : (f : List ℕ) (room : ℕ) → all_listed (recovery.call_rules f room) ≡ true
unfolding recovery.call_rules room_rules all_listed number_of
recover-call-numbered f room = both (recovery.recover_rules f) _ (recover-numbered f) refl

-- what stops a scan
cond-stop : (t : Bool) (a b : blocks.Scan) → Listed a.stop → Listed b.stop → Listed (cond t a b).stop
cond-stop true a b h g = h
cond-stop false a b h g = g

goes_on : (v : Verdict) (at : ℕ) (s : blocks.Scan) → Listed v → Listed s.stop → Listed (blocks.goes_on v at s).stop
goes_on sound at s h g = g
goes_on (broken n p) at s h g = h

from-listed : (k : ℕ) (f : List ℕ) (limit at number earliest : ℕ) → Listed (blocks.scan_from crc32 k f limit at number earliest).stop
unfolding blocks.scan_from
from-listed zero f limit at number earliest = cond-listed (ltb at limit) (broken 6 at) sound refl tt
from-listed (suc k) f limit at number earliest =
    cond-stop (ltb at limit) _ _
    (goes_on (first_broken (blocks.block_rules crc32 f limit at number earliest)) at _
    (first-listed (blocks.block_rules crc32 f limit at number earliest) (block-numbered crc32 f limit at number earliest))
    (from-listed k f limit _ _ _))
    tt

scan-listed : (f : List ℕ) (limit : ℕ) → Listed (blocks.scan_of crc32 f limit).stop
unfolding blocks.scan_of
scan-listed f limit = from-listed 4096 f limit 64 0 0

stop-listed : (f : List ℕ) → Listed (recovery.report_of f).stop
unfolding recovery.report_of
stop-listed f = scan-listed f _

cond-numbered : (t : Bool) (a b : List Rule) → all_listed a ≡ true → all_listed b ≡ true → all_listed (cond t a b) ≡ true
cond-numbered true a b h g = h
cond-numbered false a b h g = g

repair-numbered : (f lent : List ℕ) (room : ℕ) → all_listed (repair.repair_rules f lent room) ≡ true
unfolding repair.repair_rules repair.closed_rules repair.lent_rules all_listed number_of
repair-numbered f lent room =
    let r = recovery.report_of f in
    both (recovery.recover_rules f) _ (recover-numbered f)
    (both (repair.closed_rules (header_of f).dictionary (header_of f).blocks r) _
    (cond-numbered (eqb (header_of f).dictionary 0) [] _ refl (both (ruled r.stop) _ (ruled-numbered r.stop (stop-listed f)) refl))
    (both (repair.lent_rules r (length lent)) _ (cond-numbered r.whole [] _ refl refl) refl))

-- ---- rows

rows-numbered : (i : ℕ) (t : Epoch) (rows : List Row) → all_listed (query.order_rules i t rows) ≡ true
unfolding query.order_rules all_listed number_of
rows-numbered i t [] = refl
rows-numbered i t (r ∷ rows) = rows-numbered (i + 1) r.end rows

count-listed : (rows : List Row) (t1 t2 : Epoch) → Listed (verdict_in (query.count_of rows t1 t2))
unfolding query.count_of query.count_rules all_listed number_of
count-listed rows t1 t2 = settled (query.count_rules rows t1 t2) _ (rows-numbered 0 query.earliest rows)

query-numbered : (rows : List Row) (t1 t2 : Epoch) (room : ℕ) → all_listed (query.query_rules rows t1 t2 room) ≡ true
unfolding query.query_rules query.count_rules all_listed number_of
query-numbered rows t1 t2 room = both (query.order_rules 0 query.earliest rows) _ (rows-numbered 0 query.earliest rows) refl

row_listed : (table : List ℕ) (n i : ℕ) → Listed (verdict_in (access.row_in table n i))
unfolding access.row_in all_listed number_of
row_listed table n i = settled (flag 14 i (ltb i n) ∷ flag 14 i (ltb i (length table / stride)) ∷ []) _ refl

-- a row, and the header that it points at
header-listed : (log rows : List ℕ) (i : ℕ) → Listed (verdict_in (header_in log rows i))
unfolding header_in all_listed number_of
header-listed log rows i = go (access.row_in rows (length rows / stride) i) (row_listed rows (length rows / stride) i)
  where
    go : (o : Outcome Row) → Listed (verdict_in o)
        → Listed (verdict_in (on_given o (λ row. settle (first_broken (block.header_rules log row.offset)) row.offset)))
    go (given row) h = settled (block.header_rules log row.offset) _ refl
    go (refused n p) h = h

slice-row-listed : (rows : List Row) (i : ℕ) → Listed (verdict_in (slices.row_in rows i))
unfolding slices.row_in all_listed number_of
slice-row-listed rows i = settled (flag 14 i (ltb i (length rows)) ∷ []) _ refl

-- ---- the writer

begun-numbered : (w : Writer) → all_listed (begun_rules w) ≡ true
unfolding begun_rules bound_rules all_listed number_of
begun-numbered w = refl

begin-numbered : (w : Writer) (room : ℕ) → all_listed (begin_rules w room) ≡ true
unfolding begin_rules all_listed number_of
begin-numbered w room = refl

new-numbered : (f : Found) (w : Writer) (n : List ℕ) (room : ℕ) → all_listed (naming.unless_held f (naming.new_rules w n room)) ≡ true
unfolding naming.new_rules all_listed number_of
new-numbered (numbered i) w n room = refl
new-numbered missing w n room = refl

name-numbered : (w : Writer) (d n : List ℕ) → all_listed (naming.name_rules w d n) ≡ true
unfolding naming.name_rules
name-numbered w d n = both (begun_rules w) _ (begun-numbered w) (new-numbered (naming.held_as w d n) w n (length d))

entry-numbered : (w : Writer) (t : Epoch) (text : List ℕ) (count : ℕ) (fs : List Field) (room : ℕ)
    → all_listed (entering.entry_rules w t text count fs room) ≡ true
unfolding entering.entry_rules entering.time_rules all_listed number_of
entry-numbered w t text count fs room = both (begun_rules w) _ (begun-numbered w) (pack-numbered room _ _ _ text count fs)

adding-numbered : (w : Writer) (a : Adding) (table room : ℕ) → all_listed (block_rules w a table room) ≡ true
unfolding block_rules take_rules read_by store_rules all_listed number_of
adding-numbered w a table room =
    let v = verdict_in (entries_of a.plain a.start.0 a.names) in
    both (begun_rules w) _ (begun-numbered w) (both (ruled v) _ (ruled-numbered v (entries-listed a.plain a.start.0 a.names)) refl)

close-numbered : (w : Writer) (table plain stored : List ℕ) (room : ℕ) → all_listed (close_rules w table plain stored room) ≡ true
unfolding close_rules end_rules last_rules all_listed number_of
close-numbered w table plain stored room =
    both (begun_rules w) _ (begun-numbered w) (both (names.dictionary_rules plain) _ (dictionary-numbered plain) refl)

-- ---- the listing

parts-numbered : (n : ℕ) (s : List ℕ) (at : ℕ) → all_listed (book.parts_rules n s at) ≡ true
unfolding book.parts_rules book.part_rules all_listed number_of
parts-numbered zero s at = refl
parts-numbered (suc n) s at = parts-numbered n s _

book-numbered : (n : ℕ) (s : List ℕ) → all_listed (book.book_rules n s) ≡ true
unfolding book.book_rules book.front_rules all_listed number_of
book-numbered n s = parts-numbered (suc n) s _

parts-listed : (s : List ℕ) → Listed (verdict_in (book.parts_of s))
unfolding book.parts_of
parts-listed s = settled (book.book_rules (book.tally_in s).blocks s) _ (book-numbered (book.tally_in s).blocks s)

entries-numbered : (n : ℕ) (f s : List ℕ) (at plain k : ℕ) → all_listed (contents.entries_rules n f s at plain k) ≡ true
unfolding contents.entries_rules all_listed
entries-numbered zero f s at plain k = refl
entries-numbered (suc n) f s at plain k =
    let v = block_verdict (book.bytes_at s plain) (blocks.head_at f at) k in
    both (ruled v) _ (ruled-numbered v (block_listed (book.bytes_at s plain) (blocks.head_at f at) k)) (entries-numbered n f s _ _ k)

contents-numbered : (f s : List ℕ) → all_listed (contents.contents_rules f s) ≡ true
unfolding contents.contents_rules
contents-numbered f s =
    both (reader.open_rules crc32 f) _ (open-numbered f)
    (both (book.book_rules _ s) _ (book-numbered _ s)
    (both (names.dictionary_rules (contents.dictionary_of f s)) _ (dictionary-numbered (contents.dictionary_of f s))
    (entries-numbered _ f s 64 book.first_part _)))

contents-listed : (f s : List ℕ) → Listed (verdict_in (contents.contents_of f s))
unfolding contents.contents_of
contents-listed f s = settled (contents.contents_rules f s) _ (contents-numbered f s)

input-numbered : (x : List ℕ) → all_listed (input.input_rules x) ≡ true
unfolding input.input_rules input.length_rules all_listed number_of
input-numbered x = contents-numbered (input.log_in x) (input.book_in x)

-- ---- the C edge

answered-returns : (o : Outcome ℕ) → Listed (verdict_in o) → Returns (verdict_in o) (answered o).number
answered-returns (given n) h = refl
answered-returns (refused n p) h = (refl, h)

settled-returns : (v : Verdict) (n : ℕ) → Listed v → Returns v (answered (settle v n)).number
settled-returns sound n h = refl
settled-returns (broken m p) n h = (refl, h)

rules-return : (rs : List Rule) (n : ℕ) → all_listed rs ≡ true → Returns (first_broken rs) (answered (settle (first_broken rs) n)).number
rules-return rs n h = settled-returns (first_broken rs) n (first-listed rs h)

given-returns : {A : Type 0} (o : Outcome A) (f : A → ℕ) → Listed (verdict_in o) → Returns (verdict_in o) (answered (on_given o (λ a. given (f a)))).number
given-returns (given a) f h = refl
given-returns (refused n p) f h = (refl, h)

span-returns : (o : Outcome Span) → Listed (verdict_in o) → Returns (verdict_in o) (span_answer o).number
span-returns (given a) h = refl
span-returns (refused n p) h = (refl, h)

header-returns : (log : List ℕ) (o : Outcome ℕ) → Listed (verdict_in o) → Returns (verdict_in o) (header_answer log o).number
header-returns log (given at) h = refl
header-returns log (refused n p) h = (refl, h)

stored-returns : (o : Outcome Row) (f : Row → access-span.Span) → Listed (verdict_in o)
    → Returns (verdict_in o) (stored.span_answer (on_given o (λ row. given (f row)))).number
stored-returns (given a) f h = refl
stored-returns (refused n p) f h = (refl, h)

book-returns : (v : Verdict) (p : book-span.Span) → Listed v → Returns v (books.span_answer (settle v p)).number
book-returns sound p h = refl
book-returns (broken m q) p h = (refl, h)

parts-returns : (o : Outcome Tally) → Listed (verdict_in o) → Returns (verdict_in o) (books.parts_answer o).number
parts-returns (given t) h = refl
parts-returns (refused n p) h = (refl, h)

number-returns : (o : Outcome Found) → Listed (verdict_in o) → Returns (verdict_in o) (number_answer o).number
number-returns (given (numbered i)) h = refl
number-returns (given missing) h = refl
number-returns (refused n p) h = (refl, h)

stop-returns : (v : Verdict) → Listed v → Returns v (stop_number v)
stop-returns sound h = refl
stop-returns (broken n p) h = (refl, h)

delta-returns : (k : (Result (Delta × Cursor) Refusal)) → Listed (delta_verdict k) → Returns (delta_verdict k) (delta_answer k).number
delta-returns (Ok (d, c)) h = refl
delta-returns (Err r) h = (refl, h)

count-returns : (k : (Result (ℕ × Cursor) Refusal)) → Listed (count_verdict k) → Returns (count_verdict k) (count_answer k).number
count-returns (Ok (n, c)) h = refl
count-returns (Err r) h = (refl, h)

field-returns : (k : (Result (Field × Cursor) Refusal)) → Listed (field_verdict k) → Returns (field_verdict k) (field_answer k).number
field-returns (Ok (f, c)) h = refl
field-returns (Err r) h = (refl, h)

storing-returns : (s : State) (o : Outcome Step) → Listed (verdict_in o) → Returns (verdict_in o) (edge.storing s o).answer.number
storing-returns s (given k) h = refl
storing-returns s (refused n p) h = (refl, h)

naming-returns : (s : State) (o : Outcome naming.Naming) → Listed (verdict_in o) → Returns (verdict_in o) (edge.naming s o).answer.number
naming-returns s (given k) h = refl
naming-returns s (refused n p) h = (refl, h)

entering-returns : (s : State) (o : Outcome Writer) → Listed (verdict_in o) → Returns (verdict_in o) (edge.entering s o).answer.number
entering-returns s (given k) h = refl
entering-returns s (refused n p) h = (refl, h)

host-open-numbered : (log : List ℕ) (rows room : ℕ) → all_listed (c_open_rules log rows room) ≡ true
unfolding c_open_rules all_listed number_of
host-open-numbered log rows room = both (reader.call_rules log rows) _ (open-call-numbered log rows) refl

host-recover-numbered : (log : List ℕ) (rows report : ℕ) → all_listed (c_recover_rules log rows report) ≡ true
unfolding c_recover_rules all_listed number_of
host-recover-numbered log rows report = both (recovery.call_rules log rows) _ (recover-call-numbered log rows) refl

host-block-numbered : (log : List ℕ) (at : ℕ) (plain : List ℕ) (k : ℕ) → all_listed (c_block_rules log at plain k) ≡ true
unfolding c_block_rules all_listed number_of
host-block-numbered log at plain k =
    let v = block_verdict plain (blocks.head_at log at) k in
    ruled-numbered v (block_listed plain (blocks.head_at log at) k)

host-query-numbered : (rows : List ℕ) (t1 t2 numbers : ℕ) → all_listed (c_query_rules rows t1 t2 numbers) ≡ true
unfolding c_query_rules all_listed number_of
host-query-numbered rows t1 t2 numbers = both (query.order_rules 0 query.earliest (c_rows rows)) _ (rows-numbered 0 query.earliest (c_rows rows)) refl

-- ---- the calls that give something where no rule is broken

open-listed : (f : List ℕ) (room : ℕ) → Listed (verdict_in (reader.open_of f room))
unfolding reader.open_of
open-listed f room = settled (reader.call_rules f room) _ (open-call-numbered f room)

frame-listed : (f : List ℕ) → Listed (verdict_in (frame.checked_of f))
unfolding frame.checked_of
frame-listed f = settled (frame.frame_rules f) _ (frame-numbered f)

recover-listed : (f : List ℕ) (room : ℕ) → Listed (verdict_in (recovery.recover_of f room))
unfolding recovery.recover_of
recover-listed f room = settled (recovery.call_rules f room) _ (recover-call-numbered f room)

repair-listed : (f lent : List ℕ) (room : ℕ) → Listed (verdict_in (repair.repair_of f lent room))
unfolding repair.repair_of
repair-listed f lent room = settled (repair.repair_rules f lent room) _ (repair-numbered f lent room)

query-listed : (rows : List Row) (t1 t2 : Epoch) (room : ℕ) → Listed (verdict_in (query.query_of rows t1 t2 room))
unfolding query.query_of
query-listed rows t1 t2 room = settled (query.query_rules rows t1 t2 room) _ (query-numbered rows t1 t2 room)

begin-listed : (w : Writer) (room : ℕ) → Listed (verdict_in (begin_of w room))
unfolding begin_of
begin-listed w room = settled (begin_rules w room) _ (begin-numbered w room)

name-listed : (w : Writer) (d n : List ℕ) → Listed (verdict_in (naming.name_of w d n))
unfolding naming.name_of
name-listed w d n = settled (naming.name_rules w d n) _ (name-numbered w d n)

entry_listed : (w : Writer) (t : Epoch) (text : List ℕ) (count : ℕ) (fs : List Field) (room : ℕ)
    → Listed (verdict_in (entering.entry_of w t text count fs room))
unfolding entering.entry_of
entry_listed w t text count fs room = settled (entering.entry_rules w t text count fs room) _ (entry-numbered w t text count fs room)

adding-listed : (w : Writer) (a : Adding) (table room : ℕ) → Listed (verdict_in (block_of w a table room))
unfolding block_of
adding-listed w a table room = settled (block_rules w a table room) _ (adding-numbered w a table room)

close-listed : (w : Writer) (table plain stored : List ℕ) (room : ℕ) → Listed (verdict_in (close_of w table plain stored room))
unfolding close_of
close-listed w table plain stored room = settled (close_rules w table plain stored room) _ (close-numbered w table plain stored room)

input-listed : (x : List ℕ) → Listed (verdict_in (input.input_of x))
unfolding input.input_of
input-listed x = settled (input.input_rules x) _ (input-numbered x)

range_listed : (f s : List ℕ) (t1 t2 : ℕ) → Listed (verdict_in (range.range_of f s t1 t2))
unfolding range.range_of range.range_rules all_listed number_of
range_listed f s t1 t2 = settled (range.range_rules f s t1 t2) _ (contents-numbered f s)

-- ---- all of them

next-accepted : (log book : List ℕ) (from : Listing) (out : List ℕ) (r : lister.Listed) (exit : List ℕ) → Went log book from out r exit → r.answer.number ≡ 0
next-accepted log book from out r exit h = let q = h.says in cc

pub table-numbers : TableNumbers
unfolding c_open_of c_recover_of c_repair_of c_query_of c_label_of c_names_of c_name_of c_name_at_of c_number_of c_list_of
    c_range_of stored.c_stored_of stored.c_dictionary_of c_header_of c_block_of books.c_book_of books.c_parts_of books.c_part_of
table-numbers =
    record {
      header = λ f. first-listed (header_rules f) (header-numbered f);
      block_at = λ sum f limit at number earliest.
          first-listed (blocks.block_rules sum f limit at number earliest) (block-numbered sum f limit at number earliest);
      scan = scan-listed;
      dictionary-at = λ f at. first-listed (frame.dictionary_rules f at) (at-numbered f at);
      frame = frame-listed;
      delta = delta-at;
      count = count_at_lem;
      field = field-at;
      wrong = λ place. refl;
      rest-of-entry = rest-listed;
      entries = entries-listed;
      entries-block = block_listed;
      pack = λ room at d n text k fs. first-listed (packing.pack_rules room at d n text k fs) (pack-numbered room at d n text k fs);
      names = dictionary-listed;
      lookup = lookup-listed;
      seek = seek-listed;
      label = label-listed;
      check = λ f. first-listed (reader.open_rules crc32 f) (open-numbered f);
      opens = open-listed;
      survey = λ f. first-listed (recovery.recover_rules f) (recover-numbered f);
      recover = recover-listed;
      stop = stop-listed;
      repair = repair-listed;
      row = row_listed;
      slice-row = slice-row-listed;
      query-count = count-listed;
      query = query-listed;
      turn = λ w. first-listed (begun_rules w) (begun-numbered w);
      begin = begin-listed;
      name = name-listed;
      entry = entry_listed;
      block = adding-listed;
      close = close-listed;
      book = λ n s. first-listed (book.book_rules n s) (book-numbered n s);
      book-parts = parts-listed;
      contents = contents-listed;
      input = input-listed;
      range = range_listed;
      hplog-open = λ log rows room. rules-return (c_open_rules log rows room) _ (host-open-numbered log rows room);
      hplog-recover = λ log rows room. rules-return (c_recover_rules log rows room) _ (host-recover-numbered log rows room);
      hplog-stop = λ log. stop-returns (recovery.report_of log).stop (stop-listed log);
      hplog-repair = λ log d room. given-returns (repair.repair_of log d room) _ (repair-listed log d room);
      hplog-query = λ rows t1 t2 room. rules-return (c_query_rules rows t1 t2 room) _ (host-query-numbered rows t1 t2 room);
      hplog-block = λ log rows i. header-returns log (header_in log rows i) (header-listed log rows i);
      hplog-stored = λ log rows i. stored-returns (access.row_in rows (length rows / stride) i) _ (row_listed rows (length rows / stride) i);
      hplog-dictionary = λ log frame. refl;
      hplog-label = λ n room. given-returns (label_of n room) _ (label-listed n room);
      hplog-names = λ s. answered-returns (names.dictionary_of s) (dictionary-listed s);
      hplog-name = λ s i. span-returns (lookup_of s i) (lookup-listed s i);
      hplog-name-at = λ s at. refl;
      hplog-number = λ s n. number-returns (seek_of s n) (seek-listed s n);
      hplog-delta = λ s at. delta-returns (delta_at s at) (delta-at s at);
      hplog-count = λ s at. count-returns (count_at s at) (count_at_lem s at);
      hplog-field = λ s n at. field-returns (field_at s n at) (field-at s n at);
      hplog-check-block = λ log at plain k. rules-return (c_block_rules log at plain k) _ (host-block-numbered log at plain k);
      hplog-book = λ s n. book-returns (first_broken (book.book_rules n s)) _ (first-listed (book.book_rules n s) (book-numbered n s));
      hplog-book-parts = λ s. parts-returns (book.parts_of s) (parts-listed s);
      hplog-book-part = λ s at. refl;
      hplog-list = λ log s. given-returns (contents.contents_of log s) _ (contents-listed log s);
      hplog-list-range = λ log s t1 t2. given-returns (range.range_of log s t1 t2) _ (range_listed log s t1 t2);
      hplog-list-next = next-accepted;
      hplog-begin = λ s room. storing-returns s (begin_of (writer_in s) room) (begin-listed (writer_in s) room);
      hplog-add-name = λ s d n. naming-returns s (naming.name_of (writer_in s) d n) (name-listed (writer_in s) d n);
      hplog-add-entry = λ s t text k fs room. entering-returns s (entering.entry_of (writer_in s) t text k fs room)
          (entry_listed (writer_in s) t text k fs room);
      hplog-add-block = λ s a table room. storing-returns s (block_of (writer_in s) a table room) (adding-listed (writer_in s) a table room);
      hplog-close = λ s table plain stored room.
          storing-returns s (close_of (writer_in s) table plain stored room) (close-listed (writer_in s) table plain stored room);
    }
