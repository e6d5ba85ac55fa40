-- Every refusal of every public call has a number of document 01's table ("Numbers handed back"), so never 0, which at
-- the C edge says that the call was accepted. The verdicts are those that the promises of the calls cite; a call whose
-- refusals are another's by its definition isn't named again, and one that only puts a number that it was given into an
-- answer refuses nothing. Assumes nothing.
use Rattle.std.specs.Prelude.{Result, Ok, Err}
use Rattle.cursor.specs.declared.Cursor.{Cursor}
use Rattle.parts.specs.declared.time.Delta.{Delta}
use Rattle.verdict.specs.declared.Refusal.{Refusal}
use Rattle.std.specs.Prelude.{◌≡◌, Bool, true, ◌&&◌, List, ℕ, ◌/◌, leb, length}
use Rattle.verdict.specs.Rules.{Verdict, sound, broken, first_broken, verdict_in}
use Rattle.crc32.specs.Crc.{crc32}
use Rattle.parts.specs.declared.BlockHeader.{BlockHeader}
use Rattle.rows.specs.declared.Row.{Row}
use Rattle.parts.specs.declared.time.Epoch.{Epoch}
use Rattle.parts.specs.Rules.{header_rules}
use Rattle.blocks.specs.Blocks as blocks
use Rattle.cursor.specs.declared.Field.{Field}
use Rattle.cursor.specs.Answers.{refusal, delta_at, count_at, field_at}
use Rattle.entries.specs.Reading.{entries_of}
use Rattle.entries.specs.Answers.{rest_at}
use Rattle.entries.specs.Block.{block_verdict}
use Rattle.packing.specs.Rules.{pack_rules}
use Rattle.names.specs.Dictionary.{dictionary_of}
use Rattle.lookup.specs.Lookup.{lookup_of}
use Rattle.name_search.specs.Search.{seek_of}
use Rattle.label.specs.Label.{label_of}
use Rattle.frame.specs.Frame.{dictionary_rules, checked_of}
use Rattle.reader.specs.Open.{open_rules, open_of}
use Rattle.rows.specs.Rows.{stride}
use Rattle.access.specs.Access as access
use Rattle.query.specs.Query.{count_of, query_of}
use Rattle.query_slice.specs.Slices as slices
use Rattle.recovery.specs.Recovery.{recover_rules, report_of, recover_of}
use Rattle.repair.specs.Repair.{repair_of}
use Rattle.writer.specs.declared.state.Writer.{Writer}
use Rattle.writer.specs.State.{begun_rules}
use Rattle.writer.specs.Begin.{begin_of}
use Rattle.writer_close.specs.Close.{close_of}
use Rattle.writer_names.specs.Name.{name_of}
use Rattle.writer_entries.specs.Entry.{entry_of}
use Rattle.writer_blocks.specs.Block.{Adding, block_of}
use Rattle.book.specs.Book.{book_rules, parts_of}
use Rattle.contents.specs.Contents.{contents_of}
use Rattle.listing_input.specs.Input.{input_of}
use Rattle.listing_input.specs.Ranges.{range_of}
use Rattle.c_open.specs.Open.{c_open_rules, c_open_of}
use Rattle.c_recovery.specs.Recover.{stop_number, c_recover_rules, c_recover_of}
use Rattle.c_recovery.specs.Repair.{c_repair_of}
use Rattle.c_query.specs.Query.{c_query_rules, c_query_of}
use Rattle.c_query.specs.Label.{c_label_of}
use Rattle.c_stored.specs.Stored.{c_stored_of, c_dictionary_of}
use Rattle.c_block.specs.Header.{header_in, c_header_of}
use Rattle.c_block.specs.Block.{c_block_rules, c_block_of}
use Rattle.c_book.specs.Books.{c_book_of, c_parts_of, c_part_of}
use Rattle.listing_numbers.specs.declared.Listing.{Listing}
use Rattle.c_listing.specs.declared.Listed as lister
use Rattle.c_listing.specs.Answers.{c_list_of, c_range_of, Went}
use Rattle.c_writer.specs.declared.State.{State}
use Rattle.c_writer.specs.State.{writer_in}
use Rattle.c_writer.specs.Answers.{storing, naming, entering}
use Rattle.c_names.specs.Names.{c_names_of, c_name_of, c_name_at_of, c_number_of}
use Rattle.c_payload.specs.Steps.{delta_answer, count_answer, field_answer}

-- the numbers of the table: from 1, "file below 64 bytes", to 17, "writer call out of turn"
abbrev pub in_table : ℕ → Bool
in_table n = leb 1 n && leb n 17

-- "Every refusal returns its number": one of the table's
abbrev pub Listed : Verdict → Type 0
Listed sound = Unit {0}
Listed (broken n p) = in_table n ≡ true

-- "number is 0 where the call was accepted" (include/hplog.h), and only there: a refusal returns its own number, one of
-- the table's
abbrev pub Returns : Verdict → ℕ → Type 0
Returns sound k = k ≡ 0
Returns (broken n p) k = (k ≡ n) × (in_table k ≡ true)

-- what the answer of a reading step says of the rules
abbrev pub delta_verdict : Result (Delta × Cursor) Refusal → Verdict
delta_verdict (Ok (d, c)) = sound
delta_verdict (Err r) = broken r.number r.place

abbrev pub count_verdict : Result (ℕ × Cursor) Refusal → Verdict
count_verdict (Ok (k, c)) = sound
count_verdict (Err r) = broken r.number r.place

abbrev pub field_verdict : Result (Field × Cursor) Refusal → Verdict
field_verdict (Ok (f, c)) = sound
field_verdict (Err r) = broken r.number r.place

abbrev pub entry_verdict : Result (Epoch × Cursor) Refusal → Verdict
entry_verdict (Ok (t, c)) = sound
entry_verdict (Err r) = broken r.number r.place

pub record TableNumbers : Type 0 where
  -- parts of a file: its header, a block by whichever checksum, what stops a scan over blocks, the dictionary at a
  -- place, the frame
  pub header : (f : List ℕ) → Listed (first_broken (header_rules f))
  pub block_at : (sum : List ℕ → ℕ) (f : List ℕ) (limit at number earliest : ℕ)
      → Listed (first_broken (blocks.block_rules sum f limit at number earliest))
  pub scan : (f : List ℕ) (limit : ℕ) → Listed (blocks.scan_of crc32 f limit).stop
  pub dictionary-at : (f : List ℕ) (at : ℕ) → Listed (first_broken (dictionary_rules f at))
  pub frame : (f : List ℕ) → Listed (verdict_in (checked_of f))
  -- plain bytes: the reading steps and the refusal made of a place, an entry behind its delta, a block's entries, by
  -- themselves and against its header, packing an entry, the dictionary, a name by its number, a number by its name,
  -- the label
  pub delta : (s : List ℕ) (at : ℕ) → Listed (delta_verdict (delta_at s at))
  pub count : (s : List ℕ) (at : ℕ) → Listed (count_verdict (count_at s at))
  pub field : (s : List ℕ) (names at : ℕ) → Listed (field_verdict (field_at s names at))
  pub wrong : (place : ℕ) → in_table (refusal 11 place).number ≡ true
  pub rest-of-entry : (s : List ℕ) (names time at : ℕ) → Listed (entry_verdict (rest_at s names time at))
  pub entries : (s : List ℕ) (start names : ℕ) → Listed (verdict_in (entries_of s start names))
  pub entries-block : (s : List ℕ) (h : BlockHeader) (names : ℕ) → Listed (block_verdict s h names)
  pub pack : (room at delta names : ℕ) (text : List ℕ) (count : ℕ) (fs : List Field)
      → Listed (first_broken (pack_rules room at delta names text count fs))
  pub names : (s : List ℕ) → Listed (verdict_in (dictionary_of s))
  pub lookup : (s : List ℕ) (i : ℕ) → Listed (verdict_in (lookup_of s i))
  pub seek : (s n : List ℕ) → Listed (verdict_in (seek_of s n))
  pub label : (name : List ℕ) (room : ℕ) → Listed (verdict_in (label_of name room))
  -- whole files: opening without and with a table, recovery without and with one and what stopped it, repair
  pub check : (f : List ℕ) → Listed (first_broken (open_rules crc32 f))
  pub opens : (f : List ℕ) (room : ℕ) → Listed (verdict_in (open_of f room))
  pub survey : (f : List ℕ) → Listed (first_broken (recover_rules f))
  pub recover : (f : List ℕ) (room : ℕ) → Listed (verdict_in (recover_of f room))
  pub stop : (f : List ℕ) → Listed (report_of f).stop
  pub repair : (f lent : List ℕ) (room : ℕ) → Listed (verdict_in (repair_of f lent room))
  -- rows: one of a table and one of a slice, the choice of blocks, counted and listed
  pub row : (table : List ℕ) (blocks i : ℕ) → Listed (verdict_in (access.row_in table blocks i))
  pub slice-row : (rows : List Row) (i : ℕ) → Listed (verdict_in (slices.row_in rows i))
  pub query-count : (rows : List Row) (t1 t2 : Epoch) → Listed (verdict_in (count_of rows t1 t2))
  pub query : (rows : List Row) (t1 t2 : Epoch) (room : ℕ) → Listed (verdict_in (query_of rows t1 t2 room))
  -- the writer: its turn, and its calls
  pub turn : (w : Writer) → Listed (first_broken (begun_rules w))
  pub begin : (w : Writer) (room : ℕ) → Listed (verdict_in (begin_of w room))
  pub name : (w : Writer) (d n : List ℕ) → Listed (verdict_in (name_of w d n))
  pub entry : (w : Writer) (t : Epoch) (text : List ℕ) (count : ℕ) (fs : List Field) (room : ℕ)
      → Listed (verdict_in (entry_of w t text count fs room))
  pub block : (w : Writer) (a : Adding) (table room : ℕ) → Listed (verdict_in (block_of w a table room))
  pub close : (w : Writer) (table plain stored : List ℕ) (room : ℕ)
      → Listed (verdict_in (close_of w table plain stored room))
  -- the listing: a plain book, with its log's number of blocks and without, a log with its book, the program's input,
  -- a range of times
  pub book : (blocks : ℕ) (s : List ℕ) → Listed (first_broken (book_rules blocks s))
  pub book-parts : (s : List ℕ) → Listed (verdict_in (parts_of s))
  pub contents : (f s : List ℕ) → Listed (verdict_in (contents_of f s))
  pub input : (x : List ℕ) → Listed (verdict_in (input_of x))
  pub range : (f s : List ℕ) (t1 t2 : ℕ) → Listed (verdict_in (range_of f s t1 t2))
  -- the C edge, files and rows: opening, recovery and what its report says of the stop, repair, the choice of blocks
  pub hplog-open : (log : List ℕ) (rows frame : ℕ)
      → Returns (first_broken (c_open_rules log rows frame)) (c_open_of log rows frame).number
  pub hplog-recover : (log : List ℕ) (rows report : ℕ)
      → Returns (first_broken (c_recover_rules log rows report)) (c_recover_of log rows report).number
  pub hplog-stop : (log : List ℕ) → Returns (report_of log).stop (stop_number (report_of log).stop)
  pub hplog-repair : (log d : List ℕ) (room : ℕ)
      → Returns (verdict_in (repair_of log d room)) (c_repair_of log d room).number
  pub hplog-query : (rows : List ℕ) (t1 t2 numbers : ℕ)
      → Returns (first_broken (c_query_rules rows t1 t2 numbers)) (c_query_of rows t1 t2 numbers).number
  -- the C edge, a block's header, and stored bytes, of which the dictionary's are never refused
  pub hplog-block : (log rows : List ℕ) (i : ℕ)
      → Returns (verdict_in (header_in log rows i)) (c_header_of log rows i).number
  pub hplog-stored : (log rows : List ℕ) (i : ℕ)
      → Returns (verdict_in (access.row_in rows (length rows / stride) i)) (c_stored_of log rows i).number
  pub hplog-dictionary : (log frame : List ℕ) → (c_dictionary_of log frame).number ≡ 0
  -- the C edge, plain bytes: the label, the dictionary, a name in it, the one at a place, which is never refused, and a
  -- name's number, the reading steps, a block
  pub hplog-label : (name : List ℕ) (room : ℕ) → Returns (verdict_in (label_of name room)) (c_label_of name room).number
  pub hplog-names : (s : List ℕ) → Returns (verdict_in (dictionary_of s)) (c_names_of s).number
  pub hplog-name : (s : List ℕ) (i : ℕ) → Returns (verdict_in (lookup_of s i)) (c_name_of s i).number
  pub hplog-name-at : (s : List ℕ) (at : ℕ) → (c_name_at_of s at).number ≡ 0
  pub hplog-number : (s n : List ℕ) → Returns (verdict_in (seek_of s n)) (c_number_of s n).number
  pub hplog-delta : (s : List ℕ) (at : ℕ)
      → Returns (delta_verdict (delta_at s at)) (delta_answer (delta_at s at)).number
  pub hplog-count : (s : List ℕ) (at : ℕ)
      → Returns (count_verdict (count_at s at)) (count_answer (count_at s at)).number
  pub hplog-field : (s : List ℕ) (names at : ℕ)
      → Returns (field_verdict (field_at s names at)) (field_answer (field_at s names at)).number
  pub hplog-check-block : (log : List ℕ) (at : ℕ) (plain : List ℕ) (names : ℕ)
      → Returns (first_broken (c_block_rules log at plain names)) (c_block_of log at plain names).number
  -- the C edge, plain books, of which a part is never refused
  pub hplog-book : (s : List ℕ) (blocks : ℕ) → Returns (first_broken (book_rules blocks s)) (c_book_of s blocks).number
  pub hplog-book-parts : (s : List ℕ) → Returns (verdict_in (parts_of s)) (c_parts_of s).number
  pub hplog-book-part : (s : List ℕ) (at : ℕ) → (c_part_of s at).number ≡ 0
  -- the C edge, the listing: its start, that of a range, and its pieces, of which none is refused
  pub hplog-list : (log book : List ℕ) → Returns (verdict_in (contents_of log book)) (c_list_of log book).number
  pub hplog-list-range : (log book : List ℕ) (t1 t2 : ℕ)
      → Returns (verdict_in (range_of log book t1 t2)) (c_range_of log book t1 t2).number
  pub hplog-list-next : (log book : List ℕ) (from : Listing) (out : List ℕ) (r : lister.Listed) (exit : List ℕ)
      → Went log book from out r exit
      → r.answer.number ≡ 0
  -- the C edge, the writer's calls
  pub hplog-begin : (s : State) (room : ℕ)
      → Returns (verdict_in (begin_of (writer_in s) room)) (storing s (begin_of (writer_in s) room)).answer.number
  pub hplog-add-name : (s : State) (d n : List ℕ)
      → Returns (verdict_in (name_of (writer_in s) d n)) (naming s (name_of (writer_in s) d n)).answer.number
  pub hplog-add-entry : (s : State) (t : Epoch) (text : List ℕ) (count : ℕ) (fs : List Field) (room : ℕ)
      → Returns (verdict_in (entry_of (writer_in s) t text count fs room))
      (entering s (entry_of (writer_in s) t text count fs room)).answer.number
  pub hplog-add-block : (s : State) (a : Adding) (table room : ℕ)
      → Returns (verdict_in (block_of (writer_in s) a table room))
      (storing s (block_of (writer_in s) a table room)).answer.number
  pub hplog-close : (s : State) (table plain stored : List ℕ) (room : ℕ)
      → Returns (verdict_in (close_of (writer_in s) table plain stored room))
      (storing s (close_of (writer_in s) table plain stored room)).answer.number
