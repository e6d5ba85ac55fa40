-- Document 01, "Worked at the edges": the small file, and K1 to K9 as one table, each about the definition that the
-- contract of its call cites. Assumes nothing.
use Rattle.std.specs.Prelude.{Ok, Err}
use Rattle.std.specs.Prelude.{◌≡◌, Bool, true, false, List, [], ◌∷◌, ◌++◌, ℕ, zero, suc, ◌+◌, negsuc, length, take}
use Rattle.std.specs.Prelude.{replicate}
use Rattle.verdict.specs.Rules.{Verdict, sound, broken, Outcome, given}
use Rattle.wire.specs.Wire.{le}
use Rattle.rows.specs.declared.Row.{Row}
use Rattle.parts.specs.declared.time.Epoch.{Epoch}
use Rattle.parts.specs.Time.{belongs_to}
use Rattle.rows.specs.Rows.{table_bytes}
use Rattle.cursor.specs.declared.values.Value.TheVariants.{Whole}
use Rattle.cursor.specs.Answers.{refusal, delta_at, field_at}
use Rattle.query.specs.Query.{query_of, query_out}
use Rattle.label.specs.Label.{label_of, label_out}
use Rattle.frame.specs.declared.Frame.{Frame}
use Rattle.reader.specs.Open.{open_of}
use Rattle.recovery.specs.Recovery.{Report, recover_of}
use Rattle.writer.specs.declared.state.Writer.{Writer}
use Rattle.writer.specs.State.{new_writer}
use Rattle.writer_blocks.specs.Block.{Adding, adding}
use Rattle.disk.specs.Disk.{disk, finished}
use Rattle.claims.specs.Calls.{Call, begin, name, entry, block, close, verdict_for, next, run}
use Rattle.claims.specs.Calls.{new_writing, behind, Fair}
use Rattle.claims.specs.Built.{plain_names, built_names, open_adding}

abbrev time : ℕ → Epoch
time t = record { 0 = t }

abbrev zeros : ℕ → List ℕ
zeros n = replicate n 0

-- ---- the small file: what its calls take

-- "names `site`, `wet`"
abbrev site : List ℕ
site = 0x73 ∷ 0x69 ∷ 0x74 ∷ 0x65 ∷ []

abbrev wet : List ℕ
wet = 0x77 ∷ 0x65 ∷ 0x74 ∷ []

abbrev small_names : List ℕ
small_names = plain_names (site ∷ wet ∷ [])

-- "plain 26 bytes"
abbrev small_plain : List ℕ
small_plain =
    0x00 ∷ 0x01 ∷ 0x01 ∷ 0x00 ∷ 0x01 ∷ 0x08 ∷ 0xD6 ∷ 0xFF ∷ 0xFF ∷ 0xFF ∷ 0xFF ∷ 0xFF ∷ 0xFF ∷ 0xFF
    ∷ 0x05 ∷ 0x02 ∷ 0x00 ∷ 0x00 ∷ 0x00 ∷ 0x02 ∷ 0x42 ∷ 0x37 ∷ 0x01 ∷ 0x00 ∷ 0x04 ∷ 0x00 ∷ []

-- "stored bytes AA BB CC"
abbrev small_stored : List ℕ
small_stored = 0xAA ∷ 0xBB ∷ 0xCC ∷ []

-- "one block, start 1000, end 1005", added with two names
abbrev pub small_adding : Adding
small_adding = adding (time 1000) small_plain small_stored 2

abbrev small_row : Row
small_row = record { start = time 1000; end = time 1005; offset = 64; stored = 3; number = 0 }

-- a record of a table of fields: u16 id, u8 type, 5 bytes of no meaning, u64 bits or place, u64 length
abbrev field_record : (id kind bits size : ℕ) → List ℕ
field_record id kind bits size = le 2 id ++ (kind ∷ (zeros 5 ++ (le 8 bits ++ le 8 size)))

-- the fields of `1000 wet=i:-42`, and of `1005 site=s:"B7" wet=n`, where `B7` is the text lent with it
abbrev pub first_fields : List ℕ
first_fields = field_record 1 1 0xFFFF_FFFF_FFFF_FFD6 0

abbrev pub second_fields : List ℕ
second_fields = field_record 0 0 0 2 ++ field_record 1 4 0 0

-- ---- its calls, each lent what the call before left in front of zeros

-- the names and the entries
unfoldable pub small_open : List Call
small_open =
    begin (zeros 64)
    ∷ name (zeros 32) site
    ∷ name (plain_names (site ∷ []) ++ zeros 16) wet
    ∷ entry (zeros 32) (time 1000) [] first_fields
    ∷ entry (take 14 small_plain ++ zeros 16) (time 1005) (0x42 ∷ 0x37 ∷ []) second_fields
    ∷ []

-- and the block: "header not yet closed"
unfoldable pub small_added : List Call
small_added = small_open ++ (block (zeros 32) small_adding (zeros 39) ∷ [])

-- and closing: "stored dictionary one byte"
unfoldable pub small_closed : List Call
small_closed = small_added ++ (close (table_bytes (small_row ∷ [])) small_names (7 ∷ []) (zeros 137) ∷ [])

-- what each of a list of calls answers
unfoldable pub verdicts : Writer → List Call → List Verdict
verdicts w [] = []
verdicts w (c ∷ cs) = verdict_for w c ∷ verdicts (next w c) cs

-- what stands of a new file at a cut of what calls store
abbrev disk_of : ℕ → List Call → List ℕ
disk_of cut cs = disk cut [] (run new_writer cs)

-- the file that they store
abbrev small_file : List ℕ
small_file = finished (run new_writer small_closed)

-- ---- the table

-- "D = 103, index at 108"
abbrev small_frame : Frame
small_frame = record { dictionary = 103; stored = 1; index = 108; blocks = 1; first = time 1000; last = time 1005 }

-- what recovery reports: no block, and the size of one that is cut; the block
abbrev no_block : Report
no_block = record { rows = []; end = 64; stop = broken 6 88; whole = false }

abbrev one_block : (whole : Bool) → Report
one_block whole = record { rows = small_row ∷ []; end = 103; stop = sound; whole = whole }

-- the query of the small file: how many blocks it chooses, and what a lent list of two numbers 7 and 8 is then
abbrev Chooses : (from to n : ℕ) → List ℕ → Type 0
Chooses from to n after =
    (query_of (small_row ∷ []) (time from) (time to) 2 ≡ given n)
    × (query_out (small_row ∷ []) (time from) (time to) (7 ∷ 8 ∷ []) ≡ after)

-- n letters of the alphabet, from one on
abbrev letters : (first n : ℕ) → List ℕ
letters first zero = []
letters first (suc n) = first ∷ letters (first + 1) n

-- a label in a panel of zeros: what it answers, and what the panel is then
abbrev Labels : (s : List ℕ) → Outcome Bool → List ℕ → Type 0
Labels s v after = (label_of s 16 ≡ v) × (label_out s (zeros 16) ≡ after)

pub record Worked : Type 0 where
  -- the small file's calls are lent buffers as a program lends them, and each is accepted
  pub fair : Fair new_writing small_closed
  pub accepted : verdicts new_writer small_closed ≡ replicate 7 sound
  -- what they build is what closing and the block take: the names; the start, the 26 bytes and the number of names
  pub names : built_names (behind new_writing small_open) ≡ small_names
  pub plain : open_adding (behind new_writing small_open) small_stored ≡ small_adding
  -- "D = 103, index at 108, length 176"
  pub opens : open_of small_file 32 ≡ given small_frame
  pub size : length small_file ≡ 176
  -- "varint AC 02: 300"
  pub k1 : delta_at (0xAC ∷ 0x02 ∷ []) 0 ≡ Ok (record { 0 = 300 }, record { at = 2 })
  -- "nine FF, then 01: 18446744073709551615"
  pub k2 : delta_at (replicate 9 0xFF ++ (1 ∷ [])) 0
      ≡ Ok (record { 0 = 18446744073709551615 }, record { at = 10 })
  -- "nine FF, then 02: 11"
  pub k3 : delta_at (replicate 9 0xFF ++ (2 ∷ [])) 0 ≡ Err (refusal 11 0)
  -- "the value field at payload byte 2: -42"
  pub k4 : field_at small_plain 2 2 ≡ Ok (record { id = 1; value = Whole (negsuc 41) }, record { at = 14 })
  -- "range 0 to 999 / 0 to 1000: none / block 0"
  pub k5 : Chooses 0 999 0 (7 ∷ 8 ∷ []) × Chooses 0 1000 1 (0 ∷ 8 ∷ [])
  -- "range 1006 to 2000 / 1005 to 2000: none / block 0"
  pub k6 : Chooses 1006 2000 0 (7 ∷ 8 ∷ []) × Chooses 1005 2000 1 (0 ∷ 8 ∷ [])
  -- "time 30,000,000,999 / 30,000,001,000 after start 1000: same block / next"
  pub k7 : (belongs_to (time 30_000_000_999) (time 1000) ≡ true)
      × (belongs_to (time 30_000_001_000) (time 1000) ≡ false)
  -- "label of 16 letters / of 17", from a on: the 16 / "its first eight bytes, `~`, and its last seven", from k on
  pub k8 : Labels (letters 0x61 16) (given false) (letters 0x61 16)
      × Labels (letters 0x61 17) (given true) (letters 0x61 8 ++ (0x7E ∷ letters 0x6B 7))
  -- "small file cut at 102 / at 103, header not yet closed: no block / one block"
  pub k9 : (recover_of (disk_of 102 small_added) 32 ≡ given no_block)
      × (recover_of (disk_of 103 small_added) 32 ≡ given (one_block false))
  -- cut in closing: "a second header not whole by then leaves the first"; the dictionary not yet whole, and whole
  pub later : (disk_of 166 small_closed ≡ disk_of 103 small_added)
      × (recover_of (disk_of 171 small_closed) 32 ≡ given (one_block false))
      × (recover_of (disk_of 172 small_closed) 32 ≡ given (one_block true))
