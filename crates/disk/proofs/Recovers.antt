-- What recovery reports of a disk that was cut: the blocks stored in full, and a whole dictionary exactly where it was stored in full. Assumes nothing.
use mathlib.Core.Path.{◌≡◌, refl, sym, ap, ◌∙◌}
use mathlib.Core.Bool.{Bool, true, false, cond}
use mathlib.Core.List.{List, [], ◌∷◌, ◌++◌, map}
use Prim.Native.Nat.{ℕ, suc, ◌+◌, ◌-◌, ◌*◌, ◌^◌, ◌≤◌, ◌<◌, zero-le}
use native.Mathlib.Omega.{arith}
use native.Mathlib.Decide.{dec_le}
use lib.Dec.{leb, lit<}
use lib.ListN.{length, take, drop, length-append}
use lib.Seq.{drop_at, drop-drop}
use borrow.Author.Tests.{le-leb, lt-leb}
use Rattle.verdict.specs.Rules.{sound, first_broken, given}
use Rattle.verdict.proofs.Laws.{then-sound, least-holds, first-none}
use Rattle.wire.specs.Wire.{part, splice}
use Rattle.wire.proofs.Lists.{take_past}
use Rattle.crc32.specs.Crc.{crc32}
use Rattle.parts.specs.declared.Header.{Header}
use Rattle.parts.specs.Parts.{empty_header, header_bytes, header_of, HeaderFits}
use Rattle.parts.specs.Rules.{header_rules}
use Rattle.parts.proofs.Parts.{length-header, header-back}
use Rattle.parts.proofs.HeaderRules.{written-sound}
use Rattle.rows.specs.Rows.{first_time, last_from, table_bytes, room_rules}
use Rattle.blocks.specs.Blocks.{scan_of}
use Rattle.layout.specs.Layout.{Block, blocks_bytes, block_size, row_for, rows_from, end_from, dictionary_bytes, tail_bytes, closed_header, table_of}
use Rattle.layout.proofs.Parts.{length-block, length-dictionary}
use Rattle.layout.proofs.Along.{length-rows-from, end-from}
use Rattle.recovery.specs.Recovery.{limit_of, limit_in, offset_rules, recover_rules, Report, reported, report_of, call_rules, recover_of, recover_out}
use Rattle.frame.specs.Frame.{size_at, whole_dictionary}
use Rattle.recovery.proofs.Rules.{limit-length, limit-offset, offset-sound}
use Rattle.frame.proofs.Rules.{whole-none}
use Rattle.disk.proofs.Blocks.{Valid}
use Rattle.disk.proofs.Full.{full, part_of}
use Rattle.writer_blocks.specs.Block.{Adding, block_for}
use Rattle.disk.specs.Disk.{Store, disk, dictionaries_in_full, some, standing, stop_for}
use Rattle.disk.proofs.Stores.{Begun}
use Rattle.disk.proofs.Scans.{scan-clean, scan-cut, stop-none}
use Rattle.disk.proofs.Dictionary.{dictionary-part, dictionary-whole, dictionary-short-of}
use Rattle.disk.proofs.Disk.{blocks_in, open_file, end_of, closed_file, Before, Behind, View, before, behind, view}

-- ---- a file with the header h, which fits, and anything behind it

module _ (h : Header) (fits : HeaderFits h) (t : List ℕ) where
  length-file : length (header_bytes h ++ t) ≡ 64 + length t
  length-file = omega (arith, length-append (header_bytes h) t, length-header h)

  limit-file : limit_in (header_bytes h ++ t) ≡ limit_of h.dictionary (length (header_bytes h ++ t))
  limit-file = rw (header-back h fits t)

  pub accepted : 64 ≤ limit_in (header_bytes h ++ t) → limit_in (header_bytes h ++ t) ≤ length (header_bytes h ++ t)
      → first_broken (recover_rules (header_bytes h ++ t)) ≡ sound
  unfolding recover_rules
  accepted a b =
      then-sound (header_rules (header_bytes h ++ t)) (offset_rules (limit_in (header_bytes h ++ t)) (length (header_bytes h ++ t))) (written-sound h t)
      ∙ offset-sound (limit_in (header_bytes h ++ t)) (length (header_bytes h ++ t)) a b

-- ---- the header is the first one: the scan goes to the file's end

empty-fits : HeaderFits empty_header
empty-fits = record { dictionary = lit< tt; blocks = lit< tt; first = lit< tt; last = lit< tt }

module _ (t : List ℕ) where
  pub open-header : header_of (open_file t) ≡ empty_header
  open-header = header-back empty_header empty-fits t

  open-limit : limit_in (open_file t) ≡ length (open_file t)
  open-limit = limit-file empty_header empty-fits t ∙ limit-length 0 (length (open_file t)) refl

  pub open-accepted : first_broken (recover_rules (open_file t)) ≡ sound
  open-accepted =
      let l = length-file empty_header empty-fits t in
      let e = open-limit in
      accepted empty_header empty-fits t (omega arith) (omega arith)

  pub open-whole : whole_dictionary (open_file t) (header_of (open_file t)).dictionary ≡ false
  open-whole = rw open-header (whole-none (open_file t) 0 refl)

  pub open-report : report_of (open_file t) ≡ reported (scan_of crc32 (open_file t) (length (open_file t))) false
  unfolding report_of
  open-report = rw (open-limit, open-whole)

-- ---- the header is the last one: the scan goes to D

first_fits : (n at : ℕ) (bs : List Block) → Valid 0 bs → first_time (rows_from n at bs) < 256 ^ 8
unfolding Valid rows_from first_time row_for
first_fits n at [] v = lit< tt
first_fits n at (b ∷ bs) v = v.0.start_fits

last_fits : (n at t earliest : ℕ) (bs : List Block) → Valid earliest bs → t < 256 ^ 8 → last_from t (rows_from n at bs) < 256 ^ 8
unfolding Valid rows_from last_from row_for
last_fits n at t earliest [] v h = h
last_fits n at t earliest (b ∷ bs) v h = last_fits (suc n) (at + block_size b) b.end b.end bs v.1 v.0.end_fits

blocks-fit : (n earliest : ℕ) (bs : List Block) → Valid earliest bs → length (blocks_bytes n bs) ≤ length bs * (36 + 256 ^ 4)
unfolding blocks_bytes Valid
blocks-fit n earliest [] v = zero-le
blocks-fit n earliest (b ∷ bs) v = rw (length-append, length-block) (omega (arith, blocks-fit (suc n) b.end bs v.1, v.0.stored-fits))

closed-fits : (bs : List Block) → Valid 0 bs → length bs ≤ 4096 → HeaderFits (closed_header (end_of bs) (table_of bs))
unfolding closed_header
closed-fits bs v few =
    record {
      dictionary = omega (arith, blocks-fit 0 0 bs v);
      blocks = omega (arith, length-rows-from 0 64 bs);
      first = first_fits 0 64 bs v;
      last = last_fits 0 64 0 0 bs v (lit< tt);
    }

module _ (bs : List Block) (v : Valid 0 bs) (few : length bs ≤ 4096) (r : List ℕ) where
  pub closed-header : header_of (closed_file bs r) ≡ closed_header (end_of bs) (table_of bs)
  closed-header = header-back (closed_header (end_of bs) (table_of bs)) (closed-fits bs v few) (blocks_bytes 0 bs ++ r)

  pub closed-offset : (header_of (closed_file bs r)).dictionary ≡ end_of bs
  unfolding closed_header
  closed-offset = ap (λ (h : Header). h.dictionary) closed-header

  pub closed-count : (header_of (closed_file bs r)).blocks ≡ length (table_of bs)
  unfolding closed_header
  closed-count = ap (λ (h : Header). h.blocks) closed-header

  closed-limit : limit_in (closed_file bs r) ≡ end_of bs
  closed-limit = ap (λ (d : ℕ). limit_of d (length (closed_file bs r))) closed-offset ∙ limit-offset (end_of bs) (length (closed_file bs r)) (λ e. omega arith)

  pub length-closed : length (closed_file bs r) ≡ end_of bs + length r
  length-closed = omega (
    arith,
    length-file (closed_header (end_of bs) (table_of bs)) (closed-fits bs v few) (blocks_bytes 0 bs ++ r),
    length-append (blocks_bytes 0 bs) r,
  )

  pub behind-header : drop 64 (closed_file bs r) ≡ blocks_bytes 0 bs ++ r
  behind-header = drop_at (header_bytes (closed_header (end_of bs) (table_of bs))) (blocks_bytes 0 bs
      ++ r) 64 (length-header (closed_header (end_of bs) (table_of bs)))

  pub behind-blocks : drop (end_of bs) (closed_file bs r) ≡ r
  behind-blocks =
      let n = length (blocks_bytes 0 bs) in
      sym (drop-drop n 64 (closed_file bs r)) ∙ ap (drop n) behind-header ∙ drop_at (blocks_bytes 0 bs) r n refl

  pub closed-accepted : first_broken (recover_rules (closed_file bs r)) ≡ sound
  closed-accepted =
      let e = closed-limit in
      let l = length-closed in
      accepted (closed_header (end_of bs) (table_of bs)) (closed-fits bs v few) (blocks_bytes 0 bs ++ r) (omega arith) (omega arith)

  pub closed-report : report_of (closed_file bs r)
      ≡ record { rows = table_of bs; end = end_of bs; stop = sound; whole = whole_dictionary (closed_file bs r) (end_of bs) }
  unfolding report_of
  closed-report = rw (closed-limit, closed-offset, scan-clean (closed_file bs r) (end_of bs) bs r behind-header refl few v)

-- ---- the views

-- what recovery says of a file: it reports these blocks, what stops it with so many bytes of another standing behind them, and a whole
-- dictionary exactly where one of these is there
pub record Reports (f : List ℕ) (bs : List Block) (part : ℕ) (ds : List (List ℕ)) : Type 0 where
  pub accepts : first_broken (recover_rules f) ≡ sound
  pub rows : (report_of f).rows ≡ table_of bs
  pub end : (report_of f).end ≡ end_from 64 bs
  pub stop : (report_of f).stop ≡ stop_for (end_from 64 bs) part
  pub whole : (report_of f).whole ≡ some ds

-- of the disk that a cut leaves: those stored in full
abbrev pub Recovers : List Store → ℕ → Type 0
Recovers ss cut = Reports (disk cut [] ss) (blocks_in 0 cut ss) (standing 0 cut ss) (dictionaries_in_full cut ss)

some-cond : (t : Bool) (d : List ℕ) → t ≡ some (cond t (d ∷ []) [])
unfolding some
some-cond true d = refl
some-cond false d = refl

module _ (bs : List Block) (v : Valid 0 bs) (few : length bs ≤ 4096) where
  pub reports-open : (cut : ℕ) → 64 ≤ cut → Reports (open_file (take (cut - 64) (blocks_bytes 0 bs))) (full 64 cut bs) (part_of 64 cut bs) []
  unfolding some
  reports-open cut h =
      let t = take (cut - 64) (blocks_bytes 0 bs) in
      let f = open_file t in
      let i = scan-cut f (header_bytes empty_header) (length f) (cut - 64) cut bs refl (length-header empty_header) refl (omega arith) few v in
      let e = open-report t in
      record {
        accepts = open-accepted t;
        rows = ap (λ (r : Report). r.rows) e ∙ i.rows;
        end = ap (λ (r : Report). r.end) e ∙ i.end;
        stop = ap (λ (r : Report). r.stop) e ∙ i.stop;
        whole = ap (λ (r : Report). r.whole) e;
      }

  pub reports-closed : (r : List ℕ) (ds : List (List ℕ)) → whole_dictionary (closed_file bs r) (end_of bs) ≡ some ds → Reports (closed_file bs r) bs 0 ds
  reports-closed r ds w =
      let e = closed-report bs v few r in
      record {
        accepts = closed-accepted bs v few r;
        rows = ap (λ (r : Report). r.rows) e;
        end = ap (λ (r : Report). r.end) e ∙ sym (end-from 64 0 bs);
        stop = ap (λ (r : Report). r.stop) e ∙ sym (stop-none (end_from 64 bs) 0 refl);
        whole = ap (λ (r : Report). r.whole) e ∙ w;
      }

  -- the dictionary is whole in the file exactly where all its bytes stand there
  pub closed-whole : (d : List ℕ) → 1 ≤ length d → length d < 256 ^ 4 → (j : ℕ) (t : List ℕ) →
      whole_dictionary (closed_file bs (take j (dictionary_bytes d ++ t))) (end_of bs) ≡ leb (4 + length d) j
  closed-whole d p q j t =
      let r = take j (dictionary_bytes d ++ t) in
      let f = closed_file bs r in
      let at = end_of bs in
      elim (dec_le (4 + length d) j) [
        | yes c ↦
            (let e : r ≡ dictionary_bytes d ++ take (j - (4 + length d)) t = take_past j (4 + length d) (dictionary_bytes d) t (length-dictionary d) c in
            dictionary-whole d p q f at (omega arith) (take (j - (4 + length d)) t) (behind-blocks bs v few r ∙ e)
            (length-closed bs v few r ∙ ap (λ (l : List ℕ). at + length l) e)
            ∙ sym (le-leb (4 + length d) j c))
        | no c ↦
            dictionary-short-of d p q f at (omega arith) j t (behind-blocks bs v few r) (length-closed bs v few r) (omega arith)
            ∙ sym (lt-leb (4 + length d) j (omega arith))
      ]

  pub closed-part : (d : List ℕ) → 1 ≤ length d → length d < 256 ^ 4 → (j : ℕ) (t : List ℕ) → 4 + length d ≤ j →
      (let f = closed_file bs (take j (dictionary_bytes d ++ t)) in part f (end_of bs + 4) (size_at f (end_of bs)) ≡ d)
  closed-part d p q j t c =
      let r = take j (dictionary_bytes d ++ t) in
      let e : r ≡ dictionary_bytes d ++ take (j - (4 + length d)) t = take_past j (4 + length d) (dictionary_bytes d) t (length-dictionary d) c in
      dictionary-part d p q (closed_file bs r) (end_of bs) (omega arith) (take (j - (4 + length d)) t) (behind-blocks bs v few r ∙ e)

  module _ (ss : List Store) (cut : ℕ) where
    recovers-before : Before ss cut bs → Recovers ss cut
    recovers-before b = rw (b.disk-is, b.blocks, b.stands, b.dictionaries) (reports-open cut b.reached)

    recovers-behind : (d : List ℕ) (j : ℕ) → 1 ≤ length d → length d < 256 ^ 4 → Behind ss cut bs d j → Recovers ss cut
    unfolding tail_bytes
    recovers-behind d j p q b =
        rw (b.disk-is, b.blocks, b.stands, b.dictionaries)
        (reports-closed (take j (tail_bytes (end_of bs + 4 + length d) (table_of bs) d)) (cond (leb (4 + length d) j) (d ∷ []) [])
        (closed-whole d p q j _ ∙ some-cond (leb (4 + length d) j) d))

-- every cut of the stores of a writer that began, which leaves a header
module _ (xs : List Adding) (v : Valid 0 (map block_for xs)) (few : length (map block_for xs) ≤ 4096) where
  recovers-view : (ss : List Store) (cut : ℕ) → View ss cut xs → Recovers ss cut
  recovers-view ss cut (before b) = recovers-before (map block_for xs) v few ss cut b
  recovers-view ss cut (behind d j e p q b) = recovers-behind (map block_for xs) v few ss cut d j p q b

  pub recovers : {ss : List Store} → Begun xs ss → (cut : ℕ) → 64 ≤ length (disk cut [] ss) → Recovers ss cut
  recovers {ss} b cut h = recovers-view ss cut (view xs b cut h)

-- so the call, with a table that has room for the rows, gives the report and puts the rows in front of the table
module _ (f : List ℕ) (bs : List Block) (part : ℕ) (ds : List (List ℕ)) (r : Reports f bs part ds) (table : List ℕ)
    (room : length (table_bytes (table_of bs)) ≤ length table) where
  rules-sound : first_broken (call_rules f (length table)) ≡ sound
  unfolding call_rules room_rules
  rules-sound =
      let n = length (table_bytes (report_of f).rows) in
      let l : n ≤ length table = rw r.rows room in
      then-sound (recover_rules f) _ r.accepts ∙ least-holds 12 n [] (length table) n l ∙ first-none

  pub recover-gives : recover_of f (length table) ≡ given (report_of f)
  unfolding recover_of
  recover-gives = rw rules-sound

  pub recover-leaves : recover_out f table ≡ splice table 0 (table_bytes (table_of bs))
  unfolding recover_out
  recover-leaves = rw (rules-sound, r.rows)
