-- What opening finds in a file that was finished: no rule is broken, and the frame, the rows, the stored bytes and the dictionary are those that the
-- file was made of. Assumes nothing.
use mathlib.Core.Path.{◌≡◌, refl, sym, ap, ◌∙◌}
use mathlib.Core.List.{List, [], ◌∷◌, ◌++◌, append_assoc, append-nil}
use Prim.Native.Nat.{ℕ, suc, ◌+◌, ◌-◌, ◌*◌, ◌^◌, ◌≤◌, ◌<◌}
use native.Mathlib.Nat.{zero-add, add-zero}
use native.Mathlib.Omega.{arith}
use lib.Dec.{lit<}
use lib.ListN.{length, drop, get_or, length-append}
use lib.Seq.{drop-drop, drop_at}
use Rattle.verdict.specs.Rules.{sound, first_broken, given}
use Rattle.verdict.proofs.Laws.{first-none, then-sound}
use Rattle.wire.specs.Wire.{le, le_at, splice}
use Rattle.wire.proofs.Numbers.{length-le, le_at-drop}
use Rattle.wire.proofs.Splices.{length-splice}
use Rattle.crc32.specs.Crc.{crc32}
use Rattle.parts.specs.declared.IndexRow.{IndexRow}
use Rattle.parts.specs.declared.Footer.{Footer}
use Rattle.parts.specs.Parts.{header_of, index_row_of, index_row_bytes, index_mark, footer_fields, footer_bytes, FooterFits}
use Rattle.parts.specs.Rules.{header_rules}
use Rattle.parts.proofs.Fields.{widths, spelled_at}
use Rattle.parts.proofs.Parts.{length-index-row, index-row-back}
use Rattle.parts.proofs.HeaderRules.{written-sound}
use Rattle.rows.specs.declared.Row.{Row}
use Rattle.rows.specs.Rows.{stride, file_row, RowFits, empty_row, AllFit, table_bytes, room_rules, filed, numbered, first_time, last_time}
use Rattle.rows.proofs.Rows.{rows_at, length-table, rows-put}
use Rattle.rows.proofs.Fits.{room-there}
use Rattle.blocks.specs.Blocks.{head_at, stored_at, block_rules, block_row, end_along}
use Rattle.layout.specs.Layout.{Block, head_of, block_bytes, block_size, blocks_bytes, row_for, rows_from, end_from, dictionary_bytes, rows_bytes, index_bytes}
use Rattle.layout.specs.Layout.{tail_bytes, closed_header, finished_bytes, table_of}
use Rattle.layout.proofs.Parts.{length-block, length-dictionary, length-index, length-tail}
use Rattle.layout.proofs.Along.{length-rows-from, end-from, rows-numbered}
use Rattle.layout.proofs.Back.{dictionary-size, index-mark, index-count}
use Rattle.frame.specs.declared.Frame.{Frame}
use Rattle.frame.specs.Frame.{size_at, dictionary_rules, frame_of, place_rules, length_rules, index_rules, footer_rules, frame_rules, index_rows}
use Rattle.frame.proofs.Rules.{dictionary-sound, places-sound, length-agrees, index-sound, footer-sound}
use Rattle.reader.specs.Open.{row_rules, blocks_rules, rows_in, open_rules, call_rules, open_of, open_out}
use Rattle.reader.proofs.Rules.{row-sound, after-sound}
use Rattle.access.specs.Access.{row_in, stored_of, dictionary_in}
use Rattle.access.proofs.Rules.{row-there}
use Rattle.disk.proofs.Blocks.{Good, Valid, last_end, first_block, rows_fit}
use Rattle.disk.proofs.Scans as scans
use Rattle.disk.proofs.Dictionary.{dictionary-part}
use Rattle.disk.proofs.Disk.{end_of, closed_file}
use Rattle.disk.proofs.Recovers.{closed-header, length-closed, behind-header, behind-blocks}

-- ---- what stands behind a place

-- behind bytes that stand at a place stands what follows them
behind : (f x t : List ℕ) (at n : ℕ) → drop at f ≡ x ++ t → length x ≡ n → drop (at + n) f ≡ t
behind f x t at n here l = sym (drop-drop n at f) ∙ ap (drop n) here ∙ drop_at x t n l

number_at : (w : ℕ) (f t : List ℕ) (at k : ℕ) → drop at f ≡ t → le_at w f (at + k) ≡ le_at w t k
number_at w f t at k here = sym (le_at-drop w at f k) ∙ ap (λ (l : List ℕ). le_at w l k) here

number-here : (w : ℕ) (f t : List ℕ) (at : ℕ) → drop at f ≡ t → le_at w f at ≡ le_at w t 0
number-here w f t at here = ap (le_at w f) (sym (add-zero at)) ∙ number_at w f t at 0 here

-- ---- the rows of the index

end-within : (at earliest : ℕ) (bs : List Block) → Valid earliest bs → end_from at bs ≤ at + length bs * (36 + 256 ^ 4)
unfolding Valid end_from
end-within at earliest [] v = omega arith
end-within at earliest (b ∷ bs) v = omega (arith, end-within (at + block_size b) b.end bs v.1, v.0.stored-fits)

first-row : (r : Row) (rs : List Row) (t : List ℕ) → rows_bytes (r ∷ rs) ++ t ≡ index_row_bytes (file_row r) ++ (rows_bytes rs ++ t)
unfolding rows_bytes
first-row r rs t = append_assoc (index_row_bytes (file_row r)) (rows_bytes rs) t

-- a row read back, and what stands behind it
module _ (f : List ℕ) (at : ℕ) (r : Row) (rs : List Row) (t : List ℕ) (here : drop at f ≡ rows_bytes (r ∷ rs) ++ t) where
  row_read : RowFits r → index_row_of (drop at f) ≡ file_row r
  row_read fits = ap index_row_of (here ∙ first-row r rs t) ∙ index-row-back (file_row r) fits.filed (rows_bytes rs ++ t)

  row-after : drop (at + 28) f ≡ rows_bytes rs ++ t
  row-after = behind f (index_row_bytes (file_row r)) (rows_bytes rs ++ t) at 28 (here ∙ first-row r rs t) (length-index-row (file_row r))

index_read : (rows : List Row) (f : List ℕ) (at : ℕ) (t : List ℕ) → drop at f ≡ rows_bytes rows ++ t → AllFit rows
    → index_rows (length rows) f at ≡ filed rows
unfolding index_rows filed
index_read [] f at t here fit = refl
index_read (r ∷ rs) f at t here fit =
    rw (row_read f at r rs t here fit.0, index_read rs f (at + 28) t (row-after f at r rs t here) fit.1)

-- ---- the footer

footer-read : (x : Footer) → FooterFits x → (f : List ℕ) (at : ℕ) → drop at f ≡ footer_bytes x → first_broken (footer_rules f at x.index) ≡ sound
unfolding footer_bytes footer_fields widths
footer-read x fits f at here =
    let back = spelled_at (footer_fields x) in
    let t : drop at f ≡ footer_bytes x ++ [] = here ∙ sym (append-nil (footer_bytes x)) in
    footer-sound f at x.index (number-here 8 f (footer_bytes x ++ []) at t ∙ back 0 [] (lit< tt))
    (number_at 8 f (footer_bytes x ++ []) at 8 t ∙ back 1 [] fits.index) (number_at 4 f (footer_bytes x ++ []) at 16 t ∙ back 2 [] (lit< tt))
    (number_at 4 f (footer_bytes x ++ []) at 20 t ∙ back 3 [] (lit< tt))

-- ---- each block, and its row

same_row : (row : IndexRow) (block : Row) (at : ℕ) → row ≡ file_row block → first_broken (row_rules row block at) ≡ sound
same_row row block at e =
    row-sound row block at (ap (λ (r : IndexRow). r.start.0) e) (ap (λ (r : IndexRow). r.end.0) e) (ap (λ (r : IndexRow). r.offset) e)
    (ap (λ (r : IndexRow). r.stored) e)

-- the rules of a block that is read back lead to those of the blocks behind it
module _ (f : List ℕ) (limit at n earliest row : ℕ) (b : Block) (t : List ℕ) (here : drop at f ≡ block_bytes n b ++ t) (small : n < 256 ^ 4)
    (g : Good earliest b) (within : at + block_size b ≤ limit) (same : index_row_of (drop row f) ≡ file_row (row_for n at b)) where
  block-passes : (k : ℕ)
      → first_broken (blocks_rules crc32 (suc k) f limit at n earliest row)
      ≡ first_broken (blocks_rules crc32 k f limit (at + block_size b) (suc n) b.end (row + 28))
  unfolding blocks_rules head_of
  block-passes k =
      then-sound (block_rules crc32 f limit at n earliest) _ (scans.sound_back f at n earliest b t here small g limit within)
      ∙ then-sound (row_rules (index_row_of (drop row f)) (block_row f at) row) _
      (same_row (index_row_of (drop row f)) (block_row f at) row (same ∙ ap file_row (sym (scans.row_back f at n earliest b t here small g))))
      ∙ rw (scans.end_back f at n earliest b t here small g, scans.head-back f at n earliest b t here small g)

no_blocks : (f : List ℕ) (limit at n earliest row : ℕ) → first_broken (blocks_rules crc32 0 f limit at n earliest row) ≡ sound
unfolding blocks_rules
no_blocks f limit at n earliest row = first-none

blocks-pass : (f : List ℕ) (limit : ℕ) (bs : List Block) (at n earliest row : ℕ) (t u : List ℕ) → drop at f ≡ blocks_bytes n bs ++ t
    → drop row f ≡ rows_bytes (rows_from n at bs) ++ u → end_from at bs ≤ limit → Valid earliest bs → AllFit (rows_from n at bs)
    → n + length bs ≤ 256 ^ 4
    → first_broken (blocks_rules crc32 (length bs) f limit at n earliest row) ≡ sound
unfolding Valid rows_from end_from
blocks-pass f limit [] at n earliest row t u here there h v fit few = no_blocks f limit at n earliest row
blocks-pass f limit (b ∷ bs) at n earliest row t u here there h v fit few =
    let next = at + block_size b in
    let block : drop at f ≡ block_bytes n b ++ (blocks_bytes (suc n) bs ++ t) = here ∙ first_block n b bs t in
    let rest = blocks_bytes (suc n) bs ++ t in
    let rows = rows_from (suc n) next bs in
    let small : n < 256 ^ 4 = omega arith in
    let within : next ≤ limit = omega (arith, end-from next (suc n) bs) in
    block-passes f limit at n earliest row b rest block small v.0 within (row_read f row (row_for n at b) rows u there fit.0) (length bs)
    ∙ blocks-pass f limit bs next (suc n) b.end (row + 28) t u (scans.drop-back f at n earliest b rest block small v.0)
    (row-after f row (row_for n at b) rows u there) h v.1 fit.1 (omega arith)

-- the block behind others
block_at : (f : List ℕ) (before : List Block) (b : Block) (after : List Block) (at n : ℕ) (t : List ℕ) → drop at f ≡ blocks_bytes n (before ++ (b ∷ after)) ++ t
    → drop (end_from at before) f ≡ block_bytes (n + length before) b ++ (blocks_bytes (suc (n + length before)) after ++ t)
unfolding end_from
block_at f [] b after at n t here = rw (add-zero n) (here ∙ first_block n b after t)
block_at f (c ∷ before) b after at n t here =
    let e : n + suc (length before) ≡ suc n + length before = omega arith in
    let rest = blocks_bytes (suc n) (before ++ (b ∷ after)) ++ t in
    rw e
    (block_at f before b after (at + block_size c) (suc n) t
    (behind f (block_bytes n c) rest at (block_size c) (here ∙ first_block n c (before ++ (b ∷ after)) t) (length-block n c)))

good-at : (earliest : ℕ) (before : List Block) (b : Block) (after : List Block) → Valid earliest (before ++ (b ∷ after)) → Good (last_end earliest before) b
unfolding Valid last_end
good-at earliest [] b after v = v.0
good-at earliest (c ∷ before) b after v = good-at c.end before b after v.1

row-in : (n at : ℕ) (before : List Block) (b : Block) (after : List Block)
    → get_or (rows_from n at (before ++ (b ∷ after))) (length before) empty_row ≡ row_for (n + length before) (end_from at before) b
unfolding rows_from end_from
row-in n at [] b after = rw add-zero
row-in n at (c ∷ before) b after =
    let e : n + suc (length before) ≡ suc n + length before = omega arith in
    rw e (row-in (suc n) (at + block_size c) before b after)

-- the stored bytes that its row leads to
stored_there : (f : List ℕ) (at n earliest : ℕ) (b : Block) (t : List ℕ) → drop at f ≡ block_bytes n b ++ t → n < 256 ^ 4 → Good earliest b
    → stored_of f (row_for n at b) ≡ b.stored
unfolding stored_of stored_at block_row
stored_there f at n earliest b t here small g =
    ap (stored_of f) (sym (scans.row_back f at n earliest b t here small g)) ∙ scans.stored_back f at n earliest b t here small g

-- where the last of them ends
end-found : (f : List ℕ) (bs : List Block) (at n earliest : ℕ) (t : List ℕ) → drop at f ≡ blocks_bytes n bs ++ t → Valid earliest bs → n + length bs ≤ 256 ^ 4
    → end_along (length bs) f at ≡ end_from at bs
unfolding Valid end_along end_from
end-found f [] at n earliest t here v few = refl
end-found f (b ∷ bs) at n earliest t here v few =
    let block : drop at f ≡ block_bytes n b ++ (blocks_bytes (suc n) bs ++ t) = here ∙ first_block n b bs t in
    let rest = blocks_bytes (suc n) bs ++ t in
    let small : n < 256 ^ 4 = omega arith in
    ap (end_along (length bs) f) (scans.end_back f at n earliest b rest block small v.0)
    ∙ end-found f bs (at + block_size b) (suc n) b.end t (scans.drop-back f at n earliest b rest block small v.0) v.1 (omega arith)

-- ---- a finished file

-- the file of blocks and a stored dictionary
abbrev pub finished_file : List Block → List ℕ → List ℕ
finished_file bs d = finished_bytes (table_of bs) (blocks_bytes 0 bs) d

-- where its index stands, and what stands behind its blocks
abbrev pub index_of : List Block → List ℕ → ℕ
index_of bs d = end_of bs + 4 + length d

abbrev tail_of : List Block → List ℕ → List ℕ
tail_of bs d = tail_bytes (index_of bs d) (table_of bs) d

abbrev footer_of : List Block → List ℕ → List ℕ
footer_of bs d = footer_bytes (record { index = index_of bs d })

-- its frame
abbrev pub finished_frame : List Block → List ℕ → Frame
finished_frame bs d =
    record {
      dictionary = end_of bs;
      stored = length d;
      index = index_of bs d;
      blocks = length bs;
      first = record { 0 = first_time (table_of bs) };
      last = record { 0 = last_time (table_of bs) };
    }

-- how its parts lie
record Laid (bs : List Block) (d f : List ℕ) : Type 0 where
  header-sound : first_broken (header_rules f) ≡ sound
  header : header_of f ≡ closed_header (end_of bs) (table_of bs)
  length-is : length f ≡ end_of bs + (4 + length d + (16 + 28 * length bs) + 24)
  body : drop 64 f ≡ blocks_bytes 0 bs ++ tail_of bs d
  tail : drop (end_of bs) f ≡ tail_of bs d

module _ (bs : List Block) (v : Valid 0 bs) (few : length bs ≤ 4096) (d : List ℕ) where
  closed-laid : Laid bs d (closed_file bs (tail_of bs d))
  closed-laid =
      let r = tail_of bs d in
      record {
        header-sound = written-sound (closed_header (end_of bs) (table_of bs)) (blocks_bytes 0 bs ++ r);
        header = closed-header bs v few r;
        length-is = omega (arith, length-closed bs v few r, length-tail (index_of bs d) (table_of bs) d, length-rows-from 0 64 bs);
        body = behind-header bs v few r;
        tail = behind-blocks bs v few r;
      }

  laid : Laid bs d (finished_file bs d)
  unfolding finished_bytes
  laid = closed-laid

-- the places behind the blocks, and the frame
module _ (bs : List Block) (d : List ℕ) (f : List ℕ) (l : Laid bs d f) where
  here-dictionary : drop (end_of bs) f ≡ dictionary_bytes d ++ (index_bytes (table_of bs) ++ footer_of bs d)
  unfolding tail_bytes
  here-dictionary = l.tail

  here-index : drop (index_of bs d) f ≡ index_bytes (table_of bs) ++ footer_of bs d
  here-index =
      let e : index_of bs d ≡ end_of bs + (4 + length d) = omega arith in
      ap (λ (k : ℕ). drop k f) e
      ∙ behind f (dictionary_bytes d) (index_bytes (table_of bs) ++ footer_of bs d) (end_of bs) (4 + length d) here-dictionary (length-dictionary d)

  here-footer : drop (length f - 24) f ≡ footer_of bs d
  here-footer =
      let n = 16 + 28 * length (table_of bs) in
      let e : length f - 24 ≡ index_of bs d + n = omega (arith, l.length-is, length-rows-from 0 64 bs) in
      ap (λ (k : ℕ). drop k f) e ∙ behind f (index_bytes (table_of bs)) (footer_of bs d) (index_of bs d) n here-index (length-index (table_of bs))

  here-rows : drop (index_of bs d + 16) f ≡ rows_bytes (table_of bs) ++ footer_of bs d
  unfolding index_bytes
  here-rows =
      let rows = table_of bs in
      let mark = le 8 index_mark in
      let count = le 8 (length rows) in
      let e : index_of bs d + 16 ≡ index_of bs d + 8 + 8 = omega arith in
      let first : drop (index_of bs d) f ≡ mark ++ ((count ++ rows_bytes rows) ++ footer_of bs d) =
      here-index ∙ append_assoc mark (count ++ rows_bytes rows) (footer_of bs d) in
      let second : drop (index_of bs d + 8) f ≡ count ++ (rows_bytes rows ++ footer_of bs d) =
      behind f mark ((count ++ rows_bytes rows) ++ footer_of bs d) (index_of bs d) 8 first (length-le 8 index_mark)
      ∙ append_assoc count (rows_bytes rows) (footer_of bs d) in
      ap (λ (k : ℕ). drop k f) e ∙ behind f count (rows_bytes rows ++ footer_of bs d) (index_of bs d + 8) 8 second (length-le 8 (length rows))

  module _ (fits : length d < 256 ^ 4) where
    size-laid : size_at f (end_of bs) ≡ length d
    size-laid = number-here 4 f _ (end_of bs) here-dictionary ∙ dictionary-size d (index_bytes (table_of bs) ++ footer_of bs d) fits

    dictionary-laid : 1 ≤ length d → dictionary_in f (finished_frame bs d) ≡ d
    unfolding dictionary_in
    dictionary-laid some =
        rw size-laid at (dictionary-part d some fits f (end_of bs) (omega arith) (index_bytes (table_of bs) ++ footer_of bs d) here-dictionary)

    frame-laid : frame_of f ≡ finished_frame bs d
    unfolding frame_of closed_header
    frame-laid = rw (l.header, size-laid, length-rows-from 0 64 bs)

-- no rule is broken
module _ (bs : List Block) (v : Valid 0 bs) (few : length bs ≤ 4096) (d : List ℕ) (some : 1 ≤ length d) (fits : length d < 256 ^ 4) (f : List ℕ)
    (l : Laid bs d f) where
  footer-laid : first_broken (footer_rules f (length f - 24) (index_of bs d)) ≡ sound
  footer-laid =
      let small : index_of bs d < 256 ^ 8 = omega (arith, end-within 64 0 bs v, end-from 64 0 bs) in
      footer-read (record { index = index_of bs d }) (record { index = small }) f (length f - 24) (here-footer bs d f l)

  index-laid : first_broken (index_rules f (index_of bs d) (length bs)) ≡ sound
  index-laid =
      let rows = table_of bs in
      let n = length-rows-from 0 64 bs in
      index-sound f (index_of bs d) (length bs) (number-here 8 f _ (index_of bs d) (here-index bs d f l) ∙ index-mark rows (footer_of bs d))
      (number_at 8 f _ (index_of bs d) 8 (here-index bs d f l) ∙ index-count rows (footer_of bs d) (omega arith) ∙ n)

  frame-passes : first_broken (frame_rules f) ≡ sound
  unfolding frame_rules
  frame-passes =
      let m = l.length-is in
      let size = size-laid bs d f l fits in
      let i = index_of bs d in
      rw (frame-laid bs d f l fits)
      (then-sound (header_rules f) _ l.header-sound
      ∙ then-sound (place_rules (end_of bs) (length bs) (length f)) _
      (places-sound (end_of bs) (length bs) (length f) (omega arith) (omega arith) (omega arith) few)
      ∙ then-sound (dictionary_rules f (end_of bs)) _ (dictionary-sound f (end_of bs) (omega arith) (omega arith) (omega arith))
      ∙ then-sound (length_rules i (length bs) (length f)) _ (length-agrees i (length bs) (length f) (omega arith))
      ∙ then-sound (index_rules f i (length bs)) _ index-laid
      ∙ footer-laid)

  fit-laid : AllFit (table_of bs)
  fit-laid = rows_fit 0 64 0 bs v (omega arith) (omega arith)

  rows-laid : rows_in f ≡ table_of bs
  unfolding rows_in
  rows-laid =
      let e : index_rows (length (table_of bs)) f (index_of bs d + 16) ≡ filed (table_of bs) =
      index_read (table_of bs) f (index_of bs d + 16) (footer_of bs d) (here-rows bs d f l) fit-laid in
      let g : index_rows (length bs) f (index_of bs d + 16) ≡ filed (table_of bs) = rw (length-rows-from 0 64 bs) at e in
      rw (frame-laid bs d f l fits) (ap numbered g ∙ rows-numbered 0 64 bs)

  end-laid : end_along (length bs) f 64 ≡ end_of bs
  end-laid = end-found f bs 64 0 0 (tail_of bs d) l.body v (omega arith) ∙ end-from 64 0 bs

  open-laid : first_broken (open_rules crc32 f) ≡ sound
  unfolding open_rules
  open-laid =
      let i = index_of bs d in
      let within : end_from 64 bs ≤ end_of bs = omega (arith, end-from 64 0 bs) in
      rw (rows-laid, frame-laid bs d f l fits)
      (then-sound (frame_rules f) _ frame-passes
      ∙ then-sound (blocks_rules crc32 (length bs) f (end_of bs) 64 0 0 (i + 16)) _
      (blocks-pass f (end_of bs) bs 64 0 0 (i + 16) (tail_of bs d) (footer_of bs d) l.body (here-rows bs d f l) within v fit-laid (omega arith))
      ∙ after-sound (finished_frame bs d) (end_along (length bs) f 64) (first_time (table_of bs)) (last_time (table_of bs)) end-laid refl refl)

-- ---- what the reader finds

-- what opening a file with a lent table gives, and the table afterwards
pub record Opens (f table : List ℕ) (r : Frame) (rows : List Row) : Type 0 where
  pub gives : open_of f (length table) ≡ given r
  pub leaves : open_out f table ≡ splice table 0 (table_bytes rows)

room-opens : (f table : List ℕ) (r : Frame) (rows : List Row) → first_broken (open_rules crc32 f) ≡ sound → frame_of f ≡ r → rows_in f ≡ rows
    → length (table_bytes rows) ≤ length table → Opens f table r rows
unfolding call_rules open_of open_out
room-opens f table r rows e a b h =
    let n : length rows * stride ≤ length table = omega (arith, length-table rows) in
    let calls : first_broken (open_rules crc32 f ++ room_rules rows (length table)) ≡ sound =
    then-sound (open_rules crc32 f) _ e ∙ room-there rows (length rows) (length table) refl n in
    record { gives = rw (b, calls, a); leaves = rw (b, calls) }

-- a row of those that are put in front of a table
row-tabled : (rows : List Row) (table : List ℕ) (n i : ℕ) → length rows ≡ n → i < n → length (table_bytes rows) ≤ length table → AllFit rows
    → row_in (splice table 0 (table_bytes rows)) n i ≡ given (get_or rows i empty_row)
row-tabled rows table n i e h room fit =
    let m : length rows * stride ≤ length table = omega (arith, length-table rows) in
    let after = splice table 0 (table_bytes rows) in
    let r = rows_at (length rows) after i (omega arith) in
    let l : length after ≡ length table = length-splice table 0 (table_bytes rows) in
    sym (row-there after n i h (omega arith)) ∙ ap given (sym r ∙ ap (λ (rs : List Row). get_or rs i empty_row) (rows-put rows table m fit))

module _ (bs : List Block) (v : Valid 0 bs) (few : length bs ≤ 4096) (d : List ℕ) (some : 1 ≤ length d) (fits : length d < 256 ^ 4) where
  pub open_finished : first_broken (open_rules crc32 (finished_file bs d)) ≡ sound
  open_finished = open-laid bs v few d some fits (finished_file bs d) (laid bs v few d)

  pub frame-finished : frame_of (finished_file bs d) ≡ finished_frame bs d
  frame-finished = frame-laid bs d (finished_file bs d) (laid bs v few d) fits

  pub rows-finished : rows_in (finished_file bs d) ≡ table_of bs
  rows-finished = rows-laid bs v few d some fits (finished_file bs d) (laid bs v few d)

  pub dictionary-finished : dictionary_in (finished_file bs d) (frame_of (finished_file bs d)) ≡ d
  dictionary-finished = rw frame-finished (dictionary-laid bs d (finished_file bs d) (laid bs v few d) fits some)

  -- with a table that has room for the rows
  module _ (table : List ℕ) (room : length (table_bytes (table_of bs)) ≤ length table) where
    pub opens : Opens (finished_file bs d) table (finished_frame bs d) (table_of bs)
    opens = room-opens (finished_file bs d) table (finished_frame bs d) (table_of bs) open_finished frame-finished rows-finished room

  -- each block
  module _ (before : List Block) (b : Block) (after : List Block) (split : bs ≡ before ++ (b ∷ after)) where
    here-block : drop (end_from 64 before) (finished_file bs d) ≡ block_bytes (length before) b ++ (blocks_bytes (suc (length before)) after ++ tail_of bs d)
    here-block =
        let l = laid bs v few d in
        rw zero-add at
        (block_at (finished_file bs d) before b after 64 0 (tail_of bs d) (l.body ∙ ap (λ (x : List Block). blocks_bytes 0 x ++ tail_of bs d) split))

    small-number : length before < 256 ^ 4
    small-number = let e = ap length split in omega (arith, length-append before (b ∷ after))

    good-block : Good (last_end 0 before) b
    good-block = good-at 0 before b after (rw split at v)

    pub head-finished : head_at (finished_file bs d) (end_from 64 before) ≡ head_of (length before) b
    head-finished =
        scans.head-back (finished_file bs d) (end_from 64 before) (length before) (last_end 0 before) b (blocks_bytes (suc (length before)) after
        ++ tail_of bs d)
        here-block small-number good-block

    pub stored-finished : stored_of (finished_file bs d) (row_for (length before) (end_from 64 before) b) ≡ b.stored
    stored-finished =
        stored_there (finished_file bs d) (end_from 64 before) (length before) (last_end 0 before) b (blocks_bytes (suc (length before)) after ++ tail_of bs d)
        here-block small-number good-block

    pub row-finished : (table : List ℕ) → length (table_bytes (table_of bs)) ≤ length table
        → row_in (open_out (finished_file bs d) table) (length bs) (length before) ≡ given (row_for (length before) (end_from 64 before) b)
    row-finished table room =
        let e = ap length split in
        let i : length before < length bs = omega (arith, length-append before (b ∷ after)) in
        rw (opens table room).leaves (row-tabled (table_of bs) table (length bs) (length before) (length-rows-from 0 64 bs) i room
        (rows_fit 0 64 0 bs v (omega arith) (omega arith)))
        ∙ ap (λ (x : List Block). given (get_or (table_of x) (length before) empty_row)) split ∙ ap given (rw zero-add at (row-in 0 64 before b after))
