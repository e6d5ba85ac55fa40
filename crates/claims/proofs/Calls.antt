-- Laws of one call: what it leaves and stores where its rules hold, and where they don't. Assumes nothing.
use mathlib.Core.Path.{◌≡◌, refl, sym, ap, ◌∙◌}
use mathlib.Core.List.{List, [], ◌∷◌, ◌++◌}
use Prim.Native.Nat.{ℕ, ◌+◌, ◌-◌, ◌*◌, ◌≤◌}
use native.Mathlib.Omega.{arith}
use lib.ListN.{length, take, drop, length-append}
use lib.Seq.{take_at, drop_at, drop-drop}
use borrow.Author.Tests.{leb-true}
use Rattle.verdict.specs.Rules.{holds, Verdict, sound, broken, first_broken, verdict_in, ruled}
use Rattle.verdict.proofs.Laws.{sound-held, parts-sound, first-ruled}
use Rattle.wire.specs.Wire.{part, splice}
use Rattle.wire.proofs.Splices.{splice-there}
use Rattle.parts.specs.declared.time.Epoch.{Epoch}
use Rattle.rows.specs.declared.Row.{Row}
use Rattle.parts.specs.Parts.{empty_header, header_bytes, footer_bytes}
use Rattle.parts.proofs.Parts.{length-header, length-footer}
use Rattle.rows.specs.Rows.{stride, rows_of, table_bytes, rows_with}
use Rattle.layout.specs.Layout.{block_bytes, block_size, row_for, dictionary_bytes, index_bytes, tail_bytes, closed_header, closing_bytes}
use Rattle.layout.proofs.Parts.{length-block, length-dictionary}
use Rattle.packing.specs.Rules.{largest}
use Rattle.packing.specs.Table.{records_in, fields_of}
use Rattle.name_search.specs.Search.{Found, numbered, missing}
use Rattle.writer_blocks.proofs.Blocks.{block-fits}
use Rattle.writer_close.proofs.Closes.{close-good, close-fits}
use Rattle.writer.specs.declared.state.Writer.{Writer}
use Rattle.writer.specs.State.{begun_writer, begun_rules}
use Rattle.writer.specs.Begin.{first_bytes, begin_rules, begin_of, begin_out}
use Rattle.writer_names.specs.Name.{name_rules, held_as, naming_of, with_name, name_of, name_out}
use Rattle.writer_entries.specs.Entry.{entry_rules, with_entry, entry_of}
use Rattle.writer_blocks.specs.Block.{Adding, read_by, block_for, take_rules, block_rules, with_block, block_of, rows_out, block_out}
use Rattle.writer_close.specs.Close.{last_bytes, close_rules, closed, close_of, close_out}
use Rattle.disk.specs.Disk.{header_store, block_store}
use Rattle.disk.proofs.Stores.{closing_stores}
use Rattle.claims.specs.Calls.{begin, name, entry, block, close, next, last_stores, handed, stores, accepted}

-- what was laid over the front of an output is its first bytes
laid-first : (out xs : List ℕ) (k : ℕ) → k ≡ length xs → length xs ≤ length out → take k (splice out 0 xs) ≡ xs
laid-first out xs k e h = rw e (splice-there out xs 0 (omega arith))

-- ---- calls that leave the blocks as they are

pub record Idle (w v : Writer) : Type 0 where
  pub turn : v.turn ≡ w.turn
  pub blocks : v.blocks ≡ w.blocks
  pub length : v.length ≡ w.length
  pub end : v.end ≡ w.end
  pub given : v.given ≡ w.given

idle-same : (w : Writer) → Idle w w
idle-same w = record { turn = refl; blocks = refl; length = refl; end = refl; given = refl }

module _ (w : Writer) where
  pub begin-refused : (out : List ℕ) (n p : ℕ) → first_broken (begin_rules w (length out)) ≡ broken n p
      → Idle w (next w (begin out)) × (stores w (begin out) ≡ [])
  unfolding next stores begin_of
  begin-refused out n p e = rw e (idle-same w, refl)

  named : (f : Found) (bytes : List ℕ) → Idle w (naming_of f w bytes).next
  unfolding with_name
  named (numbered i) bytes = idle-same w
  named missing bytes = record { turn = refl; blocks = refl; length = refl; end = refl; given = refl }

  pub name-idle : (d bytes : List ℕ) → Idle w (next w (name d bytes))
  unfolding next name_of
  name-idle d bytes = go (first_broken (name_rules w d bytes)) refl
    where
      go : (v : Verdict) → first_broken (name_rules w d bytes) ≡ v → Idle w (next w (name d bytes))
      go sound e = rw e (named (held_as w d bytes) bytes)
      go (broken n p) e = rw e (idle-same w)

  pub entry-idle : (p : List ℕ) (t : Epoch) (text fields : List ℕ) → Idle w (next w (entry p t text fields))
  unfolding next entry_of with_entry
  entry-idle p t text fields = go (first_broken (entry_rules w t text (records_in fields) (fields_of fields) (length p))) refl
    where
      go : (v : Verdict) → first_broken (entry_rules w t text (records_in fields) (fields_of fields) (length p)) ≡ v → Idle w (next w (entry p t text fields))
      go sound e = rw e (record { turn = refl; blocks = refl; length = refl; end = refl; given = refl })
      go (broken n q) e = rw e (idle-same w)

  pub block_refused : (t : List ℕ) (a : Adding) (out : List ℕ) (n p : ℕ) → first_broken (block_rules w a (length t) (length out)) ≡ broken n p
      → Idle w (next w (block t a out)) × (stores w (block t a out) ≡ []) × (accepted w (block t a out) ≡ [])
  unfolding next stores accepted block_of
  block_refused t a out n p e = rw e (idle-same w, refl, refl)

  pub close-refused : (t plain stored out : List ℕ) (n p : ℕ) → first_broken (close_rules w t plain stored (length out)) ≡ broken n p
      → Idle w (next w (close t plain stored out)) × (stores w (close t plain stored out) ≡ [])
  unfolding next stores close_of
  close-refused t plain stored out n p e = rw e (idle-same w, refl)

-- ---- calls that are accepted

block_size_lem : (a : Adding) (room : ℕ) → 36 + length a.stored ≤ room → block_size (block_for a) ≤ room
unfolding block_for
block_size_lem a room h = h

-- begin: "the first header"
module _ (w : Writer) (out : List ℕ) (e : first_broken (begin_rules w (length out)) ≡ sound) where
  begin-room : 64 ≤ length out
  unfolding begin_rules holds
  begin-room = leb-true _ _ (sound-held (begin_rules w (length out)) e).1.0

  pub begin-leaves : next w (begin out) ≡ begun_writer
  unfolding next begin_of
  begin-leaves = rw e

  pub begin-stores : stores w (begin out) ≡ header_store (header_bytes empty_header) ∷ []
  unfolding stores handed begin_of begin_out first_bytes
  begin-stores = rw e (ap (λ (x : List ℕ). header_store x ∷ []) (laid-first out (header_bytes empty_header) 64 (sym (length-header empty_header))
      (rw length-header begin-room)))

-- what is asked of an adding apart from its turn and its room
pub record Takes (w : Writer) (a : Adding) : Type 0 where
  pub rules : first_broken (take_rules w a) ≡ sound
  pub read : verdict_in (read_by a) ≡ sound

module _ (w : Writer) (a : Adding) (table room : ℕ) where
  pub block-takes : first_broken (block_rules w a table room) ≡ sound → Takes w a
  unfolding block_rules
  block-takes e =
      let p = parts-sound (begun_rules w) _ e in
      let q = parts-sound (take_rules w a) _ p.1 in
      let r = parts-sound (ruled (verdict_in (read_by a))) _ q.1 in
      record { rules = q.0; read = sym (first-ruled (verdict_in (read_by a))) ∙ r.0 }

  pub block_room : first_broken (block_rules w a table room) ≡ sound → ((w.blocks + 1) * stride ≤ table) × (36 + length a.stored ≤ room)
  block_room e = block-fits w a table room e

-- a block: "adding a block that block"
module _ (w : Writer) (t : List ℕ) (a : Adding) (out : List ℕ) (e : first_broken (block_rules w a (length t) (length out)) ≡ sound) where
  pub block-leaves : next w (block t a out) ≡ with_block w a
  unfolding next block_of
  block-leaves = rw e

  pub block_row : rows_out w a t (length out)
      ≡ splice t 0 (table_bytes (rows_with (row_for w.blocks w.length (block_for a)) (rows_of w.blocks t)))
  unfolding rows_out
  block_row = rw e

  pub block-accepted : accepted w (block t a out) ≡ a ∷ []
  unfolding accepted block_of
  block-accepted = rw e

  pub block-stores : stores w (block t a out) ≡ block_store a (block_bytes w.blocks (block_for a)) ∷ []
  unfolding stores handed block_of block_out
  block-stores =
      let n = w.blocks in
      let b = block_for a in
      let l = length-block n b in
      let room = block_size_lem a (length out) (block_room w a (length t) (length out) e).1 in
      rw e (ap (λ (x : List ℕ). block_store a x ∷ []) (laid-first out (block_bytes n b) (block_size b) (sym l) (rw l room)))

-- the last four stores end to end, taken apart again
four : (h d i f : List ℕ) (k : ℕ) → length h ≡ 64 → length d ≡ 4 + k → length f ≡ 24 → (let x = h ++ (d ++ (i ++ f)) in
    (take 64 x ≡ h) × (part x 64 (4 + k) ≡ d) × (part x (68 + k) (length x - (92 + k)) ≡ i) × (drop (length x - 24) x ≡ f))
four h d i f k a b c =
    let x = h ++ (d ++ (i ++ f)) in
    let l : length x ≡ 64 + (4 + k + (length i + 24)) = omega (arith, length-append h (d ++ (i ++ f)), length-append d (i ++ f), length-append i f) in
    let one : drop 64 x ≡ d ++ (i ++ f) = drop_at h (d ++ (i ++ f)) 64 a in
    let m : 64 + (4 + k) ≡ 68 + k = omega arith in
    let two : drop (68 + k) x ≡ i ++ f = ap (λ (n : ℕ). drop n x) (sym m) ∙ sym (drop-drop (4 + k) 64 x) ∙ ap (drop (4 + k)) one
    ∙ drop_at d (i ++ f) (4 + k) b in
    let n : length x - 24 ≡ 68 + k + length i = omega arith in
    let o : length i ≡ length x - (92 + k) = omega arith in (
      take_at h (d ++ (i ++ f)) 64 a,
      ap (take (4 + k)) one ∙ take_at d (i ++ f) (4 + k) b,
      ap (take (length x - (92 + k))) two ∙ take_at i f (length x - (92 + k)) o,
      ap (λ (n : ℕ). drop n x) n ∙ sym (drop-drop (length i) (68 + k) x) ∙ ap (drop (length i)) two ∙ drop_at i f (length i) refl,
    )

last-closing : (at : ℕ) (rows : List Row) (d : List ℕ) → last_stores d (closing_bytes at rows d) ≡ closing_stores at rows d
unfolding last_stores closing_bytes tail_bytes closing_stores
last-closing at rows d =
    let e = four (header_bytes (closed_header at rows)) (dictionary_bytes d) (index_bytes rows) (footer_bytes (record { index = at + 4 + length d })) (length d)
    (length-header (closed_header at rows)) (length-dictionary d) (length-footer (record { index = at + 4 + length d })) in
    rw (e.0, e.1, e.2, e.3)

-- closing: "the last four end to end"
module _ (w : Writer) (t plain stored out : List ℕ) (e : first_broken (close_rules w t plain stored (length out)) ≡ sound) where
  pub close-leaves : next w (close t plain stored out) ≡ closed w
  unfolding next close_of
  close-leaves = rw e

  pub close-stored : (1 ≤ length stored) × (length stored ≤ largest)
  close-stored = let g = close-good w t plain stored (length out) e in (g.some, omega (arith, g.fits))

  pub close-stores : stores w (close t plain stored out) ≡ closing_stores w.length (rows_of w.blocks t) stored
  unfolding stores handed close_of close_out last_bytes
  close-stores =
      let x = last_bytes w t stored in
      rw e
      (ap (last_stores stored) (laid-first out x (length x) refl (close-fits w t plain stored (length out) e))
      ∙ last-closing w.length (rows_of w.blocks t) stored)
