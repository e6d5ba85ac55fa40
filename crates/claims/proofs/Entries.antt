-- What every list of calls leaves of the entries of the open block: they are read from its plain bytes. Assumes nothing.
use mathlib.Core.Path.{◌≡◌, refl, sym, ap, ◌∙◌}
use mathlib.Core.Bool.{true, false}
use mathlib.Core.List.{List, [], ◌∷◌, ◌++◌, append_assoc}
use Prim.Native.Nat.{ℕ, ◌+◌, ◌-◌, ◌^◌, ◌≤◌, ◌<◌}
use native.Mathlib.Omega.{arith}
use native.Mathlib.Decide.{dec_le}
use lib.ListN.{length, take, drop, length-append, length-take}
use lib.Seq.{take_at, length-take-le}
use borrow.Author.Tests.{ltb-false, leb-true, le-leb}
use Rattle.verdict.specs.Rules.{holds, Verdict, sound, broken, first_broken, given, Held, verdict_in, ruled}
use Rattle.verdict.proofs.Laws.{sound-held, held-sound, held-parts, then-sound, first-ruled, parts-sound, settle-verdict}
use Rattle.wire.specs.Wire.{Bytes, le, splice}
use Rattle.wire.proofs.Splices.{splice_front}
use Rattle.parts.specs.declared.time.Epoch.{Epoch}
use Rattle.varint.specs.Varint.{encode}
use Rattle.cursor.specs.declared.Field.{Field}
use Rattle.cursor.specs.Model.{bytes_of}
use Rattle.cursor.specs.Answers.{val_in}
use Rattle.entries.specs.Model.{Entry}
use Rattle.entries.specs.Packing.{pack_field, pack_fields}
use Rattle.entries.specs.Reading.{entries_of, last_time}
use Rattle.entries.proofs.Accepted.{some_read, last-appended}
use Rattle.entries.proofs.RoundTrip.{read_known}
use Rattle.packing.specs.Entry.{size_of, field_in, fields_in, field_size, fields_size, entry_size, entry_bytes}
use Rattle.packing.specs.Inner.{AllRanged, Within, AllWithin}
use Rattle.packing.specs.Rules.{largest, text_rules, field_rules, sized_rules, pack_rules}
use Rattle.packing.specs.Rules as packing
use Rattle.packing.specs.Table.{records_in, fields_of}
use Rattle.packing.proofs.Records.{length_fields, fields-ranged}
use Rattle.packing.proofs.Stores.{entry_length}
use Rattle.packing.proofs.Answers.{all-within}
use Rattle.packing.proofs.RoundTrip.{reads-behind, first_reads}
use Rattle.name_search.specs.Search.{Found, numbered, missing}
use Rattle.writer.specs.declared.state.Writer.{Writer}
use Rattle.writer.specs.State.{begun_writer, new_writer, is_new, is_begun, is_open, begun_rules}
use Rattle.writer.specs.Begin.{begin_rules, begin_of}
use Rattle.writer_names.specs.Name.{held_as, name_rules, with_name, naming_of}
use Rattle.writer_names.specs.Name as writer
use Rattle.writer_entries.specs.Entry.{start_for, earliest_for, delta_for, time_rules, entry_rules, with_entry, entry_of, entry_out}
use Rattle.writer_blocks.specs.Block.{Adding, read_by, block_for, take_rules, store_rules, block_rules, with_block, block_of}
use Rattle.writer_close.specs.Close.{close_rules, closed, close_of}
use Rattle.writer.proofs.Turns.{turn-begun, bounded}
use Rattle.writer_entries.proofs.Entries.{start-open, earliest-open, start-new, earliest-new, time-from}
use Rattle.writer_blocks.proofs.Blocks.{take-sound, room-sound}
use Rattle.writer_close.proofs.Closes.{close-good}
use Rattle.claims.specs.Calls.{Call, begin, name, entry, block, close, verdict_for, next}
use Rattle.claims.specs.Calls.{Writing, new_writing, payload_after, after, behind, Typed, Agrees, Fair}
use Rattle.claims.specs.Built.{open_after, open_behind, entries_open, built_plain, open_adding, Addable, HoldsEntries, EntriesBuilt}
use Rattle.claims.proofs.Names.{Bounds, bounds-behind, begun-not-new, begin-new}

-- ---- an entry that packing accepts: the room that it takes

pub size-some : (d : ℕ) (fs : List Field) → 1 ≤ entry_size d fs
unfolding entry_size
size-some d fs = omega arith

module _ (room at d names : ℕ) (t : List ℕ) (count : ℕ) (fs : List Field) (e : first_broken (pack_rules room at d names t count fs) ≡ sound) where
  texts-held : Held (text_rules fs) × Held (sized_rules room at d names t fs)
  unfolding pack_rules
  texts-held = held-parts (text_rules fs) (sized_rules room at d names t fs) (sound-held (pack_rules room at d names t count fs) e).1.1

  fields-held : Held (field_rules names t (at + length (encode d) + 1) fs) × Held (packing.room_rules room (at + entry_size d fs))
  unfolding sized_rules
  fields-held = held-parts (field_rules names t (at + length (encode d) + 1) fs) (packing.room_rules room (at + entry_size d fs)) texts-held.1.1

  pack-length : length (entry_bytes d (fields_in t fs)) ≡ entry_size d fs
  pack-length =
      let f = field_rules names t (at + length (encode d) + 1) fs in
      entry_length d t fs (all-within names t (at + length (encode d) + 1) fs (held-sound f fields-held.0) texts-held.0)

  pack-room : at + entry_size d fs ≤ room
  unfolding packing.room_rules holds
  pack-room = leb-true (at + entry_size d fs) room fields-held.1.0

  -- the number of fields that count is at least the number of those that are there
  pack-counted : length fs ≤ count → first_broken (pack_rules room at d names t (length fs) fs) ≡ sound
  unfolding pack_rules holds
  pack-counted l =
      let h = sound-held (pack_rules room at d names t count fs) e in
      let m : count ≤ 255 = leb-true count 255 h.1.0 in
      held-sound (pack_rules room at d names t (length fs) fs) (h.0, (le-leb (length fs) 255 (omega arith), h.1.1))

-- ---- the state and the lent plain bytes of entries accepted

pub record Opened (w : Writer) (p : List ℕ) (es : List Entry) : Type 0 where
  pub shut : w.pending.plain ≡ 0 → es ≡ []
  pub reads : 1 ≤ w.pending.plain → entries_of (take w.pending.plain p) w.pending.start.0 w.names ≡ given es
  pub start : (e : Entry) (rest : List Entry) → es ≡ e ∷ rest → e.time ≡ w.pending.start.0
  pub last : 1 ≤ w.pending.plain → last_time w.pending.start.0 es ≡ w.pending.last.0
  pub turn : 1 ≤ w.pending.plain → is_begun w.turn ≡ true
  pub after : 1 ≤ w.pending.plain → w.end.0 ≤ w.pending.start.0
  pub number : 1 ≤ w.pending.plain → w.blocks < 4096

no-first : (es : List Entry) → es ≡ [] → (e : Entry) (rest : List Entry) → es ≡ e ∷ rest → ⊥
no-first es n e rest q = let z : ◌≡◌ {A = ℕ} 0 1 = cc in omega arith

-- no block is open
pub opened-none : (w : Writer) (p : List ℕ) (es : List Entry) → w.pending.plain ≡ 0 → es ≡ [] → Opened w p es
opened-none w p es z n =
    record {
      shut = λ e. n;
      reads = λ h. absurd (omega arith);
      start = λ e rest q. absurd (no-first es n e rest q);
      last = λ h. absurd (omega arith);
      turn = λ h. absurd (omega arith);
      after = λ h. absurd (omega arith);
      number = λ h. absurd (omega arith);
    }

-- in another buffer with the same front
pub opened-lent : (w : Writer) (p q : List ℕ) (es : List Entry) → take w.pending.plain q ≡ take w.pending.plain p → Opened w p es → Opened w q es
opened-lent w p q es a g =
    record {
      shut = g.shut;
      reads = λ h. rw a (g.reads h);
      start = g.start;
      last = g.last;
      turn = g.turn;
      after = g.after;
      number = g.number;
    }

-- the first of entries with one more behind them
first-stays : (es : List Entry) (x e : Entry) (rest : List Entry) (t : ℕ) → 1 ≤ length es → ((e : Entry) (rest : List Entry) → es ≡ e ∷ rest → e.time ≡ t)
    → es ++ (x ∷ []) ≡ e ∷ rest → e.time ≡ t
first-stays [] x e rest t h f q = absurd (omega (arith, h))
first-stays (y ∷ es) x e rest t h f q = let z : y ≡ e = cc in rw (← z) (f y es refl)

-- ---- an entry that is accepted

abbrev entry_in : Epoch → List ℕ → List Field → Entry
entry_in t text fs = record { time = t.0; fields = fields_in text fs }

module _ (w : Writer) (p : List ℕ) (es : List Entry) (g : Opened w p es) (t : Epoch) (text : List ℕ) (count : ℕ) (fs : List Field)
    (fits : t.0 < 2 ^ 64) (ranged : AllRanged fs) (counted : length fs ≤ count) (b : first_broken (begun_rules w) ≡ sound)
    (u : first_broken (time_rules w t) ≡ sound)
    (e : first_broken (pack_rules (length p) w.pending.plain (delta_for w t) w.names text count fs) ≡ sound) where
  abbrev more : List ℕ
  more = entry_bytes (delta_for w t) (fields_in text fs)

  plain-after : take (w.pending.plain + entry_size (delta_for w t) fs) (splice p w.pending.plain more) ≡ take w.pending.plain p ++ more
  plain-after =
      let l = pack-length (length p) w.pending.plain (delta_for w t) w.names text count fs e in
      let r = pack-room (length p) w.pending.plain (delta_for w t) w.names text count fs e in
      ap (λ (n : ℕ). take (w.pending.plain + n) (splice p w.pending.plain more)) (sym l) ∙ splice_front p more w.pending.plain (omega arith)

  packs : first_broken (pack_rules (length p) w.pending.plain (t.0 - (start_for w t).0) w.names text (length fs) fs) ≡ sound
  unfolding delta_for
  packs = pack-counted (length p) w.pending.plain (delta_for w t) w.names text count fs e counted

  -- the first of a block
  first_read : w.pending.plain ≤ 0 → entries_of (take w.pending.plain p ++ more) (start_for w t).0 w.names ≡ given (es ++ (entry_in t text fs ∷ []))
  unfolding delta_for
  first_read h =
      let z : w.pending.plain ≡ 0 = omega arith in
      let s : t.0 ≡ (start_for w t).0 = ap (λ (x : Epoch). x.0) (start-new w h t) in
      rw (g.shut z)
      (ap (λ (n : ℕ). entries_of (take n p ++ more) (start_for w t).0 w.names) z
      ∙ first_reads w.names (start_for w t).0 t.0 text (length p) w.pending.plain fs fits ranged packs s)

  -- one behind others
  next-read : 1 ≤ w.pending.plain → entries_of (take w.pending.plain p ++ more) (start_for w t).0 w.names ≡ given (es ++ (entry_in t text fs ∷ []))
  unfolding delta_for time_rules holds
  next-read h =
      let s : w.pending.start.0 ≡ (start_for w t).0 = ap (λ (x : Epoch). x.0) (start-open w h t) in
      let a : (earliest_for w).0 ≤ t.0 = leb-true _ _ (sound-held (time_rules w t) u).0 in
      let l : last_time (start_for w t).0 es ≡ (earliest_for w).0 =
      ap (λ (x : ℕ). last_time x es) (sym s) ∙ g.last h ∙ ap (λ (x : Epoch). x.0) (earliest-open w h) in
      reads-behind w.names (start_for w t).0 t.0 text (length p) w.pending.plain fs fits ranged packs (take w.pending.plain p) es
      (ap (λ (x : ℕ). entries_of (take w.pending.plain p) x w.names) (sym s) ∙ g.reads h) (time-from w t u) (omega arith)

  both_read : entries_of (take w.pending.plain p ++ more) (start_for w t).0 w.names ≡ given (es ++ (entry_in t text fs ∷ []))
  both_read = elim (dec_le 1 w.pending.plain) [ yes h ↦ next-read h | no h ↦ first_read (omega arith) ]

  first-time : (x : Entry) (rest : List Entry) → es ++ (entry_in t text fs ∷ []) ≡ x ∷ rest → x.time ≡ (start_for w t).0
  first-time x rest q = go (dec_le 1 w.pending.plain)
    where
      alone : es ≡ [] → t.0 ≡ (start_for w t).0 → x.time ≡ (start_for w t).0
      alone n s =
          let r : entry_in t text fs ∷ [] ≡ x ∷ rest = ap (λ (l : List Entry). l ++ (entry_in t text fs ∷ [])) (sym n) ∙ q in
          let y : x.time ≡ t.0 = cc in
          y ∙ s

      go : Dec (1 ≤ w.pending.plain) → x.time ≡ (start_for w t).0
      go (yes h) =
          first-stays es (entry_in t text fs) x rest w.pending.start.0 (some_read (take w.pending.plain p) w.pending.start.0 w.names es
          (g.reads h)) g.start q
          ∙ ap (λ (y : Epoch). y.0) (start-open w h t)
      go (no h) = alone (g.shut (omega arith)) (ap (λ (y : Epoch). y.0) (start-new w (omega arith) t))

  few-blocks : w.blocks < 4096
  unfolding time_rules holds
  few-blocks = let h : w.blocks + 1 ≤ 4096 = leb-true _ _ (sound-held (time_rules w t) u).1.1.0 in omega arith

  start-after : w.end.0 ≤ (start_for w t).0
  unfolding time_rules holds
  start-after = go (dec_le 1 w.pending.plain) (leb-true _ _ (sound-held (time_rules w t) u).0)
    where
      go : Dec (1 ≤ w.pending.plain) → (earliest_for w).0 ≤ t.0 → w.end.0 ≤ (start_for w t).0
      go (yes h) a = let s : w.pending.start.0 ≡ (start_for w t).0 = ap (λ (x : Epoch). x.0) (start-open w h t) in omega (arith, g.after h)
      go (no h) a =
          let s : t.0 ≡ (start_for w t).0 = ap (λ (x : Epoch). x.0) (start-new w (omega arith) t) in
          let l : w.end.0 ≡ (earliest_for w).0 = ap (λ (x : Epoch). x.0) (earliest-new w (omega arith)) in
          omega arith

  opened-more : Opened (with_entry w t fs) (splice p w.pending.plain more) (es ++ (entry_in t text fs ∷ []))
  unfolding with_entry
  opened-more =
      let s = size-some (delta_for w t) fs in
      record {
        shut = λ z. absurd (omega arith);
        reads = λ h. rw plain-after both_read;
        start = first-time;
        last = λ h. last-appended (start_for w t).0 es (entry_in t text fs);
        turn = λ h. turn-begun w b;
        after = λ h. start-after;
        number = λ h. few-blocks;
      }

-- ---- one call

name-kept : (w : Writer) (n p : List ℕ) (es : List Entry) (f : Found) → Opened w p es → Opened (naming_of f w n).next p es
unfolding with_name
name-kept w n p es (numbered i) g = g
name-kept w n p es missing g =
    record {
      shut = g.shut;
      reads = λ h. read_known w.names w.pending.start.0 es (take w.pending.plain p) (g.reads h) (w.names + 1) (omega arith);
      start = g.start;
      last = g.last;
      turn = g.turn;
      after = g.after;
      number = g.number;
    }

-- begin comes before any block is open, and "close comes last, with no block open"
new-shut : (w : Writer) (p : List ℕ) (es : List Entry) → Opened w p es → is_new w.turn ≡ true → w.pending.plain ≡ 0
new-shut w p es g n =
    elim (dec_le 1 w.pending.plain) [
      | yes h ↦ absurd (begun-not-new w.turn (g.turn h) n)
      | no h ↦ omega arith
    ]

pub not-open : (w : Writer) → is_open w ≡ false → w.pending.plain ≡ 0
unfolding is_open
not-open w e = let h = ltb-false 0 w.pending.plain e in omega arith

entry-parts : (w : Writer) (t : Epoch) (text : List ℕ) (count : ℕ) (fs : List Field) (room : ℕ) → first_broken (entry_rules w t text count fs room) ≡ sound
    → (first_broken (begun_rules w) ≡ sound) × (first_broken (time_rules w t) ≡ sound)
    × (first_broken (pack_rules room w.pending.plain (delta_for w t) w.names text count fs) ≡ sound)
unfolding entry_rules
entry-parts w t text count fs room e =
    let p = parts-sound (begun_rules w) _ e in
    let q = parts-sound (time_rules w t) _ p.1 in
    (p.0, q.0, q.1)

module _ (h : Writing) (es : List Entry) (g : Opened h.writer h.payload es) where
  abbrev w : Writer
  w = h.writer

  abbrev After : Call → Type 0
  After c = Opened (next w c) (payload_after h c) (open_after es w c)

  begin-after : (out : List ℕ) (v : Verdict) → first_broken (begin_rules w (length out)) ≡ v → After (begin out)
  unfolding next payload_after open_after begin_of
  begin-after out sound e = rw e (opened-none begun_writer h.payload es refl (g.shut (new-shut w h.payload es g (begin-new w (length out) e))))
  begin-after out (broken n p) e = rw e g

  name-after : (d n : List ℕ) (v : Verdict) → first_broken (name_rules w d n) ≡ v → After (name d n)
  unfolding next payload_after open_after writer.name_of
  name-after d n sound e = rw e (name-kept w n h.payload es (held_as w d n) g)
  name-after d n (broken m p) e = rw e g

  entry-after : (p : List ℕ) (t : Epoch) (text fields : List ℕ) → Typed (entry p t text fields)
      → (verdict_for w (entry p t text fields) ≡ sound → Agrees h (entry p t text fields)) → (v : Verdict)
      → first_broken (entry_rules w t text (records_in fields) (fields_of fields) (length p)) ≡ v → After (entry p t text fields)
  unfolding verdict_for next payload_after open_after entry_of entry_out
  entry-after p t text fields r a sound e =
      let q = entry-parts w t text (records_in fields) (fields_of fields) (length p) e in
      let l : length (fields_of fields) ≤ records_in fields = omega (arith, length_fields fields) in
      rw e
      (opened-more w p es (opened-lent w h.payload p es (a (rw e)) g) t text (records_in fields) (fields_of fields) r.0 (fields-ranged fields r.1) l
      q.0 q.1 q.2)
  entry-after p t text fields r a (broken n q) e = rw e g

  block-after : (t : List ℕ) (a : Adding) (out : List ℕ) (v : Verdict) → first_broken (block_rules w a (length t) (length out)) ≡ v → After (block t a out)
  unfolding next payload_after open_after block_of with_block
  block-after t a out sound e = rw e (opened-none (with_block w a) h.payload [] refl refl)
  block-after t a out (broken n p) e = rw e g

  close-after : (t plain stored out : List ℕ) (v : Verdict) → first_broken (close_rules w t plain stored (length out)) ≡ v → After (close t plain stored out)
  unfolding next payload_after open_after close_of closed
  close-after t plain stored out sound e =
      let z = not-open w (close-good w t plain stored (length out) e).shut in
      rw e (opened-none (closed w) h.payload es z (g.shut z))
  close-after t plain stored out (broken n p) e = rw e g

  pub opened-next : (c : Call) → Typed c → (verdict_for w c ≡ sound → Agrees h c) → After c
  opened-next (begin out) r a = begin-after out (first_broken (begin_rules w (length out))) refl
  opened-next (name d n) r a = name-after d n (first_broken (name_rules w d n)) refl
  opened-next (entry p t text fields) r a =
      entry-after p t text fields r a (first_broken (entry_rules w t text (records_in fields) (fields_of fields) (length p))) refl
  opened-next (block t b out) r a = block-after t b out (first_broken (block_rules w b (length t) (length out))) refl
  opened-next (close t plain stored out) r a = close-after t plain stored out (first_broken (close_rules w t plain stored (length out))) refl

-- ---- every list of calls

opened-behind : (cs : List Call) (h : Writing) (es : List Entry) → Fair h cs → Opened h.writer h.payload es
    → Opened (behind h cs).writer (behind h cs).payload (open_behind es h.writer cs)
unfolding behind open_behind Fair
opened-behind [] h es f g = g
opened-behind (c ∷ cs) h es f g = opened-behind cs (after h c) (open_after es h.writer c) f.1 (opened-next h es g c f.0.0 f.0.1)

module _ (k : Writing) (es : List Entry) (g : Opened k.writer k.payload es) (b : Bounds k.writer) (h : 1 ≤ k.writer.pending.plain) where
  -- an adding of the open block
  adding-reads : (stored : List ℕ) → (
      let a = open_adding k stored in
      (read_by a ≡ given es) × ((block_for a).entries ≡ length es) × ((block_for a).end ≡ k.writer.pending.last.0))
  unfolding read_by block_for
  adding-reads stored = rw (g.reads h) (refl, refl, g.last h)

  adding-takes : (t stored out : List ℕ) → Addable k.writer t stored out → first_broken (take_rules k.writer (open_adding k stored)) ≡ sound
  adding-takes t stored out r =
      let w = k.writer in
      let d = bounded w (b (g.turn h)) in
      let l : length (built_plain k) ≤ largest = omega (arith, length-take w.pending.plain k.payload, d.plain) in
      take-sound w (open_adding k stored) (g.after h) (g.number h) d.names r.fits l r.names

  adding-taken : (t stored out : List ℕ) → Addable k.writer t stored out → verdict_for k.writer (block t (open_adding k stored) out) ≡ sound
  unfolding verdict_for block_of block_rules
  adding-taken t stored out r =
      let w = k.writer in
      let a = open_adding k stored in
      let v = verdict_in (read_by a) in
      let room = store_rules w stored (length t) (length out) in
      settle-verdict (first_broken (block_rules w a (length t) (length out))) _
      ∙ then-sound (begun_rules w) (take_rules w a ++ (ruled v ++ room)) (b (g.turn h))
      ∙ then-sound (take_rules w a) (ruled v ++ room) (adding-takes t stored out r)
      ∙ then-sound (ruled v) room (first-ruled v ∙ ap verdict_in (adding-reads stored).0)
      ∙ room-sound w stored (length t) (length out) r.rows r.room

holds-entries : (k : Writing) (es : List Entry) → Opened k.writer k.payload es → Bounds k.writer → HoldsEntries k es
holds-entries k es g b =
    record {
      shut = g.shut;
      some = λ h. some_read (built_plain k) k.writer.pending.start.0 k.writer.names es (g.reads h);
      reads = g.reads;
      start = g.start;
      last = g.last;
      adds = adding-reads k es g b;
      taken = adding-taken k es g b;
    }

pub entries-built : EntriesBuilt
unfolding EntriesBuilt
entries-built cs f =
    holds-entries (behind new_writing cs) (entries_open cs) (opened-behind cs new_writing [] f (opened-none new_writer [] [] refl refl)) (bounds-behind cs)
