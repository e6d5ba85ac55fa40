-- Entries that were read are written again as the same bytes, by the writer's calls. Assumes nothing.
use mathlib.Core.Path.{◌≡◌, refl, sym, ap, ◌∙◌}
use mathlib.Core.Bool.{Bool, true, ◌&&◌}
use mathlib.Core.List.{List, [], ◌∷◌, ◌++◌, append_assoc, append-nil}
use Prim.Native.Nat.{ℕ, suc, ◌+◌, ◌-◌, ◌≤◌, ◌<◌}
use native.Mathlib.Omega.{arith}
use native.Mathlib.Decide.{dec_le}
use lib.Dec.{leb}
use lib.ListN.{length, take, length-append}
use borrow.Author.Tests.{lt-ltb, le-leb}
use Rattle.verdict.specs.Rules.{holds, sound, first_broken, Held}
use Rattle.verdict.proofs.Laws.{held-sound, then-sound, settle-verdict}
use Rattle.wire.specs.Wire.{splice, part}
use Rattle.wire.proofs.Splices.{splice_front}
use Rattle.utf8.specs.Utf8.{utf8_of}
use Rattle.varint.specs.Varint.{encode}
use Rattle.parts.specs.declared.time.Epoch.{Epoch}
use Rattle.parts.specs.Time.{block_span}
use Rattle.parts.proofs.Times.{belongs-within}
use Rattle.cursor.specs.declared.values.Value.{Value}
use Rattle.cursor.specs.declared.values.Value.TheVariants.{Text, Whole, Real, Truth, Null, Json}
use Rattle.cursor.specs.declared.Field.{Field}
use Rattle.cursor.specs.Model as model
use Rattle.cursor.specs.Answers.{val_in}
use Rattle.entries.specs.Model.{Entry}
use Rattle.entries.specs.Packing.{pack_entry, pack, GoodVal, GoodFields, GoodEntry, Good}
use Rattle.entries.specs.Reading.{last_time}
use Rattle.entries.proofs.RoundTrip.{packed-read, read-good}
use Rattle.entries.proofs.Accepted.{some_read}
use Rattle.packing.specs.Entry.{size_of, field_in, fields_in, field_size, fields_size, entry_size, entry_bytes}
use Rattle.packing.specs.Inner.{Within, AllWithin}
use Rattle.packing.specs.Rules.{largest, part_right, text_right, text_rules, field_rules, pack_rules}
use Rattle.packing.specs.Table.{records_in, fields_of}
use Rattle.packing.proofs.Records.{length_fields}
use Rattle.packing.proofs.Stores.{length-all, entry_length, entry-one}
use Rattle.packing.proofs.Answers.{pack-on, sized_on, room_fits}
use Rattle.writer.specs.declared.state.Writer.{Writer}
use Rattle.writer.specs.State.{begun_rules}
use Rattle.writer_entries.specs.Entry.{start_for, earliest_for, delta_for, time_rules, entry_rules, with_entry, entry_of, entry_out}
use Rattle.writer_entries.proofs.Entries.{start-open, earliest-open, start-new, earliest-new, time-sound, entry-bounded}
use Rattle.claims.specs.Calls.{Call, entry, if_given, verdict_for, next, Writing, new_writing, payload_after, after, behind, Fair}
use Rattle.claims.specs.Built.{built_plain}
use Rattle.claims.specs.Rewritten.{Stands, Adds, none, more, AllAccepted, Rewritten}
use Rattle.claims.proofs.Names.{bounds-behind}
use Rattle.claims.proofs.Entries.{size-some, not-open}

-- ---- the rules of fields that stand for good ones

both_true : (a b : Bool) → a ≡ true → b ≡ true → (a && b) ≡ true
both_true a b x y = rw (x, y)

text-right : (t : List ℕ) (v : Value) → Within (length t) v → GoodVal (val_in t v) → text_right t v ≡ true
unfolding GoodVal val_in part_right
text-right t (Text p n) h g = both_true (leb (p + n) (length t)) (utf8_of (part t p n)) (le-leb (p + n) (length t) h) g.0
text-right t (Whole z) h g = refl
text-right t (Real x b) h g = refl
text-right t (Truth b) h g = refl
text-right t Null h g = refl
text-right t (Json p n) h g = both_true (leb (p + n) (length t)) (utf8_of (part t p n)) (le-leb (p + n) (length t) h) g.0

fields-right : (names known : ℕ) → names ≤ known → (t : List ℕ) (at : ℕ) (fs : List Field) → AllWithin (length t) fs → GoodFields names (fields_in t fs)
    → Held (field_rules known t at fs)
unfolding field_rules AllWithin fields_in field_in GoodFields holds
fields-right names known l t at [] w g = tt
fields-right names known l t at (f ∷ fs) w g = (
  lt-ltb f.id known (omega (arith, g.0.known)),
  (text-right t f.value w.0.0 g.0.value, fields-right names known l t (at + field_size f) fs w.1 g.1),
)

texts-right : (t : List ℕ) (fs : List Field) → AllWithin (length t) fs → Held (text_rules fs)
unfolding text_rules AllWithin holds
texts-right t [] w = tt
texts-right t (f ∷ fs) w = (le-leb (size_of f.value) largest (omega (arith, w.0.1)), texts-right t fs w.1)

-- ---- a state behind n entries of a payload, the last of them at a time

record Amid (w : Writer) (start n prev : ℕ) : Type 0 where
  begun : first_broken (begun_rules w) ≡ sound
  shut : n ≡ 0 → w.pending.plain ≡ 0
  after : n ≡ 0 → w.end.0 ≤ start
  opened : 1 ≤ n → 1 ≤ w.pending.plain
  first : 1 ≤ n → w.pending.start.0 ≡ start
  last : 1 ≤ n → w.pending.last.0 ≡ prev
  few : w.blocks < 4096

module _ (w : Writer) (names start n prev : ℕ) (e : Entry) (p text fields : List ℕ) (i : Amid w start n prev) (known : names ≤ w.names)
    (g : GoodEntry names start n prev e) (s : Stands e text fields) (soon : e.time < start + block_span)
    (fits : w.pending.plain + length (pack_entry start e) ≤ largest) (room : w.pending.plain + length (pack_entry start e) ≤ length p) where
  abbrev t : Epoch
  t = record { 0 = e.time }

  abbrev fs : List Field
  fs = fields_of fields

  abbrev c : Call
  c = entry p t text fields

  start_is : (start_for w t).0 ≡ start
  start_is = go (dec_le 1 n)
    where
      go : Dec (1 ≤ n) → (start_for w t).0 ≡ start
      go (yes q) = ap (λ (x : Epoch). x.0) (sym (start-open w (i.opened q) t)) ∙ i.first q
      go (no q) =
          let z : n ≡ 0 = omega arith in
          let y = i.shut z in
          ap (λ (x : Epoch). x.0) (sym (start-new w (omega arith) t)) ∙ g.first z

  not-early : (earliest_for w).0 ≤ e.time
  not-early = go (dec_le 1 n)
    where
      go : Dec (1 ≤ n) → (earliest_for w).0 ≤ e.time
      go (yes q) =
          let x : (earliest_for w).0 ≡ prev = ap (λ (x : Epoch). x.0) (sym (earliest-open w (i.opened q))) ∙ i.last q in
          omega (arith, g.later)
      go (no q) =
          let z : n ≡ 0 = omega arith in
          let y = i.shut z in
          let x : (earliest_for w).0 ≡ w.end.0 = ap (λ (x : Epoch). x.0) (sym (earliest-new w (omega arith))) in
          omega (arith, i.after z, g.from_start)

  time-right : first_broken (time_rules w t) ≡ sound
  time-right =
      let q = start_is in
      time-sound w t not-early (belongs-within t (start_for w t) (omega (arith, g.from_start)) (omega (arith, g.from_start))) i.few

  delta-is : delta_for w t ≡ e.time - start
  unfolding delta_for
  delta-is = rw start_is

  bytes-are : entry_bytes (delta_for w t) (fields_in text fs) ≡ pack_entry start e
  unfolding pack_entry entry_bytes
  bytes-are = rw (delta-is, s.same)

  size_is : entry_size (delta_for w t) fs ≡ length (pack_entry start e)
  size_is = sym (entry_length (delta_for w t) text fs s.within) ∙ ap (λ (x : List ℕ). length x) bytes-are

  few-fields : records_in fields ≤ 255
  few-fields =
      let x = ap (λ (l : List model.Field). length l) s.same in
      omega (arith, length_fields fields, length-all text fs, g.few)

  packs : first_broken (pack_rules (length p) w.pending.plain (delta_for w t) w.names text (records_in fields) fs) ≡ sound
  packs =
      let d = delta_for w t in
      let at = w.pending.plain in
      let k = length (encode d) in
      let z = size_is in
      let y : at + k + 1 + fields_size fs ≡ at + entry_size d fs = omega (arith, entry-one d fs k refl) in
      pack-on (length p) at d w.names text (records_in fields) fs (omega arith) few-fields (held-sound (text_rules fs) (texts-right text fs s.within))
      ∙ sized_on (length p) at d w.names text fs k (fields_size fs) refl refl (omega arith)
      (held-sound (field_rules w.names text (at + k + 1) fs)
      (fields-right names w.names known text (at + k + 1) fs s.within (rw s.same g.fields)))
      ∙ room_fits (length p) (at + k + 1 + fields_size fs) (omega arith)

  rules : first_broken (entry_rules w t text (records_in fields) fs (length p)) ≡ sound
  unfolding entry_rules
  rules = then-sound (begun_rules w) _ i.begun ∙ then-sound (time_rules w t) _ time-right ∙ packs

  entry-accepted : verdict_for w c ≡ sound
  unfolding verdict_for entry_of
  entry-accepted = settle-verdict (first_broken (entry_rules w t text (records_in fields) fs (length p))) (with_entry w t fs) ∙ rules

  entry-leaves : next w c ≡ with_entry w t fs
  unfolding next entry_of
  entry-leaves = rw rules

  entry-lays : entry_out w t text (records_in fields) fs p ≡ splice p w.pending.plain (pack_entry start e)
  unfolding entry_out
  entry-lays = rw (rules, bytes-are)

  -- and what it lays is kept
  entry_kept : (q : List ℕ) → if_given (entry_of w t text (records_in fields) fs (length p)) (λ v. entry_out w t text (records_in fields) fs p) q
      ≡ entry_out w t text (records_in fields) fs p
  unfolding entry_of
  entry_kept q = rw rules

  plain-next : (next w c).pending.plain ≡ w.pending.plain + length (pack_entry start e)
  unfolding with_entry
  plain-next = rw (entry-leaves, size_is)

  names-next : names ≤ (next w c).names
  unfolding with_entry
  names-next = rw entry-leaves known

  amid-next : Amid (next w c) start (suc n) e.time
  unfolding with_entry entry_of
  amid-next =
      let o = size-some (delta_for w t) fs in
      rw entry-leaves
      (record {
        begun = entry-bounded w t text (records_in fields) fs (length p) (with_entry w t fs) (rw rules);
        shut = λ z. absurd (omega arith);
        after = λ z. absurd (omega arith);
        opened = λ q. omega arith;
        first = λ q. start_is;
        last = λ q. refl;
        few = i.few;
      })

  -- the plain bytes of a buffer that agrees
  plain-laid : take (next w c).pending.plain (entry_out w t text (records_in fields) fs p) ≡ take w.pending.plain p ++ pack_entry start e
  plain-laid = rw (plain-next, entry-lays) (splice_front p (pack_entry start e) w.pending.plain room)

-- ---- all of them

last-from : (names start n : ℕ) (e : Entry) (es : List Entry) → Good names start n e.time es → e.time ≤ last_time e.time es
unfolding Good last_time
last-from names start n e [] g = omega arith
last-from names start n e (x ∷ es) g = omega (arith, g.0.later, last-from names start (suc n) x es g.1)

record Wrote (h : Writing) (start n prev : ℕ) (es : List Entry) (cs : List Call) : Type 0 where
  accepted : AllAccepted h.writer cs
  bytes : built_plain (behind h cs) ≡ built_plain h ++ pack start es
  plain : (behind h cs).writer.pending.plain ≡ h.writer.pending.plain + length (pack start es)
  first : 1 ≤ n + length es → (behind h cs).writer.pending.start.0 ≡ start
  last : 1 ≤ n + length es → (behind h cs).writer.pending.last.0 ≡ last_time prev es

write : (room : ℕ) (es : List Entry) (cs : List Call) → Adds room es cs → (h : Writing) (names start n prev : ℕ) → Fair h cs → Amid h.writer start n prev
    → names ≤ h.writer.names → Good names start n prev es → last_time prev es < start + block_span
    → h.writer.pending.plain + length (pack start es) ≤ largest → h.writer.pending.plain + length (pack start es) ≤ room
    → Wrote h start n prev es cs
unfolding Good Fair AllAccepted behind pack last_time payload_after
write room [] [] none h names start n prev f i known g soon fits l =
    record {
      accepted = tt;
      bytes = sym (append-nil (built_plain h));
      plain = omega arith;
      first = λ q. i.first (omega arith);
      last = λ q. i.last (omega arith);
    }
write room [] (c ∷ cs) adds h names start n prev f i known g soon fits l = elim adds [ ]
write room (e ∷ es) [] adds h names start n prev f i known g soon fits l = elim adds [ ]
write room (e ∷ es) (c ∷ cs) (more {payload = p} {text = text} {fields = fields} s r a) h names start n prev f i known g soon fits l =
    let w = h.writer in
    let b = pack_entry start e in
    let x = length-append b (pack start es) in
    let near : e.time < start + block_span = omega (arith, last-from names start (suc n) e es g.1) in
    let small : w.pending.plain + length b ≤ largest = omega arith in
    let has : w.pending.plain + length b ≤ length p = omega arith in
    let q = plain-next w names start n prev e p text fields i known g.0 s near small has in
    let y = write room es cs a (after h c) names start (suc n) e.time f.1 (amid-next w names start n prev e p text fields i known g.0 s near small has)
    (names-next w names start n prev e p text fields i known g.0 s near small has) g.1 soon (omega arith) (omega arith) in
    let z : built_plain (after h c) ≡ built_plain h ++ b =
    ap (take (next w c).pending.plain) (entry_kept w names start n prev e p text fields i known g.0 s near small has h.payload)
    ∙ plain-laid w names start n prev e p text fields i known g.0 s near small has ∙ ap (λ (u : List ℕ). u ++ b)
    (f.0.1 (entry-accepted w names start n prev e p text fields i known g.0 s near small has)) in
    record {
      accepted = (entry-accepted w names start n prev e p text fields i known g.0 s near small has, y.accepted);
      bytes = y.bytes ∙ ap (λ (u : List ℕ). u ++ pack start es) z ∙ append_assoc (built_plain h) b (pack start es);
      plain = y.plain ∙ omega arith;
      first = λ q. y.first (omega arith);
      last = λ q. y.last (omega arith);
    }

-- ---- the claim

pub rewritten : Rewritten
unfolding Rewritten
rewritten cs s start names es p r ds a f =
    let k = behind new_writing cs in
    let z = not-open k.writer r.shut in
    let same : pack start es ≡ s = packed-read names start es s p.reads p.bytes p.shortest in
    let size = ap (λ (x : List ℕ). length x) same in
    let some = some_read s start names es p.reads in
    let i : Amid k.writer start 0 start = record {
      begun = bounds-behind cs r.turn;
      shut = λ q. z;
      after = λ q. r.after;
      opened = λ q. absurd (omega arith);
      first = λ q. absurd (omega arith);
      last = λ q. absurd (omega arith);
      few = r.few;
    } in
    let x = write (length s) es ds a k names start 0 start f i r.known (read-good names start es s p.reads p.bytes) p.soon
    (omega (arith, r.fits)) (omega arith) in
    record {
      accepted = x.accepted;
      bytes = x.bytes ∙ ap (λ (m : ℕ). take m k.payload ++ pack start es) z ∙ same;
      plain = x.plain ∙ omega arith;
      first = x.first (omega arith);
      last = x.last (omega arith);
    }
