-- What was added under a name is read under that name. Assumes nothing.
use mathlib.Core.Path.{◌≡◌, refl, sym, ap, subst, ◌∙◌}
use mathlib.Core.Bool.{Bool, true, false, cond}
use mathlib.Core.List.{List, [], ◌∷◌, ◌++◌, map, append_assoc, append-nil}
use Prim.Native.Nat.{ℕ, suc, ◌+◌, ◌*◌, ◌≤◌, ◌<◌}
use native.Mathlib.Omega.{arith}
use native.Mathlib.Decide.{dec_le}
use lib.ListN.{length, get_or, length-append, get_or-append}
use borrow.Author.Tests.{ltb-true}
use Rattle.verdict.specs.Rules.{holds, Held, Verdict, sound, broken, first_broken, Outcome, given, refused, verdict_in}
use Rattle.verdict.proofs.Laws.{sound-held, held-parts, parts-sound, settle-verdict}
use Rattle.wire.specs.Wire.{le_at}
use Rattle.varint.specs.Varint.{encode}
use Rattle.parts.specs.declared.time.Epoch.{Epoch}
use Rattle.rows.specs.declared.Row.{Row}
use Rattle.rows.specs.Rows.{stride}
use Rattle.layout.specs.Layout.{row_for, end_from}
use Rattle.blocks.specs.Blocks.{head_at}
use Rattle.cursor.specs.Model as model
use Rattle.cursor.specs.declared.Field.{Field}
use Rattle.entries.specs.Model.{Entry}
use Rattle.entries.specs.Reading.{entries_of}
use Rattle.lookup.specs.Lookup.{lookup_of, name_in}
use Rattle.packing.specs.Entry.{field_size, field_in, fields_in}
use Rattle.packing.specs.Rules.{text_rules, field_rules, sized_rules, pack_rules}
use Rattle.packing.specs.Table.{records_in, fields_of}
use Rattle.reader.specs.Open.{open_out}
use Rattle.writer.specs.declared.state.Writer.{Writer}
use Rattle.writer.specs.State.{new_writer, begun_rules}
use Rattle.writer_names.specs.Name as writer
use Rattle.writer_entries.specs.Entry.{delta_for, time_rules, entry_rules, entry_of}
use Rattle.writer_blocks.specs.Block.{Adding, read_by, block_for, block_rules, block_of}
use Rattle.claims.specs.Calls.{Call, begin, name, entry, block, close, if_given, verdict_for, next, accepted, addings}
use Rattle.claims.specs.Calls.{Writing, new_writing, after, behind, Typed, Agrees, Fair, Closes}
use Rattle.claims.specs.Built.{among, held_after, held_behind, names_held, built_names, open_after, open_adding, HoldsNames, NamesBuilt}
use Rattle.claims.specs.Lookups.{LooksUp}
use Rattle.claims.specs.Steps.{EntriesFound}
use Rattle.claims.specs.Demand2.{Finished}
use Rattle.claims.specs.Uses.{NamedEntry, named_fields, named, named_after, ended_by, log_behind, log_of, OfOpen, AllOfOpen, BlockRead, Used, WholeUse}
use Rattle.claims.proofs.Calls.{block-takes}
use Rattle.claims.proofs.Names.{Holding, holding-next, holding-new, names-built}
use Rattle.claims.proofs.Entries.{Opened, opened-next, opened-none}
use Rattle.claims.proofs.Lookups.{names-found}
use Rattle.claims.proofs.Again.{fair-first}
use Rattle.claims.proofs.Demand2.{demand-2}

-- ---- entries under names

-- the numbers of their fields are below the number of names
unfoldable KnownFields : ℕ → List model.Field → Type 0
KnownFields n [] = Unit {0}
KnownFields n (f ∷ fs) = (f.id < n) × KnownFields n fs

unfoldable Known : ℕ → List Entry → Type 0
Known n [] = Unit {0}
Known n (e ∷ es) = KnownFields n e.fields × Known n es

named-append : (of : ℕ → List ℕ) (es ds : List Entry) → named of (es ++ ds) ≡ named of es ++ named of ds
unfolding named
named-append of [] ds = refl
named-append of (e ∷ es) ds = rw (named-append of es ds)

known-append : (n : ℕ) (es ds : List Entry) → Known n es → Known n ds → Known n (es ++ ds)
unfolding Known
known-append n [] ds a b = b
known-append n (e ∷ es) ds a b = (a.0, known-append n es ds a.1 b)

-- numberings that agree below the number of names name them alike
fields-alike : (n : ℕ) (of by : ℕ → List ℕ) → ((i : ℕ) → i < n → of i ≡ by i) → (fs : List model.Field) → KnownFields n fs
    → named_fields of fs ≡ named_fields by fs
unfolding named_fields KnownFields
fields-alike n of by a [] k = refl
fields-alike n of by a (f ∷ fs) k = rw (a f.id k.0, fields-alike n of by a fs k.1)

all_alike : (n : ℕ) (of by : ℕ → List ℕ) → ((i : ℕ) → i < n → of i ≡ by i) → (es : List Entry) → Known n es → named of es ≡ named by es
unfolding named Known
all_alike n of by a [] k = refl
all_alike n of by a (e ∷ es) k = rw (fields-alike n of by a e.fields k.0, all_alike n of by a es k.1)

abbrev in_list : List (List ℕ) → ℕ → List ℕ
in_list ns i = get_or ns i []

fields-known-more : (m n : ℕ) (fs : List model.Field) → m ≤ n → KnownFields m fs → KnownFields n fs
unfolding KnownFields
fields-known-more m n [] l k = tt
fields-known-more m n (f ∷ fs) l k = (omega (arith, k.0), fields-known-more m n fs l k.1)

known_more : (m n : ℕ) (es : List Entry) → m ≤ n → Known m es → Known n es
unfolding Known
known_more m n [] l k = tt
known_more m n (e ∷ es) l k = (fields-known-more m n e.fields l k.0, known_more m n es l k.1)

-- those of an entry that is accepted
known-by-rules : (names : ℕ) (t : List ℕ) (at : ℕ) (fs : List Field) → Held (field_rules names t at fs) → KnownFields names (fields_in t fs)
unfolding field_rules fields_in field_in KnownFields holds
known-by-rules names t at [] h = tt
known-by-rules names t at (f ∷ fs) h = (ltb-true f.id names h.0, known-by-rules names t (at + field_size f) fs h.1.1)

known-entry : (w : Writer) (p : List ℕ) (t : Epoch) (text fields : List ℕ)
    → first_broken (entry_rules w t text (records_in fields) (fields_of fields) (length p)) ≡ sound → KnownFields w.names (fields_in text (fields_of fields))
unfolding entry_rules pack_rules sized_rules
known-entry w p t text fields e =
    let fs = fields_of fields in
    let q = parts-sound (time_rules w t) _ (parts-sound (begun_rules w) _ e).1 in
    let g = sound-held (pack_rules (length p) w.pending.plain (delta_for w t) w.names text (records_in fields) fs) q.1 in
    let r = held-parts (text_rules fs) (sized_rules (length p) w.pending.plain (delta_for w t) w.names text fs) g.1.1 in
    let at = w.pending.plain + length (encode (delta_for w t)) + 1 in
    known-by-rules w.names text at fs (held-parts (field_rules w.names text at fs) _ r.1.1).0

-- ---- the names held only grow

record Grown (ns ms : List (List ℕ)) : Type 0 where
  pub more : List (List ℕ)
  pub are : ms ≡ ns ++ more

grown-same : (ns : List (List ℕ)) → Grown ns ns
grown-same ns = record { more = []; are = sym (append-nil ns) }

held-grows : (ns : List (List ℕ)) (w : Writer) (c : Call) → Grown ns (held_after ns w c)
unfolding held_after
held-grows ns w (begin out) = grown-same ns
held-grows ns w (name d n) = go (writer.name_of w d n) (among ns n)
  where
    go : (o : Outcome writer.Naming) (b : Bool) → Grown ns (if_given o (λ s. cond b ns (ns ++ (n ∷ []))) ns)
    go (given s) true = grown-same ns
    go (given s) false = record { more = n ∷ []; are = refl }
    go (refused m p) b = grown-same ns
held-grows ns w (entry p t text fields) = grown-same ns
held-grows ns w (block t a out) = grown-same ns
held-grows ns w (close t plain stored out) = grown-same ns

all-grows : (cs : List Call) (ns : List (List ℕ)) (w : Writer) → Grown ns (held_behind ns w cs)
unfolding held_behind
all-grows [] ns w = grown-same ns
all-grows (c ∷ cs) ns w =
    let a = held-grows ns w c in
    let b = all-grows cs (held_after ns w c) (next w c) in
    record { more = a.more ++ b.more; are = b.are ∙ ap (λ (l : List (List ℕ)). l ++ b.more) a.are ∙ append_assoc ns a.more b.more }

-- ---- the open block between calls

record Amid (h : Writing) (es : List Entry) (os : List NamedEntry) (ns : List (List ℕ)) : Type 0 where
  pub holding : Holding h.writer h.dictionary ns
  pub opened : Opened h.writer h.payload es
  pub named-are : os ≡ named (in_list ns) es
  pub known : Known (length ns) es

module _ (h : Writing) (es : List Entry) (os : List NamedEntry) (ns : List (List ℕ)) (a : Amid h es os ns) where
  abbrev w : Writer
  w = h.writer

  -- what is named, and known, after a call
  abbrev Kept : Call → Type 0
  Kept c = (named_after os ns w c ≡ named (in_list (held_after ns w c)) (open_after es w c)) × Known (length (held_after ns w c)) (open_after es w c)

  kept-names : (ms : List (List ℕ)) → Grown ns ms → (os ≡ named (in_list ms) es) × Known (length ms) es
  kept-names ms g =
      let same = all_alike (length ns) (in_list ns) (in_list (ns ++ g.more)) (λ i l. sym (get_or-append ns g.more [] i l)) es a.known in
      rw g.are
      (a.named-are ∙ same, known_more (length ns) (length (ns ++ g.more)) es (omega (arith, length-append ns g.more)) a.known)

  entry_kept : (p : List ℕ) (t : Epoch) (text fields : List ℕ) (v : Verdict)
      → first_broken (entry_rules w t text (records_in fields) (fields_of fields) (length p)) ≡ v → Kept (entry p t text fields)
  unfolding named_after held_after open_after entry_of Known
  entry_kept p t text fields sound e =
      let x : Entry = record { time = t.0; fields = fields_in text (fields_of fields) } in
      let k : KnownFields (length ns) x.fields = rw a.holding.count at (known-entry w p t text fields e) in
      rw e (
        ap (λ (l : List NamedEntry). l ++ named (in_list ns) (x ∷ [])) a.named-are ∙ sym (named-append (in_list ns) es (x ∷ [])),
        known-append (length ns) es (x ∷ []) a.known (k, tt),
      )
  entry_kept p t text fields (broken n q) e = rw e (a.named-are, a.known)

  block-kept : (t : List ℕ) (b : Adding) (out : List ℕ) (v : Verdict) → first_broken (block_rules w b (length t) (length out)) ≡ v → Kept (block t b out)
  unfolding named_after held_after open_after block_of named Known
  block-kept t b out sound e = rw e (refl, tt)
  block-kept t b out (broken n p) e = rw e (a.named-are, a.known)

  kept : (c : Call) → Kept c
  unfolding named_after open_after held_after
  kept (begin out) = (a.named-are, a.known)
  kept (name d n) = kept-names (held_after ns w (name d n)) (held-grows ns w (name d n))
  kept (entry p t text fields) = entry_kept p t text fields (first_broken (entry_rules w t text (records_in fields) (fields_of fields) (length p))) refl
  kept (block t b out) = block-kept t b out (first_broken (block_rules w b (length t) (length out))) refl
  kept (close t plain stored out) = (a.named-are, a.known)

  amid-next : (c : Call) → Typed c → (verdict_for w c ≡ sound → Agrees h c) → Amid (after h c) (open_after es w c) (named_after os ns w c) (held_after ns w c)
  amid-next c r m =
      let k = kept c in
      record { holding = holding-next h ns a.holding c m; opened = opened-next h es a.opened c r m; named-are = k.0; known = k.1 }

-- ---- the blocks that calls end

record Ended (a : Adding) (b : List NamedEntry) (fin : List (List ℕ)) : Type 0 where
  pub entries : List Entry
  pub reads : read_by a ≡ given entries
  pub named-are : b ≡ named (in_list fin) entries
  pub known : Known (length fin) entries

unfoldable Pairs : List Adding → List (List NamedEntry) → List (List ℕ) → Type 0
Pairs [] [] fin = Unit {0}
Pairs [] (b ∷ bs) fin = ⊥
Pairs (a ∷ xs) [] fin = ⊥
Pairs (a ∷ xs) (b ∷ bs) fin = Ended a b fin × Pairs xs bs fin

pairs-append : (xs ys : List Adding) (bs cs : List (List NamedEntry)) (fin : List (List ℕ)) → Pairs xs bs fin → Pairs ys cs fin
    → Pairs (xs ++ ys) (bs ++ cs) fin
unfolding Pairs
pairs-append [] ys [] cs fin p q = q
pairs-append [] ys (b ∷ bs) cs fin p q = absurd p
pairs-append (a ∷ xs) ys [] cs fin p q = absurd p
pairs-append (a ∷ xs) ys (b ∷ bs) cs fin p q = (p.0, pairs-append xs ys bs cs fin p.1 q)

-- an adding of no open block is refused
open-some : (h : Writing) (stored : List ℕ) → verdict_in (read_by (open_adding h stored)) ≡ sound → 1 ≤ h.writer.pending.plain
unfolding read_by entries_of
open-some h stored e = go (dec_le 1 h.writer.pending.plain)
  where
    go : Dec (1 ≤ h.writer.pending.plain) → 1 ≤ h.writer.pending.plain
    go (yes l) = l
    go (no l) =
        let z : h.writer.pending.plain ≡ 0 = omega arith in
        let q : broken 11 0 ≡ sound = rw z at e in
        absurd (let z : ◌≡◌ {A = ℕ} 0 1 = cc q in omega arith)

module _ (h : Writing) (es : List Entry) (os : List NamedEntry) (ns fin : List (List ℕ)) (a : Amid h es os ns) (g : Grown ns fin) where
  abbrev v : Writer
  v = h.writer

  ended_here : (t : List ℕ) (b : Adding) (out : List ℕ) → b ≡ open_adding h b.stored → first_broken (block_rules v b (length t) (length out)) ≡ sound
      → Ended b os fin
  unfolding read_by
  ended_here t b out o e =
      let n = kept-names h es os ns a fin g in
      let s : 1 ≤ v.pending.plain = open-some h b.stored (rw o at (block-takes v b (length t) (length out) e).read) in
      record { entries = es; reads = ap read_by o ∙ a.opened.reads s; named-are = n.0; known = n.1 }

  block-ends : (t : List ℕ) (b : Adding) (out : List ℕ) → OfOpen h (block t b out) → (u : Verdict) → first_broken (block_rules v b (length t) (length out)) ≡ u
      → Pairs (accepted v (block t b out)) (ended_by os v (block t b out)) fin
  unfolding accepted ended_by verdict_for block_of Pairs
  block-ends t b out o sound e = rw e (ended_here t b out (o (rw e)) e, tt)
  block-ends t b out o (broken n p) e = rw e tt

  ends : (c : Call) → OfOpen h c → Pairs (accepted v c) (ended_by os v c) fin
  unfolding accepted ended_by Pairs
  ends (begin out) o = tt
  ends (name d n) o = tt
  ends (entry p t text fields) o = tt
  ends (block t b out) o = block-ends t b out o (first_broken (block_rules v b (length t) (length out))) refl
  ends (close t plain stored out) o = tt

all_end : (cs : List Call) (h : Writing) (es : List Entry) (os : List NamedEntry) (ns : List (List ℕ)) → Amid h es os ns → Fair h cs → AllOfOpen h cs
    → Pairs (addings h.writer cs) (log_behind os ns h.writer cs) (held_behind ns h.writer cs)
unfolding addings log_behind held_behind Fair AllOfOpen Pairs
all_end [] h es os ns a f o = tt
all_end (c ∷ cs) h es os ns a f o =
    let w = h.writer in
    let fin = held_behind (held_after ns w c) (next w c) cs in
    let g = all-grows (c ∷ cs) ns w in
    pairs-append (accepted w c) (addings (next w c) cs) (ended_by os w c) (log_behind (named_after os ns w c) (held_after ns w c) (next w c) cs) fin
    (ends h es os ns fin a g c o.0)
    (all_end cs (after h c) (open_after es w c) (named_after os ns w c) (held_after ns w c) (amid-next h es os ns a c f.0.0 f.0.1) f.1 o.1)

-- ---- one of them

record Split (xs : List Adding) (n : ℕ) (b : List NamedEntry) (fin : List (List ℕ)) : Type 0 where
  pub before : List Adding
  pub added : Adding
  pub later : List Adding
  pub are : xs ≡ before ++ (added ∷ later)
  pub number : length before ≡ n
  pub ended : Ended added b fin

split_at : (done : List (List NamedEntry)) (b : List NamedEntry) (later : List (List NamedEntry)) (xs : List Adding) (fin : List (List ℕ))
    → Pairs xs (done ++ (b ∷ later)) fin → Split xs (length done) b fin
unfolding Pairs
split_at [] b later [] fin p = absurd p
split_at [] b later (a ∷ xs) fin p = record { before = []; added = a; later = xs; are = refl; number = refl; ended = p.0 }
split_at (c ∷ done) b later [] fin p = absurd p
split_at (c ∷ done) b later (a ∷ xs) fin p =
    let r = split_at done b later xs fin p.1 in
    record {
      before = a ∷ r.before;
      added = r.added;
      later = r.later;
      are = ap (λ (l : List Adding). a ∷ l) r.are;
      number = ap suc r.number;
      ended = r.ended;
    }

pairs-length : (xs : List Adding) (bs : List (List NamedEntry)) (fin : List (List ℕ)) → Pairs xs bs fin → length xs ≡ length bs
unfolding Pairs
pairs-length [] [] fin p = refl
pairs-length [] (b ∷ bs) fin p = absurd p
pairs-length (a ∷ xs) [] fin p = absurd p
pairs-length (a ∷ xs) (b ∷ bs) fin p = ap suc (pairs-length xs bs fin p.1)

-- ---- the theorem

given-same : {A : Type 0} (a b : A) → ◌≡◌ {A = Outcome A} (given a) (given b) → a ≡ b
given-same a b e = cc

row-start : (n at : ℕ) (a : Adding) → (row_for n at (block_for a)).start ≡ a.start
unfolding row_for block_for
row-start n at a = refl

module _ (cs : List Call) (f plain stored : List ℕ) (two : Finished f (addings new_writer cs) plain stored)
    (built : HoldsNames (behind new_writing cs) (names_held cs))
    (is-built : plain ≡ built_names (behind new_writing cs)) (some : 1 ≤ length (names_held cs))
    (pairs : Pairs (addings new_writer cs) (log_of cs) (names_held cs)) where
  abbrev fin : List (List ℕ)
  fin = names_held cs

  looks : LooksUp plain (length fin) (in_list fin)
  looks = rw is-built (names-found (behind new_writing cs) fin built some)

  count : le_at 4 plain 0 ≡ length fin
  count =
      given-same (le_at 4 plain 0) (behind new_writing cs).writer.names (sym two.accepted ∙ rw is-built (built.accepted some))
      ∙ built.count

  lengths : length (addings new_writer cs) ≡ length (log_of cs)
  lengths = pairs-length (addings new_writer cs) (log_of cs) fin pairs

  block_read : (table : List ℕ) → length (log_of cs) * stride ≤ length table
      → (done : List (List NamedEntry)) (es : List NamedEntry) (later : List (List NamedEntry)) → log_of cs ≡ done ++ (es ∷ later)
      → BlockRead f (open_out f table) plain (length (log_of cs)) (length fin) (length done) (addings new_writer cs) es
  block_read table room done es later e =
      let s = split_at done es later (addings new_writer cs) fin (rw e at pairs) in
      let x = s.ended in
      let r = two.blocks table (rw lengths room) s.before s.added s.later s.are in
      let same : r.entries ≡ x.entries = given-same r.entries x.entries (sym r.took ∙ x.reads) in
      let start : r.row.start ≡ (head_at f r.row.offset).start =
      ap (λ (y : Row). y.start) r.row_is ∙ row-start (length s.before) (end_from 64 (map block_for s.before)) s.added ∙ sym r.start in
      record {
        before = s.before;
        added = s.added;
        later = s.later;
        addings-are = s.are;
        number = s.number;
        row = r.row;
        located = rw (lengths, s.number) at r.located;
        stored = r.stored;
        start = start;
        entries = x.entries;
        steps = rw start (rw (count, same) at r.steps);
        named-are = x.named-are
            ∙ all_alike (length fin) (in_list fin) (λ i. name_in (lookup_of plain i) plain) (λ i l. sym (looks.by_number i l)) x.entries x.known;
      }

  used : Used f cs plain stored
  used = record { blocks = lengths; names = looks; opens = λ table room. two.opens table (rw lengths room); reads = block_read }

nothing-open : Amid new_writing [] [] []
unfolding named Known
nothing-open = record { holding = holding-new; opened = opened-none new_writer [] [] refl refl; named-are = refl; known = tt }

pub whole-use : WholeUse
unfolding WholeUse NamesBuilt
whole-use cs t stored out f o some c later =
    let plain = built_names (behind new_writing cs) in
    let g = (fair-first cs (close t plain stored out ∷ []) new_writing f).0 in
    used cs _ plain stored (demand-2.finished cs t plain stored out f c later) (names-built cs g) refl some
    (all_end cs new_writing [] [] [] nothing-open g o)
