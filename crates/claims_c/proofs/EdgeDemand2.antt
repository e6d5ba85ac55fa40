-- Demand 2 at the C edge. Assumes nothing.
use mathlib.Core.Path.{◌≡◌, refl, sym, ap, subst, ◌∙◌, fun_ext}
use mathlib.Core.Bool.{true, false}
use mathlib.Core.List.{List, [], ◌∷◌, ◌++◌, map}
use Prim.Native.Nat.{ℕ, zero, suc, ◌+◌, ◌/◌}
use lib.Dec.{ltb}
use lib.ListN.{length, get_or, length-map}
use Rattle.verdict.specs.Rules.{flag, sound, first_broken, Outcome, given, refused}
use Rattle.verdict.proofs.Laws.{first-none, least-holds, then-sound, settle-given}
use Rattle.wire.specs.Wire.{le_at, part}
use Rattle.rows.specs.declared.Row.{Row}
use Rattle.rows.specs.Rows.{stride, row_at}
use Rattle.layout.specs.Layout.{row_for}
use Rattle.cursor.specs.Model as model
use Rattle.cursor.specs.Answers.{val_in}
use Rattle.cursor.specs.declared.values.Value.{Value}
use Rattle.cursor.specs.declared.values.Value.TheVariants.{Text, Whole, Real, Truth, Null, Json}
use Rattle.packing.specs.Entry.{kind_code}
use Rattle.entries.specs.Model.{Entry}
use Rattle.names.specs.Dictionary.{name_of, dictionary_of}
use Rattle.lookup.specs.declared.Span.{Span}
use Rattle.lookup.specs.Lookup.{lookup_of, name_in}
use Rattle.frame.specs.declared.Frame.{Frame}
use Rattle.frame.specs.Frame.{frame_of}
use Rattle.reader.specs.Open.{call_rules, open_of, open_out}
use Rattle.access.specs.Access.{row_in, stored_of}
use Rattle.writer.specs.State.{new_writer}
use Rattle.writer.specs.declared.state.Writer.{Writer}
use Rattle.writer_blocks.specs.Block.{Adding, block_for}
use Rattle.c_open.specs.Open.{c_open_rules, c_open_of, c_open_rows, c_open_frame}
use Rattle.c_names.specs.Names.{span_answer, c_names_of, c_name_of}
use Rattle.c_payload.specs.Steps.{bits_of, from_of, length_of}
use Rattle.disk.specs.Disk.{finished}
use Rattle.claims.specs.Calls.{Call, close, verdict_for, addings, new_writing, behind, Closes, file_of}
use Rattle.claims.specs.Built.{names_held, built_names, NamesBuilt}
use Rattle.claims.specs.Lookups.{LooksUp}
use Rattle.claims.specs.Steps.{FieldsFound, EntryFound, EntriesFound}
use Rattle.claims.specs.Demand2.{Opening, Reading, Finished}
use Rattle.claims.specs.Uses.{NamedEntry, named, log_of, Used, WholeUse}
use Rattle.claims.proofs.Again.{fair-first}
use Rattle.claims.proofs.Names.{names-built}
use Rattle.claims.proofs.Demand2.{demand-2}
use Rattle.claims.proofs.Uses.{whole-use}
use Rattle.claims_c.specs.Edge.{new_state, c_last}
use Rattle.claims_c.specs.EdgeDemand2.{value_in, EdgeFields, EdgeEntry, EdgeSteps, c_name_in, EdgeNames, Lends, EdgeOpening, EdgeBlock}
use Rattle.claims_c.specs.EdgeDemand2.{HostCloses, c_file, EdgeFinished, EdgeDemand2, EdgeNamed, EdgeUse}
use Rattle.claims_c.proofs.Edge.{edge-refines}

-- ---- the steps

value_in_lem : (s : List ℕ) (v : Value) → value_in s (kind_code v) (bits_of v) (from_of v) (length_of v) ≡ val_in s v
unfolding value_in val_in
value_in_lem s (Text p n) = refl
value_in_lem s (Whole z) = refl
value_in_lem s (Real x b) = refl
value_in_lem s (Truth true) = refl
value_in_lem s (Truth false) = refl
value_in_lem s Null = refl
value_in_lem s (Json p n) = refl

module _ (s : List ℕ) (names : ℕ) where
  edge-fields : (k at : ℕ) (fs : List model.Field) (end : ℕ) → FieldsFound s names k at fs end → EdgeFields s names k at fs end
  unfolding FieldsFound EdgeFields
  edge-fields zero at [] end r = r
  edge-fields zero at (f ∷ fs) end r = absurd r
  edge-fields (suc k) at [] end r = absurd r
  edge-fields (suc k) at (f ∷ fs) end (found, c, is, same, rest) =
      rw (is, same) (refl, refl, value_in_lem s found.value, edge-fields k c.at fs end rest)

  edge-entry : (start at : ℕ) (e : Entry) (end : ℕ) → EntryFound s names start at e end → EdgeEntry s names start at e end
  unfolding EdgeEntry
  edge-entry start at e end x =
      rw (x.delta-is, x.count-is) (refl, sym x.time-is, refl, edge-fields x.fields x.behind-count.at e.fields end x.found)

  pub edge-steps : (start at : ℕ) (es : List Entry) → EntriesFound s names start at es → EdgeSteps s names start at es
  unfolding EntriesFound EdgeSteps
  edge-steps start at [] r = rw r.1 (r.0, refl, refl)
  edge-steps start at (e ∷ es) (l, (end, x, rest)) = (l, (end, edge-entry start at e end x, edge-steps start end es rest))

-- ---- names

-- the part of a dictionary that an answer says is the one that lookup hands back
span-part : (s : List ℕ) (o : Outcome Span) → part s (span_answer o).place (span_answer o).count ≡ name_in o s
span-part s (given p) = refl
span-part s (refused n p) = refl

name_in_lem : (s : List ℕ) (i : ℕ) → c_name_in s i ≡ name_in (lookup_of s i) s
unfolding c_name_of
name_in_lem s i = span-part s (lookup_of s i)

pub edge-names : (s : List ℕ) (n : ℕ) (name : ℕ → List ℕ) → dictionary_of s ≡ given n → LooksUp s n name → EdgeNames s n name
unfolding c_names_of c_name_of
edge-names s n name e u =
    record {
      counted = rw e;
      accepted = λ i l. rw (u.located i l);
      bytes = λ i l. name_in_lem s i ∙ u.by_number i l;
      past = λ i l. rw (u.past i l);
    }

-- ---- opening

module _ (f rows frame stored : List ℕ) (xs : List Adding) (l : Lends rows frame (length xs))
    (o : Opening (open_of f (length rows)) f rows (open_out f rows) stored (map block_for xs)) where
  opened : (first_broken (call_rules f (length rows)) ≡ sound) × (o.frame ≡ frame_of f)
  unfolding open_of
  opened = settle-given (first_broken (call_rules f (length rows))) (frame_of f) o.frame (sym o.gives)

  host-opened : first_broken (c_open_rules f (length rows) (length frame)) ≡ sound
  unfolding c_open_rules
  host-opened = then-sound (call_rules f (length rows)) _ opened.0 ∙ least-holds _ _ _ _ _ l.frame-room ∙ first-none

  rows_same : c_open_rows f rows (length frame) ≡ open_out f rows
  unfolding c_open_rows open_out
  rows_same = rw (host-opened, opened.0)

  edge-opening : EdgeOpening f rows frame stored xs
  unfolding c_open_of c_open_frame
  edge-opening =
      let b : (frame_of f).blocks ≡ length xs = ap (λ (x : Frame). x.blocks) (sym opened.1) ∙ o.blocks ∙ length-map xs block_for in
      record {
        answers = rw (host-opened, b);
        found = o.frame;
        leaves-frame = rw (host-opened, ← opened.1);
        opens =
            subst (λ (left : List ℕ). Opening (given o.frame) f rows left stored (map block_for xs)) (sym rows_same)
            (subst (λ (a : Outcome Frame). Opening a f rows (open_out f rows) stored (map block_for xs)) o.gives o);
      }

-- ---- a block

row-located : (table : List ℕ) (blocks i : ℕ) (row : Row) → row_in table blocks i ≡ given row → row_at table i ≡ row
unfolding row_in
row-located table blocks i row e =
    let rules = flag 14 i (ltb i blocks) ∷ flag 14 i (ltb i (length table / stride)) ∷ [] in
    sym (settle-given (first_broken rules) (row_at table i) row (sym e)).1

edge-block : (f rows : List ℕ) (blocks names : ℕ) (before : List Adding) (a : Adding) (r : Reading f rows blocks names before a)
    → EdgeBlock f rows names (length before) a r.entries
unfolding row_for block_for stored_of
edge-block f rows blocks names before a r =
    let e : row_at rows (length before) ≡ r.row = row-located rows blocks (length before) r.row r.located in
    let start : r.row.start ≡ a.start = ap (λ (x : Row). x.start) r.row_is in
    record {
      start = rw e start;
      stored = rw e r.stored;
      steps = rw (e, start) (edge-steps a.plain names a.start.0 0 r.entries (rw r.start at r.steps));
    }

-- ---- the demand

module _ (f : List ℕ) (xs : List Adding) (plain stored : List ℕ) (d : Finished f xs plain stored) where
  edge-finished : EdgeFinished f xs plain stored
  edge-finished =
      record {
        opens = λ rows frame l. edge-opening f rows frame stored xs l (d.opens rows l.room);
        blocks = λ rows frame l before a later e.
            let r = d.blocks rows l.room before a later e in (
              r.entries,
              r.took,
              rw (rows_same f rows frame stored xs l (d.opens rows l.room)) (edge-block f (open_out f rows) (length xs) (le_at 4 plain 0) before a r),
            );
        names = edge-names plain (le_at 4 plain 0) (name_of plain) d.accepted d.names;
      }

closes : (cs : List Call) (t plain stored out : List ℕ) → HostCloses cs t plain stored out → Closes cs t plain stored out
closes cs t plain stored out h =
    let c = close t plain stored out in
    ap (λ (w : Writer). verdict_for w c) (sym (edge-refines.writer cs)) ∙ (edge-refines.each (c_last new_state cs) c).only_then h

file-same : (cs : List Call) (t plain stored out : List ℕ) (later : List Call) → c_file cs t plain stored out later ≡ file_of cs t plain stored out later
file-same cs t plain stored out later = ap finished (edge-refines.stores (cs ++ (close t plain stored out ∷ later)))

pub edge-demand-2 : EdgeDemand2
unfolding EdgeDemand2
edge-demand-2 cs t plain stored out fair h later =
    rw (file-same cs t plain stored out later)
    (edge-finished _ (addings new_writer cs) plain stored (demand-2.finished cs t plain stored out fair (closes cs t plain stored out h) later))

-- ---- the whole use

module _ (f : List ℕ) (cs : List Call) (plain stored : List ℕ) (d : EdgeFinished f (addings new_writer cs) plain stored) (u : Used f cs plain stored)
    (rows frame : List ℕ) (l : Lends rows frame (length (log_of cs))) where
  lent : Lends rows frame (length (addings new_writer cs))
  lent = rw u.blocks l

  edge-named : (done : List (List NamedEntry)) (es : List NamedEntry) (later : List (List NamedEntry)) → log_of cs ≡ done ++ (es ∷ later)
      → EdgeNamed f (c_open_rows f rows (length frame)) plain (length (names_held cs)) (length done) (addings new_writer cs) es
  edge-named done es later e =
      let b = u.reads rows l.room done es later e in
      let left = c_open_rows f rows (length frame) in
      let k = (d.blocks rows frame lent b.before b.added b.later b.addings-are).2 in
      let same = rows_same f rows frame stored (addings new_writer cs) lent (u.opens rows l.room) in
      let row : row_at left (length done) ≡ b.row = rw same (row-located (open_out f rows) (length (log_of cs)) (length done) b.row b.located) in
      record {
        before = b.before;
        added = b.added;
        later = b.later;
        addings-are = b.addings-are;
        number = b.number;
        entries = b.entries;
        block =
            record {
              start = rw b.number at k.start;
              stored = rw b.number at k.stored;
              steps = rw row (edge-steps b.added.plain (length (names_held cs)) b.row.start.0 0 b.entries b.steps);
            };
        named-are = b.named-are ∙ ap (λ (of : ℕ → List ℕ). named of b.entries) (fun_ext (λ i. sym (name_in_lem plain i)));
      }

pub edge-use : EdgeUse
unfolding EdgeUse WholeUse NamesBuilt
edge-use cs t stored out fair opens some h later =
    let plain = built_names (behind new_writing cs) in
    let f = file_of cs t plain stored out later in
    let c = closes cs t plain stored out h in
    let u = whole-use cs t stored out fair opens some c later in
    let d = edge-finished f (addings new_writer cs) plain stored (demand-2.finished cs t plain stored out fair c later) in
    let built = names-built cs (fair-first cs (close t plain stored out ∷ []) new_writing fair).0 in
    rw (file-same cs t plain stored out later)
    (record {
      blocks = u.blocks;
      names = edge-names plain (length (names_held cs)) (λ i. get_or (names_held cs) i []) (built.accepted some ∙ ap given built.count) u.names;
      opens = λ rows frame l. d.opens rows frame (lent f cs plain stored d u rows frame l);
      reads = λ rows frame l. edge-named f cs plain stored d u rows frame l;
    })
