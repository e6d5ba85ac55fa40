-- Demand 2, proved: what any list of calls and an accepted closing store opens, and its blocks are read as the addings took them. Assumes nothing.
use mathlib.Core.Path.{◌≡◌, refl, sym, ap, ◌∙◌}
use mathlib.Core.List.{List, [], ◌∷◌, ◌++◌, map, map-append}
use Prim.Native.Nat.{ℕ, ◌*◌, ◌^◌, ◌≤◌, ◌<◌}
use native.Mathlib.Omega.{arith}
use lib.ListN.{length, length-map}
use Rattle.verdict.specs.Rules.{sound, Outcome, given, refused, verdict_in}
use Rattle.wire.specs.Wire.{le_at}
use Rattle.parts.specs.declared.BlockHeader.{BlockHeader}
use Rattle.parts.specs.declared.time.Epoch.{Epoch}
use Rattle.rows.specs.Rows.{stride, table_bytes}
use Rattle.rows.proofs.Rows.{length-table}
use Rattle.layout.specs.Layout.{head_of, row_for, end_from, table_of}
use Rattle.layout.proofs.Along.{length-rows-from}
use Rattle.blocks.specs.Blocks.{head_at}
use Rattle.entries.specs.Model.{Entry}
use Rattle.entries.specs.Reading.{entries_of}
use Rattle.entries.proofs.RoundTrip as trips
use Rattle.names.specs.Dictionary.{dictionary_of}
use Rattle.reader.specs.Open.{open_of, open_out}
use Rattle.access.specs.Access.{row_in, dictionary_in}
use Rattle.writer.specs.State.{begun_writer, new_writer}
use Rattle.writer_blocks.specs.Block.{Adding, read_by, block_for}
use Rattle.writer_close.proofs.Closes.{close-good}
use Rattle.disk.proofs.Opens.{finished_file, finished_frame, opens, frame-finished, dictionary-finished, head-finished, stored-finished, row-finished}
use Rattle.disk.proofs.Readings.{more-names, block-finished}
use Rattle.claims.specs.Calls.{Call, close, run, addings, new_writing, Fair, Closes, file_of}
use Rattle.claims.specs.Demand2.{Opening, Reading, Finished, Demand2, EntryTrips}
use Rattle.claims.specs.Steps.{StepsRead}
use Rattle.claims.proofs.Taken.{after, Taken, blocks-valid, blocks-few, taken_next, names-given}
use Rattle.claims.proofs.Steps.{steps-read}
use Rattle.claims.proofs.Lookups.{looks-up}
use Rattle.claims.proofs.Closings.{closing-rules, closing-between, file-is, closed-stores, closed-late}

-- ---- the file of addings that were taken, and a dictionary

-- what an adding that is accepted read
read_some : (o : Outcome (List Entry)) → verdict_in o ≡ sound → (es : List Entry) × (o ≡ given es)
read_some (given es) e = (es, refl)
read_some (refused n p) e = absurd (let z : ◌≡◌ {A = ℕ} 0 1 = cc in omega arith)

module _ (xs : List Adding) (t : Taken begun_writer xs) (stored : List ℕ) (some : 1 ≤ length stored) (fits : length stored < 256 ^ 4) where
  rows-room : (table : List ℕ) → length xs * stride ≤ length table → length (table_bytes (table_of (map block_for xs))) ≤ length table
  rows-room table h = let bs = map block_for xs in omega (arith, length-table (table_of bs), length-rows-from 0 64 bs, length-map xs block_for)

  opening : (table : List ℕ) → length xs * stride ≤ length table → (
      let f = finished_file (map block_for xs) stored in Opening (open_of f (length table)) f table (open_out f table) stored (map block_for xs))
  opening table h =
      let bs = map block_for xs in
      let f = finished_file bs stored in
      let v = blocks-valid xs t in
      let few = blocks-few xs t in
      let o = opens bs v few stored some fits table (rows-room table h) in
      record {
        frame = finished_frame bs stored;
        gives = o.gives;
        blocks = refl;
        place = refl;
        size = refl;
        index = refl;
        first = refl;
        last = refl;
        leaves = o.leaves;
        dictionary = ap (dictionary_in f) (sym (frame-finished bs v few stored some fits)) ∙ dictionary-finished bs v few stored some fits;
      }

  -- each block
  module _ (before : List Adding) (a : Adding) (after-it : List Adding) (split : xs ≡ before ++ (a ∷ after-it)) where
    split-blocks : map block_for xs ≡ map block_for before ++ (block_for a ∷ map block_for after-it)
    split-blocks = ap (map block_for) split ∙ map-append block_for before (a ∷ after-it)

    read_here : (es : List Entry) × (read_by a ≡ given es)
    read_here = read_some (read_by a) (taken_next a begun_writer before after-it (rw split at t)).0.read

    head-here : head_at (finished_file (map block_for xs) stored) (end_from 64 (map block_for before)) ≡ head_of (length (map block_for before)) (block_for a)
    head-here =
        head-finished (map block_for xs) (blocks-valid xs t) (blocks-few xs t) stored some fits (map block_for before) (block_for a)
        (map block_for after-it) split-blocks

    start-here : (head_at (finished_file (map block_for xs) stored) (end_from 64 (map block_for before))).start ≡ a.start
    unfolding head_of block_for
    start-here = ap (λ (h : BlockHeader). h.start) head-here

    located_here : (table : List ℕ) → length xs * stride ≤ length table
        → row_in (open_out (finished_file (map block_for xs) stored) table) (length xs) (length before)
        ≡ given (row_for (length before) (end_from 64 (map block_for before)) (block_for a))
    located_here table h =
        let r =
        row-finished (map block_for xs) (blocks-valid xs t) (blocks-few xs t) stored some fits (map block_for before) (block_for a) (map block_for after-it)
        split-blocks table (rows-room table h) in
        let o = open_out (finished_file (map block_for xs) stored) table in
        ap (λ (n : ℕ). row_in o n (length before)) (sym (length-map xs block_for))
        ∙ (rw (length-map before block_for) at r)

    reading : (names : ℕ) → (after begun_writer xs).given ≤ names → (table : List ℕ) → length xs * stride ≤ length table
        → Reading (finished_file (map block_for xs) stored) (open_out (finished_file (map block_for xs) stored) table) (length xs) names before a
    unfolding row_for block_for StepsRead
    reading names known table h =
        let bs = map block_for xs in
        let v = blocks-valid xs t in
        let few = blocks-few xs t in
        let es = read_here.0 in
        let e = read_here.1 in
        let g : a.names ≤ (after begun_writer xs).given = rw (← split) at (names-given a begun_writer before after-it (rw split at t)) in
        let l : a.names ≤ names = omega arith in
        let reads = ap (λ (s : Epoch). entries_of a.plain s.0 names) start-here ∙ more-names a es e names l in
        record {
          row = row_for (length before) (end_from 64 (map block_for before)) (block_for a);
          located = located_here table h;
          row_is = refl;
          stored =
              rw (length-map before block_for) at
              (stored-finished bs v few stored some fits (map block_for before) (block_for a) (map block_for after-it) split-blocks);
          start = start-here;
          accepted = block-finished bs v few stored some fits a es e names l (map block_for before) (map block_for after-it) split-blocks;
          entries = es;
          took = e;
          reads = reads;
          steps = steps-read a.plain _ names es (taken_next a begun_writer before after-it (rw split at t)).1.0 reads;
        }

  finished-file : (plain : List ℕ) → dictionary_of plain ≡ given (le_at 4 plain 0) → (after begun_writer xs).given ≤ le_at 4 plain 0
      → Finished (finished_file (map block_for xs) stored) xs plain stored
  finished-file plain names known =
      record {
        bytes = refl;
        opens = opening;
        blocks = λ table h before a later split. reading before a later split (le_at 4 plain 0) known table h;
        accepted = names;
        names = looks-up plain (le_at 4 plain 0) names;
      }

-- ---- calls, and a closing that is accepted behind them

finishes : (cs : List Call) (t plain stored out : List ℕ) → Fair new_writing (cs ++ (close t plain stored out ∷ [])) → Closes cs t plain stored out
    → Finished (file_of cs t plain stored out []) (addings new_writer cs) plain stored
finishes cs t plain stored out f c =
    let xs = addings new_writer cs in
    let b = (closing-between cs t plain stored out f c).0 in
    let g = close-good _ t plain stored (length out) (closing-rules cs t plain stored out f c) in
    let n : (after begun_writer xs).given ≤ le_at 4 plain 0 = rw b.given at g.given in
    rw (file-is cs t plain stored out f c) (finished-file xs b.taken stored g.some (omega (arith, g.fits)) plain g.dictionary n)

pub demand-2 : Demand2
demand-2 =
    record {
      finished = λ cs t plain stored out f c later. rw (closed-stores cs t plain stored out c later) (finishes cs t plain stored out f c);
      late = closed-late;
    }

-- ---- plain bytes and entries

pub entry-trips : EntryTrips
unfolding EntryTrips
entry-trips names start es =
    record {
      read-packed = trips.read-packed names start es;
      packed-short = trips.packed-short names start es;
      packed-read = λ s bytes accepted. trips.packed-read names start es s accepted bytes;
      packed-anew = λ s bytes accepted. trips.packed-anew names start es s accepted bytes;
      read-appended = trips.read-appended names start es;
    }
