-- Demand 3, proved: what recovery and repair make of the disk that any cut leaves of the stores of any list of calls. Assumes nothing.
use mathlib.Core.Path.{◌≡◌, refl, ap, ◌∙◌}
use mathlib.Core.Bool.{Bool, true, false, cond}
use mathlib.Core.List.{List, [], ◌∷◌, map}
use Prim.Native.Nat.{ℕ, ◌+◌, ◌*◌, ◌^◌, ◌≤◌, ◌<◌}
use native.Mathlib.Nat.{not-suc-le-zero}
use native.Mathlib.Omega.{arith}
use lib.Dec.{leb}
use lib.ListN.{length, length-map}
use Rattle.verdict.specs.Rules.{Verdict, given, refused}
use Rattle.verdict.proofs.Laws.{least-breaks}
use Rattle.wire.proofs.Splices.{splice-there}
use Rattle.rows.specs.declared.Row.{Row}
use Rattle.parts.specs.Rules.{header_rules}
use Rattle.rows.specs.Rows.{stride, table_bytes}
use Rattle.rows.proofs.Rows.{length-table}
use Rattle.layout.specs.Layout.{Block, end_from, table_of}
use Rattle.layout.proofs.Along.{length-rows-from}
use Rattle.writer.specs.State.{begun_writer, new_writer}
use Rattle.writer_blocks.specs.Block.{Adding, block_for}
use Rattle.recovery.specs.Recovery.{Report, recover_rules, call_rules, report_of, recover_of, recover_out}
use Rattle.repair.specs.Repair.{repair_of, repair_out}
use Rattle.disk.specs.Disk.{Store, disk, finished, adding_of, addings_in_full, dictionaries_in_full, some, standing, stop_for}
use Rattle.disk.proofs.Stores.{Begun}
use Rattle.disk.proofs.Disk.{View, before, behind, view}
use Rattle.disk.proofs.InFull.{in-full-front}
use Rattle.disk.proofs.Recovers.{Reports, recovers, recover-gives, recover-leaves}
use Rattle.disk.proofs.Repairs.{Gives, repair-gives, repair-leaves, Repairs, repairs}
use Rattle.claims.specs.Calls.{Call, run, addings, new_writing, Fair}
use Rattle.claims.specs.Demand3.{Recovery, Repair, Finishing, finished_by, Finishes, RecoversFrom, RepairsWhole, AtCut, Demand3}
use Rattle.claims.proofs.Taken.{Taken, blocks-valid, blocks-few, taken-first}
use Rattle.claims.proofs.Runs.{Started, none, begun, start, addings-held}
use Rattle.claims.proofs.Again.{finishing}
use Rattle.claims.proofs.Closings.{file-is}

-- ---- recovery and repair as calls

report-is : (x : Report) (rows : List Row) (end : ℕ) (stop : Verdict) (whole : Bool) → x.rows ≡ rows → x.end ≡ end → x.stop ≡ stop → x.whole ≡ whole
    → x ≡ record { rows = rows; end = end; stop = stop; whole = whole }
report-is x rows end stop whole a b c d = rw (← a, ← b, ← c, ← d)

recovery-by : (f : List ℕ) (bs : List Block) (part : ℕ) (ds : List (List ℕ)) → Reports f bs part ds → (table : List ℕ) → length bs * stride ≤ length table
    → Recovery (recover_of f (length table)) table (recover_out f table) bs (stop_for (end_from 64 bs) part) (some ds)
recovery-by f bs part ds r table room =
    let l : length (table_bytes (table_of bs)) ≤ length table = omega (arith, length-table (table_of bs), length-rows-from 0 64 bs) in
    record {
      gives = recover-gives f bs part ds r table l ∙ ap given (report-is (report_of f) _ _ _ _ r.rows r.end r.stop r.whole);
      leaves = recover-leaves f bs part ds r table l;
    }

repair-by : (f lent file : List ℕ) (kept : ℕ) → Gives f lent file → (report_of f).end ≡ kept → (out : List ℕ) → length file ≤ length out
    → Repair (repair_of f lent (length out)) out (repair_out f lent out) file kept
repair-by f lent file kept g e out room =
    let l = repair-leaves f lent file g out room in
    record {
      gives = rw e at (repair-gives f lent file g out room);
      leaves = l;
      starts = rw l (splice-there out file 0 (omega arith));
    }

-- ---- at most one dictionary is in full

cond-few : (t : Bool) (d : List ℕ) → length (cond t (d ∷ []) []) ≤ 1
cond-few true d = omega arith
cond-few false d = omega arith

one-dictionary : (xs : List Adding) (ss : List Store) (cut : ℕ) → View ss cut xs → length (dictionaries_in_full cut ss) ≤ 1
one-dictionary xs ss cut (before b) = rw b.dictionaries (omega arith)
one-dictionary xs ss cut (behind d j e p q b) = rw b.dictionaries (cond-few (leb (4 + length d) j) d)

the_one : (ds : List (List ℕ)) → length ds ≤ 1 → some ds ≡ true → (d : List ℕ) × (ds ≡ d ∷ [])
unfolding some
the_one [] l e = absurd (let z : ◌≡◌ {A = ℕ} 0 1 = cc in omega arith)
the_one (d ∷ []) l e = (d, refl)
the_one (d ∷ c ∷ ds) l e = absurd (omega arith)

not-one : (ds : List (List ℕ)) → some ds ≡ false → ds ≡ []
unfolding some
not-one [] e = refl
not-one (d ∷ ds) e = absurd (let z : ◌≡◌ {A = ℕ} 0 1 = cc in omega arith)

-- ---- the demand, of calls that began a file

module _ (cs : List Call) (t : Taken begun_writer (addings new_writer cs)) (b : Begun (addings new_writer cs) (run new_writer cs)) (cut : ℕ)
    (stands : 64 ≤ length (disk cut [] (run new_writer cs))) where
  abbrev ss : List Store
  ss = run new_writer cs

  abbrev xs : List Adding
  xs = addings_in_full cut ss

  abbrev f : List ℕ
  f = disk cut [] ss

  reports : Reports f (map block_for xs) (standing 0 cut ss) (dictionaries_in_full cut ss)
  reports = recovers (addings new_writer cs) (blocks-valid (addings new_writer cs) t) (blocks-few (addings new_writer cs) t) b cut stands

  mends : Repairs ss cut
  mends = repairs (addings new_writer cs) (blocks-valid (addings new_writer cs) t) (blocks-few (addings new_writer cs) t) b cut stands

  taken-in-full : Taken begun_writer xs
  taken-in-full =
      let i = in-full-front adding_of 0 cut ss in
      taken-first begun_writer xs i.later (rw (← addings-held cs new_writer, i.all) at t)

  recovery-holds : (table : List ℕ) → length xs * stride ≤ length table → RecoversFrom ss cut (recover_of f (length table)) table (recover_out f table)
  unfolding RecoversFrom
  recovery-holds table room = recovery-by f (map block_for xs) (standing 0 cut ss) (dictionaries_in_full cut ss) reports table
      (rw (length-map xs block_for) room)

  own-holds : some (dictionaries_in_full cut ss) ≡ true → (lent out : List ℕ) → length (finished ss) ≤ length out
      → RepairsWhole ss cut (repair_of f lent (length out)) out (repair_out f lent out)
  unfolding RepairsWhole
  own-holds w lent out room =
      let ds = dictionaries_in_full cut ss in
      let d = the_one ds (one-dictionary (addings new_writer cs) ss cut (view (addings new_writer cs) b cut stands)) w in
      repair-by f lent (finished ss) (end_from 64 (map block_for xs)) (mends.own lent d.0 d.1) reports.end out room

  lent-holds : some (dictionaries_in_full cut ss) ≡ false → (lent : List ℕ) → 1 ≤ length lent → length lent < 256 ^ 4 → Finishes f xs lent
  lent-holds w lent q r =
      record {
        gives = λ c out fits.
            repair-by f lent (finished_by xs lent c) (end_from 64 (map block_for xs))
            (rw (file-is c.calls c.table c.plain lent c.out c.fair c.closes, c.adds)
            (mends.lent lent (not-one (dictionaries_in_full cut ss) w) q r))
            reports.end out fits;
        calls = finishing xs taken-in-full lent q r;
      }

  at_cut : AtCut ss cut
  at_cut = record { recovery = recovery-holds; own = own-holds; lent = lent-holds }

-- ---- every list of calls: where nothing is stored no header stands

by-start : (cs : List Call) (cut : ℕ) → 64 ≤ length (disk cut [] (run new_writer cs)) → Started (addings new_writer cs) (run new_writer cs)
    → AtCut (run new_writer cs) cut
unfolding disk
by-start cs cut stands (none e) = absurd (not-suc-le-zero (rw e at stands))
by-start cs cut stands (begun t b) = at_cut cs t b cut stands

too_short : (f : List ℕ) (room : ℕ) → length f < 64 → recover_of f room ≡ refused 1 (length f)
unfolding recover_of call_rules recover_rules header_rules
too_short f room h = rw (least-breaks 1 (length f) _ (length f) 64 h)

pub demand-3 : Demand3
demand-3 =
    record {
      at_cut = λ cs f cut stands. by-start cs cut stands (start cs new_writing f refl);
      short = λ cs cut room h. too_short (disk cut [] (run new_writer cs)) room h;
    }
