-- Demand 3 at the C edge. Assumes nothing.
use mathlib.Core.Path.{◌≡◌, sym, ap, ◌∙◌}
use mathlib.Core.Bool.{Bool}
use mathlib.Core.List.{List, [], ◌∷◌, ◌++◌, map}
use Prim.Native.Nat.{ℕ, ◌≤◌}
use lib.ListN.{length}
use Rattle.verdict.specs.Rules.{Verdict, sound, broken, first_broken, refused}
use Rattle.verdict.proofs.Laws.{first-none, least-holds, then-sound, then-broken, settle-given, settle-refused}
use Rattle.layout.specs.Layout.{Block}
use Rattle.layout.proofs.Along.{length-rows-from}
use Rattle.writer.specs.State.{new_writer}
use Rattle.writer_blocks.specs.Block.{Adding, block_for}
use Rattle.recovery.specs.Recovery.{report_of, call_rules, recover_of, recover_out}
use Rattle.repair.specs.Repair.{repair_of, repair_out}
use Rattle.c_recovery.specs.Recover.{c_recover_rules, c_recover_of, c_recover_rows, c_recover_report}
use Rattle.c_recovery.specs.Repair.{c_repair_of}
use Rattle.disk.specs.Disk.{Store, disk, finished, addings_in_full}
use Rattle.claims.specs.Calls.{close, run}
use Rattle.claims.specs.Demand3.{Recovery, Repair, Finishing, finished_by, Finishes, RecoversFrom, RepairsWhole, AtCut}
use Rattle.claims.proofs.Demand3.{demand-3}
use Rattle.claims_c.specs.EdgeDemand3.{EdgeRecovery, EdgeUnread, EdgeRepair, c_finished, EdgeFinishes, EdgeAtCut, EdgeDemand3}
use Rattle.claims_c.proofs.Edge.{edge-refines}

-- ---- recovery and repair as calls

module _ (f rows report : List ℕ) where
  edge-recovery : (bs : List Block) (stop : Verdict) (whole : Bool) → 32 ≤ length report
      → Recovery (recover_of f (length rows)) rows (recover_out f rows) bs stop whole
      → EdgeRecovery f rows report bs stop whole
  unfolding recover_of c_recover_of c_recover_rows c_recover_report c_recover_rules
  edge-recovery bs stop whole l r =
      let g = settle-given (first_broken (call_rules f (length rows))) (report_of f) _ (sym r.gives) in
      let h : first_broken (c_recover_rules f (length rows) (length report)) ≡ sound =
      then-sound (call_rules f (length rows)) _ g.0 ∙ least-holds _ _ _ _ _ l ∙ first-none in
      record {
        answers = rw (h, ← g.1, length-rows-from 0 64 bs);
        leaves-rows = rw (h, ← g.1);
        leaves-report = rw (h, ← g.1);
      }

  edge-unread : (n p : ℕ) → recover_of f (length rows) ≡ refused n p → EdgeUnread f rows report n p
  unfolding recover_of c_recover_of c_recover_rows c_recover_report c_recover_rules
  edge-unread n p e =
      let b = settle-refused (first_broken (call_rules f (length rows))) (report_of f) n p (sym e) in
      let h : first_broken (c_recover_rules f (length rows) (length report)) ≡ broken n p =
      then-broken (call_rules f (length rows)) _ n p b in
      record { answers = rw h; leaves-rows = rw h; leaves-report = rw h }

edge-repair : (f lent out file : List ℕ) (kept : ℕ) → Repair (repair_of f lent (length out)) out (repair_out f lent out) file kept → EdgeRepair f lent out file
unfolding c_repair_of
edge-repair f lent out file kept r = record { answers = rw r.gives; leaves = r.leaves; starts = r.starts }

-- ---- at a cut

finished-same : (xs : List Adding) (stored : List ℕ) (c : Finishing xs stored) → c_finished xs stored c ≡ finished_by xs stored c
finished-same xs stored c = ap finished (edge-refines.stores (c.calls ++ (close c.table c.plain stored c.out ∷ [])))

edge-finishes : (f : List ℕ) (xs : List Adding) (stored : List ℕ) → Finishes f xs stored → EdgeFinishes f xs stored
edge-finishes f xs stored s =
    record {
      gives = λ c out. rw (finished-same xs stored c) (λ fits. edge-repair f stored out (finished_by xs stored c) _ (s.gives c out fits));
      calls = s.calls;
    }

edge-at-cut : (ss : List Store) (cut : ℕ) → AtCut ss cut → EdgeAtCut ss cut
unfolding RecoversFrom RepairsWhole
edge-at-cut ss cut a =
    let f = disk cut [] ss in
    record {
      recovery = λ rows report room l. edge-recovery f rows report (map block_for (addings_in_full cut ss)) _ _ l (a.recovery rows room);
      own = λ w lent out room. edge-repair f lent out (finished ss) _ (a.own w lent out room);
      lent = λ w lent q r. edge-finishes f (addings_in_full cut ss) lent (a.lent w lent q r);
    }

-- ---- every list of calls

pub edge-demand-3 : EdgeDemand3
edge-demand-3 =
    record {
      at_cut = λ cs fair cut. rw (edge-refines.stores cs) (λ stands. edge-at-cut (run new_writer cs) cut (demand-3.at_cut cs fair cut stands));
      short = λ cs cut rows report. rw (edge-refines.stores cs) (λ h. edge-unread _ rows report 1 _ (demand-3.short cs cut (length rows) h));
    }
