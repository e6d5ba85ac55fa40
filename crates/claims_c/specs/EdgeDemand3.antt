-- Demand 3 over the calls of include/hplog.h: the writer's, then a cut, then hplog_recover and hplog_repair.
-- Assumes nothing.
use Rattle.std.specs.Prelude.{◌≡◌, Bool, true, false, List, [], ◌∷◌, ◌++◌, map, ℕ, ◌*◌, ◌^◌, ◌≤◌, ◌<◌, length, take}
use Rattle.verdict.specs.Rules.{Verdict, given, refused}
use Rattle.wire.specs.Wire.{splice}
use Rattle.rows.specs.Rows.{stride, table_bytes}
use Rattle.layout.specs.Layout.{Block, end_from, table_of}
use Rattle.writer_blocks.specs.Block.{Adding, block_for}
use Rattle.repair.specs.Repair.{repair_out}
use Rattle.c_answer.specs.Answer.{answered}
use Rattle.c_recovery.specs.Recover.{report_bytes, c_recover_of, c_recover_rows, c_recover_report}
use Rattle.c_recovery.specs.Repair.{c_repair_of}
use Rattle.disk.specs.Disk.{Store, disk, finished, addings_in_full, dictionaries_in_full, some, standing, stop_for}
use Rattle.claims.specs.Calls.{Call, close, new_writing, Fair}
use Rattle.claims.specs.Demand3.{Finishing}
use Rattle.claims_c.specs.Edge.{new_state, c_run}

-- hplog_recover answers with as many rows as blocks, and leaves their rows and its report: "end of the last whole block
-- [..], number and place of what stopped the scan (0 and 0 for a clean end), 1 where a whole dictionary stands"
pub record EdgeRecovery (f rows report : List ℕ) (bs : List Block) (stop : Verdict) (whole : Bool) : Type 0 where
  pub answers : c_recover_of f (length rows) (length report) ≡ answered (given (length bs))
  pub leaves-rows : c_recover_rows f rows (length report) ≡ splice rows 0 (table_bytes (table_of bs))
  pub leaves-report : c_recover_report f (length rows) report
      ≡ splice report 0 (report_bytes (end_from 64 bs) stop whole)

-- it refuses with a number and a place, and leaves both as they were
pub record EdgeUnread (f rows report : List ℕ) (number place : ℕ) : Type 0 where
  pub answers : c_recover_of f (length rows) (length report) ≡ answered (refused number place)
  pub leaves-rows : c_recover_rows f rows (length report) ≡ rows
  pub leaves-report : c_recover_report f (length rows) report ≡ report

-- hplog_repair answers with the length of this file, and leaves it, byte for byte
pub record EdgeRepair (f lent out file : List ℕ) : Type 0 where
  pub answers : c_repair_of f lent (length out) ≡ answered (given (length file))
  pub leaves : repair_out f lent out ≡ splice out 0 file
  pub starts : take (length file) (repair_out f lent out) ≡ file

-- the file that calls and a closing behind them store at the C edge
abbrev pub c_finished : (xs : List Adding) (stored : List ℕ) → Finishing xs stored → List ℕ
c_finished xs stored c =
    finished (c_run new_state (c.calls ++ (close c.table c.plain stored c.out ∷ [])))

-- hplog_repair with a lent dictionary gives what such calls store, and there are such calls
pub record EdgeFinishes (f : List ℕ) (xs : List Adding) (stored : List ℕ) : Type 0 where
  pub gives : (c : Finishing xs stored) (out : List ℕ) → length (c_finished xs stored c) ≤ length out
      → EdgeRepair f stored out (c_finished xs stored c)
  pub calls : Finishing xs stored

-- of stores and a cut that leaves the first 64 bytes, with room for the rows and the report of hplog_recover
pub record EdgeAtCut (ss : List Store) (cut : ℕ) : Type 0 where
  pub recovery : (rows report : List ℕ) → length (addings_in_full cut ss) * stride ≤ length rows → 32 ≤ length report
      → (
      let bs = map block_for (addings_in_full cut ss) in
      let stop = stop_for (end_from 64 bs) (standing 0 cut ss) in
      EdgeRecovery (disk cut [] ss) rows report bs stop (some (dictionaries_in_full cut ss)))
  pub own : some (dictionaries_in_full cut ss) ≡ true → (lent out : List ℕ) → length (finished ss) ≤ length out
      → EdgeRepair (disk cut [] ss) lent out (finished ss)
  pub lent : some (dictionaries_in_full cut ss) ≡ false → (lent : List ℕ) → 1 ≤ length lent → length lent < 256 ^ 4
      → EdgeFinishes (disk cut [] ss) (addings_in_full cut ss) lent

-- every list of calls of a new writer, and every cut; where the first header isn't whole, hplog_recover says 1
pub record EdgeDemand3 : Type 0 where
  pub at_cut : (cs : List Call) → Fair new_writing cs → (cut : ℕ) → 64 ≤ length (disk cut [] (c_run new_state cs))
      → EdgeAtCut (c_run new_state cs) cut
  pub short : (cs : List Call) (cut : ℕ) (rows report : List ℕ) → (
      let f = disk cut [] (c_run new_state cs) in length f < 64 → EdgeUnread f rows report 1 (length f))
