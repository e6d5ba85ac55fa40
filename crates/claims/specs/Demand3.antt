-- Demand 3 (document 01, "Recovery and repair"): "one claim over every list of calls, not one for each call", and over
-- every cut. Assumes nothing.
use Rattle.std.specs.Prelude.{◌≡◌, Bool, true, false, List, [], ◌∷◌, ◌++◌, map, ℕ, ◌*◌, ◌^◌, ◌≤◌, ◌<◌, length, take}
use Rattle.verdict.specs.Rules.{Verdict, Outcome, given, refused}
use Rattle.wire.specs.Wire.{splice}
use Rattle.rows.specs.Rows.{stride, table_bytes}
use Rattle.layout.specs.Layout.{Block, end_from, table_of}
use Rattle.writer.specs.State.{new_writer}
use Rattle.writer_blocks.specs.Block.{Adding, block_for}
use Rattle.recovery.specs.Recovery.{Report, recover_of, recover_out}
use Rattle.repair.specs.Repair.{Kept, repair_of, repair_out}
use Rattle.disk.specs.Disk.{Store, disk, finished, addings_in_full, dictionaries_in_full, some, standing, stop_for}
use Rattle.claims.specs.Calls.{Call, close, run, addings, new_writing, Fair, Closes, file_of}

-- what recovery answers, and leaves in a lent table: "the rows" of these blocks, "start taken, end (the last entry's
-- time), place (64, or the one before plus 36 plus the size before), stored length", "the end of the last whole block,
-- the number and place that stopped it (0 for a clean end) and whether a whole dictionary stands at D"
pub record Recovery
    (answer : Outcome Report) (table left : List ℕ) (bs : List Block) (stop : Verdict) (whole : Bool) : Type 0 where
  pub gives : answer ≡ given (record { rows = table_of bs; end = end_from 64 bs; stop = stop; whole = whole })
  pub leaves : left ≡ splice table 0 (table_bytes (table_of bs))

-- what repair answers, and leaves in a lent buffer: this file, byte for byte, with so many bytes of the old one kept
pub record Repair (answer : Outcome Kept) (out left file : List ℕ) (kept : ℕ) : Type 0 where
  pub gives : answer ≡ given (record { length = length file; kept = kept })
  pub leaves : left ≡ splice out 0 file
  pub starts : take (length file) left ≡ file

-- ---- the file the writer would have finished

-- calls of which these addings are accepted, and a closing behind them with this stored dictionary, "whichever plain
-- one closing accepts"
pub record Finishing (xs : List Adding) (stored : List ℕ) : Type 0 where
  pub calls : List Call
  pub table : List ℕ
  pub plain : List ℕ
  pub out : List ℕ
  pub fair : Fair new_writing (calls ++ (close table plain stored out ∷ []))
  pub adds : addings new_writer calls ≡ xs
  pub closes : Closes calls table plain stored out

-- the file that they store
abbrev pub finished_by : (xs : List Adding) (stored : List ℕ) → Finishing xs stored → List ℕ
finished_by xs stored c = file_of c.calls c.table c.plain stored c.out []

-- repair of a file with a lent dictionary gives what such calls store, and there are such calls
pub record Finishes (f : List ℕ) (xs : List Adding) (stored : List ℕ) : Type 0 where
  pub gives : (c : Finishing xs stored) (out : List ℕ) → length (finished_by xs stored c) ≤ length out
      → Repair (repair_of f stored (length out)) out (repair_out f stored out) (finished_by xs stored c)
      (end_from 64 (map block_for xs))
  pub calls : Finishing xs stored

-- ---- the demand

-- recovery of a file with these addings stored in full, and a table that has room for their rows
unfoldable pub RecoversFrom : (ss : List Store) (cut : ℕ) → (answer : Outcome Report) (table left : List ℕ) → Type 0
RecoversFrom ss cut answer table left =
    let bs = map block_for (addings_in_full cut ss) in
    Recovery answer table left bs (stop_for (end_from 64 bs) (standing 0 cut ss)) (some (dictionaries_in_full cut ss))

-- repair where the dictionary is stored in full too: the finished file, whatever dictionary is lent
unfoldable pub RepairsWhole : (ss : List Store) (cut : ℕ) → (answer : Outcome Kept) (out left : List ℕ) → Type 0
RepairsWhole ss cut answer out left =
    Repair answer out left (finished ss) (end_from 64 (map block_for (addings_in_full cut ss)))

-- of stores and a cut that leaves the first 64 bytes: recovery reports exactly the blocks stored in full, where it
-- stopped, and a whole dictionary exactly where it is stored in full; where it is, repair gives the finished file;
-- else, with any that fits, the file the writer would have finished
pub record AtCut (ss : List Store) (cut : ℕ) : Type 0 where
  pub recovery : (table : List ℕ) → length (addings_in_full cut ss) * stride ≤ length table → (
      let f = disk cut [] ss in RecoversFrom ss cut (recover_of f (length table)) table (recover_out f table))
  pub own : some (dictionaries_in_full cut ss) ≡ true → (lent out : List ℕ) → length (finished ss) ≤ length out → (
      let f = disk cut [] ss in RepairsWhole ss cut (repair_of f lent (length out)) out (repair_out f lent out))
  pub lent : some (dictionaries_in_full cut ss) ≡ false → (lent : List ℕ) → 1 ≤ length lent → length lent < 256 ^ 4
      → Finishes (disk cut [] ss) (addings_in_full cut ss) lent

-- every list of calls of a new writer, and every cut; where the first header isn't whole there is no block, and
-- recovery says 1
pub record Demand3 : Type 0 where
  pub at_cut : (cs : List Call) → Fair new_writing cs → (cut : ℕ) → 64 ≤ length (disk cut [] (run new_writer cs))
      → AtCut (run new_writer cs) cut
  pub short : (cs : List Call) (cut room : ℕ) → (
      let f = disk cut [] (run new_writer cs) in length f < 64 → recover_of f room ≡ refused 1 (length f))
