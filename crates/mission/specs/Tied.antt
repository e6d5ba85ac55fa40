-- What the claims say of a call, of the answer of a function and of its lent memory. Assumes nothing.
use Rattle.std.specs.Prelude.{◌≡◌, true, false, List, [], ◌∷◌, ◌++◌, map, ℕ, ◌*◌, ◌^◌, ◌≤◌, ◌<◌, length, take}
use Rattle.verdict.specs.Rules.{Outcome, given, on_given, verdict_in}
use Rattle.rows.specs.Rows.{stride}
use Rattle.layout.specs.Layout.{end_from}
use Rattle.frame.specs.declared.Frame.{Frame}
use Rattle.recovery.specs.Recovery.{Report, Counts, counted}
use Rattle.repair.specs.Repair.{Kept}
use Rattle.writer.specs.declared.state.Writer.{Writer}
use Rattle.writer.specs.State.{new_writer}
use Rattle.writer.specs.Begin.{Step}
use Rattle.writer_names.specs.Name.{Naming}
use Rattle.writer_blocks.specs.Block.{block_for}
use Rattle.disk.specs.Disk.{disk, finished, addings_in_full, dictionaries_in_full, some}
use Rattle.claims.specs.Calls.{Call, close, if_given, verdict_for, next, left_by, handed, stores, run, addings}
use Rattle.claims.specs.Calls.{new_writing, Fair, Closes, file_of}
use Rattle.claims.specs.Demand2.{Opening}
use Rattle.claims.specs.Demand3.{Repair, Finishing, finished_by, RecoversFrom, RepairsWhole}

-- ---- the writer's calls

-- a call that stores: its verdict, its state, the memory that it leaves, and its stores are read off what the function
-- answers and leaves
pub record Storing (w : Writer) (c : Call) (answer : Outcome Step) (kept out : List ℕ) : Type 0 where
  pub verdict : verdict_for w c ≡ verdict_in answer
  pub state : next w c ≡ if_given answer (λ s. s.next) w
  pub memory : left_by w c ≡ record { kept = kept; out = out }
  pub stored : stores w c ≡ if_given answer (λ s. handed c (take s.stored out)) []

-- a call that stores nothing
pub record Keeping (w : Writer) (c : Call) (answer : Outcome Writer) (kept : List ℕ) : Type 0 where
  pub verdict : verdict_for w c ≡ verdict_in answer
  pub state : next w c ≡ if_given answer (λ v. v) w
  pub memory : left_by w c ≡ record { kept = kept; out = [] }
  pub stored : stores w c ≡ []

-- the state in a name's answer
abbrev pub state_in : Outcome Naming → Outcome Writer
state_in o = on_given o (λ s. given s.next)

-- ---- recovery and repair

-- of whatever a cut left of the stores of any calls: the answer counts the rows that the claims name, and they stand in
-- the table
unfoldable pub RecoversCut : Outcome Counts → (f table left : List ℕ) → Type 0
RecoversCut answer f table left =
    (cs : List Call) → Fair new_writing cs → (cut : ℕ) → (
    let ss = run new_writer cs in
    f ≡ disk cut [] ss → 64 ≤ length f → length (addings_in_full cut ss) * stride ≤ length table
    → (report : Outcome Report) × (answer ≡ counted report) × RecoversFrom ss cut report table left)

-- the finished file where the dictionary was stored in full, else the one that the writer would have finished
pub record RepairsCut (answer : Outcome Kept) (f d out left : List ℕ) : Type 0 where
  pub own : (cs : List Call) → Fair new_writing cs → (cut : ℕ) → (
      let ss = run new_writer cs in
      f ≡ disk cut [] ss → 64 ≤ length f → some (dictionaries_in_full cut ss) ≡ true → length (finished ss) ≤ length out
      → RepairsWhole ss cut answer out left)
  pub lent : (cs : List Call) → Fair new_writing cs → (cut : ℕ) → (
      let ss = run new_writer cs in
      let xs = addings_in_full cut ss in
      f ≡ disk cut [] ss → 64 ≤ length f → some (dictionaries_in_full cut ss) ≡ false → 1 ≤ length d
      → length d < 256 ^ 4
      → (c : Finishing xs d) → length (finished_by xs d c) ≤ length out
      → Repair answer out left (finished_by xs d c) (end_from 64 (map block_for xs)))

-- ---- opening

-- of whatever calls and an accepted closing stored
unfoldable pub OpensFinished : Outcome Frame → (f table left : List ℕ) → Type 0
OpensFinished answer f table left =
    (cs : List Call) (t plain stored out : List ℕ) → Fair new_writing (cs ++ (close t plain stored out ∷ []))
    → Closes cs t plain stored out → (later : List Call) → f ≡ file_of cs t plain stored out later
    → length (addings new_writer cs) * stride ≤ length table
    → Opening answer f table left stored (map block_for (addings new_writer cs))
