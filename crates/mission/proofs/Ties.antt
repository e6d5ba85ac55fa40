-- The promises of the calls are what the claims say of them. Assumes nothing.
use mathlib.Core.Path.{◌≡◌, refl, sym, ap, subst, ◌∙◌}
use mathlib.Core.List.{List, []}
use Prim.Native.Nat.{ℕ}
use lib.ListN.{length}
use Rattle.verdict.specs.Rules.{Outcome, given, refused, verdict_in}
use Rattle.parts.specs.declared.time.Epoch.{Epoch}
use Rattle.frame.specs.declared.Frame.{Frame}
use Rattle.packing.specs.Table.{records_in, fields_of}
use Rattle.reader.specs.Open.{open_of, open_out}
use Rattle.recovery.specs.Recovery.{Counts, counted, recover_of, recover_out}
use Rattle.repair.specs.Repair.{Kept, repair_of, repair_out}
use Rattle.writer.specs.declared.state.Writer.{Writer}
use Rattle.writer.specs.State.{new_writer}
use Rattle.writer.specs.Begin.{Step, begin_of, begin_out}
use Rattle.writer_close.specs.Close.{close_of, close_out}
use Rattle.writer_names.specs.Name.{Naming, name_of, name_out}
use Rattle.writer_entries.specs.Entry.{entry_of, entry_out}
use Rattle.writer_blocks.specs.Block.{Adding, block_of, rows_out, block_out}
use Rattle.disk.specs.Disk.{disk}
use Rattle.claims.specs.Calls.{begin, name, entry, block, close, if_given, verdict_for, next, left_by, stores, run}
use Rattle.claims.specs.Demand3.{RecoversFrom}
use Rattle.claims.proofs.Demand2.{demand-2}
use Rattle.claims.proofs.Demand3.{demand-3}
use Rattle.mission.specs.Tied.{Storing, Keeping, state_in, RecoversCut, RepairsCut, OpensFinished}

-- ---- the writer's calls

module _ (w : Writer) where
  same-verdict : (o : Outcome Naming) → verdict_in o ≡ verdict_in (state_in o)
  same-verdict (given s) = refl
  same-verdict (refused n p) = refl

  same-state : (o : Outcome Naming) → if_given o (λ s. s.next) w ≡ if_given (state_in o) (λ v. v) w
  same-state (given s) = refl
  same-state (refused n p) = refl

  pub begin-tied : (out left : List ℕ) (o : Outcome Step) → o ≡ begin_of w (length out) → left ≡ begin_out w out → Storing w (begin out) o [] left
  unfolding verdict_for next left_by stores
  begin-tied out left o e l = rw (e, l) (record { verdict = refl; state = refl; memory = refl; stored = refl })

  pub name-tied : (d n left : List ℕ) (o : Outcome Naming) → o ≡ name_of w d n → left ≡ name_out w d n → Keeping w (name d n) (state_in o) left
  unfolding verdict_for next left_by stores
  name-tied d n left o e l =
      rw (e, l) (record { verdict = same-verdict (name_of w d n); state = same-state (name_of w d n); memory = refl; stored = refl })

  pub entry-tied : (p : List ℕ) (t : Epoch) (text fields left : List ℕ) (o : Outcome Writer)
      → o ≡ entry_of w t text (records_in fields) (fields_of fields) (length p) → left ≡ entry_out w t text (records_in fields) (fields_of fields) p
      → Keeping w (entry p t text fields) o left
  unfolding verdict_for next left_by stores
  entry-tied p t text fields left o e l = rw (e, l) (record { verdict = refl; state = refl; memory = refl; stored = refl })

  pub block-tied : (t : List ℕ) (a : Adding) (out kept left : List ℕ) (o : Outcome Step) → o ≡ block_of w a (length t) (length out)
      → kept ≡ rows_out w a t (length out) → left ≡ block_out w a (length t) out → Storing w (block t a out) o kept left
  unfolding verdict_for next left_by stores
  block-tied t a out kept left o e k l = rw (e, k, l) (record { verdict = refl; state = refl; memory = refl; stored = refl })

  pub close-tied : (t plain stored out left : List ℕ) (o : Outcome Step) → o ≡ close_of w t plain stored (length out)
      → left ≡ close_out w t plain stored out → Storing w (close t plain stored out) o t left
  unfolding verdict_for next left_by stores
  close-tied t plain stored out left o e l = rw (e, l) (record { verdict = refl; state = refl; memory = refl; stored = refl })

-- ---- recovery, repair and opening

pub recover-tied : (f table left : List ℕ) (o : Outcome Counts) → o ≡ counted (recover_of f (length table)) → left ≡ recover_out f table
    → RecoversCut o f table left
unfolding RecoversCut
recover-tied f table left o e l cs fair cut d stands room = (
  recover_of f (length table),
  e,
  rw (l, d) ((demand-3.at_cut cs fair cut (rw d at stands)).recovery table room),
)

pub repair-tied : (f lent out left : List ℕ) (o : Outcome Kept) → o ≡ repair_of f lent (length out) → left ≡ repair_out f lent out
    → RepairsCut o f lent out left
repair-tied f lent out left o e l =
    record {
      own = λ cs fair cut d stands whole room. rw (e, l, d) ((demand-3.at_cut cs fair cut (rw d at stands)).own whole lent out room);
      lent = λ cs fair cut d stands whole some fits c room.
          rw (e, l, d) (((demand-3.at_cut cs fair cut (rw d at stands)).lent whole lent some fits).gives c out room);
    }

pub open-tied : (f table left : List ℕ) (o : Outcome Frame) → o ≡ open_of f (length table) → left ≡ open_out f table → OpensFinished o f table left
unfolding OpensFinished
open-tied f table left o e l cs t plain stored out fair c later d room =
    rw (e, l, d) ((demand-2.finished cs t plain stored out fair c later).opens table room)
