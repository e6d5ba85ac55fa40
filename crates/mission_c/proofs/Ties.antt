-- The promises of the writer's calls for C are what the claims say of them. Assumes nothing.
use mathlib.Core.Path.{◌≡◌, refl}
use mathlib.Core.List.{List, []}
use Prim.Native.Nat.{ℕ}
use lib.ListN.{length}
use Rattle.parts.specs.declared.time.Epoch.{Epoch}
use Rattle.packing.specs.Table.{records_in, fields_of}
use Rattle.writer.specs.Begin.{begin_of, begin_out}
use Rattle.writer_close.specs.Close.{close_of, close_out}
use Rattle.writer_names.specs.Name.{name_of, name_out}
use Rattle.writer_entries.specs.Entry.{entry_of, entry_out}
use Rattle.writer_blocks.specs.Block.{Adding, block_of, rows_out, block_out}
use Rattle.c_writer.specs.declared.State.{State}
use Rattle.c_writer.specs.declared.Written.{Written}
use Rattle.c_writer.specs.State.{writer_in}
use Rattle.c_writer.specs.Answers.{storing, naming, entering}
use Rattle.claims.specs.Calls.{begin, name, entry, block, close}
use Rattle.claims_c.specs.Edge.{answer_to, c_left}
use Rattle.mission_c.specs.Tied.{Answering}

module _ (s : State) (r : Written) where
  pub begin-tied : (out left : List ℕ) → r ≡ storing s (begin_of (writer_in s) (length out)) → left ≡ begin_out (writer_in s) out
      → Answering s (begin out) r [] left
  unfolding answer_to c_left
  begin-tied out left e l = rw (e, l) (record { answers = refl; memory = refl })

  pub name-tied : (d n left : List ℕ) → r ≡ naming s (name_of (writer_in s) d n) → left ≡ name_out (writer_in s) d n → Answering s (name d n) r left []
  unfolding answer_to c_left
  name-tied d n left e l = rw (e, l) (record { answers = refl; memory = refl })

  pub entry-tied : (p : List ℕ) (t : Epoch) (text fields left : List ℕ)
      → r ≡ entering s (entry_of (writer_in s) t text (records_in fields) (fields_of fields) (length p))
      → left ≡ entry_out (writer_in s) t text (records_in fields) (fields_of fields) p → Answering s (entry p t text fields) r left []
  unfolding answer_to c_left
  entry-tied p t text fields left e l = rw (e, l) (record { answers = refl; memory = refl })

  pub block-tied : (t : List ℕ) (a : Adding) (out kept left : List ℕ) → r ≡ storing s (block_of (writer_in s) a (length t) (length out))
      → kept ≡ rows_out (writer_in s) a t (length out) → left ≡ block_out (writer_in s) a (length t) out → Answering s (block t a out) r kept left
  unfolding answer_to c_left
  block-tied t a out kept left e k l = rw (e, k, l) (record { answers = refl; memory = refl })

  pub close-tied : (t plain stored out left : List ℕ) → r ≡ storing s (close_of (writer_in s) t plain stored (length out))
      → left ≡ close_out (writer_in s) t plain stored out → Answering s (close t plain stored out) r t left
  unfolding answer_to c_left
  close-tied t plain stored out left e l = rw (e, l) (record { answers = refl; memory = refl })
