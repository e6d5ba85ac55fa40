-- The writer's calls at the C edge, by the definitions that the contracts of hplog_writer_new, hplog_begin,
-- hplog_add_name, hplog_add_entry, hplog_add_block and hplog_close cite; the clauses are those of include/hplog.h.
-- Assumes nothing.
use Rattle.std.specs.Prelude.{◌≡◌, List, [], ◌∷◌, ◌++◌, ℕ, zero, suc, length, take}
use Rattle.verdict.specs.Rules.{sound, broken}
use Rattle.packing.specs.Table.{records_in, fields_of}
use Rattle.writer.specs.State.{new_writer}
use Rattle.writer.specs.Begin.{begin_of, begin_out}
use Rattle.writer_close.specs.Close.{close_of, close_out}
use Rattle.writer_names.specs.Name.{name_of, name_out}
use Rattle.writer_entries.specs.Entry.{entry_of, entry_out}
use Rattle.writer_blocks.specs.Block.{block_of, rows_out, block_out}
use Rattle.c_writer.specs.declared.State.{State}
use Rattle.c_writer.specs.declared.Written.{Written}
use Rattle.c_writer.specs.State.{writer_in, state_of}
use Rattle.c_writer.specs.Answers.{stayed, storing, naming, entering}
use Rattle.disk.specs.Disk.{Store}
use Rattle.claims.specs.Calls.{Call, begin, name, entry, block, close, Memory, handed}
use Rattle.claims.specs.Calls.{verdict_for, next, left_by, stores, last, run}

-- ---- one call

-- what hplog_writer_new gives
abbrev pub new_state : State
new_state = state_of new_writer

-- what each call answers
unfoldable pub answer_to : State → Call → Written
answer_to s (begin out) = storing s (begin_of (writer_in s) (length out))
answer_to s (name d bytes) = naming s (name_of (writer_in s) d bytes)
answer_to s (entry p t text fields) =
    entering s (entry_of (writer_in s) t text (records_in fields) (fields_of fields) (length p))
answer_to s (block t a out) = storing s (block_of (writer_in s) a (length t) (length out))
answer_to s (close t plain stored out) = storing s (close_of (writer_in s) t plain stored (length out))

-- the memory that it was lent, afterwards
unfoldable pub c_left : State → Call → Memory
c_left s (begin out) = record { kept = []; out = begin_out (writer_in s) out }
c_left s (name d bytes) = record { kept = name_out (writer_in s) d bytes; out = [] }
c_left s (entry p t text fields) =
    record { kept = entry_out (writer_in s) t text (records_in fields) (fields_of fields) p; out = [] }
c_left s (block t a out) =
    record { kept = rows_out (writer_in s) a t (length out); out = block_out (writer_in s) a (length t) out }
c_left s (close t plain stored out) = record { kept = t; out = close_out (writer_in s) t plain stored out }

-- "Each call takes the state that the call before gave back"
unfoldable pub c_next : State → Call → State
c_next s c = (answer_to s c).next

-- what is there where an answer's number is 0, and where it isn't
abbrev pub if_zero : {A : Type 0} → ℕ → A → A → A
if_zero zero a b = a
if_zero (suc n) a b = b

-- "number is 0 where the call was accepted", and then its stores are as many bytes of the output as count says
unfoldable pub c_stores : State → Call → List Store
c_stores s c =
    let r = (answer_to s c).answer in
    if_zero r.number (handed c (take r.count (c_left s c).out)) []

-- ---- a list of calls

unfoldable pub c_last : State → List Call → State
c_last s [] = s
c_last s (c ∷ cs) = c_last (c_next s c) cs

unfoldable pub c_run : State → List Call → List Store
c_run s [] = []
c_run s (c ∷ cs) = c_stores s c ++ c_run (c_next s c) cs

-- ---- they are the model's

-- one call, from whichever state: number is 0 exactly where it is accepted, and a refusal returns its number and its
-- place, a count of 0 and "the state that was taken"
pub record EdgeCall (s : State) (c : Call) : Type 0 where
  pub leaves : c_left s c ≡ left_by (writer_in s) c
  pub goes_on : writer_in (c_next s c) ≡ next (writer_in s) c
  pub hands_out : c_stores s c ≡ stores (writer_in s) c
  pub accepted : verdict_for (writer_in s) c ≡ sound → (answer_to s c).answer.number ≡ 0
  pub only_then : (answer_to s c).answer.number ≡ 0 → verdict_for (writer_in s) c ≡ sound
  pub refused : (n p : ℕ) → verdict_for (writer_in s) c ≡ broken n p → answer_to s c ≡ stayed s n p

-- every list of calls at the C edge: the writer that it leaves, the memory that a call behind it leaves, and its stores
pub record EdgeRefines : Type 0 where
  pub each : (s : State) (c : Call) → EdgeCall s c
  pub writer : (cs : List Call) → writer_in (c_last new_state cs) ≡ last new_writer cs
  pub memory : (cs : List Call) (c : Call) → c_left (c_last new_state cs) c ≡ left_by (last new_writer cs) c
  pub stores : (cs : List Call) → c_run new_state cs ≡ run new_writer cs
