-- The calls at the C edge are the model's. Assumes nothing.
use mathlib.Core.Path.{◌≡◌, refl, ap, ◌∙◌}
use mathlib.Core.List.{List, [], ◌∷◌}
use Prim.Native.Nat.{ℕ, zero, suc}
use native.Mathlib.Omega.{arith}
use lib.ListN.{length, take}
use Rattle.verdict.specs.Rules.{Verdict, sound, broken, Outcome, given, refused, verdict_in}
use Rattle.verdict.proofs.Laws.{never_both}
use Rattle.packing.specs.Table.{records_in, fields_of}
use Rattle.writer.specs.declared.state.Writer.{Writer}
use Rattle.writer.specs.State.{new_writer}
use Rattle.writer.specs.Begin.{Step, begin_of, begin_out}
use Rattle.writer_close.specs.Close.{close_of, close_out}
use Rattle.writer_names.specs.Name.{Naming, name_of}
use Rattle.writer_entries.specs.Entry.{entry_of}
use Rattle.writer_blocks.specs.Block.{block_of, block_out}
use Rattle.c_writer.specs.declared.State.{State}
use Rattle.c_writer.specs.declared.Written.{Written}
use Rattle.c_writer.specs.State.{writer_in}
use Rattle.c_writer.specs.Answers.{stayed, storing, naming, entering}
use Rattle.c_writer.proofs.Turns.{writer-back}
use Rattle.claims_numbers.specs.Numbers.{Listed}
use Rattle.claims_numbers.proofs.Payloads.{listed-positive}
use Rattle.claims_numbers.proofs.Numbers.{table-numbers}
use Rattle.disk.specs.Disk.{Store, header_store, block_store}
use Rattle.claims.specs.Calls.{Call, begin, name, entry, block, close, if_given, last_stores, handed, verdict_for, next, left_by, stores, last, run}
use Rattle.claims_c.specs.Edge.{new_state, answer_to, c_left, c_next, if_zero, c_stores, c_last, c_run, EdgeCall, EdgeRefines}

-- ---- an answer

-- what the answers of all calls have in common, by what the call gives or refuses
record Answering {A : Type 0} (s : State) (written : Outcome A → Written) (after : A → Writer) : Type 0 where
  accepts : (a : A) → (written (given a)).answer.number ≡ 0
  goes_on : (a : A) → writer_in (written (given a)).next ≡ after a
  stays : (n p : ℕ) → written (refused n p) ≡ stayed s n p

stores-answer : (s : State) → Answering s (storing s) (λ (k : Step). k.next)
stores-answer s = record { accepts = λ k. refl; goes_on = λ k. writer-back k.next; stays = λ n p. refl }

names-answer : (s : State) → Answering s (naming s) (λ (k : Naming). k.next)
names-answer s = record { accepts = λ k. refl; goes_on = λ k. writer-back k.next; stays = λ n p. refl }

enters-answer : (s : State) → Answering s (entering s) (λ (w : Writer). w)
enters-answer s = record { accepts = λ w. refl; goes_on = λ w. writer-back w; stays = λ n p. refl }

-- what follows of an answer r to a call with a verdict v, and of the writer behind it
record Answered (s : State) (v : Verdict) (r : Written) (w : Writer) : Type 0 where
  goes_on : writer_in r.next ≡ w
  accepted : v ≡ sound → r.answer.number ≡ 0
  only_then : r.answer.number ≡ 0 → v ≡ sound
  refused : (n p : ℕ) → v ≡ broken n p → r ≡ stayed s n p

-- a refusal's number isn't 0, since it is one of the table's
number-none : (n p : ℕ) → Listed (broken n p) → n ≡ 0 → ⊥
number-none n p h z = omega (arith, listed-positive n p h, z)

same-refusal : (s : State) (m q n p : ℕ) → broken m q ≡ broken n p → stayed s m q ≡ stayed s n p
same-refusal s m q n p e =
    let a : m ≡ n = cc in
    let b : q ≡ p = cc in
    rw (a, b)

module _ {A : Type 0} (s : State) (written : Outcome A → Written) (after : A → Writer) (by : Answering s written after) where
  answered-by : (o : Outcome A) → Listed (verdict_in o) → Answered s (verdict_in o) (written o) (if_given o after (writer_in s))
  answered-by (given a) h =
      record {
        goes_on = by.goes_on a;
        accepted = λ e. by.accepts a;
        only_then = λ e. refl;
        refused = λ n p e. absurd (never_both sound n p e refl);
      }
  answered-by (refused m q) h =
      let r = by.stays m q in
      record {
        goes_on = ap (λ (x : Written). writer_in x.next) r;
        accepted = λ e. absurd (never_both (broken m q) m q refl e);
        only_then = λ e. absurd (number-none m q h (rw r at e));
        refused = λ n p e. r ∙ same-refusal s m q n p e;
      }

call-answered : (s : State) (c : Call) → Answered s (verdict_for (writer_in s) c) (answer_to s c) (next (writer_in s) c)
unfolding verdict_for answer_to next
call-answered s (begin out) =
    let w = writer_in s in
    answered-by s (storing s) _ (stores-answer s) (begin_of w (length out)) (table-numbers.begin w (length out))
call-answered s (name d bytes) =
    let w = writer_in s in
    answered-by s (naming s) _ (names-answer s) (name_of w d bytes) (table-numbers.name w d bytes)
call-answered s (entry p t text fields) =
    let w = writer_in s in
    let fs = fields_of fields in
    answered-by s (entering s) _ (enters-answer s) (entry_of w t text (records_in fields) fs (length p))
    (table-numbers.entry w t text (records_in fields) fs (length p))
call-answered s (block t a out) =
    let w = writer_in s in
    answered-by s (storing s) _ (stores-answer s) (block_of w a (length t) (length out)) (table-numbers.block w a (length t) (length out))
call-answered s (close t plain stored out) =
    let w = writer_in s in
    answered-by s (storing s) _ (stores-answer s) (close_of w t plain stored (length out)) (table-numbers.close w t plain stored (length out))

-- ---- the stores and the lent memory

store_is : (s : State) (o : Outcome Step) (f : ℕ → List Store) → Listed (verdict_in o)
    → if_zero (storing s o).answer.number (f (storing s o).answer.count) [] ≡ if_given o (λ k. f k.stored) []
store_is s (given k) f h = refl
store_is s (refused zero p) f h = absurd (number-none 0 p h refl)
store_is s (refused (suc n) p) f h = refl

nothing_is : (n : ℕ) → if_zero {A = List Store} n [] [] ≡ []
nothing_is zero = refl
nothing_is (suc n) = refl

stores-are : (s : State) (c : Call) → c_stores s c ≡ stores (writer_in s) c
unfolding c_stores c_left handed answer_to stores
stores-are s (begin out) =
    let w = writer_in s in
    store_is s (begin_of w (length out)) (λ n. header_store (take n (begin_out w out)) ∷ []) (table-numbers.begin w (length out))
stores-are s (name d bytes) = nothing_is (naming s (name_of (writer_in s) d bytes)).answer.number
stores-are s (entry p t text fields) =
    nothing_is (entering s (entry_of (writer_in s) t text (records_in fields) (fields_of fields) (length p))).answer.number
stores-are s (block t a out) =
    let w = writer_in s in
    store_is s (block_of w a (length t) (length out)) (λ n. block_store a (take n (block_out w a (length t) out)) ∷ [])
    (table-numbers.block w a (length t) (length out))
stores-are s (close t plain stored out) =
    let w = writer_in s in
    store_is s (close_of w t plain stored (length out)) (λ n. last_stores stored (take n (close_out w t plain stored out)))
    (table-numbers.close w t plain stored (length out))

left_is : (s : State) (c : Call) → c_left s c ≡ left_by (writer_in s) c
unfolding c_left left_by
left_is s (begin out) = refl
left_is s (name d bytes) = refl
left_is s (entry p t text fields) = refl
left_is s (block t a out) = refl
left_is s (close t plain stored out) = refl

next-is : (s : State) (c : Call) → writer_in (c_next s c) ≡ next (writer_in s) c
unfolding c_next
next-is s c = (call-answered s c).goes_on

-- ---- every list of calls

last-is : (cs : List Call) (s : State) → writer_in (c_last s cs) ≡ last (writer_in s) cs
unfolding c_last last
last-is [] s = refl
last-is (c ∷ cs) s = last-is cs (c_next s c) ∙ ap (λ (w : Writer). last w cs) (next-is s c)

run_is : (cs : List Call) (s : State) → c_run s cs ≡ run (writer_in s) cs
unfolding c_run run
run_is [] s = refl
run_is (c ∷ cs) s = rw (stores-are s c, run_is cs (c_next s c), next-is s c)

call-is : (s : State) (c : Call) → EdgeCall s c
call-is s c =
    let r = call-answered s c in
    record {
      leaves = left_is s c;
      goes_on = next-is s c;
      hands_out = stores-are s c;
      accepted = r.accepted;
      only_then = r.only_then;
      refused = r.refused;
    }

new-last : (cs : List Call) → writer_in (c_last new_state cs) ≡ last new_writer cs
new-last cs = last-is cs new_state ∙ ap (λ (w : Writer). last w cs) (writer-back new_writer)

pub edge-refines : EdgeRefines
edge-refines =
    record {
      each = call-is;
      writer = new-last;
      memory = λ cs c. left_is (c_last new_state cs) c ∙ ap (λ (w : Writer). left_by w c) (new-last cs);
      stores = λ cs. run_is cs new_state ∙ ap (λ (w : Writer). run w cs) (writer-back new_writer);
    }
