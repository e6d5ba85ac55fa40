-- A refusal changes nothing. Assumes nothing.
use mathlib.Core.Path.{◌≡◌, refl, sym, ◌∙◌}
use mathlib.Core.List.{List, []}
use Prim.Native.Nat.{ℕ}
use lib.ListN.{length}
use Rattle.verdict.specs.Rules.{Verdict, broken, first_broken, settle, verdict_in}
use Rattle.verdict.proofs.Laws.{settle-verdict, settle-refused}
use Rattle.packing.specs.Table.{records_in, fields_of}
use Rattle.reader.specs.Open.{open_of, open_out}
use Rattle.reader.specs.Open as reader
use Rattle.recovery.specs.Recovery.{recover_of, recover_out}
use Rattle.recovery.specs.Recovery as recovery
use Rattle.repair.specs.Repair.{repair_rules, repair_of, repair_out}
use Rattle.query.specs.Query.{query_rules, query_of, query_out}
use Rattle.label.specs.Label.{label_rules, label_of, label_out}
use Rattle.writer.specs.declared.state.Writer.{Writer}
use Rattle.writer.specs.Begin.{begin_rules, begin_of, begin_out}
use Rattle.writer_names.specs.Name.{name_rules, name_of, name_out}
use Rattle.writer_entries.specs.Entry.{entry_rules, entry_of, entry_out}
use Rattle.writer_blocks.specs.Block.{block_rules, block_of, rows_out, block_out}
use Rattle.writer_close.specs.Close.{close_rules, close_of, close_out}
use Rattle.claims.specs.Calls.{Call, begin, name, entry, block, close, verdict_for, next, lent_to, left_by, stores, accepted}
use Rattle.claims.specs.Demand1.{RefusalsLeave}

-- the rules of a call that is refused
broken-by : {A : Type 0} (v : Verdict) (a : A) (n p : ℕ) → verdict_in (settle v a) ≡ broken n p → v ≡ broken n p
broken-by v a n p e = sym (settle-verdict v a) ∙ e

pub call-refused : (w : Writer) (c : Call) (n p : ℕ) → verdict_for w c ≡ broken n p
    → (next w c ≡ w) × (left_by w c ≡ lent_to c) × (stores w c ≡ []) × (accepted w c ≡ [])
unfolding verdict_for next stores accepted left_by lent_to begin_of name_of entry_of block_of close_of begin_out name_out entry_out rows_out block_out close_out
call-refused w (begin out) n p e = rw (broken-by (first_broken (begin_rules w (length out))) _ n p e) (refl, refl, refl, refl)
call-refused w (name d bytes) n p e = rw (broken-by (first_broken (name_rules w d bytes)) _ n p e) (refl, refl, refl, refl)
call-refused w (entry u t text fields) n p e =
    rw (broken-by (first_broken (entry_rules w t text (records_in fields) (fields_of fields) (length u))) _ n p e) (refl, refl, refl, refl)
call-refused w (block t a out) n p e = rw (broken-by (first_broken (block_rules w a (length t) (length out))) _ n p e) (refl, refl, refl, refl)
call-refused w (close t plain stored out) n p e =
    rw (broken-by (first_broken (close_rules w t plain stored (length out))) _ n p e) (refl, refl, refl, refl)

pub refusals-leave : RefusalsLeave
unfolding open_of open_out recover_of recover_out repair_of repair_out query_of query_out label_of label_out
refusals-leave =
    record {
      writer = call-refused;
      opens = λ f table n p e. rw (settle-refused (first_broken (reader.call_rules f (length table))) _ n p (sym e));
      recovers = λ f table n p e. rw (settle-refused (first_broken (recovery.call_rules f (length table))) _ n p (sym e));
      repairs = λ f lent out n p e. rw (settle-refused (first_broken (repair_rules f lent (length out))) _ n p (sym e));
      queries = λ rows t1 t2 numbers n p e. rw (settle-refused (first_broken (query_rules rows t1 t2 (length numbers))) _ n p (sym e));
      labels = λ name panel n p e. rw (settle-refused (first_broken (label_rules name (length panel))) _ n p (sym e));
    }
