-- `c_stored::hplog_stored` meets its contract. Assumes nothing.
use Rattle.verdict.specs.Answer.{outcome_of}
use mathlib.Core.Path.{◌≡◌, ap, ◌∙◌}
use Prim.Native.Nat.{◌/◌}
use lib.ListN.{length}
use Rattle.verdict.specs.Rules.{Outcome, given, on_given}
use Rattle.rows.specs.declared.Row.{Row}
use Rattle.rows.specs.Rows.{stride}
use Rattle.access.specs.declared.Span.{Span}
use Rattle.access.specs.Access.{row_in, stored_span}
use Rattle.c_stored.specs.Stored.{span_answer, c_stored_of}
use Rattle.c_stored.proofs.hplog_stored.Goals.{After-locate}
use Rattle.c_stored.proofs.hplog_stored.Goals as goal

-- the row, by the length of the rows
located : (c : After-locate) →
    let a = c.args in
    outcome_of c.locate.result ≡ row_in a.rows.now (length a.rows.now / stride) a.i
located c = rw c.room.ensures at c.locate.ensures

pub returns-in-Ok : goal.returns-in-Ok
unfolding c_stored_of
returns-in-Ok c =
    let log = c.args.log.now in
    c.found.ensures ∙ ap (λ (p : Span). span_answer (given p)) c.stored_span.ensures
    ∙ ap (λ (o : Outcome Row). span_answer (on_given o (λ row. given (stored_span log row))))
    (rw c.in-Ok.is at (located (goal.at.returns-in-Ok c).After-locate))

pub returns-in-Err : goal.returns-in-Err
unfolding c_stored_of
returns-in-Err c =
    let log = c.args.log.now in
    c.from.ensures ∙ ap (λ (o : Outcome Row). span_answer (on_given o (λ row. given (stored_span log row))))
    (rw c.in-Err.is at (located (goal.at.returns-in-Err c).After-locate))
