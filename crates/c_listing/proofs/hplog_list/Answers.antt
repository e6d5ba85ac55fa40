-- `c_listing::hplog_list` meets its contract. Assumes nothing.
use mathlib.Core.Path.{sym, ap, ◌∙◌}
use native.Mathlib.Omega.{arith}
use Rattle.verdict.specs.Rules.{Outcome, given, on_given}
use Rattle.contents.specs.Contents.{Totals}
use Rattle.listing_tokens.specs.Tokens.{joined}
use Rattle.listing_input.specs.Printed.{printed_of}
use Rattle.listing_input.proofs.Printing.{few-blocks, printed, refusal-printed}
use Rattle.c_answer.specs.declared.Answer.{Answer}
use Rattle.c_answer.specs.Answer.{answered}
use Rattle.c_listing.specs.Answers.{c_list_of}
use borrow.Author.Rules.{rules}
use Rattle.c_listing.proofs.hplog_list.Goals as goal

abbrev counted : Outcome Totals → Answer
counted o = answered (on_given o (λ t. given t.entries))

pub overflow_cast-blocks : goal.overflow_cast-blocks
overflow_cast-blocks c =
    let l = few-blocks _ _ _ (sym (rw c.in-Ok.is at c.check.ensures)) in
    search rules

pub returns-in-Err : goal.returns-in-Err
unfolding c_list_of
returns-in-Err c =
    let e = rw c.in-Err.is at c.check.ensures in
    record {
      says = c.refused.ensures ∙ ap counted e;
      text = rw c.listing_of.ensures (refusal-printed _ _ _ ∙ ap (printed_of _ _) e);
    }

pub returns-in-Ok : goal.returns-in-Ok
unfolding c_list_of
returns-in-Ok c =
    let a = c.args in
    let e = rw c.in-Ok.is at c.check.ensures in
    record {
      says = c.accepted.ensures ∙ ap counted e;
      text =
          rw c.listing_of-in-Ok.ensures
          (ap joined (c.start.ensures a.log.now)
          ∙ printed _ _ _ (sym e) (λ i. omega (arith, c.type_inv.book i))
          ∙ ap (printed_of _ _) e);
    }
