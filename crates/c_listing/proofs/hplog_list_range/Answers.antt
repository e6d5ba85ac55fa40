-- `c_listing::hplog_list_range` meets its contract. Assumes nothing.
use mathlib.Core.Path.{ap, ◌∙◌}
use native.Mathlib.Omega.{arith}
use Rattle.verdict.specs.Rules.{Outcome, given, on_given}
use Rattle.contents.specs.Contents.{Totals}
use Rattle.listing_tokens.specs.Tokens.{joined}
use Rattle.listing_input.proofs.Printing.{range-refusal, range-blocks, range-printed}
use Rattle.c_answer.specs.declared.Answer.{Answer}
use Rattle.c_answer.specs.Answer.{answered}
use Rattle.c_listing.specs.Answers.{c_range_of}
use borrow.Author.Rules.{rules}
use Rattle.c_listing.proofs.hplog_list_range.Goals as goal

abbrev counted : Outcome Totals → Answer
counted o = answered (on_given o (λ t. given t.entries))

pub overflow_cast-blocks : goal.overflow_cast-blocks
overflow_cast-blocks c =
    let l = range-blocks _ _ _ _ _ (rw c.in-Ok.is at c.check_range.ensures) in
    search rules

pub returns-in-Err : goal.returns-in-Err
unfolding c_range_of
returns-in-Err c =
    let e = rw c.in-Err.is at c.check_range.ensures in
    record { says = c.refused.ensures ∙ ap counted e; text = rw c.listing_of.ensures (range-refusal _ _ _ _ _ e) }

pub returns-in-Ok : goal.returns-in-Ok
unfolding c_range_of
returns-in-Ok c =
    let e = rw c.in-Ok.is at c.check_range.ensures in
    record {
      says = c.accepted.ensures ∙ ap counted e;
      text =
          rw c.listing_of-in-Ok.ensures
          (ap joined c.start_range.ensures
          ∙ range-printed _ _ _ _ _ e (λ i. omega (arith, c.type_inv.book i)));
    }
