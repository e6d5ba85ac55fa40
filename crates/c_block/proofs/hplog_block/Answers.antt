-- `c_block::hplog_block` meets its contract. Assumes nothing.
use Rattle.verdict.specs.Answer.{outcome_of}
use mathlib.Core.Path.{◌≡◌, ap, ◌∙◌}
use mathlib.Core.List.{List}
use Prim.Native.Nat.{ℕ, ◌/◌}
use lib.ListN.{length}
use Rattle.verdict.specs.Rules.{Outcome, first_broken, settle, on_given}
use Rattle.rows.specs.declared.Row.{Row}
use Rattle.rows.specs.Rows.{stride}
use Rattle.access.specs.Access.{row_in}
use Rattle.c_block.specs.declared.BlockAnswer.{BlockAnswer}
use Rattle.c_block.specs.Header.{header_rules, header_answer, header_of, header_in, c_header_of}
use Rattle.c_block.proofs.hplog_block.Goals.{After-locate}
use Rattle.c_block.proofs.hplog_block.Goals as goal

-- what is answered of a row that was looked for
abbrev answer : List ℕ → Outcome Row → BlockAnswer
answer log o = header_answer log (on_given o (λ row. settle (first_broken (header_rules log row.offset)) row.offset))

-- the row, by the length of the rows
located : (c : After-locate) →
    let a = c.args in
    outcome_of c.locate.result ≡ row_in a.rows.now (length a.rows.now / stride) a.i
located c = rw c.room.ensures at c.locate.ensures

pub returns-in-Ok : goal.returns-in-Ok
unfolding c_header_of header_in header_of
returns-in-Ok c =
    c.header_at.ensures ∙ ap (answer c.args.log.now) (rw c.in-Ok.is at (located (goal.at.returns-in-Ok c).After-locate))

pub returns-in-Err : goal.returns-in-Err
unfolding c_header_of header_in
returns-in-Err c =
    c.from.ensures ∙ ap (answer c.args.log.now) (rw c.in-Err.is at (located (goal.at.returns-in-Err c).After-locate))
