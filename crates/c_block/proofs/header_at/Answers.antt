-- `c_block::header_at` meets its contract. Assumes nothing.
use mathlib.Core.Path.{sym, ◌∙◌}
use borrow.Author.Tests.{ltb-true, ltb-false}
use Rattle.c_block.proofs.Headers.{header-cut, header-whole}
use Rattle.c_block.proofs.header_at.Goals as goal

pub returns-then-is_cut : goal.returns-then-is_cut
returns-then-is_cut c =
    c.from.ensures ∙ header-cut _ _ (ltb-true _ _ (sym c.is_cut.ensures ∙ c.if-is_cut.true))

pub returns : goal.returns
returns c =
    c.header_there.ensures ∙ header-whole _ _ (ltb-false _ _ (sym c.is_cut.ensures ∙ c.if-is_cut.false))
