-- `c_block::hplog_check_block` meets its contract. Assumes nothing.
use mathlib.Core.Path.{◌≡◌, sym, ap, ◌∙◌}
use Prim.Native.Nat.{ℕ, ◌+◌, ◌≤◌}
use lib.ListN.{length}
use borrow.Author.Tests.{ltb-true, ltb-false}
use Rattle.verdict.specs.Rules.{given}
use Rattle.verdict.specs.Answer.{verdict_of}
use Rattle.parts.specs.declared.BlockHeader.{BlockHeader}
use Rattle.blocks.specs.Blocks.{head_at}
use Rattle.entries.specs.Block.{block_verdict}
use Rattle.c_answer.specs.Answer.{answered}
use Rattle.c_block.proofs.Blocks.{block-cut, block_refused, block-given}
use Rattle.c_block.proofs.hplog_check_block.Goals.{After-check_block}
use Rattle.c_block.proofs.hplog_check_block.Goals as goal

pub returns-then-is_cut : goal.returns-then-is_cut
returns-then-is_cut c =
    let a = c.args in
    c.refuse.ensures
    ∙ block-cut a.log.now a.at a.plain.now a.names (ltb-true _ _ (sym c.is_cut.ensures ∙ c.if-is_cut.true))

-- the header is there
whole : (c : After-check_block) →
    let a = c.args in a.at + 36 ≤ length a.log.now
whole c = ltb-false _ _ (sym c.is_cut.ensures ∙ c.if-is_cut.false)

-- what is found of the plain bytes
checked : (c : After-check_block) →
    let a = c.args in
    verdict_of c.check_block.result ≡ block_verdict a.plain.now (head_at a.log.now a.at) a.names
checked c = rw c.read-header.ensures at c.check_block.ensures

pub returns-in-Err : goal.returns-in-Err
returns-in-Err c =
    let a = c.args in
    c.from-in-Err.ensures
    ∙ block_refused a.log.now a.at a.plain.now a.names (whole (goal.at.returns-in-Err c).After-check_block) _ _
    (rw c.in-Err.is at (checked (goal.at.returns-in-Err c).After-check_block))

pub returns-in-Ok : goal.returns-in-Ok
returns-in-Ok c =
    let a = c.args in
    let e = c.from.ensures ∙ ap (λ (h : BlockHeader). h.entries) c.read-header.ensures in
    c.accepted.ensures ∙ ap (λ (n : ℕ). answered (given n)) e
    ∙ block-given a.log.now a.at a.plain.now a.names (whole (goal.at.returns-in-Ok c).After-check_block)
    (rw c.in-Ok.is at (checked (goal.at.returns-in-Ok c).After-check_block))
