-- `mission_c::writing::add_block` meets its promise. Assumes nothing.
use Rattle.mission_c.proofs.Ties.{block-tied}
use Rattle.mission_c.proofs.writing.add_block.Goals as goal

pub returns : goal.returns
returns c =
    block-tied _ _ _ _ _ _ _ c.hplog_add_block.ensures.0 c.hplog_add_block.ensures.1 c.hplog_add_block.ensures.2
