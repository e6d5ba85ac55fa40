-- `mission::writing::add_block` meets its promise. Assumes nothing.
use Rattle.mission.proofs.Ties.{block-tied}
use Rattle.mission.proofs.writing.add_block.Goals as goal

pub returns : goal.returns
returns c =
    block-tied _ _ _ _ _ _ _ c.add_block.ensures.answers c.add_block.ensures.fills c.add_block.ensures.leaves
