-- `mission::writing::add_entry` meets its promise. Assumes nothing.
use Rattle.mission.proofs.Ties.{entry-tied}
use Rattle.mission.proofs.writing.add_entry.Goals as goal

pub returns : goal.returns
returns c =
    entry-tied _ _ _ _ _ _ _ c.add_entry.ensures.answer c.add_entry.ensures.bytes
