-- `mission_c::writing::add_entry` meets its promise. Assumes nothing.
use Rattle.mission_c.proofs.Ties.{entry-tied}
use Rattle.mission_c.proofs.writing.add_entry.Goals as goal

pub returns : goal.returns
returns c =
    entry-tied _ _ _ _ _ _ _ c.hplog_add_entry.ensures.answer c.hplog_add_entry.ensures.bytes
