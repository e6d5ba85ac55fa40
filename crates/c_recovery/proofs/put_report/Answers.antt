-- `c_recovery::put_report` meets its contract. Assumes nothing.
use mathlib.Core.Path.{◌∙◌}
use Rattle.parts.proofs.Fields.{done, ◌▸◌}
use Rattle.c_recovery.proofs.Stores.{report-stored}
use Rattle.c_recovery.proofs.put_report.Goals as goal

pub returns : goal.returns
returns c =
    report-stored _ _ _ _ _ _ (c.from.ensures ∙ c.stop_of-w.ensures.0) c.stop_of-w.ensures.1 c.from-2.ensures
    (c.put_u64.ensures ▸ c.put_u64-2.ensures ▸ c.put_u64-3.ensures ▸ c.put_u64-4.ensures ▸ done)
