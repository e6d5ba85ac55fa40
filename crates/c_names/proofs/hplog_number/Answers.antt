-- `c_names::hplog_number` meets its contract. Assumes nothing.
use mathlib.Core.Path.{ap, ◌∙◌}
use Rattle.c_names.specs.Names.{number_answer, c_number_of}
use Rattle.c_names.proofs.hplog_number.Goals as goal

pub returns-in-Ok-Some : goal.returns-in-Ok-Some
unfolding c_number_of
returns-in-Ok-Some c = rw c.from.ensures (ap number_answer (rw c.in-Ok-Some.field-0-is at c.in-Ok-Some.ensures))

pub returns-in-Ok-None : goal.returns-in-Ok-None
unfolding c_number_of
returns-in-Ok-None c =
    c.accepted.ensures ∙ ap number_answer (rw c.in-Ok-None.field-0-is at c.in-Ok-None.ensures)

pub returns-in-Err : goal.returns-in-Err
unfolding c_number_of
returns-in-Err c = c.refused.ensures ∙ ap number_answer c.in-Err.ensures
