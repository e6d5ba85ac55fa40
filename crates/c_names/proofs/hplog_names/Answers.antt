-- `c_names::hplog_names` meets its contract. Assumes nothing.
use mathlib.Core.Path.{ap, ◌∙◌}
use Rattle.c_answer.specs.Answer.{answered}
use Rattle.c_names.specs.Names.{c_names_of}
use Rattle.c_names.proofs.hplog_names.Goals as goal

pub returns-in-Ok : goal.returns-in-Ok
unfolding c_names_of
returns-in-Ok c = rw c.from.ensures at c.accepted.ensures ∙ ap answered c.in-Ok.ensures

pub returns-in-Err : goal.returns-in-Err
unfolding c_names_of
returns-in-Err c = c.refused.ensures ∙ ap answered c.in-Err.ensures
