-- `c_names::hplog_name` meets its contract. Assumes nothing.
use mathlib.Core.Path.{ap, ◌∙◌}
use Rattle.c_names.specs.Names.{span_answer, c_name_of}
use Rattle.c_names.proofs.hplog_name.Goals as goal

pub returns-in-Ok : goal.returns-in-Ok
unfolding c_name_of
returns-in-Ok c = c.found.ensures ∙ ap span_answer c.in-Ok.ensures

pub returns-in-Err : goal.returns-in-Err
unfolding c_name_of
returns-in-Err c = c.refused.ensures ∙ ap span_answer c.in-Err.ensures
