-- `c_names::hplog_name_at` meets its contract. Assumes nothing.
use mathlib.Core.Path.{ap, ◌∙◌}
use Rattle.verdict.specs.Rules.{given}
use Rattle.lookup.specs.declared.Span.{Span}
use Rattle.c_names.specs.Names.{span_answer, c_name_at_of}
use Rattle.c_names.proofs.hplog_name_at.Goals as goal

pub returns : goal.returns
unfolding c_name_at_of
returns c = c.found.ensures ∙ ap (λ (p : Span). span_answer (given p)) c.name_at.ensures
