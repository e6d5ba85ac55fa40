-- `c_stored::hplog_dictionary` meets its contract. Assumes nothing.
use mathlib.Core.Path.{ap, ◌∙◌}
use Rattle.verdict.specs.Rules.{given}
use Rattle.access.specs.declared.Span.{Span}
use Rattle.c_stored.specs.Stored.{span_answer, c_dictionary_of}
use Rattle.c_stored.proofs.hplog_dictionary.Goals as goal

pub returns : goal.returns
unfolding c_dictionary_of
returns c =
    c.found.ensures
    ∙ ap (λ (p : Span). span_answer (given p)) (rw (c.u64_at.ensures, c.u64_at-2.ensures) at c.dictionary_span.ensures)
