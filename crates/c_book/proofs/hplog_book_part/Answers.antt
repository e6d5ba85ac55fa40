-- `c_book::hplog_book_part` meets its contract. Assumes nothing.
use mathlib.Core.Path.{ap, ◌∙◌}
use Rattle.verdict.specs.Rules.{given}
use Rattle.book.specs.declared.Span.{Span}
use Rattle.c_book.specs.Books.{span_answer, c_part_of}
use Rattle.c_book.proofs.hplog_book_part.Goals as goal

pub returns : goal.returns
unfolding c_part_of
returns c = c.found.ensures ∙ ap (λ (p : Span). span_answer (given p)) c.part_at.ensures
