-- `c_book::hplog_book` meets its contract. Assumes nothing.
use mathlib.Core.Path.{ap, ◌∙◌}
use Rattle.c_book.specs.Books.{span_answer, c_book_of}
use Rattle.c_book.proofs.hplog_book.Goals as goal

pub returns-in-Ok : goal.returns-in-Ok
unfolding c_book_of
returns-in-Ok c = c.found.ensures ∙ ap span_answer c.in-Ok.ensures

pub returns-in-Err : goal.returns-in-Err
unfolding c_book_of
returns-in-Err c = c.refused.ensures ∙ ap span_answer c.in-Err.ensures
