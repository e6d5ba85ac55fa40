-- `c_book::hplog_book_parts` meets its contract. Assumes nothing.
use mathlib.Core.Path.{ap, ◌∙◌}
use native.Mathlib.Omega.{arith}
use Rattle.book.proofs.Last.{counted-few}
use Rattle.c_book.specs.Books.{parts_answer, c_parts_of}
use Rattle.c_book.proofs.hplog_book_parts.Goals as goal

pub overflow_add-result : goal.overflow_add-result
overflow_add-result c =
    omega (arith, counted-few _ _ c.in-Ok.ensures)

pub returns-in-Ok : goal.returns-in-Ok
unfolding c_parts_of
returns-in-Ok c = ap parts_answer c.in-Ok.ensures

pub returns-in-Err : goal.returns-in-Err
unfolding c_parts_of
returns-in-Err c = c.refused.ensures ∙ ap parts_answer c.in-Err.ensures
