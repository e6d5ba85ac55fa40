-- `past_sequences`: one sequence, and the run after it. Assumes nothing.
use borrow.Author.Rules.{rules}
use Rattle.utf8.proofs.Steps.{first-low, step-none, step-passed}
use Rattle.utf8.proofs.past_sequences.Goals as goal

pub returns-then-s-i-lt128 : goal.returns-then-s-i-lt128
returns-then-s-i-lt128 c = first-low _ _ (search rules) (search rules) c.past_ascii.ensures

pub returns-then-next-eq0 : goal.returns-then-next-eq0
returns-then-next-eq0 c = step-none _ _ (c.past_several-next.ensures.none (search rules))

pub returns : goal.returns
returns c = step-passed _ _ c.past_several-next.ensures (search rules) c.past_run.ensures
