-- `past_several`: the row of the first byte decides what has to follow. Assumes nothing.
use borrow.Author.Rules.{rules}
use Rattle.utf8.proofs.Tables.{first-80, first-C2, first-E0, first-E1-EF, first-ED, first-F0, first-F1, first-F4, first-F5}
use Rattle.utf8.proofs.Steps.{first-wrong, first-right}
use Rattle.utf8.proofs.past_several.Goals as goal

pub returns-then-b-lt194 : goal.returns-then-b-lt194
returns-then-b-lt194 c = first-wrong _ _ (search rules) (first-80 _ (search rules) (search rules))

pub returns-then-b-lt224 : goal.returns-then-b-lt224
returns-then-b-lt224 c = first-right _ _ (search rules) (first-C2 _ (search rules) (search rules)) c.past_tails.ensures

pub returns-then-b : goal.returns-then-b
returns-then-b c = first-right _ _ (search rules) (first-E0 _ (search rules)) c.past_second.ensures

pub returns-then-b-2 : goal.returns-then-b-2
returns-then-b-2 c = first-right _ _ (search rules) (first-ED _ (search rules)) c.past_second-then-b-2.ensures

pub returns-then-b-lt240 : goal.returns-then-b-lt240
returns-then-b-lt240 c = first-right _ _ (search rules) (first-E1-EF _ (search rules) (search rules) (search rules)) c.past_tails-then-b-lt240.ensures

pub returns-then-b-3 : goal.returns-then-b-3
returns-then-b-3 c = first-right _ _ (search rules) (first-F0 _ (search rules)) c.past_second-then-b-3.ensures

pub returns-then-b-lt244 : goal.returns-then-b-lt244
returns-then-b-lt244 c = first-right _ _ (search rules) (first-F1 _ (search rules) (search rules)) c.past_tails-then-b-lt244.ensures

pub returns-then-b-4 : goal.returns-then-b-4
returns-then-b-4 c = first-right _ _ (search rules) (first-F4 _ (search rules)) c.past_second-then-b-4.ensures

pub returns : goal.returns
returns c = first-wrong _ _ (search rules) (first-F5 _ (search rules))
