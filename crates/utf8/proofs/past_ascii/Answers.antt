-- `past_ascii`: what the three widths pass, end to end. Assumes nothing.
use Rattle.utf8.proofs.Steps.{passed-both}
use Rattle.utf8.proofs.past_ascii.Goals as goal

pub returns : goal.returns
returns c = passed-both _ _ _ _ (passed-both _ _ _ _ c.past_low.ensures c.past_low-2.ensures) c.past_low-3.ensures
