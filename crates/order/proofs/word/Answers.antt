-- `word` meets its contract. The part's bytes are those at the offset. Assumes nothing.
use mathlib.Core.Path.{◌∙◌}
use Rattle.order.proofs.Values.{word-taken}
use Rattle.order.proofs.word.Goals as goal

pub returns : goal.returns
returns c =
    let a = c.args in
    c.u64_at.ensures ∙ word-taken a.x.now a.at
