use mathlib.Core.Path.{sym, ◌∙◌}
use Rattle.wire.proofs.Compares.{same-lengths, same_whole}
use Rattle.wire.proofs.equal.Goals as goal

pub returns-then-a-b : goal.returns-then-a-b
returns-then-a-b c = sym (same-lengths _ _ c.if-a-b.true)

pub returns : goal.returns
returns c = c.same_at.ensures ∙ same_whole _ _ (search)
