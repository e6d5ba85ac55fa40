use mathlib.Core.Path.{sym}
use Rattle.wire.proofs.Numbers.{le_at-one, le_at-past}
use Rattle.wire.proofs.u8_at.Goals as goal

pub returns-then-at-s : goal.returns-then-at-s
returns-then-at-s c = sym (le_at-one _ _)

pub returns : goal.returns
returns c = sym (le_at-past 1 _ _ c.if-at-s.false)
