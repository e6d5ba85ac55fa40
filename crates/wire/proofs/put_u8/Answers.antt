use mathlib.Core.Path.{sym}
use Rattle.wire.proofs.Splices.{splice-past}
use Rattle.wire.proofs.put_u8.Goals as goal

pub returns-else-at-out : goal.returns-else-at-out
returns-else-at-out c = sym (splice-past _ _ _ c.if-at-out.false)
