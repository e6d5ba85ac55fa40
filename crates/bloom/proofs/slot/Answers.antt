-- `slot` meets its contract. By the definition. Assumes nothing.
use mathlib.Core.Path.{refl}
use Prim.Native.Nat.{◌%◌}
use native.Mathlib.Nat.{mod-lt}
use Rattle.bloom.specs.Filter.{slot_of}
use Rattle.bloom.proofs.slot.Goals as goal

pub returns : goal.returns
unfolding slot_of
returns c = (refl, mod-lt (c.args.d % 65521) c.requires)
