-- `mark_of` meets its contract. By the definition. Assumes nothing.
use mathlib.Core.Path.{refl}
use Rattle.bloom.specs.Filter.{mark_of}
use Rattle.bloom.proofs.mark_of.Goals as goal

pub returns : goal.returns
unfolding mark_of
returns c = refl
