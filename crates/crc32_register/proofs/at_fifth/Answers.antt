-- `crc32_register::at_fifth` meets its contract. Assumes nothing.
use mathlib.Core.Path.{refl}
use Rattle.crc32_register.specs.Word.{shift_down, at_fifth}
use Rattle.crc32_register.proofs.at_fifth.Goals as goal

pub returns : goal.returns
unfolding shift_down at_fifth
returns c = refl
