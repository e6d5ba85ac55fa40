-- `crc32_register::at_behind` meets its contract. Assumes nothing.
use mathlib.Core.Path.{refl}
use Rattle.crc32_register.specs.Word.{shift_down, at_behind}
use Rattle.crc32_register.proofs.at_behind.Goals as goal

pub returns : goal.returns
unfolding shift_down at_behind
returns c = refl
