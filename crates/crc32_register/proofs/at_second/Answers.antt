-- `crc32_register::at_second` meets its contract. Assumes nothing.
use mathlib.Core.Path.{refl}
use Rattle.crc32_register.specs.Word.{shift_up, at_second}
use Rattle.crc32_register.proofs.at_second.Goals as goal

pub returns : goal.returns
unfolding shift_up at_second
returns c = refl
