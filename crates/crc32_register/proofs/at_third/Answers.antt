-- `crc32_register::at_third` meets its contract. Assumes nothing.
use mathlib.Core.Path.{refl}
use Rattle.crc32_register.specs.Word.{shift_up, shift_down, at_third}
use Rattle.crc32_register.proofs.at_third.Goals as goal

pub returns : goal.returns
unfolding shift_up shift_down at_third
returns c = refl
