-- `crc32_register::at_fourth` meets its contract. Assumes nothing.
use mathlib.Core.Path.{refl}
use Rattle.crc32_register.specs.Word.{shift_up, shift_down, at_fourth}
use Rattle.crc32_register.proofs.at_fourth.Goals as goal

pub returns : goal.returns
unfolding shift_up shift_down at_fourth
returns c = refl
