-- `crc32_register::at_next` meets its contract. Assumes nothing.
use mathlib.Core.Path.{refl}
use Rattle.crc32_register.specs.Word.{shift_up, at_next}
use Rattle.crc32_register.proofs.at_next.Goals as goal

pub returns : goal.returns
unfolding shift_up at_next
returns c = refl
