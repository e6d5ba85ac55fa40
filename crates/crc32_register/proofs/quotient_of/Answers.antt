-- `crc32_register::quotient_of` meets its contract. Assumes nothing.
use mathlib.Core.Path.{refl}
use Rattle.crc32_register.specs.Word.{shift_up, sum2, sum23, sum7, quotient}
use Rattle.crc32_register.proofs.quotient_of.Goals as goal

pub returns : goal.returns
unfolding quotient sum2 sum23 sum7 shift_up
returns c = refl
