-- `crc32_fold::merged_word` meets its contract. Assumes nothing.
use mathlib.Core.Path.{ap₂, ◌∙◌}
use lib.Bits.{bit_xor}
use Rattle.crc32_fold.proofs.Merge.{near-wide}
use Rattle.crc32_fold.proofs.merged_word.Goals as goal

pub returns : goal.returns
returns c =
    let a = c.args in
    ap₂ bit_xor c.load.ensures
    (ap₂ bit_xor c.load-2.ensures (ap₂ bit_xor c.load-3.ensures
    (ap₂ bit_xor c.load-4.ensures c.load-5.ensures)) ∙ near-wide a.window.now a.at)
