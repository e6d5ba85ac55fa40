-- `crc32::checksum` meets its contract. Assumes nothing.
use mathlib.Core.Path.{ap, ◌∙◌}
use Prim.Native.Nat.{ℕ}
use native.Mathlib.Omega.{arith}
use lib.Dec.{lit<}
use lib.Bits.{bit_xor}
use Rattle.crc32_register.specs.Register.{crc_from}
use Rattle.crc32.specs.Crc.{crc32}
use Rattle.crc32.proofs.Far.{far-crc}
use borrow.Author.Rules.{rules}
use Rattle.crc32.proofs.checksum.Goals as goal

pub returns-then-s-lt28672 : goal.returns-then-s-lt28672
unfolding crc32
returns-then-s-lt28672 c = ap (λ (x : ℕ). bit_xor x 0xFFFFFFFF) c.after.ensures

pub returns : goal.returns
unfolding crc32
returns c =
    ap (λ (x : ℕ). bit_xor x 0xFFFFFFFF)
    (c.after-2.ensures ∙ ap (crc_from 0) c.reduce-rest.ensures
    ∙ far-crc 0xFFFFFFFF c.args.s.now (search rules) (lit< tt)
    (λ i. omega (arith, c.shared_slice_known-1.given i)))
