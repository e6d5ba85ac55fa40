-- `crc32::first_ring` meets its contract. Assumes nothing.
use native.Mathlib.Omega.{arith}
use Rattle.crc32.proofs.Ring.{first-ring}
use borrow.Author.Rules.{rules}
use Rattle.crc32.proofs.first_ring.Goals as goal

pub returns : goal.returns
returns c = (search rules, first-ring c.args.at (omega arith))
