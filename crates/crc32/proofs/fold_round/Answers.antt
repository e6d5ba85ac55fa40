-- `crc32::fold_round` meets its contract. Assumes nothing.
use mathlib.Core.Path.{refl}
use Rattle.crc32.proofs.Ring.{round-parts}
use borrow.Author.Rules.{rules}
use Rattle.crc32.proofs.fold_round.Goals as goal

pub returns : goal.returns
returns c =
    let a = c.args in
    let done = c.fold_third.ensures in (
      done.0,
      round-parts a.i _ _ a.at _ _ a.ring.now _ _ _ a.s.now (search rules) c.most-second.ensures
          c.most-third.ensures refl refl done.0
          c.fold_first.ensures.1 c.fold_second.ensures.1 done.1,
    )
