use Rattle.wire.proofs.Lists.{part-past, part-rest, part-whole}
use Rattle.wire.proofs.part_at.Goals as goal

pub returns-then-m-at : goal.returns-then-m-at
returns-then-m-at c = let a = c.args in part-past a.s.now a.at a.n c.if-m-at.true

pub returns-then-m-at-2 : goal.returns-then-m-at-2
returns-then-m-at-2 c = let a = c.args in part-rest a.s.now a.at a.n c.if-m-at-2.true

pub returns : goal.returns
returns c = let a = c.args in part-whole a.s.now a.at a.n
