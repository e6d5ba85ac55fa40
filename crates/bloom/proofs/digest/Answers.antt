-- `digest` meets its contract. Of eight bytes and more the first and the last eight, of fewer all. Assumes nothing.
use native.Mathlib.Omega.{arith}
use Rattle.bloom.proofs.Marks.{digest-short, digest-long}
use Rattle.bloom.proofs.digest.Goals as goal

pub returns-then-n-lt8 : goal.returns-then-n-lt8
returns-then-n-lt8 c =
    let a = c.args in
    digest-short a.x.now (omega arith) c.u64_at-v.result c.u64_at-v.ensures

pub returns : goal.returns
returns c =
    let a = c.args in
    digest-long a.x.now (omega arith) c.u64_at.result c.u64_at-2.result c.u64_at.ensures
    c.u64_at-2.ensures
