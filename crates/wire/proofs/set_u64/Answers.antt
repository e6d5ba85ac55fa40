use Rattle.wire.proofs.Stores.{put-halves}
use Rattle.wire.proofs.set_u64.Goals as goal

pub returns : goal.returns
returns c =
    let a = c.args in
    put-halves 4 4 a.v a.out.now c.set_u32.new.out c.set_u32-2.new.out a.at c.set_u32.ensures c.set_u32-2.ensures
