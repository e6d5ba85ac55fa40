use Rattle.wire.proofs.Stores.{put-halves}
use Rattle.wire.proofs.set_u32.Goals as goal

pub returns : goal.returns
returns c =
    let a = c.args in
    put-halves 2 2 a.v a.out.now c.set_u16.new.out c.set_u16-2.new.out a.at c.set_u16.ensures c.set_u16-2.ensures
