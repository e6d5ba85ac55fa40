use Rattle.wire.proofs.Stores.{put-halves}
use Rattle.wire.proofs.set_u16.Goals as goal

pub returns : goal.returns
returns c =
    let a = c.args in
    put-halves 1 1 a.v a.out.now c.set_u8.new.out c.set_u8-2.new.out a.at c.set_u8.ensures c.set_u8-2.ensures
