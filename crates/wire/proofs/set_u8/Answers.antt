use Rattle.wire.proofs.Stores.{put_byte}
use borrow.Author.Rules.{rules}
use Rattle.wire.proofs.set_u8.Goals as goal

pub returns : goal.returns
returns c = put_byte c.args.out.now c.args.at c.args.v (search rules)
