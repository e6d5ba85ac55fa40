-- `c_open::put_frame` meets its contract. Assumes nothing.
use Rattle.parts.proofs.Fields.{done, ◌▸◌}
use Rattle.c_open.proofs.Stores.{frame-stored}
use Rattle.c_open.proofs.put_frame.Goals as goal

pub returns : goal.returns
returns c =
    frame-stored c.args.log
    (c.put_u64.ensures ▸ c.put_u64-2.ensures ▸ c.put_u64-3.ensures ▸ c.put_u64-4.ensures ▸ c.put_u64-5.ensures ▸ done)
