-- `pad`: the name, and after it what the spaces are from there on. Assumes nothing.
use Rattle.label.proofs.Laws.{panel-padded}
use Rattle.label.proofs.pad.Goals as goal

pub returns : goal.returns
returns c =
    let a = c.args in
    panel-padded a.name.now a.panel.now _ _ c.copy_at.ensures c.copy_at-2.ensures
