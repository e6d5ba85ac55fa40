-- `past_run`: the windows of both widths, end to end. Assumes nothing.
use borrow.Author.Rules.{rules}
use mathlib.Core.Path.{◌≡◌}
use native.Mathlib.Omega.{arith}
use Prim.Native.Nat.{◌+◌, ◌-◌}
use Rattle.utf8.proofs.Windows.{windows-both}
use Rattle.utf8.proofs.past_run.Goals as goal

pub last_end-requires : goal.last_end-requires
last_end-requires c =
    (c.goes_on.ensures (search rules), windows-both _ _ _ _ c.past_windows.ensures c.past_windows-2.ensures)

pub returns : goal.returns
returns c =
    let a = c.args in
    let e : a.from - 3 + 3 ≡ a.from = omega arith in
    rw e at c.last_end.ensures
