-- `misfit`: no test of it holds, so the byte fits. Assumes nothing.
use Rattle.utf8.proofs.Windows.{or-false, xor-false, fits_by}
use Rattle.utf8.proofs.misfit.Goals as goal

pub returns : goal.returns
returns c =
    λ e.
    let p = or-false _ _ e in
    let q = or-false _ _ p.0 in
    let r = or-false _ _ q.0 in
    fits_by c.args.a c.args.b c.args.c c.args.d (xor-false _ _ r.0) r.1 q.1 p.1
