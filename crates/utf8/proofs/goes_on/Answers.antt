-- `goes_on`: no test of it holds, so no sequence goes on. Assumes nothing.
use Rattle.utf8.proofs.Windows.{settled-by}
use Rattle.utf8.proofs.goes_on.Goals as goal

pub returns : goal.returns
returns c = λ e. settled-by _ _ e
