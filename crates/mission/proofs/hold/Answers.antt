-- `mission::hold` meets its promise. Assumes nothing.
use Rattle.mission.proofs.Mission.{mission}
use Rattle.mission.proofs.hold.Goals as goal

pub returns : goal.returns
returns c = mission
