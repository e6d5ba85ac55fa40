-- All that the library must hold to, proved. Assumes nothing.
use Rattle.claims_numbers.proofs.Numbers.{table-numbers}
use Rattle.claims.proofs.Demand1.{refusals-leave}
use Rattle.claims.proofs.Names.{names-built}
use Rattle.claims.proofs.Entries.{entries-built}
use Rattle.claims.proofs.Steps.{steps-read}
use Rattle.claims.proofs.Demand2.{demand-2, entry-trips}
use Rattle.claims.proofs.Uses.{whole-use}
use Rattle.claims.proofs.Rewritten.{rewritten}
use Rattle.claims.proofs.Records.{rewritable}
use Rattle.claims.proofs.Demand3.{demand-3}
use Rattle.claims.proofs.Worked.{worked}
use Rattle.listing_input.proofs.Counting.{entries-counted}
use Rattle.claims_c.proofs.Edge.{edge-refines}
use Rattle.claims_c.proofs.EdgeDemand2.{edge-demand-2, edge-use}
use Rattle.claims_c.proofs.EdgeDemand3.{edge-demand-3}
use Rattle.mission.specs.Mission.{Mission}

pub mission : Mission
mission =
    record {
      numbers = table-numbers;
      refusals = refusals-leave;
      finished = demand-2;
      used = whole-use;
      stepped = steps-read;
      names-built = names-built;
      entries-built = entries-built;
      entry-trips = entry-trips;
      rewritten = rewritten;
      rewritable = rewritable;
      recovered = demand-3;
      edge = edge-refines;
      edge-finished = edge-demand-2;
      edge-used = edge-use;
      edge-recovered = edge-demand-3;
      counted = entries-counted;
      worked = worked;
    }
