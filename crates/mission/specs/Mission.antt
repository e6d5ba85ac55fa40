-- What the library must hold to, all of it: the three demands, over the calls and at the C edge, the count in a
-- listing, and the paper's worked cases. Assumes nothing.
use Rattle.claims_numbers.specs.Numbers.{TableNumbers}
use Rattle.listing_input.specs.Counted.{EntriesCounted}
use Rattle.claims.specs.Demand1.{RefusalsLeave}
use Rattle.claims.specs.Built.{NamesBuilt, EntriesBuilt}
use Rattle.claims.specs.Steps.{StepsRead}
use Rattle.claims.specs.Demand2.{Demand2, EntryTrips}
use Rattle.claims.specs.Uses.{WholeUse}
use Rattle.claims.specs.Rewritten.{Rewritten, Rewritable}
use Rattle.claims.specs.Demand3.{Demand3}
use Rattle.claims.specs.Worked.{Worked}
use Rattle.claims_c.specs.Edge.{EdgeRefines}
use Rattle.claims_c.specs.EdgeDemand2.{EdgeDemand2, EdgeUse}
use Rattle.claims_c.specs.EdgeDemand3.{EdgeDemand3}

pub record Mission : Type 0 where
  -- demand 1: each refusal has a number of the table, and changes nothing
  pub numbers : TableNumbers
  pub refusals : RefusalsLeave
  -- demand 2: what the writer finishes the reader opens, with the same entries and names
  pub finished : Demand2
  pub used : WholeUse
  pub stepped : StepsRead
  pub names-built : NamesBuilt
  pub entries-built : EntriesBuilt
  pub entry-trips : EntryTrips
  pub rewritten : Rewritten
  pub rewritable : Rewritable
  -- demand 3: recovery and repair at every cut
  pub recovered : Demand3
  -- the same of the calls for C
  pub edge : EdgeRefines
  pub edge-finished : EdgeDemand2
  pub edge-used : EdgeUse
  pub edge-recovered : EdgeDemand3
  -- the listing: as many entries as its first line says
  pub counted : EntriesCounted
  -- K1 to K9
  pub worked : Worked
