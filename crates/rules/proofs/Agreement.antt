-- Demand 3, proved: for every checked table, any calls of any nodes at any times with any records, and any set of nodes that is healthy.
use Rattle.rules.specs.Agreement.{Demand3}
use Rattle.rules.proofs.Tables.{fit}
use Rattle.rules.proofs.Whole.{basis}
use Rattle.rules.proofs.Demand.{demand_3}

pub agreement : Demand3
agreement tab h = demand_3 (basis tab (fit h))
