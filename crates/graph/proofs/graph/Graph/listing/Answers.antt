use Rattle.graph.proofs.Holds.{wires_ranged}
use Rattle.graph.proofs.graph.Graph.listing.Goals as goal

pub returns-clause-ranged : goal.returns-clause-ranged
returns-clause-ranged c = wires_ranged c.args.self.now (rw (← c.as_slice-2.ensures.value) c.listed.ensures.bytes)
