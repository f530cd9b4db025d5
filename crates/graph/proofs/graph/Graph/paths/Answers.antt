use Rattle.graph.specs.Reads.{circuit}
use Rattle.graph.proofs.Holds.{deep}
use Rattle.graph.proofs.graph.Graph.paths.Goals as goal

pub invariant_of-paths-clause-deep : goal.invariant_of-paths-clause-deep
invariant_of-paths-clause-deep c = rw (c.as_slice-2.ensures.value, c.listing-wires.ensures.wires) (deep (circuit c.args.self.now).wires c.listing-wires.ensures.ranged)
