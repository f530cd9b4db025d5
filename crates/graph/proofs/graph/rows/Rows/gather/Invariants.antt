use Rattle.std.proofs.Common.{length}
use Rattle.graph.specs.Measures.{Gathered}
use Rattle.graph.proofs.graph.rows.Rows.gather.Given as goal

abbrev pub invariant-loop-wire : goal.invariant-loop-wire
invariant-loop-wire l =
    (goal.iterator-loop-wire).can_next l.wire-iterator
    × (goal.iterator-loop-wire).is_finite l.wire-iterator
    × Gathered l.self.wires.now l.self.registers.now (length l.yielded) l.arcs.items
