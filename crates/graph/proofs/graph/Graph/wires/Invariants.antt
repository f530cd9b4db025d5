use Rattle.std.proofs.Common.{◌≡◌, ◌≤◌, take, count_by, is_some}
use Rattle.graph.proofs.graph.Graph.wires.Given as goal

abbrev pub invariant-loop-slot : goal.invariant-loop-slot
invariant-loop-slot l = (l.n ≡ count_by is_some (take l.slot-index l.slots)) × (l.n ≤ l.slot-index)
