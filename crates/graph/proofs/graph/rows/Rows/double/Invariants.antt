use Rattle.std.proofs.Common.{◌≡◌, ◌*◌, length, map, Bor}
use Rattle.std.specs.List.{flat_map}
use Rattle.graph.specs.declared.graph.ends.Ends.{Ends}
use Rattle.graph.proofs.Ways.{pair}
use Rattle.graph.proofs.graph.rows.Rows.double.Given as goal

abbrev pub invariant-loop-e : goal.invariant-loop-e
invariant-loop-e l =
    (goal.iterator-loop-e).can_next l.e-iterator
    × (goal.iterator-loop-e).is_finite l.e-iterator
    × (length l.arcs.items ≡ 2 * length l.yielded)
    × (l.arcs.items ≡ flat_map pair (map (λ (y : Bor Ends). y.now) l.yielded))
