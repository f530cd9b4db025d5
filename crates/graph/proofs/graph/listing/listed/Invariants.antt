use Rattle.std.proofs.Common.{◌≡◌, ℕ, map, Option}
use Rattle.graph.specs.declared.graph.ends.Ends.{Ends}
use Rattle.graph.specs.Reads.{wire_of}
use Rattle.graph.proofs.graph.listing.listed.Given as goal

abbrev pub invariant-loop-slot : goal.invariant-loop-slot
invariant-loop-slot l =
    (goal.iterator-loop-slot).can_next l.slot-iterator
    × (goal.iterator-loop-slot).is_finite l.slot-iterator
    × (l.list.items ≡ map (λ (p : Option Ends × ℕ). wire_of p.0 p.1) (map (λ p. (p.0.now, p.1.now)) l.yielded))
