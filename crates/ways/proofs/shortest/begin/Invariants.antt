use Rattle.std.proofs.Common.{◌≡◌, ℕ, ◌<◌, None}
use Rattle.ways.specs.Walks.{known}
use Rattle.ways.proofs.shortest.begin.Given as goal

abbrev pub invariant-loop-way : goal.invariant-loop-way
invariant-loop-way g l = (u : ℕ) → u < l.way-index → (known l.found u).distance ≡ None
