use Rattle.std.proofs.Common.{◌≡◌, ℕ, ◌<◌, ◌≤◌, length, Some}
use Rattle.ways.specs.Walks.{known}
use Rattle.paths.proofs.critical.farthest.Given as goal

abbrev pub invariant-loop-v : goal.invariant-loop-v
invariant-loop-v l = (l.last < length l.found) × ((known l.found l.last).distance ≡ Some (0, l.most)) × ((x k : ℕ) → x < l.v → (known l.found x).distance ≡ Some (0, k) → k ≤ l.most)
