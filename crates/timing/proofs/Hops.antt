-- Arcs from one gate to another, and how many there are.
use Rattle.std.proofs.lemmas.Grind.{common_steps}
use Rattle.std.proofs.Common.{ℕ, ◌<◌, List, count_by, arith}
use Rattle.timing.specs.declared.Arc.{Arc}
use Rattle.timing.specs.Arcs.{nowhere, Within, Hop, Walk, hop, more, between}
use Rattle.timing.proofs.Counting.{count_some}

pub hop_inner : (n : ℕ) (arcs : List Arc) → Within n arcs → (x v : ℕ) → Hop arcs x v → (0 < x) × (x < n)
hop_inner n arcs within x v h = grind (arith, common_steps)

-- an arc from u to v is counted, and what is counted is one
pub hop_count : (arcs : List Arc) (u v : ℕ) → Hop arcs u v → 0 < count_by (between u v) arcs
hop_count arcs u v h = grind (arith, common_steps)

pub count_hop : (arcs : List Arc) (u v : ℕ) → 0 < count_by (between u v) arcs → Hop arcs u v
count_hop arcs u v p = grind (arith, common_steps, count_some (between u v) arcs nowhere p)

-- what an arc enters is a gate, and not the host
pub hop_end : (n : ℕ) (arcs : List Arc) → Within n arcs → (u v : ℕ) → Hop arcs u v → (0 < v) × (v < n)
hop_end n arcs within u v h = grind (arith, common_steps)

pub head_inner : (n : ℕ) (arcs : List Arc) → Within n arcs → (u v : ℕ) → 0 < count_by (between u v) arcs → (0 < v) × (v < n)
head_inner n arcs within u v p = hop_end n arcs within u v (count_hop arcs u v p)

pub walk_end : (n : ℕ) (arcs : List Arc) → Within n arcs → (u v : ℕ) → Walk arcs u v → (0 < v) × (v < n)
walk_end n arcs within u v (hop h) = hop_end n arcs within u v h
walk_end n arcs within u v (more {x = x} w h) = hop_end n arcs within x v h
