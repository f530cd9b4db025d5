-- What taking a gate does to the counts and the times of the gates that its arcs enter.
use Rattle.std.specs.Prelude.{◌≡◌, ℕ, ◌+◌, ◌<◌, ◌≤◌, max, ◌⊎◌, List, count_by, slice_index}
use Rattle.model.specs.Circuit.{◌∈◌}
use Rattle.model.specs.Limits.{Different}
use Rattle.timing.specs.declared.Arc.{Arc}
use Rattle.timing.specs.Arcs.{between}

-- what may be lowered: each count covers the arcs from u, and what is ready has the count 0
pub record Lowerable (arcs : List Arc) (n u : ℕ) (counts ready : List ℕ) : Type 0 where
  pub covers : (v : ℕ) → 0 < v → v < n → count_by (between u v) arcs ≤ slice_index counts v
  pub different : Different ready
  pub zero : (v : ℕ) → v ∈ ready → (v < n) × (slice_index counts v ≡ 0)

-- each count is less by how often its gate is entered, and what falls to 0 is ready
pub record LoweredBy (entered : ℕ → ℕ) (n : ℕ) (old new before after : List ℕ) : Type 0 where
  pub less : (v : ℕ) → v < n → slice_index new v + entered v ≡ slice_index old v
  pub different : Different after
  pub kept : (v : ℕ) → v ∈ before → v ∈ after
  pub fresh : (v : ℕ) → v ∈ after → (v ∈ before) ⊎ ((v < n) × (0 < slice_index old v) × (slice_index new v ≡ 0) × (0 < v))
  pub found : (v : ℕ) → v < n → 0 < slice_index old v → slice_index new v ≡ 0 → v ∈ after

-- by the arcs from u
abbrev pub Lowered : List Arc → ℕ → ℕ → List ℕ → List ℕ → List ℕ → List ℕ → Type 0
Lowered arcs n u = LoweredBy (λ v. count_by (between u v) arcs) n

-- no gate that is entered stays below t, and the others stay as they are
pub record RaisedBy (entered : ℕ → ℕ) (t : ℕ) (old new : List ℕ) : Type 0 where
  pub kept : (v : ℕ) → entered v ≡ 0 → slice_index new v ≡ slice_index old v
  pub raised : (v : ℕ) → 0 < entered v → slice_index new v ≡ max (slice_index old v) t

-- by the arcs from u
abbrev pub Raised : List Arc → ℕ → ℕ → List ℕ → List ℕ → Type 0
Raised arcs u = RaisedBy (λ v. count_by (between u v) arcs)

-- the gates below m but the host with the count 0
pub record Seeded (counts : List ℕ) (m : ℕ) (ready : List ℕ) : Type 0 where
  pub different : Different ready
  pub zero : (v : ℕ) → v ∈ ready → (0 < v) × (v < m) × (slice_index counts v ≡ 0)
  pub found : (v : ℕ) → 0 < v → v < m → slice_index counts v ≡ 0 → v ∈ ready
