-- The arcs in groups, by the gate that they leave.
use Rattle.std.specs.Prelude.{◌≡◌, ℕ, suc, ◌<◌, ◌≤◌, List, length, map, filter, reverse, count_by, slice_index_or, Some, None, Option, ◌≢◌, ◌==◌}
use Rattle.timing.specs.declared.Arc.{Arc}
use Rattle.timing.specs.Arcs.{nowhere, Within}

-- the last of the first m arcs that leaves g, or none
abbrev pub Last : List Arc → ℕ → ℕ → Option ℕ → Type 0
Last arcs g m None = (k : ℕ) → k < m → (slice_index_or arcs k nowhere).from ≢ g
Last arcs g m (Some i) = (i < m) × ((slice_index_or arcs i nowhere).from ≡ g) × ((k : ℕ) → i < k → k < m → (slice_index_or arcs k nowhere).from ≢ g)

-- of the first m arcs: the last that leaves each gate, and for each arc the last before it that leaves the same gate; no others
pub record Grouped (arcs : List Arc) (m : ℕ) (last earlier : List (Option ℕ)) : Type 0 where
  pub gates : length last ≡ 256
  pub places : length earlier ≡ 512
  pub ends : (g : ℕ) → g < 256 → Last arcs g m (slice_index_or last g None)
  pub steps : (i : ℕ) → i < m → Last arcs (slice_index_or arcs i nowhere).from i (slice_index_or earlier i None)
  pub unused : (i : ℕ) → m ≤ i → i < 512 → slice_index_or earlier i None ≡ None

-- all of few arcs, each of which leaves and enters one of 128 gates but the host
pub record Grouping (arcs : List Arc) (last earlier : List (Option ℕ)) : Type 0 where
  pub few : length arcs ≤ 512
  pub inside : Within 128 arcs
  pub grouped : Grouped arcs (length arcs) last earlier

-- the gates that the arcs from u enter, last arc first
abbrev pub heads : List Arc → ℕ → List ℕ
heads arcs u = map (λ a. a.to) (reverse (filter (λ a. a.from == u) arcs))

-- how often a gate stands among them
abbrev pub entered : List ℕ → ℕ → ℕ
entered hs v = count_by (λ h. h == v) hs

-- the arcs up to the one at hand
abbrev pub past : Option ℕ → ℕ
past None = 0
past (Some i) = suc i

-- the arc at hand, if any, leaves u
abbrev pub Leaves : List Arc → ℕ → Option ℕ → Type 0
Leaves arcs u None = Unit {0}
Leaves arcs u (Some i) = (i < length arcs) × ((slice_index_or arcs i nowhere).from ≡ u)
