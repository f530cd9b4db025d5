-- Arcs between gates, and the walks and runs along them.
use Rattle.std.specs.Prelude.{◌≡◌, ℕ, ◌+◌, ◌<◌, ◌≤◌, Bool, not, ◌&&◌, ◌⊎◌, List, length, slice_index_or, Some, None, count_by, Option, ◌==◌, slice_index}
use Rattle.timing.specs.declared.Arc.{Arc}

abbrev pub nowhere : Arc
nowhere = record { from = 0; to = 0 }

-- every arc leaves and enters a gate below n that is not the host
pub record Inside (n : ℕ) (a : Arc) : Type 0 where
  pub leaves : 0 < a.from
  pub left : a.from < n
  pub enters : 0 < a.to
  pub entered : a.to < n

abbrev pub Within : ℕ → List Arc → Type 0
Within n arcs = (k : ℕ) → k < length arcs → Inside n (slice_index_or arcs k nowhere)

-- an arc of the list from u to v
pub record Hop (arcs : List Arc) (u v : ℕ) : Type 0 where
  pub place : ℕ
  pub there : place < length arcs
  pub leaves : (slice_index_or arcs place nowhere).from ≡ u
  pub enters : (slice_index_or arcs place nowhere).to ≡ v

-- one or more arcs in a row
pub data Walk (arcs : List Arc) : ℕ → ℕ → Type 0 where
  hop : {u v : ℕ} → Hop arcs u v → Walk arcs u v
  more : {u x v : ℕ} → Walk arcs u x → Hop arcs x v → Walk arcs u v

-- a gate, or a run and one more gate that an arc joins it to
pub data Run (ds : List ℕ) (arcs : List Arc) : ℕ → ℕ → Type 0 where
  alone : {u : ℕ} → 0 < u → u < length ds → Run ds arcs u u
  on : {u x v : ℕ} → Run ds arcs u x → Hop arcs x v → Run ds arcs u v

-- the sum of its gates' delays
abbrev pub spent : {ds : List ℕ} {arcs : List Arc} {u v : ℕ} → Run ds arcs u v → ℕ
spent {ds} (alone {u} i l) = slice_index ds u
spent {ds} (on {v = v} r h) = spent r + slice_index ds v

-- the greatest sum of a run, or 0 without runs
pub record Longest (ds : List ℕ) (arcs : List Arc) (t : ℕ) : Type 0 where
  pub most : (u v : ℕ) (r : Run ds arcs u v) → spent r ≤ t
  pub met : (t ≡ 0) ⊎ ((u : ℕ) × (v : ℕ) × (r : Run ds arcs u v) × (spent r ≡ t))

-- the greatest sum of a run that ends at v
pub record Arrives (ds : List ℕ) (arcs : List Arc) (v t : ℕ) : Type 0 where
  pub most : (u : ℕ) (r : Run ds arcs u v) → spent r ≤ t
  pub met : (u : ℕ) × (r : Run ds arcs u v) × (spent r ≡ t)

abbrev pub NoLoop : List Arc → Type 0
NoLoop arcs = (v : ℕ) → Walk arcs v v → ⊥

abbrev pub into : ℕ → Arc → Bool
into v a = a.to == v

abbrev pub between : ℕ → ℕ → Arc → Bool
between u v a = a.from == u && a.to == v

-- the arcs into v from gates that are not taken
abbrev pub inflow : List Arc → (ℕ → Bool) → ℕ → ℕ
inflow arcs taken v = count_by (λ a. (a.to == v) && not (taken a.from)) arcs

-- all gates are taken in order, and the longest run takes p; or there is a loop
abbrev pub Timed : List ℕ → List Arc → Option ℕ → Type 0
Timed ds arcs (Some p) = NoLoop arcs × Longest ds arcs p
Timed ds arcs None = (v : ℕ) × Walk arcs v v
