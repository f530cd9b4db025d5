-- How the tables of W and D fill, row by row.
use Rattle.std.specs.Prelude.{◌≡◌, ℕ, ◌+◌, ◌*◌, ◌<◌, ◌≤◌, ◌⊎◌, List, length, Some, None, Option, slice_index}
use Rattle.model.specs.Circuit.{Circuit, Path, IsWD, gates}
use Rattle.ways.specs.Walks.{known}
use Rattle.ways.specs.declared.walk.Way.{Way}

-- what the cell of u and v holds: W and D, or 4,294,967,295 and 0 without a path
abbrev pub Cell : Circuit → ℕ → ℕ → ℕ → ℕ → Type 0
Cell c u v w d = IsWD c u v w d ⊎ ((Path c u v → ⊥) × (w ≡ 4294967295) × (d ≡ 0))

-- the first m rows
abbrev pub Rows : Circuit → ℕ → List ℕ → List ℕ → Type 0
Rows c m W D = (u v : ℕ) → u < m → v < gates c → Cell c u v (slice_index W (u * gates c + v)) (slice_index D (u * gates c + v))

-- w and d stand for a distance (registers, delay) that leaves out the delay `own` of the first gate
abbrev pub Stands : ℕ → Option (ℕ × ℕ) → ℕ → ℕ → Type 0
Stands own None w d = (w ≡ 4294967295) × (d ≡ 0)
Stands own (Some x) w d = (w ≡ x.0) × (d ≡ x.1 + own)

-- the cells from `base` on stand for the first m distances
abbrev pub Told : ℕ → ℕ → List (Way (ℕ × ℕ)) → ℕ → List ℕ → List ℕ → Type 0
Told base own found m W D = (v : ℕ) → v < m → Stands own (known found v).distance (slice_index W (base + v)) (slice_index D (base + v))

-- the cells but n from `base` on are as they were
abbrev pub Outside : ℕ → ℕ → List ℕ → List ℕ → Type 0
Outside base n xs ys = (length ys ≡ length xs) × ((i : ℕ) → (i < base) ⊎ (base + n ≤ i) → slice_index ys i ≡ slice_index xs i)

-- the cells from `size` on are as they were
abbrev pub Beyond : ℕ → List ℕ → List ℕ → Type 0
Beyond size xs ys = (length ys ≡ length xs) × ((i : ℕ) → size ≤ i → slice_index ys i ≡ slice_index xs i)
