-- The slowest register-free path.
use Rattle.std.specs.Prelude.{◌≡◌, ℕ, ◌<◌, ◌≤◌, ◌⊎◌, List, [], ◌∷◌, ◌++◌, length, Some, None, Option, slice_index_or}
use Rattle.model.specs.declared.Wire.{Wire}
use Rattle.model.specs.Circuit.{Circuit, Path, gate, step, weight, delay, gates}
use Rattle.ways.specs.Walks.{known}
use Rattle.ways.specs.declared.walk.Way.{Way}

-- the gates of a path, in their order
abbrev pub gates_of : {c : Circuit} {u v : ℕ} → Path c u v → List ℕ
gates_of (gate {u} i) = u ∷ []
gates_of (step {u} i l p) = u ∷ gates_of p

-- gs are the gates of a path of weight 0 than which none of weight 0 is slower; there is none where the host is the only gate
abbrev pub Slowest : Circuit → List ℕ → Type 0
Slowest c gs = ((gs ≡ []) × (gates c ≡ 1))
    ⊎ ((u : ℕ) × (v : ℕ) × (p : Path c u v) × (weight p ≡ 0) × (gates_of p ≡ gs) × ((a b : ℕ) (q : Path c a b) → weight q ≡ 0 → delay q ≤ delay p))

-- the gate that a wire enters, or 0 where none is
abbrev pub entered_of : Option Wire → ℕ
entered_of None = 0
entered_of (Some w) = w.to

-- the gates of a walk from u over the wires at the places ps, which are listed from its end
abbrev pub stations : List (Option Wire) → ℕ → List ℕ → List ℕ
stations ws u [] = u ∷ []
stations ws u (a ∷ ps) = stations ws u ps ++ (entered_of (slice_index_or ws a None) ∷ [])

-- d is the delay of a distance without registers, and 0 of any other
abbrev pub Free : Option (ℕ × ℕ) → ℕ → Type 0
Free found d = ((k : ℕ) → found ≡ Some (0, k) → d ≡ k) × (0 < d → found ≡ Some (0, d))

-- v has a distance without registers, of the greatest delay m
pub record Top (found : List (Way (ℕ × ℕ))) (v m : ℕ) : Type 0 where
  pub there : v < length found
  pub is : (known found v).distance ≡ Some (0, m)
  pub most : (x k : ℕ) → x < length found → (known found x).distance ≡ Some (0, k) → k ≤ m
