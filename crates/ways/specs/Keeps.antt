-- What holds while distances fall.
use Rattle.std.specs.Prelude.{◌≡◌, ℕ, ◌<◌, ◌≤◌, Bool, true, false, ◌⊎◌, List, [], ◌∷◌, length, Some, None, Option, Ok, Err, Result, MatchOption, ◌≢◌, slice_index}
use Rattle.ways.specs.Laws.{Kind}
use Rattle.ways.specs.Walks.{Leads, total, Clear, known, row, near, past, Closes}
use Rattle.ways.specs.declared.net.Arc.{Arc}
use Rattle.ways.specs.declared.walk.Way.{Way}
use Rattle.ways.specs.declared.walk.Loop.{Loop}

-- the arc a leaves u
abbrev pub Leaves : {L : Type 0} → (ℕ → Option (Arc L)) → ℕ → ℕ → Type 0
Leaves at u a = MatchOption (at a) ⊥ (λ x. x.tail ≡ u)

-- ps is a walk from s to v that comes to no vertex twice, and each of its parts from s on is no less than the distance to where it ends
abbrev pub Good : {L : Type 0} → Kind L → (ℕ → Option (Arc L)) → ℕ → List (Way L) → List ℕ → ℕ → Type 0
Good K at s found [] v = (v ≡ s) × (near K (known found v).distance (Some K.zero) ≡ true)
Good {L} K at s found (a ∷ ps) v = (x : Arc L) × (at a ≡ Some x) × (x.head ≡ v) × Clear at v (a ∷ ps) × (near K (known found v).distance (Some (total K at (a ∷ ps))) ≡ true) × Good K at s found ps x.tail

-- the way of each vertex that has a distance is good and sums to it
abbrev pub Kept : {L : Type 0} → Kind L → (ℕ → Option (Arc L)) → ℕ → List (Way L) → Type 0
Kept {L} K at s found = (v : ℕ) (x : L) → v < length found → (known found v).distance ≡ Some x → Good K at s found (row found v) v × (total K at (row found v) ≡ x)

-- some walk of fewer than n arcs is below the distance to its end
abbrev pub Short : {L : Type 0} → Kind L → (ℕ → Option (Arc L)) → ℕ → ℕ → List (Way L) → Type 0
Short K at s n found = (v : ℕ) × (ps : List ℕ) × (length ps < n) × Leads at s ps v × (near K (known found v).distance (Some (total K at ps)) ≡ false)

-- the arc at i leads on to less than the distance to its head
pub record Better {L : Type 0} (K : Kind L) (at : ℕ → Option (Arc L)) (i : ℕ) (found : List (Way L)) (arc : Arc L) (sum : L) : Type 0 where
  pub stands : at i ≡ Some arc
  pub far : L
  pub from : (known found arc.tail).distance ≡ Some far
  pub is : sum ≡ K.sum far arc.length
  pub less : near K (known found arc.head).distance (Some sum) ≡ false

-- the vertex u stands at the place p of a way that ends at v
abbrev pub Meets : {L : Type 0} → (ℕ → Option (Arc L)) → List ℕ → ℕ → ℕ → ℕ → Type 0
Meets at arcs v u p = (p ≤ length arcs) × (((p ≡ length arcs) × (u ≡ v)) ⊎ ((p < length arcs) × Leaves at u (slice_index arcs p)))

-- distances after the arc at i was tried, from those before
pub record Moved {L : Type 0} (K : Kind L) (at : ℕ → Option (Arc L)) (s i : ℕ) (old new : List (Way L)) : Type 0 where
  pub kept : Kept K at s new
  pub lower : (v : ℕ) → near K (known new v).distance (known old v).distance ≡ true
  pub settled : (x : Arc L) → at i ≡ Some x → near K (known new x.head).distance (past K (known old x.tail).distance x.length) ≡ true

abbrev pub Improved : {L : Type 0} → Kind L → (ℕ → Option (Arc L)) → ℕ → ℕ → List (Way L) → List (Way L) → Result Unit Loop → Type 0
Improved K at s i old new (Ok _) = Moved K at s i old new × Short K at s (length old) old
Improved K at s i old new (Err l) = Closes K at s l

-- whether a distance fell
abbrev pub Changed : {L : Type 0} → Kind L → (ℕ → Option (Arc L)) → ℕ → List (Way L) → List (Way L) → Bool → Type 0
Changed K at s old new false = new ≡ old
Changed K at s old new true = Short K at s (length old) old

abbrev pub Relaxed : {L : Type 0} → Kind L → (ℕ → Option (Arc L)) → ℕ → ℕ → List (Way L) → List (Way L) → Result Bool Loop → Type 0
Relaxed K at s i old new (Ok fell) = Moved K at s i old new × Changed K at s old new fell
Relaxed K at s i old new (Err l) = Closes K at s l

-- distances after the first i arcs were tried in a round, from those before the round
pub record Tried {L : Type 0} (K : Kind L) (at : ℕ → Option (Arc L)) (s i : ℕ) (old new : List (Way L)) : Type 0 where
  pub kept : Kept K at s new
  pub lower : (v : ℕ) → near K (known new v).distance (known old v).distance ≡ true
  pub settled : (a : ℕ) (x : Arc L) → a < i → at a ≡ Some x → near K (known new x.head).distance (past K (known old x.tail).distance x.length) ≡ true

abbrev pub Rounded : {L : Type 0} → Kind L → (ℕ → Option (Arc L)) → ℕ → ℕ → List (Way L) → List (Way L) → Result Bool Loop → Type 0
Rounded K at s many old new (Ok fell) = Tried K at s many old new × Changed K at s old new fell
Rounded K at s many old new (Err l) = Closes K at s l

-- after k rounds: every distance is at most the sum of each walk of at most k arcs
pub record After {L : Type 0} (K : Kind L) (at : ℕ → Option (Arc L)) (s k : ℕ) (found : List (Way L)) : Type 0 where
  pub kept : Kept K at s found
  pub low : (ps : List ℕ) (v : ℕ) → length ps ≤ k → Leads at s ps v → near K (known found v).distance (Some (total K at ps)) ≡ true

-- before the first round
pub record Begun {L : Type 0} (K : Kind L) (s : ℕ) (found : List (Way L)) : Type 0 where
  pub start : (known found s).distance ≡ Some K.zero
  pub here : (known found s).arcs.items ≡ []
  pub others : (v : ℕ) → (v ≢ s) → (known found v).distance ≡ None
