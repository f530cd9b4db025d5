-- Walks over a net's arcs, the least sum of the walks to a vertex, and what an answer says.
use Rattle.std.specs.Prelude.{◌≡◌, ℕ, ◌<◌, ◌≤◌, Bool, true, false, List, [], ◌∷◌, ◌++◌, length, reverse, Some, None, Option, Ok, Err, Result, ◌≢◌, slice_index_or}
use Rattle.ways.specs.Laws.{Kind}
use Rattle.ways.specs.declared.net.Arc.{Arc}
use Rattle.ways.specs.declared.walk.Way.{Way}
use Rattle.ways.specs.declared.walk.Loop.{Loop}

-- The arcs `ps` make a walk from one vertex to another. They are listed from its end: the last arc first.
abbrev pub Leads : {L : Type 0} → (ℕ → Option (Arc L)) → ℕ → List ℕ → ℕ → Type 0
Leads at from [] to = to ≡ from
Leads {L} at from (a ∷ ps) to = (x : Arc L) × (at a ≡ Some x) × (x.head ≡ to) × Leads at from ps x.tail

abbrev pub long : {L : Type 0} → Kind L → Option (Arc L) → L
long K None = K.zero
long K (Some x) = x.length

-- what the lengths of the arcs of a walk come to
abbrev pub total : {L : Type 0} → Kind L → (ℕ → Option (Arc L)) → List ℕ → L
total K at [] = K.zero
total K at (a ∷ ps) = K.sum (total K at ps) (long K (at a))

-- no arc of ps leaves the vertex u
abbrev pub Clear : {L : Type 0} → (ℕ → Option (Arc L)) → ℕ → List ℕ → Type 0
Clear at u [] = Unit {0}
Clear {L} at u (a ∷ ps) = ((x : Arc L) → at a ≡ Some x → x.tail ≢ u) × Clear at u ps

-- no vertex is left twice
abbrev pub Once : {L : Type 0} → (ℕ → Option (Arc L)) → List ℕ → Type 0
Once at [] = Unit {0}
Once {L} at (a ∷ ps) = ((x : Arc L) → at a ≡ Some x → Clear at x.tail ps) × Once at ps

-- what a search knows of the vertex v: nothing past the end
abbrev pub known : {L : Type 0} → List (Way L) → ℕ → Way L
known found v = slice_index_or found v (record { distance = None; arcs = record { items = [] } })

-- the way of the vertex v, listed from its end
abbrev pub row : {L : Type 0} → List (Way L) → ℕ → List ℕ
row found v = reverse (known found v).arcs.items

-- what is known of a vertex that a way of those arcs and then the arc i leads to, at that distance
abbrev pub led : {L : Type 0} → List ℕ → ℕ → L → Way L
led arcs i d = record { distance = Some d; arcs = record { items = arcs ++ i ∷ [] } }

-- `None` is farther than any distance
abbrev pub near : {L : Type 0} → Kind L → Option L → Option L → Bool
near K x None = true
near K None (Some y) = false
near K (Some x) (Some y) = K.upto x y

abbrev pub past : {L : Type 0} → Kind L → Option L → L → Option L
past K None y = None
past K (Some x) y = Some (K.sum x y)

-- d is the least sum of the walks from s to v, and `None` where there is no walk
abbrev pub Least : {L : Type 0} → Kind L → (ℕ → Option (Arc L)) → ℕ → ℕ → Option L → Type 0
Least K at s v None = (ps : List ℕ) → Leads at s ps v → ⊥
Least K at s v (Some d) = ((ps : List ℕ) × Leads at s ps v × (total K at ps ≡ d)) × ((ps : List ℕ) → Leads at s ps v → K.upto d (total K at ps) ≡ true)

-- Arcs stand at places below `many` alone, which is at most 65536, join vertices below n, which is at most 128, and are one step long.
pub record Sound {L : Type 0} (K : Kind L) (at : ℕ → Option (Arc L)) (many n : ℕ) : Type 0 where
  pub few : n ≤ 128
  pub short : many ≤ 65536
  pub place : (a : ℕ) (x : Arc L) → at a ≡ Some x → a < many
  pub tail : (a : ℕ) (x : Arc L) → at a ≡ Some x → x.tail < n
  pub head : (a : ℕ) (x : Arc L) → at a ≡ Some x → x.head < n
  pub step : (a : ℕ) (x : Arc L) → at a ≡ Some x → K.fits 1 x.length

-- what `Sound` says of what stands at one place
abbrev pub Fair : {L : Type 0} → Kind L → ℕ → Option (Arc L) → Type 0
Fair K n None = Unit {0}
Fair K n (Some x) = (x.tail < n) × (x.head < n) × K.fits 1 x.length

-- ps is a walk from s to v of the sum d that comes to no vertex twice
pub record IsWay {L : Type 0} (K : Kind L) (at : ℕ → Option (Arc L)) (s v : ℕ) (ps : List ℕ) (d : L) : Type 0 where
  pub leads : Leads at s ps v
  pub sums : total K at ps ≡ d
  pub once : Once at ps
  pub ends : Clear at v ps

-- The arcs ps lead from a vertex back to it, come to less than zero, and leave no vertex twice; a walk from s comes to the vertex.
pub record LoopBelow {L : Type 0} (K : Kind L) (at : ℕ → Option (Arc L)) (s : ℕ) (ps : List ℕ) : Type 0 where
  pub vertex : ℕ
  pub before : List ℕ
  pub reached : Leads at s before vertex
  pub closed : Leads at vertex ps vertex
  pub below : K.upto K.zero (total K at ps) ≡ false
  pub once : Once at ps

-- Every distance is least, the way of its vertex is a walk of it with fewer arcs than there are vertices, and no closed walk that can be come to is below zero.
pub record Best {L : Type 0} (K : Kind L) (at : ℕ → Option (Arc L)) (s : ℕ) (found : List (Way L)) : Type 0 where
  pub least : (v : ℕ) → v < length found → Least K at s v (known found v).distance
  pub ways : (v : ℕ) (d : L) → v < length found → (known found v).distance ≡ Some d → IsWay K at s v (row found v) d
  pub few : (v : ℕ) (d : L) → v < length found → (known found v).distance ≡ Some d → length (known found v).arcs.items < length found
  pub fits : (v : ℕ) (d : L) → v < length found → (known found v).distance ≡ Some d → K.fits (length (known found v).arcs.items) d
  pub none_below : (v : ℕ) (qs ps : List ℕ) → Leads at s qs v → Leads at v ps v → K.upto K.zero (total K at ps) ≡ true

-- the arcs are a loop below zero
abbrev pub Closes : {L : Type 0} → Kind L → (ℕ → Option (Arc L)) → ℕ → Loop → Type 0
Closes K at s l = LoopBelow K at s (reverse l.arcs.items)

-- what an answer says
abbrev pub Answered : {L : Type 0} → Kind L → (ℕ → Option (Arc L)) → ℕ → List (Way L) → Result Unit Loop → Type 0
Answered K at s found (Ok _) = Best K at s found
Answered K at s found (Err l) = Closes K at s l
