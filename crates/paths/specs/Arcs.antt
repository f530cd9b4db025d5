-- The wires between gates as arcs.
use Rattle.std.specs.Prelude.{◌≡◌, ℕ, zero, suc, ◌<◌, Bool, cond, ◌&&◌, List, [], ◌∷◌, length, Some, None, Option, nat_lt, slice_index, slice_index_or}
use Rattle.std.proofs.Common.{arith}
use Rattle.model.specs.declared.Wire.{Wire}
use Rattle.model.specs.Circuit.{Circuit}
use Rattle.ways.specs.Kinds.{delays}
use Rattle.ways.specs.Places.{none_some}
use Rattle.ways.specs.Walks.{Best}
use Rattle.ways.specs.declared.net.Arc.{Arc}
use Rattle.ways.specs.declared.walk.Way.{Way}

abbrev pub circuit : List ℕ → List (Option Wire) → Circuit
circuit ds ws = record { delays = ds; wires = ws }

-- both ends are gates that are there, and neither is the host
abbrev pub inside : List ℕ → Wire → Bool
inside ds w = nat_lt 0 w.from && (nat_lt w.from (length ds) && (nat_lt 0 w.to && nat_lt w.to (length ds)))

-- as long as the wire's registers and the delay of the gate that it enters
abbrev pub arc_at : List ℕ → Wire → Arc (ℕ × ℕ)
arc_at ds w = record { tail = w.from; head = w.to; length = (w.registers, slice_index ds w.to) }

abbrev pub wire_arc : List ℕ → Wire → Option (Arc (ℕ × ℕ))
wire_arc ds w = cond (inside ds w) (Some (arc_at ds w)) None

abbrev pub arc_of : List ℕ → Option Wire → Option (Arc (ℕ × ℕ))
arc_of ds None = None
arc_of ds (Some w) = wire_arc ds w

-- what stands at each wire's number
abbrev pub wire_arcs : List ℕ → List (Option Wire) → ℕ → Option (Arc (ℕ × ℕ))
wire_arcs ds ws i = arc_of ds (slice_index_or ws i None)

pub wire_places : (ds : List ℕ) (ws : List (Option Wire)) (a : ℕ) (x : Arc (ℕ × ℕ)) → wire_arcs ds ws a ≡ Some x → a < length ws
wire_places ds [] a x e = absurd (none_some x e)
wire_places ds (y ∷ ys) zero x e = omega arith
wire_places ds (y ∷ ys) (suc a) x e = let h = wire_places ds ys a x e in omega arith

-- the registers of a wire, or 0 where none is
abbrev pub registers_of : Option Wire → ℕ
registers_of None = 0
registers_of (Some w) = w.registers

-- the least distances (registers, delay) from u, and their ways
abbrev pub Nearest : List ℕ → List (Option Wire) → ℕ → List (Way (ℕ × ℕ)) → Type 0
Nearest ds ws u found = Best delays (wire_arcs ds ws) u found
