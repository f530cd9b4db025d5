-- Gates, wires and paths. Gate 0 is the host.
use Rattle.std.specs.Prelude.{◌≡◌, ℕ, ◌+◌, ◌<◌, ◌≤◌, ◌⊎◌, List, [], ◌∷◌, length, Some, None, Option, slice_index}
pub use Rattle.model.specs.declared.Wire.{Wire}

-- The delay of each gate, the host's first; and the wires by number, a dropped one being None.
pub record Circuit : Type 0 where
  pub delays : List ℕ
  pub wires : List (Option Wire)

infix 20 ◌∈◌
abbrev pub ◌∈◌ : {A : Type 0} → A → List A → Type 0
a ∈ [] = ⊥
a ∈ (b ∷ bs) = (a ≡ b) ⊎ (a ∈ bs)

-- the wires that are not dropped, in the order of their numbers
abbrev pub kept : List (Option Wire) → List Wire
kept [] = []
kept (None ∷ ws) = kept ws
kept (Some w ∷ ws) = w ∷ kept ws

abbrev pub live : Circuit → List Wire
live c = kept c.wires

abbrev pub gates : Circuit → ℕ
gates c = length c.delays

abbrev pub delay_of : Circuit → ℕ → ℕ
delay_of c g = slice_index c.delays g

-- The host has delay 0, and wires join gates that are there.
pub record Sound (c : Circuit) : Type 0 where
  pub host : 0 < gates c
  pub idle : delay_of c 0 ≡ 0
  pub joined : (w : Wire) → w ∈ live c → (w.from < gates c) × (w.to < gates c)

-- a wire's numbers in their ranges
pub record Ranged (w : Wire) : Type 0 where
  pub registers : w.registers ≤ 255
  pub cheap : 1 ≤ w.price
  pub dear : w.price ≤ 16
  pub order : w.floor ≤ w.ceiling
  pub ceiling : w.ceiling ≤ 255

-- a gate of the circuit that is not the host
pub record Inner (c : Circuit) (g : ℕ) : Type 0 where
  pub apart : 0 < g
  pub there : g < gates c

-- a live wire from u to v
pub record Link (c : Circuit) (u v : ℕ) : Type 0 where
  pub wire : Wire
  pub lives : wire ∈ live c
  pub leaves : wire.from ≡ u
  pub enters : wire.to ≡ v

-- one or more gates, never the host, each joined to the next by a wire
pub data Path (c : Circuit) : ℕ → ℕ → Type 0 where
  gate : {u : ℕ} → Inner c u → Path c u u
  step : {u x v : ℕ} → Inner c u → Link c u x → Path c x v → Path c u v

abbrev pub weight : {c : Circuit} {u v : ℕ} → Path c u v → ℕ
weight (gate i) = 0
weight (step i l p) = l.wire.registers + weight p

abbrev pub delay : {c : Circuit} {u v : ℕ} → Path c u v → ℕ
delay {c} (gate {u} i) = delay_of c u
delay {c} (step {u} i l p) = delay_of c u + delay p

-- a path of weight 0 with at least one wire that ends where it began
pub record FreeLoop (c : Circuit) : Type 0 where
  pub start : ℕ
  pub next : ℕ
  pub inner : Inner c start
  pub link : Link c start next
  pub back : Path c next start
  pub free : weight (step inner link back) ≡ 0

abbrev pub NoFreeLoop : Circuit → Type 0
NoFreeLoop c = FreeLoop c → ⊥

-- the gate g stands on the path
abbrev pub Visits : {c : Circuit} {u v : ℕ} → Path c u v → ℕ → Type 0
Visits (gate {u} i) g = g ≡ u
Visits (step {u} i l p) g = (g ≡ u) ⊎ Visits p g

-- a register-free loop runs through g, wherever it is said to begin
pub record OnFreeLoop (c : Circuit) (g : ℕ) : Type 0 where
  pub loop : FreeLoop c
  pub passes : Visits (step loop.inner loop.link loop.back) g

-- the greatest delay of a path of weight 0, or 0 without paths
pub record IsPeriod (c : Circuit) (t : ℕ) : Type 0 where
  pub most : (u v : ℕ) (p : Path c u v) → weight p ≡ 0 → delay p ≤ t
  pub met : (t ≡ 0) ⊎ ((u : ℕ) × (v : ℕ) × (p : Path c u v) × (weight p ≡ 0) × (delay p ≡ t))

-- W(u,v): the least weight of a path from u to v
pub record IsW (c : Circuit) (u v k : ℕ) : Type 0 where
  pub least : (p : Path c u v) → k ≤ weight p
  pub met : (p : Path c u v) × (weight p ≡ k)

-- D(u,v): the greatest delay among the paths of that weight
pub record IsD (c : Circuit) (u v k d : ℕ) : Type 0 where
  pub most : (p : Path c u v) → weight p ≡ k → delay p ≤ d
  pub met : (p : Path c u v) × (weight p ≡ k) × (delay p ≡ d)

-- W(u,v) is k and D(u,v) is d
pub record IsWD (c : Circuit) (u v k d : ℕ) : Type 0 where
  pub lightest : IsW c u v k
  pub slowest : IsD c u v k d
