-- Gates that wires join, in either direction.
use Rattle.std.specs.Prelude.{◌≡◌, ℕ, ◌<◌, List, [], ◌∷◌, Some, None, Ok, Err, Option, Result}
use Rattle.model.specs.Circuit.{Circuit, Link, gates}
use Rattle.timing.specs.declared.Arc.{Arc}
use Rattle.refusals.specs.declared.Refusal.{Refusal}
use Rattle.refusals.specs.declared.Refusal.TheVariants.{Apart}
use Rattle.graph.specs.declared.graph.ends.Ends.{Ends}

-- a run of wires, each in either direction, joins u to v
pub data Joined (c : Circuit) : ℕ → ℕ → Type 0 where
  itself : {u : ℕ} → Joined c u u
  along : {u x v : ℕ} → Joined c u x → Link c x v → Joined c u v
  against : {u x v : ℕ} → Joined c u x → Link c v x → Joined c u v

pub record LowestApart (c : Circuit) (e : Refusal) : Type 0 where
  pub gate : ℕ
  pub says : e ≡ Apart gate
  pub there : gate < gates c
  pub none : Joined c 0 gate → ⊥
  pub first : (h : ℕ) → h < gate → Joined c 0 h

abbrev pub SpansAs : Circuit → Result Unit Refusal → Type 0
SpansAs c (Ok _) = (h : ℕ) → h < gates c → Joined c 0 h
SpansAs c (Err e) = LowestApart c e

pub record Spans (c : Circuit) (r : Result Unit Refusal) : Type 0 where
  pub outcome : SpansAs c r

-- the live wires, each forth and back
abbrev pub both_ways : List (Option Ends) → List Arc
both_ways [] = []
both_ways (None ∷ es) = both_ways es
both_ways (Some e ∷ es) = record { from = e.from; to = e.to } ∷ record { from = e.to; to = e.from } ∷ both_ways es
