-- What measure answers.
use Rattle.std.specs.Prelude.{◌≡◌, ℕ, ◌<◌, ◌≤◌, List, length, get_or, Option, Ok, Err, Result, slice_index_or}
use Rattle.model.specs.Circuit.{Circuit, OnFreeLoop, NoFreeLoop, IsPeriod}
use Rattle.timing.specs.declared.Arc.{Arc}
use Rattle.timing.specs.Arcs as arcs
use Rattle.refusals.specs.declared.Refusal.{Refusal}
use Rattle.refusals.specs.declared.Refusal.TheVariants.{Loop}
use Rattle.graph.specs.declared.graph.ends.Ends.{Ends}
use Rattle.graph.specs.Tables.{At}

pub record LowestOnLoop (c : Circuit) (e : Refusal) : Type 0 where
  pub gate : ℕ
  pub says : e ≡ Loop gate
  pub on : OnFreeLoop c gate
  pub first : (h : ℕ) → h < gate → OnFreeLoop c h → ⊥

pub record Timed (c : Circuit) (p : ℕ) : Type 0 where
  pub free : NoFreeLoop c
  pub period : IsPeriod c p

abbrev pub MeasuredAs : Circuit → Result ℕ Refusal → Type 0
MeasuredAs c (Ok p) = Timed c p
MeasuredAs c (Err e) = LowestOnLoop c e

-- the period, or refusal 14 with the lowest gate on a register-free loop
pub record Measured (c : Circuit) (r : Result ℕ Refusal) : Type 0 where
  pub outcome : MeasuredAs c r

-- ---- the wires without registers
-- wire j is there, has no registers and joins gates that are not the host
pub record Free (es : List (Option Ends)) (rs : List ℕ) (j : ℕ) (e : Ends) : Type 0 where
  pub lives : At es j e
  pub empty : get_or rs j 0 ≡ 0
  pub leaves : 0 < e.from
  pub enters : 0 < e.to

-- an arc runs as a wire does
pub record Along (e : Ends) (a : Arc) : Type 0 where
  pub leaves : a.from ≡ e.from
  pub enters : a.to ≡ e.to

-- the arcs are the free ones of the first m wires
pub record Gathered (es : List (Option Ends)) (rs : List ℕ) (m : ℕ) (found : List Arc) : Type 0 where
  pub few : length found ≤ m
  pub each : (k : ℕ) → k < length found → (j : ℕ) × (e : Ends) × (j < m) × Free es rs j e × Along e (slice_index_or found k arcs.nowhere)
  pub every : (j : ℕ) (e : Ends) → j < m → Free es rs j e → (k : ℕ) × (k < length found) × Along e (slice_index_or found k arcs.nowhere)
