-- The slowest path without registers.
use Rattle.std.specs.Prelude.{Ok, Err, Result}
use Rattle.model.specs.Circuit.{Circuit}
use Rattle.refusals.specs.declared.Refusal.{Refusal}
use Rattle.paths.specs.Slowest.{Slowest}
use Rattle.graph.specs.declared.graph.run.Run.{Run}
use Rattle.graph.specs.Measures.{LowestOnLoop}

abbrev pub CriticalAs : Circuit → Result Run Refusal → Type 0
CriticalAs c (Ok run) = Slowest c run.gates.items
CriticalAs c (Err e) = LowestOnLoop c e

-- a path of weight 0 than which none of weight 0 is slower, or refusal 14
pub record Critical (c : Circuit) (r : Result Run Refusal) : Type 0 where
  pub outcome : CriticalAs c r
