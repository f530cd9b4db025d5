-- What a trial answers.
use Rattle.std.specs.Prelude.{◌≡◌, ℕ, Ok, Err, Result}
use Rattle.model.specs.Circuit.{Circuit}
use Rattle.refusals.specs.declared.Refusal.{Refusal}
use Rattle.graph.specs.Calls.{set_answer, with_set}
use Rattle.graph.specs.Measures.{Measured}

-- refused as set is, else as measure answers with that number
abbrev pub TriedAs : Circuit → ℕ → ℕ → Result Unit Refusal → Result ℕ Refusal → Type 0
TriedAs c wire n (Err e) r = r ≡ Err e
TriedAs c wire n (Ok _) r = Measured (with_set c wire n) r

pub record Tried (c : Circuit) (wire n : ℕ) (r : Result ℕ Refusal) : Type 0 where
  pub outcome : TriedAs c wire n (set_answer c wire n) r
