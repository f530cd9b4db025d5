-- What the path tables hold.
use Rattle.std.specs.Prelude.{◌≡◌, ℕ, ◌*◌, ◌<◌, ◌≤◌, List, length, Ok, Err, Result}
use Rattle.model.specs.Circuit.{Circuit, gates, NoFreeLoop}
use Rattle.model.specs.Amounts.{Filled}
use Rattle.refusals.specs.declared.Refusal.{Refusal}
use Rattle.refusals.specs.declared.Refusal.TheVariants.{Memory}
use Rattle.paths.specs.Rows.{Beyond}
use Rattle.graph.specs.Measures.{LowestOnLoop}

abbrev pub cells : Circuit → ℕ
cells c = gates c * gates c

-- W and D fill the first n·n cells of the two tables; all else is as it was
pub record Told (c : Circuit) (W D W' D' : List ℕ) : Type 0 where
  pub free : NoFreeLoop c
  pub filled : Filled c W' D'
  pub least : Beyond (cells c) W W'
  pub most : Beyond (cells c) D D'

-- why they are not filled: the first of these
pub data Untold (c : Circuit) (W D : List ℕ) (e : Refusal) : Type 0 where
  short_least : e ≡ Memory 0 → length W < cells c → Untold c W D e
  short_most : e ≡ Memory 1 → cells c ≤ length W → length D < cells c → Untold c W D e
  looped : cells c ≤ length W → cells c ≤ length D → LowestOnLoop c e → Untold c W D e

abbrev pub TablesAs : Circuit → List ℕ → List ℕ → Result Unit Refusal → List ℕ → List ℕ → Type 0
TablesAs c W D (Ok _) W' D' = Told c W D W' D'
TablesAs c W D (Err e) W' D' = Untold c W D e × (W' ≡ W) × (D' ≡ D)

pub record Tables (c : Circuit) (W D : List ℕ) (r : Result Unit Refusal) (W' D' : List ℕ) : Type 0 where
  pub outcome : TablesAs c W D r W' D'
