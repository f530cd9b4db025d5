-- Words are one file, or have one fault.
use Rattle.std.specs.Prelude.{◌≡◌, ℕ, ◌≤◌, ◌↔◌, List, [], ◌∷◌, ◌++◌, take, None}
use Rattle.refusals.specs.declared.LoadRefusal.{LoadRefusal}
use Rattle.refusals.specs.Refusals.{load_place_of}
use Rattle.words.specs.Netlist.{Netlist, Spells, Begins}
use Rattle.file.specs.Faults.{before, wrong, FaultAt}

pub record OneMeaning : Type 0 where
  -- nothing is wrong with a word exactly where a file goes on with it
  pub next_word : (front : List ℕ) (w : ℕ) → Begins front → (wrong (before front) w ≡ None) ↔ Begins (front ++ w ∷ [])
  pub one_fault : (ws : List ℕ) (f g : LoadRefusal) → FaultAt ws f → FaultAt ws g → f ≡ g
  pub no_fault : (ws : List ℕ) (f : LoadRefusal) (s : Netlist) → FaultAt ws f → Spells ws s → ⊥
  pub one_reading : (ws : List ℕ) (s t : Netlist) → Spells ws s → Spells ws t → s ≡ t
  -- 127 gates, 512 wires with fills, the clock and the end are 1,153 words
  pub place : (ws : List ℕ) (f : LoadRefusal) → FaultAt ws f → load_place_of f ≤ 1153
  -- so the first 1,154 words show it
  pub early : (ws : List ℕ) (k : ℕ) (f : LoadRefusal) → 1154 ≤ k → FaultAt (take k ws) f → FaultAt ws f
