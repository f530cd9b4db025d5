-- What the bench says of words.
use Rattle.std.specs.Prelude.{◌≡◌, ℕ, Bool, true, false, ◌⊎◌, List, length, Ok, Err, Result}
use Rattle.model.specs.Circuit.{gates}
use Rattle.refusals.specs.declared.LoadRefusal.{LoadRefusal}
use Rattle.refusals.specs.declared.LoadRefusal.TheVariants.{Call}
use Rattle.refusals.specs.declared.Refusal.TheVariants.{BadEnd}
use Rattle.words.specs.Netlist.{Netlist, Spells, circuit_of}
use Rattle.file.specs.Faults.{FaultAt}
use Rattle.graph.specs.Measures.{Measured}
use Rattle.graph.specs.Critical.{Critical}
use Rattle.bench.specs.declared.finding.Finding.{Finding}

-- the netlist that the words spell, in numbers: how many gates and wires, its clock, and the period of its circuit with a path that takes so long, or refusal 14
pub record Found (ws : List ℕ) (f : Finding) : Type 0 where
  pub netlist : Netlist
  pub spelled : Spells ws netlist
  pub gates : f.gates ≡ gates (circuit_of netlist)
  pub wires : f.wires ≡ length netlist.wires
  pub clock : f.clock ≡ netlist.clock
  pub period : Measured (circuit_of netlist) f.period
  pub slowest : Critical (circuit_of netlist) f.slowest

-- the words spell a netlist, but bytes are left over
pub record Overlong (ws : List ℕ) (e : LoadRefusal) : Type 0 where
  pub netlist : Netlist
  pub spelled : Spells ws netlist
  pub says : e ≡ Call (BadEnd (length ws))

abbrev pub InspectedAs : List ℕ → Bool → Result Finding LoadRefusal → Type 0
InspectedAs ws spare (Ok f) = (spare ≡ false) × Found ws f
InspectedAs ws spare (Err e) = FaultAt ws e ⊎ ((spare ≡ true) × Overlong ws e)

pub record Inspected (ws : List ℕ) (spare : Bool) (r : Result Finding LoadRefusal) : Type 0 where
  pub outcome : InspectedAs ws spare r
