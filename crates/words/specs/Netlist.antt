-- What a file says, and which words say it.
use Rattle.std.specs.Prelude.{◌≡◌, ℕ, ◌+◌, ◌<◌, ◌≤◌, List, [], ◌∷◌, ◌++◌, map, length, Some}
use Rattle.std.specs.List.{AllByRecursion}
use Rattle.model.specs.Circuit.{Circuit}
use Rattle.words.specs.Layout.{gate_word, wire_word, fill_word, clock_word, end_word}
pub use Rattle.model.specs.declared.Wire.{Wire}

-- The delays of the gates after the host, the wires by number, and the clock.
pub record Netlist : Type 0 where
  pub delays : List ℕ
  pub wires : List Wire
  pub clock : ℕ

-- the circuit: the host has delay 0, and no wire is dropped
abbrev pub circuit_of : Netlist → Circuit
circuit_of n = record { delays = 0 ∷ n.delays; wires = map Some n.wires }

-- A wire that joins two of the host and n gates more, with its numbers in range.
pub record Joins (n : ℕ) (v : Wire) : Type 0 where
  pub from : v.from ≤ n
  pub to : v.to ≤ n
  pub registers : v.registers < 0x100
  pub cheap : v.price ≤ 16
  pub priced : 1 ≤ v.price
  pub ordered : v.floor ≤ v.ceiling
  pub ceiling : v.ceiling < 0x100

-- What the calls for a gate, a wire and a clock take.
pub record WithinLimits (n : Netlist) : Type 0 where
  pub few : length n.delays ≤ 127
  pub short : AllByRecursion (λ d. d < 0x1_0000) n.delays
  pub held : length n.wires ≤ 512
  pub joins : AllByRecursion (Joins (length n.delays)) n.wires
  pub ticks : 1 ≤ n.clock
  pub limit : n.clock < 0x100_0000

-- a wire word alone gives price 1, no registers, floor 0 and ceiling 255
abbrev pub bare : ℕ → ℕ → Wire
bare from to = record { from = from; to = to; registers = 0; price = 1; floor = 0; ceiling = 255 }

-- The words of the wires: for each its wire word, and then its fill word or none.
pub data WireWords : List Wire → List ℕ → Type 0 where
  none : WireWords [] []
  alone : {from to : ℕ} {vs : List Wire} {ws : List ℕ} → WireWords vs ws → WireWords (bare from to ∷ vs) (wire_word from to ∷ ws)
  filled : {v : Wire} {vs : List Wire} {ws : List ℕ} → WireWords vs ws → WireWords (v ∷ vs) (wire_word v.from v.to ∷ fill_word v.price v.registers v.floor v.ceiling ∷ ws)

-- The words of a netlist: of the gates, the wires and the clock, and the end with the count of the words before it.
pub record Spells (ws : List ℕ) (n : Netlist) : Type 0 where
  pub fits : WithinLimits n
  pub body : List ℕ
  pub wires : WireWords n.wires body
  pub whole : ws ≡ map gate_word n.delays ++ (body ++ (clock_word n.clock ∷ end_word (length n.delays + length body + 1) ∷ []))

-- Words that a netlist begins with.
pub record Begins (front : List ℕ) : Type 0 where
  pub rest : List ℕ
  pub netlist : Netlist
  pub spelled : Spells (front ++ rest) netlist
