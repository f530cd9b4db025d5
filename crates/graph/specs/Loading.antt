-- What a load leaves.
use Rattle.std.specs.Prelude.{◌≡◌, ℕ, List, Some, Ok, Err, Option, Result}
use Rattle.model.specs.declared.Wire.{Wire}
use Rattle.model.specs.Circuit.{Circuit}
use Rattle.refusals.specs.declared.LoadRefusal.{LoadRefusal}
use Rattle.words.specs.declared.reader.Record.{Record}
use Rattle.words.specs.declared.reader.Record.TheVariants.{Gate, Wire as WireRecord, Clock}
use Rattle.words.specs.Netlist.{Netlist, Spells, circuit_of}
use Rattle.words.specs.Records.{gate_in, clock_in, wire_in}
use Rattle.file.specs.Faults.{FaultAt}
use Rattle.graph.specs.declared.graph.Graph.{Graph}
use Rattle.graph.specs.Reads.{circuit}
use Rattle.graph.specs.Calls.{after, gate_answer, with_gate, wire_answer, with_wire, clock_answer, with_clock}

-- the graph is the netlist's circuit with its clock
pub record Holds (n : Netlist) (t : Graph) : Type 0 where
  pub graph : circuit t ≡ circuit_of n
  pub clock : t.clock ≡ Some n.clock

-- The words spell a netlist, which is there in place of the old graph and clock.
pub record Replaced (ws : List ℕ) (t : Graph) : Type 0 where
  pub netlist : Netlist
  pub spelled : Spells ws netlist
  pub held : Holds netlist t

-- The words spell none; they are refused with their first fault, and nothing changes.
pub record Kept (ws : List ℕ) (old : Graph) (f : LoadRefusal) (t : Graph) : Type 0 where
  pub fault : FaultAt ws f
  pub none : (n : Netlist) → Spells ws n → ⊥
  pub same : t ≡ old

abbrev pub LoadsAs : List ℕ → Graph → Result Unit LoadRefusal → Graph → Type 0
LoadsAs ws old (Ok _) t = Replaced ws t
LoadsAs ws old (Err f) t = Kept ws old f t

pub record Loads (ws : List ℕ) (old : Graph) (r : Result Unit LoadRefusal) (t : Graph) : Type 0 where
  pub outcome : LoadsAs ws old r t

-- ---- one record more
-- what the call that a record stands for makes of a circuit and a clock
abbrev pub wired : Circuit → Wire → Circuit
wired c w =
    after (wire_answer c w.from w.to w.registers w.price w.floor w.ceiling) c
    (with_wire c w.from w.to w.registers w.price w.floor w.ceiling)

abbrev pub circuit_with : Circuit → Record → Circuit
circuit_with c (Gate part i) = after (gate_answer c (gate_in part.now)) c (with_gate c (gate_in part.now))
circuit_with c (WireRecord part i) = wired c (wire_in part.now)
circuit_with c (Clock part i) = c

abbrev pub clock_with : Option ℕ → Record → Option ℕ
clock_with t (Gate part i) = t
clock_with t (WireRecord part i) = t
clock_with t (Clock part i) = after (clock_answer (clock_in part.now)) t (with_clock (clock_in part.now))
