-- The circuit that the tables hold.
use Rattle.std.specs.Prelude.{ℕ, List, [], ◌∷◌, Some, None, Option}
use Rattle.model.specs.declared.Wire.{Wire}
use Rattle.model.specs.Circuit.{Circuit}
use Rattle.graph.specs.declared.graph.ends.Ends.{Ends}
use Rattle.graph.specs.declared.graph.rows.Rows.{Rows}
use Rattle.graph.specs.declared.graph.Graph.{Graph}

abbrev pub wire_by : Ends → ℕ → Wire
wire_by e r = record { from = e.from; to = e.to; registers = r; price = e.price; floor = e.floor; ceiling = e.ceiling }

-- a dropped wire is None
abbrev pub wire_of : Option Ends → ℕ → Option Wire
wire_of None r = None
wire_of (Some e) r = Some (wire_by e r)

abbrev pub wires_of : List (Option Ends) → List ℕ → List (Option Wire)
wires_of [] rs = []
wires_of (e ∷ es) [] = []
wires_of (e ∷ es) (r ∷ rs) = wire_of e r ∷ wires_of es rs

abbrev pub circuit_of : List ℕ → List (Option Ends) → List ℕ → Circuit
circuit_of ds es rs = record { delays = ds; wires = wires_of es rs }

abbrev pub circuit_in : Rows → Circuit
circuit_in r = circuit_of r.delays.now r.wires.now r.registers.now

abbrev pub circuit : Graph → Circuit
circuit g = circuit_of g.delays.items g.wires.items g.registers.items
