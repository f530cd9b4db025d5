-- What a step of the machine gives.
use Rattle.std.specs.Prelude.{ℕ, ◌+◌, Bool, cond, List, [], ◌∷◌, Some, None, Option}
use Rattle.words.specs.declared.Kind.{Kind}
use Rattle.words.specs.declared.Kind.TheVariants.{End, Gate, Wire, Fill, Clock}
use Rattle.words.specs.Layout.{kind_of}
use Rattle.refusals.specs.declared.Refusal.{Refusal}
use Rattle.refusals.specs.declared.Refusal.TheVariants.{AfterEnd, NotNext}
use Rattle.file.specs.declared.machine.State.{State}
use Rattle.file.specs.declared.machine.State.TheVariants.{Gates, Wires, Clock as Clocked, End as Ended}
use Rattle.file.specs.declared.machine.Seen.{Seen}
use Rattle.file.specs.Faults.{Before, is_gate, is_wire, is_end, may_follow}

-- at the start
abbrev pub start : Before
start = record { last = Gate; gates = 0; wires = 0; words = 0 }

-- one word more, of that kind
abbrev pub more : Kind → Before → Before
more k b = record { last = k; gates = cond (is_gate k) (b.gates + 1) b.gates; wires = cond (is_wire k) (b.wires + 1) b.wires; words = b.words + 1 }

abbrev pub up_to : Before → List ℕ → Before
up_to b [] = b
up_to b (w ∷ ws) = up_to (more (kind_of w) b) ws

-- the kind of the last word
abbrev pub last_of : State → Bool → Kind
last_of Gates unfilled = Gate
last_of Wires unfilled = cond unfilled Wire Fill
last_of Clocked unfilled = Clock
last_of Ended unfilled = End

abbrev pub shown : Seen → Before
shown s = record { last = last_of s.state s.unfilled; gates = s.gates; wires = s.wires; words = s.words }

-- the state after a word of the kind
abbrev pub state_of : Kind → State
state_of Gate = Gates
state_of Wire = Wires
state_of Fill = Wires
state_of Clock = Clocked
state_of k = Ended

-- why a word of the kind may not stand next
abbrev pub barred : Before → Kind → Option Refusal
barred b kind = cond (is_end b.last) (Some (AfterEnd b.words)) (cond (may_follow b.last kind) None (Some (NotNext b.words)))
