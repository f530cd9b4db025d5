-- What a write leaves, and what it is worth: the file loads as the same graph.
use Rattle.std.specs.Prelude.{◌≡◌, ℕ, ◌+◌, ◌-◌, ◌*◌, ◌<◌, ◌≤◌, ◌⊎◌, List, map, length, take, drop, Some, None, Ok, Err, Result}
use Rattle.model.specs.Circuit.{Circuit, gates, live}
use Rattle.refusals.specs.declared.Refusal.{Refusal}
use Rattle.refusals.specs.declared.Refusal.TheVariants.{Memory, NoClock}
use Rattle.refusals.specs.declared.LoadRefusal.{LoadRefusal}
use Rattle.words.specs.Netlist.{Netlist}
use Rattle.writer.specs.Writing.{FileIn}
use Rattle.graph.specs.declared.graph.Graph.{Graph}
use Rattle.graph.specs.Reads.{circuit}
use Rattle.graph.specs.Loading.{Loads}

-- the gates after the host, the live wires in the order of their numbers, and the clock
abbrev pub netlist_of : Circuit → ℕ → Netlist
netlist_of c t = record { delays = drop 1 c.delays; wires = live c; clock = t }

-- a word for each gate but the host, two for each live wire, the clock and the end
abbrev pub needed : Circuit → ℕ
needed c = gates c - 1 + 2 * length (live c) + 2

-- The file stands at the start of the memory, n words long; all else is as it was.
pub record Written (g : Graph) (old : List ℕ) (n : ℕ) (out : List ℕ) : Type 0 where
  pub clock : ℕ
  pub clocked : g.clock ≡ Some clock
  pub long : n ≡ needed (circuit g)
  pub file : FileIn (netlist_of (circuit g) clock) old n out

pub record Short (g : Graph) (old : List ℕ) (e : Refusal) : Type 0 where
  pub says : e ≡ Memory 5
  pub room : length old < needed (circuit g)

pub record Clockless (g : Graph) (old : List ℕ) (e : Refusal) : Type 0 where
  pub says : e ≡ NoClock
  pub room : needed (circuit g) ≤ length old
  pub clock : g.clock ≡ None

abbrev pub WritesAs : Graph → List ℕ → Result ℕ Refusal → List ℕ → Type 0
WritesAs g old (Ok n) out = Written g old n out
WritesAs g old (Err e) out = (Short g old e ⊎ Clockless g old e) × (out ≡ old)

pub record Writes (g : Graph) (old : List ℕ) (r : Result ℕ Refusal) (out : List ℕ) : Type 0 where
  pub outcome : WritesAs g old r out

-- the same gates and clock, and the wires that were not dropped, numbered anew
pub record Same (g h : Graph) : Type 0 where
  pub gates : (circuit h).delays ≡ (circuit g).delays
  pub wires : (circuit h).wires ≡ map Some (live (circuit g))
  pub clock : h.clock ≡ g.clock

-- Whatever graph is written, and whatever graph then loads what was written: the load is taken, and gives the same graph.
abbrev pub Again : Type 0
Again = (g : Graph) (old : List ℕ) (n : ℕ) (out : List ℕ) → Written g old n out → (before after : Graph) (r : Result Unit LoadRefusal) → Loads (take n out) before r after → (r ≡ Ok tt) × Same g after
