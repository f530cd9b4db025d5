-- What stands in a memory that a file is put into.
use Rattle.std.specs.Prelude.{◌≡◌, ℕ, ◌+◌, ◌<◌, ◌≤◌, List, [], ◌∷◌, ◌++◌, map, length, take, drop, Option}
use Rattle.std.specs.List.{AllByRecursion}
use Rattle.model.specs.Circuit.{kept}
use Rattle.words.specs.Layout.{gate_word, wire_word, fill_word, clock_word, end_word}
use Rattle.words.specs.Netlist.{Wire, Netlist, Joins, Spells}

-- a wire word and a fill word for each wire
abbrev pub body_of : List Wire → List ℕ
body_of [] = []
body_of (v ∷ vs) = wire_word v.from v.to ∷ fill_word v.price v.registers v.floor v.ceiling ∷ body_of vs

-- the file with every fill
abbrev pub file_of : Netlist → List ℕ
file_of n = map gate_word n.delays ++ (body_of n.wires ++ (clock_word n.clock ∷ end_word (length n.delays + length (body_of n.wires) + 1) ∷ []))

-- the memory begins with these words; all else is as it was
abbrev pub Puts : List ℕ → List ℕ → List ℕ → Type 0
Puts old xs out = out ≡ xs ++ drop (length xs) old

-- few gates and wires, which join the gates, and a clock in range
pub record Tabled (delays : List ℕ) (wires : List (Option Wire)) (clock : ℕ) : Type 0 where
  pub few : length delays ≤ 127
  pub held : length wires ≤ 512
  pub joins : AllByRecursion (Joins (length delays)) (kept wires)
  pub ticks : 1 ≤ clock
  pub limit : clock < 0x100_0000

-- k words at the start of the memory are the netlist's file, and spell it; all else is as it was
pub record FileIn (n : Netlist) (old : List ℕ) (k : ℕ) (out : List ℕ) : Type 0 where
  pub long : k ≡ length (file_of n)
  pub words : out ≡ file_of n ++ drop k old
  pub reads : Spells (take k out) n
