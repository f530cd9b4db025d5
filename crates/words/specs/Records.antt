-- The records of a file: parts of its words with their index.
use Rattle.std.specs.Prelude.{◌≡◌, ℕ, ◌+◌, ◌<◌, ◌≤◌, Bool, true, false, cond, ◌⊎◌, List, [], ◌∷◌, length, take, drop, Some, None, Option, nat_lt, slice_index}
use Rattle.words.specs.declared.Kind.{Kind}
use Rattle.words.specs.declared.Kind.TheVariants.{End, Gate, Wire, Fill, Clock, Cost, Label, Refused, Limited, Other}
use Rattle.words.specs.declared.reader.Record.{Record}
use Rattle.words.specs.declared.reader.Record.TheVariants.{Gate as GateRecord, Wire as WireRecord, Clock as ClockRecord}
use Rattle.words.specs.declared.reader.RecordIter.{RecordIter}
use Rattle.words.specs.Layout.{kind_of, delay_of, from_of, to_of, price_of, registers_of, floor_of, ceiling_of, clock_of}
use Rattle.words.specs.Netlist.{Wire as Wired, bare}

abbrev pub is_fill : Kind → Bool
is_fill k = elim k [ End ↦ false | Gate ↦ false | Wire ↦ false | Fill ↦ true | Clock ↦ false | Cost ↦ false | Label ↦ false | Refused ↦ false | Limited ↦ false | Other ↦ false ]

-- a record starts with a gate's, a wire's or a clock's word
abbrev pub opens : Kind → Bool
opens k = elim k [ End ↦ false | Gate ↦ true | Wire ↦ true | Fill ↦ false | Clock ↦ true | Cost ↦ false | Label ↦ false | Refused ↦ false | Limited ↦ false | Other ↦ false ]

-- the word at the index, if there is one, is a fill
abbrev pub fills_at : List ℕ → ℕ → Bool
fills_at ws at = cond (nat_lt at (length ws)) (is_fill (kind_of (slice_index ws at))) false

-- n words, the first of the kind, from the index
pub record Stretch (ws : List ℕ) (at : ℕ) (k : Kind) (n : ℕ) (part : List ℕ) (i : ℕ) : Type 0 where
  pub within : at < length ws
  pub kind : kind_of (slice_index ws at) ≡ k
  pub words : part ≡ take n (drop at ws)
  pub place : i ≡ at

abbrev pub StartsAs : List ℕ → ℕ → Option Record → Type 0
StartsAs ws at None = (length ws ≤ at) ⊎ (opens (kind_of (slice_index ws at)) ≡ false)
StartsAs ws at (Some (GateRecord part i)) = Stretch ws at Gate 1 part.now i
StartsAs ws at (Some (WireRecord part i)) = Stretch ws at Wire (cond (fills_at ws (at + 1)) 2 1) part.now i
StartsAs ws at (Some (ClockRecord part i)) = Stretch ws at Clock 1 part.now i

pub record Starts (ws : List ℕ) (at : ℕ) (r : Option Record) : Type 0 where
  pub outcome : StartsAs ws at r

-- the part that a record holds
abbrev pub part_of : Record → List ℕ
part_of (GateRecord part i) = part.now
part_of (WireRecord part i) = part.now
part_of (ClockRecord part i) = part.now

-- how many words a record has, if there is one
abbrev pub length_of : Option Record → ℕ
length_of None = 0
length_of (Some r) = length (part_of r)

-- of records that are read one after another: the words, and the index that is reached
abbrev pub read : RecordIter → List ℕ
read s = s.words.now

abbrev pub reached : RecordIter → ℕ
reached s = s.at

-- the record that starts at the index is given, if one does, and the index behind it is reached
pub record GivesRecord (s : RecordIter) (r : Option Record) (t : RecordIter) : Type 0 where
  pub starts : Starts (read s) (reached s) r
  pub same : read t ≡ read s
  pub behind : reached t ≡ reached s + length_of r

-- what the words of a record give: a gate's delay, the clock, the wire of one or two words
abbrev pub gate_in : List ℕ → ℕ
gate_in [] = 0
gate_in (w ∷ rest) = delay_of w

abbrev pub clock_in : List ℕ → ℕ
clock_in [] = 0
clock_in (w ∷ rest) = clock_of w

abbrev pub wire_in : List ℕ → Wired
wire_in [] = bare 0 0
wire_in (w ∷ []) = bare (from_of w) (to_of w)
wire_in (w ∷ f ∷ rest) = record { from = from_of w; to = to_of w; registers = registers_of f; price = price_of f; floor = floor_of f; ceiling = ceiling_of f }
