-- What is wrong with words that are no file: the first word that does not follow what stands before it.
use Rattle.std.specs.Prelude.{◌≡◌, ℕ, ◌<◌, Bool, true, false, cond, not, ◌&&◌, ◌||◌, List, [], ◌∷◌, length, take, Some, None, Ok, Err, count_by, Option, Result, ◌==◌, nat_le, nat_lt, slice_index}
use Rattle.words.specs.declared.Kind.{Kind}
use Rattle.words.specs.declared.Kind.TheVariants.{End, Gate, Wire, Fill, Clock}
use Rattle.words.specs.Layout.{kind_of, stray, from_of, to_of, floor_of, ceiling_of, clock_of, count_of}
use Rattle.refusals.specs.declared.Refusal.TheVariants.{Range, NoGate, Reversed, NotNext, StrayBit, BadEnd, AfterEnd, Full, WiresUsed}
use Rattle.refusals.specs.declared.LoadRefusal.{LoadRefusal}
use Rattle.refusals.specs.declared.LoadRefusal.TheVariants.{Call, Word}
use Rattle.words.specs.Netlist.{Netlist, Spells, Begins}

-- What stands before a word: the kind of the last word, the gate words, the wire words, and the words in all.
pub record Before : Type 0 where
  pub last : Kind
  pub gates : ℕ
  pub wires : ℕ
  pub words : ℕ

-- the kind of the last word, or the kind k where there is none
abbrev pub last_kind : Kind → List ℕ → Kind
last_kind k [] = k
last_kind k (w ∷ ws) = last_kind (kind_of w) ws

abbrev pub is_gate : Kind → Bool
is_gate Gate = true
is_gate k = false

abbrev pub is_wire : Kind → Bool
is_wire Wire = true
is_wire k = false

abbrev pub is_fill : Kind → Bool
is_fill Fill = true
is_fill k = false

abbrev pub is_clock : Kind → Bool
is_clock Clock = true
is_clock k = false

abbrev pub is_end : Kind → Bool
is_end End = true
is_end k = false

-- at the start, as after a gate: the host is there
abbrev pub before : List ℕ → Before
before front = record { last = last_kind Gate front; gates = count_by (λ w. is_gate (kind_of w)) front; wires = count_by (λ w. is_wire (kind_of w)) front; words = length front }

-- Gates, then wires with their fills, then one clock, then the end: what may stand after a word of the first kind.
abbrev pub may_follow : Kind → Kind → Bool
may_follow last k =
    (is_gate last && (is_gate k || (is_wire k || is_clock k)))
    || ((is_wire last && (is_wire k || (is_fill k || is_clock k)))
    || ((is_fill last && (is_wire k || is_clock k))
    || (is_clock last && is_end k)))

-- what the call refuses that a word stands for, kept whole with the word's index; an end's count is that of the words before it
abbrev pub called : Kind → Before → ℕ → Option LoadRefusal
called k b w =
    cond (is_gate k && nat_le 127 b.gates) (Some (Word b.words (Full 0)))
    (cond (is_wire k && nat_lt b.gates (from_of w)) (Some (Word b.words (NoGate 0)))
    (cond (is_wire k && nat_lt b.gates (to_of w)) (Some (Word b.words (NoGate 1)))
    (cond (is_wire k && nat_le 512 b.wires) (Some (Word b.words WiresUsed))
    (cond (is_fill k && nat_lt (ceiling_of w) (floor_of w)) (Some (Word b.words (Reversed 4)))
    (cond (is_clock k && clock_of w == 0) (Some (Word b.words (Range 0)))
    (cond (is_end k && not (count_of w == b.words)) (Some (Call (BadEnd b.words))) None))))))

-- The first of these that is wrong with a word: it stands after the end, its kind may not stand here, a stray bit is set, the count or the call.
abbrev pub wrong : Before → ℕ → Option LoadRefusal
wrong b w =
    cond (is_end b.last) (Some (Call (AfterEnd b.words)))
    (cond (may_follow b.last (kind_of w)) (cond (stray w) (Some (Call (StrayBit b.words))) (called (kind_of w) b w)) (Some (Call (NotNext b.words))))

-- The fault of words that are no file: the words before it are the front of a file, and it is wrong there; or they run out.
pub data FaultAt (ws : List ℕ) : LoadRefusal → Type 0 where
  word : {f : LoadRefusal} (at : ℕ) → Begins (take at ws) → at < length ws → wrong (before (take at ws)) (slice_index ws at) ≡ Some f → FaultAt ws f
  missing : Begins ws → ((s : Netlist) → Spells ws s → ⊥) → FaultAt ws (Call (BadEnd (length ws)))

abbrev pub JudgedAs : List ℕ → Result Unit LoadRefusal → Type 0
JudgedAs ws (Ok u) = (s : Netlist) × Spells ws s
JudgedAs ws (Err f) = FaultAt ws f

-- a file, or its fault
pub record Judged (ws : List ℕ) (r : Result Unit LoadRefusal) : Type 0 where
  pub outcome : JudgedAs ws r
