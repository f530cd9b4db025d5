-- The answer of each call, and the circuit after it.
use Rattle.std.specs.Prelude.{ℕ, cond, ◌||◌, [], ◌∷◌, ◌++◌, length, is_some, Some, None, Ok, Err, Option, Result, nat_le, nat_lt, slice_index_or, slice_set}
use Rattle.model.specs.declared.Wire.{Wire}
use Rattle.model.specs.Circuit.{Circuit, gates}
use Rattle.refusals.specs.declared.Refusal.{Refusal}
use Rattle.refusals.specs.declared.Refusal.TheVariants.{Range, NoGate, NoWire, Reversed, Full, WiresUsed}

abbrev pub host_alone : Circuit
host_alone = record { delays = 0 ∷ []; wires = [] }

-- a refused call leaves things as they were
abbrev pub after : {A S : Type 0} → Result A Refusal → S → S → S
after (Ok _) old new = new
after (Err _) old new = old

abbrev pub gate_answer : Circuit → ℕ → Result ℕ Refusal
gate_answer c d =
    cond (nat_lt 65535 d) (Err (Range 0))
    (cond (nat_le 128 (gates c)) (Err (Full 0)) (Ok (gates c)))

abbrev pub with_gate : Circuit → ℕ → Circuit
with_gate c d = record { delays = c.delays ++ d ∷ []; wires = c.wires }

abbrev pub wire_answer : Circuit → ℕ → ℕ → ℕ → ℕ → ℕ → ℕ → Result ℕ Refusal
wire_answer c from to registers price floor ceiling =
    cond (nat_le (gates c) from) (Err (NoGate 0))
    (cond (nat_le (gates c) to) (Err (NoGate 1))
    (cond (nat_lt 255 registers) (Err (Range 2))
    (cond (nat_lt price 1 || nat_lt 16 price) (Err (Range 3))
    (cond (nat_lt 255 floor) (Err (Range 4))
    (cond (nat_lt 255 ceiling) (Err (Range 5))
    (cond (nat_lt ceiling floor) (Err (Reversed 4))
    (cond (nat_le 512 (length c.wires)) (Err WiresUsed) (Ok (length c.wires)))))))))

abbrev pub with_wire : Circuit → ℕ → ℕ → ℕ → ℕ → ℕ → ℕ → Circuit
with_wire c from to registers price floor ceiling =
    record { delays = c.delays; wires = c.wires ++ Some (record { from = from; to = to; registers = registers; price = price; floor = floor; ceiling = ceiling }) ∷ [] }

-- the place of a wire that is there
abbrev pub there : Circuit → ℕ → Result ℕ Refusal
there c wire = cond (is_some (slice_index_or c.wires wire None)) (Ok wire) (Err (NoWire wire))

abbrev pub set_answer : Circuit → ℕ → ℕ → Result Unit Refusal
set_answer c wire n =
    cond (is_some (slice_index_or c.wires wire None)) (cond (nat_lt 255 n) (Err (Range 1)) (Ok tt)) (Err (NoWire wire))

abbrev pub holding : ℕ → Option Wire → Option Wire
holding n None = None
holding n (Some w) = Some (record { from = w.from; to = w.to; registers = n; price = w.price; floor = w.floor; ceiling = w.ceiling })

abbrev pub with_set : Circuit → ℕ → ℕ → Circuit
with_set c wire n = record { delays = c.delays; wires = slice_set c.wires wire (holding n (slice_index_or c.wires wire None)) }

abbrev pub drop_answer : Circuit → ℕ → Result Unit Refusal
drop_answer c wire = cond (is_some (slice_index_or c.wires wire None)) (Ok tt) (Err (NoWire wire))

abbrev pub with_drop : Circuit → ℕ → Circuit
with_drop c wire = record { delays = c.delays; wires = slice_set c.wires wire None }

abbrev pub clock_answer : ℕ → Result Unit Refusal
clock_answer t = cond (nat_lt t 1 || nat_lt 16777215 t) (Err (Range 0)) (Ok tt)

abbrev pub with_clock : ℕ → Option ℕ
with_clock t = Some t
