-- The layout of a file's words, as numbers: kind times 2 ^ 28, and the fields below.
use Rattle.std.specs.Prelude.{◌≡◌, ℕ, ◌+◌, ◌-◌, ◌*◌, ◌/◌, ◌%◌, Bool, false, cond, Some, None, Option, ◌==◌, nat_le}
use Rattle.words.specs.declared.Kind.{Kind}
use Rattle.words.specs.declared.LimitKind.{LimitKind}
use Rattle.words.specs.declared.LimitKind.TheVariants.{Floor, Ceiling, Clock as ClockLimit, Rule}
use Rattle.words.specs.declared.Kind.TheVariants.{End, Gate, Wire, Fill, Clock, Cost, Label, Refused, Limited, Other}

-- the kind that the top four bits name
abbrev pub kind_at : ℕ → Kind
kind_at n =
    cond (n == 0) End
    (cond (n == 1) Gate
    (cond (n == 2) Wire
    (cond (n == 3) Fill
    (cond (n == 4) Clock
    (cond (n == 5) Cost
    (cond (n == 6) Label
    (cond (n == 7) Refused
    (cond (n == 8) Limited Other))))))))

abbrev pub kind_of : ℕ → Kind
kind_of w = kind_at (w / 0x1000_0000)

-- the fields: a gate's delay; a wire's ends; what a fill gives a wire; the clock; the count of an end
abbrev pub delay_of : ℕ → ℕ
delay_of w = w % 0x1_0000

abbrev pub from_of : ℕ → ℕ
from_of w = w / 0x80 % 0x80

abbrev pub to_of : ℕ → ℕ
to_of w = w % 0x80

abbrev pub price_of : ℕ → ℕ
price_of w = w / 0x100_0000 % 16 + 1

abbrev pub registers_of : ℕ → ℕ
registers_of w = w / 0x1_0000 % 0x100

abbrev pub floor_of : ℕ → ℕ
floor_of w = w / 0x100 % 0x100

abbrev pub ceiling_of : ℕ → ℕ
ceiling_of w = w % 0x100

abbrev pub clock_of : ℕ → ℕ
clock_of w = w % 0x100_0000

abbrev pub count_of : ℕ → ℕ
count_of w = w % 0x1000_0000

-- which limit a limit states: the two bits below the kind name it
abbrev pub limit_kind_at : ℕ → LimitKind
limit_kind_at n = cond (n == 0) Floor (cond (n == 1) Ceiling (cond (n == 2) ClockLimit Rule))

abbrev pub limit_kind_of : ℕ → LimitKind
limit_kind_of w = limit_kind_at (w / 0x400_0000 % 4)

-- what the fields of a limit are below: the wire's number of a floor or a ceiling, the two gates of the clock, the index of a rule
abbrev pub limit_room : LimitKind → ℕ
limit_room Floor = 0x200
limit_room Ceiling = 0x200
limit_room ClockLimit = 0x4000
limit_room Rule = 0x400

-- a bit below the kind is set that the kind does not name: 16 and up of a gate, 14 and up of a wire, 24 and up of a clock,
-- 23 and up of a label, and of a limit those between its fields and the two bits that say which it is
abbrev pub stray_in : Kind → ℕ → Bool
stray_in End low = false
stray_in Gate low = nat_le 0x1_0000 low
stray_in Wire low = nat_le 0x4000 low
stray_in Fill low = false
stray_in Clock low = nat_le 0x100_0000 low
stray_in Cost low = false
stray_in Label low = nat_le 0x80_0000 low
stray_in Refused low = false
stray_in Limited low = nat_le (limit_room (limit_kind_at (low / 0x400_0000))) (low % 0x400_0000)
stray_in Other low = false

abbrev pub stray : ℕ → Bool
stray w = stray_in (kind_of w) (w % 0x1000_0000)

-- the words of each kind
abbrev pub gate_word : ℕ → ℕ
gate_word delay = 0x1000_0000 + delay

abbrev pub wire_word : ℕ → ℕ → ℕ
wire_word from to = 0x2000_0000 + from * 0x80 + to

abbrev pub fill_word : ℕ → ℕ → ℕ → ℕ → ℕ
fill_word price registers floor ceiling = 0x3000_0000 + (price - 1) * 0x100_0000 + registers * 0x1_0000 + floor * 0x100 + ceiling

abbrev pub clock_word : ℕ → ℕ
clock_word clock = 0x4000_0000 + clock

abbrev pub end_word : ℕ → ℕ
end_word count = count

-- the word where its numbers fit, and none where they do not
abbrev pub Makes : Type 0 → ℕ → Option ℕ → Type 0
Makes Fit w None = Fit → ⊥
Makes Fit w (Some r) = Fit × (r ≡ w)
