-- The layout of a reply's words.
use Rattle.std.specs.Prelude.{ℕ, ◌+◌, ◌-◌, ◌*◌, ◌/◌, ◌%◌, ◌<◌, cond, ℤ, pos, negsuc, nat_lt}
use Rattle.replies.specs.declared.LimitWord.{LimitWord}
use Rattle.replies.specs.declared.LimitWord.TheVariants.{Floor, Ceiling, Clock, Rule}
use Rattle.words.specs.declared.LimitKind.{LimitKind}
use Rattle.words.specs.declared.LimitKind.TheVariants.{Floor as FloorKind, Ceiling as CeilingKind, Clock as ClockKind, Rule as RuleKind}
use Rattle.words.specs.Layout.{from_of, to_of, limit_kind_of}

-- two's complement of 16 bits: the numbers from 2 ^ 15 on stand for those below 0, 2 ^ 16 less
abbrev pub signed : ℕ → ℤ
signed n = cond (nat_lt n 0x8000) (pos n) (negsuc (0xFFFF - n))

abbrev pub complement : ℤ → ℕ
complement (pos n) = n
complement (negsuc n) = 0xFFFF - n

-- the fields: the cost; a label's gate and number; a refusal's number and place; which limit, and what it names
abbrev pub cost_of : ℕ → ℕ
cost_of w = w % 0x1000_0000

abbrev pub gate_of : ℕ → ℕ
gate_of w = w / 0x1_0000 % 0x80

abbrev pub label_of : ℕ → ℤ
label_of w = signed (w % 0x1_0000)

abbrev pub refusal_number_of : ℕ → ℕ
refusal_number_of w = w / 0x10_0000 % 0x100

abbrev pub refusal_place_of : ℕ → ℕ
refusal_place_of w = w % 0x10_0000

abbrev pub limit_at : LimitKind → ℕ → LimitWord
limit_at FloorKind w = Floor (w % 0x200)
limit_at CeilingKind w = Ceiling (w % 0x200)
limit_at ClockKind w = Clock (from_of w) (to_of w)
limit_at RuleKind w = Rule (w % 0x400)

abbrev pub limit_of : ℕ → LimitWord
limit_of w = limit_at (limit_kind_of w) w

-- the words of each kind
abbrev pub cost_word : ℕ → ℕ
cost_word cost = 0x5000_0000 + cost

abbrev pub label_word : ℕ → ℤ → ℕ
label_word gate label = 0x6000_0000 + gate * 0x1_0000 + complement label

abbrev pub refusal_word : ℕ → ℕ → ℕ
refusal_word number place = 0x7000_0000 + number * 0x10_0000 + place

abbrev pub limit_word : LimitWord → ℕ
limit_word (Floor wire) = 0x8000_0000 + wire
limit_word (Ceiling wire) = 0x8000_0000 + 0x400_0000 + wire
limit_word (Clock from to) = 0x8000_0000 + 2 * 0x400_0000 + from * 0x80 + to
limit_word (Rule rule) = 0x8000_0000 + 3 * 0x400_0000 + rule

-- the numbers of a limit have no more bits than their fields
abbrev pub InFields : LimitWord → Type 0
InFields (Floor wire) = wire < 0x200
InFields (Ceiling wire) = wire < 0x200
InFields (Clock from to) = (from < 0x80) × (to < 0x80)
InFields (Rule rule) = rule < 0x400
