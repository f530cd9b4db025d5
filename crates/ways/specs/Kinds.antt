-- The two kinds of distance of the crate.
use Rattle.std.specs.Prelude.{ℕ, ◌+◌, ◌*◌, ◌≤◌, Bool, ◌&&◌, ◌||◌, ℤ, pos, ◌+ℤ◌, neg_ℤ, ◌≤ℤ◌, ◌==◌, nat_le, nat_lt}
use Rattle.std.specs.Int.Signed.{le_z}
use Rattle.ways.specs.Laws.{Kind}

-- registers and delay: fewer registers is less, and then more delay is less
abbrev pub no_delay : ℕ × ℕ
no_delay = (0, 0)

abbrev pub both : ℕ × ℕ → ℕ × ℕ → ℕ × ℕ
both x y = (x.0 + y.0, x.1 + y.1)

abbrev pub sooner : ℕ × ℕ → ℕ × ℕ → Bool
sooner x y = nat_lt x.0 y.0 || (x.0 == y.0 && nat_le y.1 x.1)

abbrev pub StepsOf : ℕ → ℕ × ℕ → Type 0
StepsOf k x = (x.0 ≤ k * 16777215) × (x.1 ≤ k * 16777215)

abbrev pub delays : Kind (ℕ × ℕ)
delays = record { zero = no_delay; sum = both; upto = sooner; fits = StepsOf }

-- whole numbers in their order
abbrev pub ShiftsOf : ℕ → ℤ → Type 0
ShiftsOf k x = (neg_ℤ (pos (k * 16777215)) ≤ℤ x) × (x ≤ℤ pos (k * 16777215))

abbrev pub shifts : Kind ℤ
shifts = record { zero = pos 0; sum = ◌+ℤ◌; upto = le_z; fits = ShiftsOf }
