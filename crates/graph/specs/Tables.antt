-- What the tables of a graph keep: wires in range between gates, and a clock in range.
use Rattle.std.specs.Prelude.{◌≡◌, ℕ, ◌<◌, ◌≤◌, Bool, true, ◌&&◌, List, Some, None, Option, nat_le, slice_index_or}
use Rattle.graph.specs.declared.graph.ends.Ends.{Ends}

-- wire k is there, with these ends
abbrev pub At : List (Option Ends) → ℕ → Ends → Type 0
At wires k e = slice_index_or wires k None ≡ Some e

-- between two of that many gates, at a price of 1 to 16, with a floor not above its ceiling
abbrev pub Between : ℕ → Ends → Type 0
Between gates e = (e.from < gates) × (e.to < gates) × (1 ≤ e.price) × (e.price ≤ 16) × (e.floor ≤ e.ceiling)

abbrev pub Inside : List (Option Ends) → ℕ → Type 0
Inside wires gates = (k : ℕ) (e : Ends) → At wires k e → Between gates e

-- each ceiling is at most 255
abbrev pub Ceilings : List (Option Ends) → Type 0
Ceilings wires = (k : ℕ) (e : Ends) → At wires k e → e.ceiling ≤ 255

abbrev pub ticks_test : Option ℕ → Bool
ticks_test None = true
ticks_test (Some c) = nat_le 1 c && nat_le c 16777215

-- a clock, if there is one, is 1 to 16,777,215
abbrev pub Ticks : Option ℕ → Type 0
Ticks clock = ticks_test clock ≡ true
