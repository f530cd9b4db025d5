-- A word is made of its fields and taken apart into them, both ways.
use Rattle.std.specs.Prelude.{◌≡◌, ℕ, ◌<◌, ◌≤◌, false}
use Rattle.words.specs.declared.Kind.{Kind}
use Rattle.words.specs.declared.Kind.TheVariants.{End, Gate, Wire, Fill, Clock}
use Rattle.words.specs.Layout.{kind_of, stray, delay_of, from_of, to_of, price_of, registers_of, floor_of, ceiling_of, clock_of, count_of, gate_word, wire_word, fill_word, clock_word, end_word}

-- a word of that kind without a stray bit
pub record Plain (k : Kind) (w : ℕ) : Type 0 where
  pub kind : kind_of w ≡ k
  pub clean : stray w ≡ false

pub record Trips : Type 0 where
  pub gate : (d : ℕ) → d < 0x1_0000 → Plain Gate (gate_word d) × (delay_of (gate_word d) ≡ d)
  pub wire : (f t : ℕ) → f < 0x80 → t < 0x80 → Plain Wire (wire_word f t) × (from_of (wire_word f t) ≡ f) × (to_of (wire_word f t) ≡ t)
  pub fill : (p r f c : ℕ) → 1 ≤ p → p ≤ 16 → r < 0x100 → f < 0x100 → c < 0x100 → Plain Fill (fill_word p r f c) × (price_of (fill_word p r f c) ≡ p) × (registers_of (fill_word p r f c) ≡ r) × (floor_of (fill_word p r f c) ≡ f) × (ceiling_of (fill_word p r f c) ≡ c)
  pub clock : (c : ℕ) → c < 0x100_0000 → Plain Clock (clock_word c) × (clock_of (clock_word c) ≡ c)
  pub end : (n : ℕ) → n < 0x1000_0000 → Plain End (end_word n) × (count_of (end_word n) ≡ n)
  pub gate_back : (w : ℕ) → Plain Gate w → gate_word (delay_of w) ≡ w
  pub wire_back : (w : ℕ) → Plain Wire w → wire_word (from_of w) (to_of w) ≡ w
  pub fill_back : (w : ℕ) → Plain Fill w → fill_word (price_of w) (registers_of w) (floor_of w) (ceiling_of w) ≡ w
  pub clock_back : (w : ℕ) → Plain Clock w → clock_word (clock_of w) ≡ w
  pub end_back : (w : ℕ) → Plain End w → end_word (count_of w) ≡ w
