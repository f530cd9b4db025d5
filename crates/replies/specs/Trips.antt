-- A reply's word is made of its fields and taken apart into them, both ways.
use Rattle.std.specs.Prelude.{◌≡◌, ℕ, ◌<◌, ℤ, pos, negsuc, ◌≤ℤ◌}
use Rattle.words.specs.declared.Kind.TheVariants.{Cost, Label, Refused, Limited}
use Rattle.words.specs.Trips.{Plain}
use Rattle.replies.specs.declared.LimitWord.{LimitWord}
use Rattle.replies.specs.Replies.{cost_of, gate_of, label_of, refusal_number_of, refusal_place_of, limit_of, cost_word, label_word, refusal_word, limit_word, InFields}

pub record ReplyTrips : Type 0 where
  pub cost : (c : ℕ) → c < 0x1000_0000 → Plain Cost (cost_word c) × (cost_of (cost_word c) ≡ c)
  pub label : (g : ℕ) (l : ℤ) → g < 0x80 → negsuc 0x7FFF ≤ℤ l → l ≤ℤ pos 0x7FFF → Plain Label (label_word g l) × (gate_of (label_word g l) ≡ g) × (label_of (label_word g l) ≡ l)
  pub refusal : (n p : ℕ) → n < 0x100 → p < 0x10_0000 → Plain Refused (refusal_word n p) × (refusal_number_of (refusal_word n p) ≡ n) × (refusal_place_of (refusal_word n p) ≡ p)
  pub limit : (l : LimitWord) → InFields l → Plain Limited (limit_word l) × (limit_of (limit_word l) ≡ l)
  pub cost_back : (w : ℕ) → Plain Cost w → cost_word (cost_of w) ≡ w
  pub label_back : (w : ℕ) → Plain Label w → label_word (gate_of w) (label_of w) ≡ w
  pub refusal_back : (w : ℕ) → Plain Refused w → refusal_word (refusal_number_of w) (refusal_place_of w) ≡ w
  pub limit_back : (w : ℕ) → Plain Limited w → limit_word (limit_of w) ≡ w
