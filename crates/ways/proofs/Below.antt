-- What a test of numbers answers.
use Rattle.std.proofs.Common.{◌≡◌, ℕ, ◌+◌, ◌<◌, Bool, true, false, Decides, length, sym, ◌∙◌, refl, subst, arith}
use Rattle.std.specs.Bool.{MatchBool}
use Rattle.std.specs.List.{AllWithin, HoldsAt, range_with_len}
use Rattle.std.proofs.lemmas.Bool.{false≢true}
use Rattle.std.proofs.lemmas.List.FromFn.{length-range_with_len, get_or-range_with_len}

-- what a test of each number below n answers
pub decides_below : (P : ℕ → Type 0) (n : ℕ) (r : Bool) → MatchBool r (AllWithin P (range_with_len 0 n) 0 (length (range_with_len 0 n))) ((k : ℕ) × (k < length (range_with_len 0 n)) × HoldsAt (λ a. P a → ⊥) (range_with_len 0 n) k) → Decides r ((a : ℕ) → a < n → P a)
decides_below P n true h = (λ t a lt. let l = length-range_with_len 0 n in subst P (get_or-range_with_len 0 n a 0 lt ∙ (let z : 0 + a ≡ a = omega arith in z)) (h a 0 (omega arith) (omega arith)), λ f. refl)
decides_below P n false h = (
  λ t. absurd (false≢true t),
  λ f. absurd (h.2 0 (let l = length-range_with_len 0 n in let lt : h.0 < n = omega (arith, h.1) in subst P (sym (get_or-range_with_len 0 n h.0 0 lt ∙ (let z : 0 + h.0 ≡ h.0 = omega arith in z))) (f h.0 lt))),
)
