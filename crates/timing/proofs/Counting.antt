-- Counts of the elements of a list that pass a test, and of the numbers below n that fail one.
use Rattle.std.proofs.lemmas.Grind.{common_steps}
use Rattle.std.proofs.Common.{◌≡◌, ℕ, zero, suc, ◌+◌, ◌<◌, Bool, true, false, cond, ◌||◌, eqb, List, [], ◌∷◌, length, get_or, count_by, refl, ap, inl, inr, arith}
use Rattle.timing.specs.Marks.{gap, undone}
use Rattle.std.proofs.lemmas.List.Sums.{sum_by-cons}
use Rattle.std.proofs.lemmas.Bool.{cases_Bool, ne_eqb}

abbrev pub bit : Bool → ℕ
bit b = cond b 1 0

pub count_some : {X : Type 0} (p : X → Bool) (xs : List X) (d : X) → 0 < count_by p xs → (k : ℕ) × (k < length xs) × (p (get_or xs k d) ≡ true)
count_some p [] d h = absurd (omega arith)
count_some p (x ∷ xs) d h = elim (cases_Bool (p x)) [
  | inl e ↦ (0, omega arith, e)
  | inr e ↦
      let a = sum_by-cons (λ y. cond (p y) 1 0) x xs in
      let z : bit (p x) ≡ 0 = ap bit e in
      let m = count_some p xs d (omega arith) in
      (suc m.0, (let l = m.1 in omega arith), m.2)
]

pub count_split : {X : Type 0} (p q r : X → Bool) → ((x : X) → bit (p x) ≡ bit (q x) + bit (r x)) → (xs : List X) → count_by p xs ≡ count_by q xs + count_by r xs
count_split p q r h [] = refl
count_split p q r h (x ∷ xs) = grind (arith, common_steps, h x, count_split p q r h xs)

pub count_same : {X : Type 0} (p q : X → Bool) (xs : List X) (d : X) → ((k : ℕ) → k < length xs → p (get_or xs k d) ≡ q (get_or xs k d)) → count_by p xs ≡ count_by q xs
count_same p q [] d h = refl
count_same p q (x ∷ xs) d h = grind (arith, common_steps, h 0, count_same p q xs d (λ k l. h (suc k) (omega arith)))

-- ---- the numbers below n that fail the test
abbrev pub also : ℕ → (ℕ → Bool) → ℕ → Bool
also u t g = eqb g u || t g

pub also_same : (u : ℕ) (t : ℕ → Bool) (g : ℕ) → g ≡ u → also u t g ≡ true
also_same u t g e = grind (arith, common_steps)

pub also_other : (u : ℕ) (t : ℕ → Bool) (g : ℕ) → (g ≡ u → ⊥) → also u t g ≡ t g
also_other u t g f = grind (arith, common_steps)

pub also_old : (u : ℕ) (t : ℕ → Bool) (g : ℕ) → t g ≡ true → also u t g ≡ true
also_old u t g e = grind (arith, common_steps)

pub undone_same : (t s : ℕ → Bool) (n : ℕ) → ((k : ℕ) → k < n → t k ≡ s k) → undone t n ≡ undone s n
undone_same t s zero h = refl
undone_same t s (suc n) h = grind (arith, h n (omega arith), undone_same t s n (λ k l. h k (omega arith)))

pub undone_less : (t : ℕ → Bool) (u n : ℕ) → u < n → t u ≡ false → undone t n ≡ undone (also u t) n + 1
undone_less t u zero h e = absurd (omega arith)
undone_less t u (suc n) h e = grind (arith, common_steps, undone_same t (also u t) n, undone_less t u n)

pub undone_none : (t : ℕ → Bool) (n : ℕ) → undone t n ≡ 0 → (k : ℕ) → k < n → t k ≡ true
undone_none t zero z k h = absurd (omega arith)
undone_none t (suc n) z k h = grind (arith, common_steps, undone_none t n)

pub undone_some : (t : ℕ → Bool) (n : ℕ) → 0 < undone t n → (k : ℕ) × (k < n) × (t k ≡ false)
undone_some t zero h = absurd (omega arith)
undone_some t (suc n) h = elim (cases_Bool (t n)) [
  | inl e ↦
      let z = ap gap e in
      let m = undone_some t n (omega arith) in
      (m.0, (let l = m.1 in omega arith), m.2)
  | inr e ↦ (n, omega arith, e)
]

abbrev pub host : ℕ → Bool
host g = eqb g 0

pub undone_host : (n : ℕ) → undone host (suc n) ≡ n
undone_host zero = refl
undone_host (suc n) =
    let a = ap gap (ne_eqb (suc n) 0 (omega arith)) in
    let b = undone_host n in
    omega arith
