-- Between two gates that a path joins, the lightest path has at most 255 registers for each gate of the circuit.
use Rattle.std.proofs.Common.{◌≡◌, ℕ, ◌*◌, ◌≤◌, List, [], ◌∷◌, length, sym, subst, inl, inr, arith}
use native.Mathlib.Decide.{ℕ_discrete}
use Rattle.model.specs.Circuit.{Wire, Circuit, live, gates, ◌∈◌, Path, gate, step, weight, IsW}
use Rattle.model.specs.Limits.{Different}
use Rattle.model.proofs.Pigeons.{pigeons}
use Rattle.model.proofs.Clock.{gates_of, gates_there}

member? : (x : ℕ) (xs : List ℕ) → Dec (x ∈ xs)
member? x [] = no (λ h. h)
member? x (y ∷ ys) = go (ℕ_discrete x y) (member? x ys)
  where
    go : Dec (x ≡ y) → Dec (x ∈ ys) → Dec (x ∈ (y ∷ ys))
    go (yes e) d = yes (inl e)
    go (no f) (yes m) = yes (inr m)
    go (no f) (no g) = no (λ h. elim h [ inl e ↦ f e | inr m ↦ g m ])

module _ (c : Circuit) where
  abbrev Simple : ℕ → ℕ → Type 0
  Simple u v = (p : Path c u v) × Different (gates_of p)

  -- what is left of a simple path from one of its gates on
  cut : (u : ℕ) {x v : ℕ} (p : Path c x v) → Different (gates_of p) → u ∈ gates_of p → Simple u v
  cut u {v = v} (gate i) d (inl e) = subst (λ (z : ℕ). Simple z v) (sym e) (gate i, d)
  cut u (gate i) d (inr m) = absurd m
  cut u {v = v} (step i l p) d (inl e) = subst (λ (z : ℕ). Simple z v) (sym e) (step i l p, d)
  cut u (step i l p) d (inr m) = cut u p d.1 m

  simple : {u v : ℕ} → Path c u v → Simple u v
  simple (gate i) = (gate i, ((λ m. m), tt))
  simple {u} {v} (step {x = x} i l p) = go (simple p)
    where
      join : (s : Simple x v) → Dec (u ∈ gates_of s.0) → Simple u v
      join s (yes m) = cut u s.0 s.1 m
      join s (no f) = (step i l s.0, (f, s.1))

      go : Simple x v → Simple u v
      go s = join s (member? u (gates_of s.0))

  light : ((w : Wire) → w ∈ live c → w.registers ≤ 255) → {u v : ℕ} (p : Path c u v) → weight p ≤ 255 * length (gates_of p)
  light deep (gate i) = omega arith
  light deep (step i l p) = let h = light deep p in let k = deep l.wire l.lives in omega arith

  pub weight_small : ((w : Wire) → w ∈ live c → w.registers ≤ 255) → (u v k : ℕ) → IsW c u v k → k ≤ 255 * gates c
  weight_small deep u v k w =
      let s = simple w.met.0 in
      let a = w.least s.0 in
      let b = light deep s.0 in
      let d = pigeons (gates c) (gates_of s.0) s.1 (λ x m. gates_there c u v x s.0 m) in
      omega arith
