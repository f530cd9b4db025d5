-- One gate more that is looked at.
use Rattle.std.proofs.lemmas.Grind.{common_steps}
use Rattle.std.proofs.Common.{◌≡◌, ℕ, ◌+◌, ◌<◌, ◌≤◌, List, [], ◌∷◌, ◌++◌, length, get_or, take, drop, sym, subst, inl, inr, arith}
use Rattle.std.specs.List.{enumerate_from}
use Rattle.std.proofs.lemmas.List.{length-drop, get_or-drop, get_or_default}
use Rattle.std.proofs.lemmas.List.FromFn.{length-enumerate_from, get_or-enumerate_from}
use Rattle.std.proofs.lemmas.Bool.{cases_eq}
use Rattle.model.specs.Circuit.{◌∈◌}
use Rattle.model.proofs.Pigeons.{pigeons}
use Rattle.timing.specs.Lowered.{Seeded}
use Rattle.timing.proofs.Members.{in_left, in_last, in_push, different_push}

module _ (counts : List ℕ) (g : ℕ) (ready : List ℕ) (old : Seeded counts g ready) where
  zero_then : (v : ℕ) → v ∈ ready → (0 < v) × (v < g + 1) × (get_or counts v 0 ≡ 0)
  zero_then v m = let z = old.zero v m in (z.0, (let h = z.1 in omega arith), z.2)

  pub seeded_other : (get_or counts g 0 ≡ 0 → ⊥) → Seeded counts (g + 1) ready
  seeded_other nz = grind (arith, common_steps)

  pub seeded_room : length ready ≤ g
  seeded_room = pigeons g ready old.different (λ v m. (old.zero v m).1)

  pub seeded_ready : 0 < g → get_or counts g 0 ≡ 0 → Seeded counts (g + 1) (ready ++ g ∷ [])
  seeded_ready o z = record {
    different = different_push ready g old.different (λ m. let a = (old.zero g m).1 in omega arith);
    zero = λ v m. elim (in_push ready g v m) [
      | inl b ↦ zero_then v b
      | inr s ↦ subst (λ (w : ℕ). (0 < w) × (w < g + 1) × (get_or counts w 0 ≡ 0)) (sym s) (o, omega arith, z)
    ];
    found = λ v p h y. elim (cases_eq v g) [
      | inl s ↦ in_last ready g v s
      | inr f ↦ in_left ready g v (old.found v p (omega arith) y)
    ];
  }

-- the items of `enumerate` after `skip(1)`
pub place : (counts : List ℕ) (k : ℕ) (p : ℕ × ℕ) → k < length (drop 1 (enumerate_from 0 counts)) → p ≡ get_or (drop 1 (enumerate_from 0 counts)) k p
    → (p.0 ≡ k + 1) × (k + 1 < length counts) × (p.1 ≡ get_or counts (k + 1) 0)
place counts k p h e = grind (arith, length-enumerate_from 0 counts, length-drop 1 (enumerate_from 0 counts), get_or-drop 1 (enumerate_from 0 counts) k p, get_or-enumerate_from 0 counts (1 + k) p, get_or_default counts (1 + k) p.1 0)

-- the counts of the first gates say the same of them
pub seeded_front : (counts : List ℕ) (n : ℕ) (ready : List ℕ) → n ≤ length counts → Seeded (take n counts) (length (take n counts)) ready → Seeded counts n ready
seeded_front counts n ready h s = grind (arith, common_steps)
