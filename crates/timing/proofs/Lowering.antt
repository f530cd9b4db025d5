-- One head more off the counts.
use Rattle.std.proofs.lemmas.Grind.{common_steps}
use Rattle.std.proofs.Common.{◌≡◌, ℕ, ◌+◌, ◌-◌, ◌<◌, ◌≤◌, ◌⊎◌, List, [], ◌∷◌, ◌++◌, length, get_or, set, sym, ◌∙◌, subst, inl, inr, arith}
use Rattle.std.proofs.lemmas.List.{get_or-set_same, get_or-set_other}
use Rattle.std.proofs.lemmas.Bool.{cases_eq}
use Rattle.model.specs.Circuit.{◌∈◌}
use Rattle.model.proofs.Pigeons.{pigeons}
use Rattle.timing.specs.declared.Arc.{Arc}
use Rattle.timing.specs.Arcs.{Within}
use Rattle.timing.specs.Groups.{heads, entered}
use Rattle.timing.specs.Lowered.{Lowerable, LoweredBy}
use Rattle.timing.proofs.Grouping as groups
use Rattle.timing.proofs.Grouping.{entered_same, entered_other}
use Rattle.timing.proofs.Members.{in_left, in_last, in_push, different_push}

pub lowered_as : (c d : ℕ → ℕ) (n : ℕ) (old new before after : List ℕ) → ((v : ℕ) → c v ≡ d v) → LoweredBy c n old new before after → LoweredBy d n old new before after
lowered_as c d n old new before after e l = grind (arith, e)

module _ (arcs : List Arc) (n u : ℕ) (within : Within n arcs) (old before : List ℕ) (low : Lowerable arcs n u old before) (hs left : List ℕ) (all : hs ++ left ≡ heads arcs u) (x : ℕ) (rest : List ℕ) (is : left ≡ x ∷ rest)
    (new after : List ℕ) (l : LoweredBy (entered hs) n old new before after) where
  abbrev lowered : List ℕ
  lowered = set new x (get_or new x 0 - 1)

  abbrev inner : (0 < x) × (x < n)
  inner = groups.inner arcs u hs left all x rest is n within

  -- the arc has been counted
  pub counted : 1 ≤ get_or new x 0
  counted = grind (arith, groups.among arcs u hs left all x rest is, low.covers x, l.less x, inner)

  module _ (long : n ≤ length new) where
    same : get_or lowered x 0 ≡ get_or new x 0 - 1
    same = get_or-set_same new x (get_or new x 0 - 1) 0 (let a = inner.1 in omega arith)

    other : (v : ℕ) → (v ≡ x → ⊥) → get_or lowered v 0 ≡ get_or new v 0
    other v f = get_or-set_other new x v (get_or new x 0 - 1) 0 f

    less_then : (v : ℕ) → v < n → get_or lowered v 0 + entered (hs ++ x ∷ []) v ≡ get_or old v 0
    less_then v h = grind (arith, common_steps, entered_same hs x v, entered_other hs x v, l.less v h, same, other v, counted)

    -- a gate that is ready keeps the count 0
    fresh_then : (v : ℕ) → v ∈ after → (v ∈ before) ⊎ ((v < n) × (0 < get_or old v 0) × (get_or lowered v 0 ≡ 0) × (0 < v))
    fresh_then v m = grind (arith, common_steps)

    pub still : (get_or lowered x 0 ≡ 0 → ⊥) → LoweredBy (entered (hs ++ x ∷ [])) n old lowered before after
    still nz = grind (arith, common_steps)

    not_ready : x ∈ after → ⊥
    not_ready m = grind (arith, common_steps, l.fresh x m, low.zero x, l.less x inner.1, counted)

    below : (v : ℕ) → v ∈ (x ∷ after) → v < n
    below v (inl q) = subst (λ (w : ℕ). w < n) (sym q) inner.1
    below v (inr m) = elim (l.fresh v m) [ inl b ↦ (low.zero v b).0 | inr t ↦ t.0 ]

    pub room_for : length after < n
    room_for = grind (arith, pigeons n (x ∷ after) (not_ready, l.different) below)

    pub ready_now : get_or lowered x 0 ≡ 0 → LoweredBy (entered (hs ++ x ∷ [])) n old lowered before (after ++ x ∷ [])
    ready_now z = record {
      less = less_then;
      different = different_push after x l.different not_ready;
      kept = λ v m. in_left after x v (l.kept v m);
      fresh = λ v m. elim (in_push after x v m) [
        | inl a ↦ fresh_then v a
        | inr q ↦
            let b = l.less x inner.1 in
            let c = counted in
            let o : 0 < get_or old x 0 = omega arith in
            inr (subst (λ (w : ℕ). (w < n) × (0 < get_or old w 0) × (get_or lowered w 0 ≡ 0) × (0 < w)) (sym q) (inner.1, o, z, inner.0))
      ];
      found = λ v h p y. elim (cases_eq v x) [
        | inl f ↦ in_last after x v f
        | inr f ↦ in_left after x v (l.found v h p (sym (other v f) ∙ y))
      ];
    }
