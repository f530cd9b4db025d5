-- Wires forth and back: walks along them are what joins gates.
use Rattle.std.proofs.Common.{◌≡◌, ℕ, zero, suc, ◌<◌, ◌⊎◌, List, [], ◌∷◌, length, get_or, Some, None, Option, sym, refl, ap, ◌∙◌, subst, inl, inr, arith}
use Rattle.std.specs.List.{flat_map}
use Rattle.model.specs.declared.Wire.{Wire}
use Rattle.model.specs.Circuit.{Circuit, Link}
use Rattle.timing.specs.declared.Arc.{Arc}
use Rattle.timing.specs.Arcs as arcs
use Rattle.timing.specs.Arcs.{Hop, Walk, hop, more}
use Rattle.timing.specs.Marks.{Unreached, Spanned}
use Rattle.refusals.specs.declared.Refusal.TheVariants.{Apart}
use Rattle.graph.specs.declared.graph.ends.Ends.{Ends}
use Rattle.graph.specs.Tables.{At}
use Rattle.graph.specs.Reads.{wire_by, circuit_of}
use Rattle.graph.specs.Joins.{Joined, itself, along, against, LowestApart, both_ways}
use Rattle.graph.proofs.Rows.{in_live, live_in}
use Rattle.graph.proofs.Present.{present}

abbrev forth : Ends → Arc
forth e = record { from = e.from; to = e.to }

abbrev back : Ends → Arc
back e = record { from = e.to; to = e.from }

abbrev pub pair : Ends → List Arc
pair e = forth e ∷ back e ∷ []

pub pairs_both : (es : List (Option Ends)) → flat_map pair (present es) ≡ both_ways es
pairs_both [] = refl
pairs_both (None ∷ es) = pairs_both es
pairs_both (Some e ∷ es) = ap (λ (xs : List Arc). forth e ∷ back e ∷ xs) (pairs_both es)

-- ---- hops
later : {a : Arc} {xs : List Arc} {u v : ℕ} → Hop xs u v → Hop (a ∷ xs) u v
later h = record { place = suc h.place; there = (let l = h.there in omega arith); leaves = h.leaves; enters = h.enters }

both_hops : (es : List (Option Ends)) (j : ℕ) (e : Ends) → At es j e → Hop (both_ways es) e.from e.to × Hop (both_ways es) e.to e.from
both_hops [] j e h = absurd (cc)
both_hops (None ∷ es) zero e h = absurd (cc)
both_hops (Some x ∷ es) zero e h =
    let q : x ≡ e = cc in (
      record { place = 0; there = omega arith; leaves = ap (λ (y : Ends). y.from) q; enters = ap (λ (y : Ends). y.to) q },
      record { place = 1; there = omega arith; leaves = ap (λ (y : Ends). y.to) q; enters = ap (λ (y : Ends). y.from) q },
    )
both_hops (None ∷ es) (suc j) e h = both_hops es j e h
both_hops (Some x ∷ es) (suc j) e h = let r = both_hops es j e h in (later (later r.0), later (later r.1))

record Either (es : List (Option Ends)) (u v : ℕ) : Type 0 where
  at : ℕ
  ends : Ends
  lives : At es at ends
  way : ((ends.from ≡ u) × (ends.to ≡ v)) ⊎ ((ends.from ≡ v) × (ends.to ≡ u))

further : (e : Option Ends) (es : List (Option Ends)) (u v : ℕ) → Either es u v → Either (e ∷ es) u v
further e es u v r = record { at = suc r.at; ends = r.ends; lives = r.lives; way = r.way }

by_place : (e : Ends) (es : List (Option Ends)) (u v : ℕ) → (Hop (both_ways es) u v → Either es u v)
    → (k : ℕ) → k < length (both_ways (Some e ∷ es)) → (get_or (both_ways (Some e ∷ es)) k arcs.nowhere).from ≡ u → (get_or (both_ways (Some e ∷ es)) k arcs.nowhere).to ≡ v → Either (Some e ∷ es) u v
by_place e es u v rest zero h a b = record { at = 0; ends = e; lives = refl; way = inl (a, b) }
by_place e es u v rest (suc zero) h a b = record { at = 0; ends = e; lives = refl; way = inr (b, a) }
by_place e es u v rest (suc (suc k)) h a b = further (Some e) es u v (rest (record { place = k; there = omega arith; leaves = a; enters = b }))

hop_either : (es : List (Option Ends)) (u v : ℕ) → Hop (both_ways es) u v → Either es u v
hop_either [] u v h = absurd (let l = h.there in omega arith)
hop_either (None ∷ es) u v h = further None es u v (hop_either es u v h)
hop_either (Some e ∷ es) u v h = by_place e es u v (hop_either es u v) h.place h.there h.leaves h.enters

module _ (ds : List ℕ) (es : List (Option Ends)) (rs : List ℕ) (even : length rs ≡ length es) where
  abbrev c : Circuit
  c = circuit_of ds es rs

  step_joined : (u x v : ℕ) → Joined c u x → Hop (both_ways es) x v → Joined c u v
  step_joined u x v j h =
      let r = hop_either es x v h in
      let m = live_in es rs r.at r.ends even r.lives in
      elim r.way [
        | inl p ↦ along j (record { wire = wire_by r.ends (get_or rs r.at 0); lives = m; leaves = p.0; enters = p.1 })
        | inr p ↦ against j (record { wire = wire_by r.ends (get_or rs r.at 0); lives = m; leaves = p.0; enters = p.1 })
      ]

  walk_joined : (u v : ℕ) → Walk (both_ways es) u v → Joined c u v
  walk_joined u v (hop h) = step_joined u u v itself h
  walk_joined u v (more {x = x} w h) = step_joined u x v (walk_joined u x w) h

  link_hops : (u v : ℕ) → Link c u v → Hop (both_ways es) u v × Hop (both_ways es) v u
  link_hops u v l =
      let f = in_live es rs l.wire l.lives in
      let a : f.ends.from ≡ u = ap (λ (w : Wire). w.from) (sym f.is) ∙ l.leaves in
      let b : f.ends.to ≡ v = ap (λ (w : Wire). w.to) (sym f.is) ∙ l.enters in
      let r = both_hops es f.at f.ends f.lives in
      subst (λ (y : ℕ). Hop (both_ways es) u y × Hop (both_ways es) y u) b
      (subst (λ (x : ℕ). Hop (both_ways es) x f.ends.to × Hop (both_ways es) f.ends.to x) a r)

  one_on : (u x v : ℕ) → (u ≡ x) ⊎ Walk (both_ways es) u x → Hop (both_ways es) x v → (u ≡ v) ⊎ Walk (both_ways es) u v
  one_on u x v (inl e) h = inr (hop (subst (λ (y : ℕ). Hop (both_ways es) y v) (sym e) h))
  one_on u x v (inr w) h = inr (more w h)

  joined_walk : (u v : ℕ) → Joined c u v → (u ≡ v) ⊎ Walk (both_ways es) u v
  joined_walk u v itself = inl refl
  joined_walk u v (along {x = x} j l) = one_on u x v (joined_walk u x j) (link_hops x v l).0
  joined_walk u v (against {x = x} j l) = one_on u x v (joined_walk u x j) (link_hops v x l).1

  reaches : (h : ℕ) → (0 < h → Walk (both_ways es) 0 h) → Joined c 0 h
  reaches zero f = itself
  reaches (suc h) f = walk_joined 0 (suc h) (f (omega arith))

  pub all_joined : Spanned (both_ways es) (length ds) None → (h : ℕ) → h < length ds → Joined c 0 h
  all_joined s h l = reaches h (λ o. s h o l)

  pub one_apart : (g : ℕ) → Unreached (both_ways es) (length ds) g → LowestApart c (Apart g)
  one_apart g s = record {
    gate = g;
    says = refl;
    there = s.inner.1;
    none = λ j. elim (joined_walk 0 g j) [ inl e ↦ (let o = s.inner.0 in omega arith) | inr w ↦ s.none w ];
    first = λ h l. reaches h (λ o. s.before h o l);
  }
