-- Walks that come to no vertex twice.
use Rattle.std.proofs.Common.{◌≡◌, ℕ, ◌+◌, ◌<◌, true, false, List, [], ◌∷◌, ◌++◌, length, map, eqb, Some, None, Option, sym, refl, ap, ◌∙◌, subst, ⊎_elim, add-one, arith}
use Rattle.std.proofs.lemmas.Bool.{both_ways, cases_Bool, false≢true, eqb-true, ne_eqb, or_cases}
use Rattle.std.proofs.lemmas.List.{length-map}
use Rattle.std.proofs.lemmas.Map.Steps.{length-le_from_distinct_below}
use Rattle.std.specs.List.{AllByRecursion, IsDistinct, list_any}
use Rattle.ways.specs.Laws.{Kind, Laws}
use Rattle.ways.specs.Walks.{Leads, Clear, Once, long, total, known, near, Sound, IsWay, LoopBelow}
use Rattle.ways.specs.Keeps.{Good}
use Rattle.ways.specs.declared.net.Arc.{Arc}
use Rattle.ways.specs.declared.walk.Way.{Way}
use Rattle.ways.proofs.Near.{some_same, near_trans}

pub clear_front : {L : Type 0} (at : ℕ → Option (Arc L)) (u : ℕ) (seg qs : List ℕ) → Clear at u (seg ++ qs) → Clear at u seg
clear_front at u [] qs h = tt
clear_front at u (a ∷ seg) qs h = (h.0, clear_front at u seg qs h.1)

pub once_front : {L : Type 0} (at : ℕ → Option (Arc L)) (seg qs : List ℕ) → Once at (seg ++ qs) → Once at seg
once_front at [] qs h = tt
once_front at (a ∷ seg) qs h = (λ x e. clear_front at x.tail seg qs (h.0 x e), once_front at seg qs h.1)

pub total_step : {L : Type 0} (K : Kind L) (at : ℕ → Option (Arc L)) (a : ℕ) (ps : List ℕ) (x : Arc L) → at a ≡ Some x → total K at (a ∷ ps) ≡ K.sum (total K at ps) x.length
total_step K at a ps x e = ap (λ o. K.sum (total K at ps) (long K o)) e

abbrev tail_of : {L : Type 0} → Option (Arc L) → ℕ
tail_of None = 0
tail_of (Some x) = x.tail

abbrev tails : {L : Type 0} → (ℕ → Option (Arc L)) → List ℕ → List ℕ
tails at ps = map (λ a. tail_of (at a)) ps

module _ {L : Type 0} {K : Kind L} (laws : Laws K) (at : ℕ → Option (Arc L)) (s : ℕ) (d : List (Way L)) where
  pub good_leads : (ps : List ℕ) (v : ℕ) → Good K at s d ps v → Leads at s ps v
  good_leads [] v h = h.0
  good_leads (a ∷ ps) v h = (h.0, h.1, h.2, good_leads ps h.0.tail h.5)

  pub good_clear : (ps : List ℕ) (v : ℕ) → Good K at s d ps v → Clear at v ps
  good_clear [] v h = tt
  good_clear (a ∷ ps) v h = h.3

  pub good_once : (ps : List ℕ) (v : ℕ) → Good K at s d ps v → Once at ps
  good_once [] v h = tt
  good_once (a ∷ ps) v h = (
    λ x e. subst (λ (y : Arc L). Clear at y.tail ps) (some_same (at a) h.0 x h.1 e) (good_clear ps h.0.tail h.5),
    good_once ps h.0.tail h.5,
  )

  pub good_near : (ps : List ℕ) (v : ℕ) → Good K at s d ps v → near K (known d v).distance (Some (total K at ps)) ≡ true
  good_near [] v h = h.1
  good_near (a ∷ ps) v h = h.4

  pub good_way : (ps : List ℕ) (v : ℕ) (x : L) → Good K at s d ps v → total K at ps ≡ x → IsWay K at s v ps x
  good_way ps v x h e = record { leads = good_leads ps v h; sums = e; once = good_once ps v h; ends = good_clear ps v h }

  -- distances fell
  pub good_lower : (d' : List (Way L)) → ((v : ℕ) → near K (known d' v).distance (known d v).distance ≡ true) → (ps : List ℕ) (v : ℕ) → Good K at s d ps v → Good K at s d' ps v
  good_lower d' low [] v h = (h.0, near_trans laws (known d' v).distance (known d v).distance (Some K.zero) (low v) h.1)
  good_lower d' low (a ∷ ps) v h = (
    h.0,
    h.1,
    h.2,
    h.3,
    near_trans laws (known d' v).distance (known d v).distance (Some (total K at (a ∷ ps))) (low v) h.4,
    good_lower d' low ps h.0.tail h.5,
  )

  not_in : (u : ℕ) (ps : List ℕ) (v : ℕ) → Good K at s d ps v → Clear at u ps → AllByRecursion (λ t. eqb u t ≡ false) (tails at ps)
  not_in u [] v h c = tt
  not_in u (a ∷ ps) v h c = (ne_eqb u (tail_of (at a)) (λ e. c.0 h.0 h.1 (ap tail_of (sym h.1) ∙ sym e)), not_in u ps h.0.tail h.5 c.1)

  -- the vertices that such a walk comes to
  apart : (ps : List ℕ) (v : ℕ) → Good K at s d ps v → IsDistinct eqb (v ∷ tails at ps)
  unfolding IsDistinct
  apart [] v h = (tt, tt)
  apart (a ∷ ps) v h = (not_in v (a ∷ ps) v h h.3, subst (λ u. IsDistinct eqb (u ∷ tails at ps)) (ap tail_of (sym h.1)) (apart ps h.0.tail h.5))

  module _ (many n : ℕ) (sound : Sound K at many n) where
    under : (ps : List ℕ) (v q : ℕ) → v < n → Good K at s d ps v → list_any (eqb q) (v ∷ tails at ps) ≡ true → q < n
    under [] v q lt h e = ⊎_elim (λ t. subst (λ u. u < n) (sym (eqb-true q v t)) lt) (λ t. absurd (false≢true t)) (or_cases (eqb q v) false e)
    under (a ∷ ps) v q lt h e = ⊎_elim
        (λ t. subst (λ u. u < n) (sym (eqb-true q v t)) lt)
        (λ t. under ps h.0.tail q (sound.tail a h.0 h.1) h.5 (subst (λ u. list_any (eqb q) (u ∷ tails at ps) ≡ true) (ap tail_of h.1) t))
        (or_cases (eqb q v) (list_any (eqb q) (tails at (a ∷ ps))) e)

    -- such a walk has fewer arcs than there are vertices
    pub good_few : (ps : List ℕ) (v : ℕ) → v < n → Good K at s d ps v → length ps < n
    good_few ps v lt h =
        let l = length-le_from_distinct_below (v ∷ tails at ps) n (apart ps v h) (λ q e. under ps v q lt h e) in
        let e = length-map ps (λ a. tail_of (at a)) in
        omega arith

    pub good_fits : (ps : List ℕ) (v : ℕ) → Good K at s d ps v → K.fits (length ps) (total K at ps)
    good_fits [] v h = laws.fits_zero
    good_fits (a ∷ ps) v h =
        subst (λ k. K.fits k (total K at (a ∷ ps))) (add-one (length ps))
        (subst (λ t. K.fits (length ps + 1) t) (sym (total_step K at a ps h.0 h.1))
        (laws.fits_sum (length ps) (total K at ps) h.0.length (good_fits ps h.0.tail h.5) (sound.step a h.0 h.1)))

  split : (seg qs : List ℕ) (v : ℕ) → Good K at s d (seg ++ qs) v → (w : ℕ) × Leads at w seg v × Good K at s d qs w × (total K at (seg ++ qs) ≡ K.sum (total K at qs) (total K at seg))
  split [] qs v h = (v, refl, h, sym (laws.zero_right (total K at qs)))
  split (a ∷ seg) qs v h =
      let r = split seg qs h.0.tail h.5 in (
        r.0,
        (h.0, h.1, h.2, r.1),
        r.2,
        ap (λ t. K.sum t (long K (at a))) r.3 ∙ laws.assoc (total K at qs) (total K at seg) (long K (at a)),
      )

  -- an arc that leads on from a walk's end to where its part `seg` begins, and to less than the distance there, closes a loop
  pub loop_of : (seg qs : List ℕ) (i : ℕ) (x : Arc L) (far sum : L) → at i ≡ Some x → Good K at s d (seg ++ qs) x.tail → total K at (seg ++ qs) ≡ far → sum ≡ K.sum far x.length
      → near K (known d x.head).distance (Some sum) ≡ false → ((w : ℕ) → Leads at w seg x.tail → w ≡ x.head) → LoopBelow K at s (i ∷ seg)
  loop_of seg qs i x far sum e h t m less begins =
      let r = split seg qs x.tail h in
      let w = begins r.0 r.1 in
      let sum_is : K.sum (total K at qs) (total K at (i ∷ seg)) ≡ sum
      = ap (K.sum (total K at qs)) (total_step K at i seg x e) ∙ sym (laws.assoc (total K at qs) (total K at seg) x.length) ∙ ap (λ y. K.sum y x.length) (sym r.3 ∙ t) ∙ sym m in
      let good = subst (λ u. Good K at s d qs u) w r.2 in
      record {
        vertex = x.head;
        before = qs;
        reached = good_leads qs x.head good;
        closed = (x, e, refl, subst (λ u. Leads at u seg x.tail) w r.1);
        below = ⊎_elim
            (λ y. absurd (both_ways (near K (known d x.head).distance (Some sum)) less
            (near_trans laws (known d x.head).distance (Some (total K at qs)) (Some sum) (good_near qs x.head good)
            (subst (λ l. K.upto l sum ≡ true) (laws.zero_right (total K at qs))
            (subst (λ l. K.upto (K.sum (total K at qs) K.zero) l ≡ true) sum_is (laws.on_left (total K at qs) K.zero (total K at (i ∷ seg)) y))))))
            (λ f. f)
            (cases_Bool (K.upto K.zero (total K at (i ∷ seg))));
        once = (
          λ y q. subst (λ (z : Arc L). Clear at z.tail seg) (some_same (at i) x y e q) (clear_front at x.tail seg qs (good_clear (seg ++ qs) x.tail h)),
          once_front at seg qs (good_once (seg ++ qs) x.tail h),
        );
      }
