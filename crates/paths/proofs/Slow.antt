-- Slowest paths without registers, from one gate and then from all.
use Rattle.std.proofs.Common.{◌≡◌, ℕ, ◌+◌, ◌<◌, ◌≤◌, true, ◌⊎◌, List, [], reverse, length, get_or, Some, None, Option, sym, refl, ap, ◌∙◌, subst, inl, inr, ⊎_elim, arith}
use Rattle.std.proofs.lemmas.List.{get_or_default}
use Rattle.std.proofs.lemmas.Bool.{cases_eq}
use Rattle.ways.specs.Kinds.{delays, sooner}
use Rattle.ways.specs.Walks.{Leads, Least, total, known, row}
use Rattle.ways.specs.declared.net.Arc.{Arc}
use Rattle.ways.specs.declared.walk.Way.{Way}
use Rattle.ways.specs.KindLaws.{delay_laws}
use Rattle.model.specs.declared.Wire.{Wire}
use Rattle.model.specs.Circuit.{Circuit, Path, gate, step, Inner, weight, delay, delay_of, gates}
use Rattle.paths.specs.Arcs.{wire_arcs, circuit, Nearest}
use Rattle.paths.specs.Slowest.{gates_of, Slowest, stations, Top}
use Rattle.paths.proofs.Routes.{sooner_first, sooner_second, begins_inner, to_walk, to_path}

-- the way found to v comes from u without registers, its gates have the delay d together, and no path from u without registers is slower
pub record Reached (ds : List ℕ) (ws : List (Option Wire)) (u : ℕ) (found : List (Way (ℕ × ℕ))) (v d : ℕ) : Type 0 where
  pub there : v < length found
  pub few : length (known found v).arcs.items < 128
  pub way : Leads (wire_arcs ds ws) u (row found v) v
  pub free : (total delays (wire_arcs ds ws) (row found v)).0 ≡ 0
  pub slow : (total delays (wire_arcs ds ws) (row found v)).1 + delay_of (circuit ds ws) u ≡ d
  pub most : (x : ℕ) (q : Path (circuit ds ws) u x) → weight q ≡ 0 → delay q ≤ d

-- the slowest path without registers from the gates below m has the delay `best` and the gates gs
pub record SoFar (c : Circuit) (m best : ℕ) (gs : List ℕ) : Type 0 where
  pub most : (a b : ℕ) (q : Path c a b) → a < m → weight q ≡ 0 → delay q ≤ best
  pub met : ((gs ≡ []) × (best ≡ 0) × (m ≡ 1)) ⊎ ((u : ℕ) × (v : ℕ) × (p : Path c u v) × (weight p ≡ 0) × (gates_of p ≡ gs) × (delay p ≡ best))

module _ (ds : List ℕ) (ws : List (Option Wire)) where
  abbrev c : Circuit
  c = circuit ds ws

  abbrev at : ℕ → Option (Arc (ℕ × ℕ))
  at = wire_arcs ds ws

  ends_inner : {u v : ℕ} → Path c u v → Inner c v
  ends_inner (gate i) = i
  ends_inner (step i l p) = ends_inner p

  -- the gate itself is at no distance
  pub start_zero : (u : ℕ) (found : List (Way (ℕ × ℕ))) → u < length found → Nearest ds ws u found → (known found u).distance ≡ Some (0, 0)
  start_zero u found lt b = go (known found u).distance (b.least u lt)
    where
      go : (o : Option (ℕ × ℕ)) → Least delays at u u o → o ≡ Some (0, 0)
      go None h = absurd (h [] refl)
      go (Some x) h =
          let up = b.none_below u [] h.0.0 refl h.0.1 in
          ap Some (delay_laws.antisym x (0, 0) (h.1 [] refl) (subst (λ (t : ℕ × ℕ). sooner (0, 0) t ≡ true) h.0.2 up))

  -- no path without registers is slower than the greatest delay of a distance without
  top_most : (u v m : ℕ) (found : List (Way (ℕ × ℕ))) → gates c ≤ length found → Nearest ds ws u found → Top found v m
      → (x : ℕ) (q : Path c u x) → weight q ≡ 0 → delay q ≤ m + delay_of c u
  top_most u v m found room b top x q f = go (known found x).distance refl (b.least x within)
    where
      within : x < length found
      within = let i = (ends_inner q).there in omega arith

      go : (o : Option (ℕ × ℕ)) → (known found x).distance ≡ o → Least delays at u x o → delay q ≤ m + delay_of c u
      go None e h = let r = to_walk ds ws q in absurd (h r.0 r.1)
      go (Some y) e h =
          let r = to_walk ds ws q in
          let near = h.1 r.0 r.1 in
          let low = sooner_first y (total delays at r.0) near in
          let none : y.0 ≡ 0 = omega (arith, r.2) in
          let slow = sooner_second y (total delays at r.0) near (r.2 ∙ f ∙ sym none) in
          let free : y ≡ (0, y.1) = ap (λ (k : ℕ). (k, y.1)) none in
          let k = top.most x y.1 within (e ∙ ap Some free) in
          omega (arith, r.3)

  pub reached : (u v m : ℕ) (found : List (Way (ℕ × ℕ))) → gates c ≤ 128 → length found ≡ gates c → Nearest ds ws u found → Top found v m
      → Reached ds ws u found v (m + delay_of c u)
  reached u v m found few size b top =
      let w = b.ways v (0, m) top.there top.is in
      let n = b.few v (0, m) top.there top.is in
      let below = top.there in
      record {
        there = top.there;
        few = omega arith;
        way = w.leads;
        free = ap (λ (t : ℕ × ℕ). t.0) w.sums;
        slow = ap (λ (t : ℕ × ℕ). t.1 + delay_of c u) w.sums;
        most = top_most u v m found (omega arith) b top;
      }

  -- one gate more to begin at
  most_more : (u v d best t : ℕ) (found : List (Way (ℕ × ℕ))) → best ≤ t → d ≤ t → Reached ds ws u found v d → ((a b : ℕ) (q : Path c a b) → a < u → weight q ≡ 0 → delay q ≤ best)
      → (a b : ℕ) (q : Path c a b) → a < u + 1 → weight q ≡ 0 → delay q ≤ t
  most_more u v d best t found lb ld r h a b q lt f = ⊎_elim
      (λ e. let k = subst (λ g. (p : Path c g b) → weight p ≡ 0 → delay p ≤ d) (sym e) (r.most b) q f in omega arith)
      (λ ne. let k = h a b q (omega arith) f in omega arith)
      (cases_eq a u)

  -- the path from u is as slow as any before: `arcs` is what was read as its way
  pub so_far_new : (u v d best : ℕ) (found : List (Way (ℕ × ℕ))) (gs new arcs : List ℕ) (w : Way (ℕ × ℕ)) → Inner c u → best ≤ d → Reached ds ws u found v d → arcs ≡ (get_or found v w).arcs.items → new ≡ stations ws u (reverse arcs)
      → SoFar c u best gs → SoFar c (u + 1) d new
  so_far_new u v d best found gs new arcs w i le r read is s =
      let p = to_path ds ws u i (row found v) v r.way in
      let same : arcs ≡ (known found v).arcs.items = read ∙ ap (λ (x : Way (ℕ × ℕ)). x.arcs.items) (get_or_default found v w _ r.there) in
      record {
        most = most_more u v d best d found le (omega arith) r s.most;
        met = inr (u, v, p.0, p.1 ∙ r.free, p.3 ∙ sym (is ∙ ap (λ ps. stations ws u (reverse ps)) same), p.2 ∙ r.slow);
      }

  -- the path from u is not as slow
  pub so_far_same : (u v d best : ℕ) (found : List (Way (ℕ × ℕ))) (gs : List ℕ) → d < best → Reached ds ws u found v d → SoFar c u best gs → SoFar c (u + 1) best gs
  so_far_same u v d best found gs lt r s = record {
    most = most_more u v d best best found (omega arith) (omega arith) r s.most;
    met = ⊎_elim (λ none. absurd (omega arith)) (λ some. inr some) s.met;
  }

  -- no path begins at the host
  pub so_far_none : SoFar c 1 0 []
  so_far_none = record {
    most = λ a b q lt f. absurd (let i = (begins_inner ds ws q).apart in let z : ⊥ = omega arith in z);
    met = inl (refl, refl, refl);
  }

  pub so_far_all : (m best : ℕ) (gs : List ℕ) → m ≡ gates c → SoFar c m best gs → Slowest c gs
  so_far_all m best gs e s = ⊎_elim
      (λ none. inl (none.0, omega arith))
      (λ some.
      inr (some.0, some.1, some.2, some.3, some.4, λ a b q f. let i = (begins_inner ds ws q).there in let k = s.most a b q (omega arith) f in omega (arith, some.5)))
      s.met
