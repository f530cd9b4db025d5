-- Paths of a circuit and walks over its arcs are the same.
use Rattle.std.proofs.Common.{◌≡◌, ℕ, ◌+◌, ◌*◌, ◌<◌, ◌≤◌, true, false, List, [], ◌∷◌, ◌++◌, length, get_or, Some, None, Option, Ok, Err, Result, IsOk, sym, refl, ap, ◌∙◌, subst, inl, inr, arith}
use Rattle.std.proofs.lemmas.Bool.{true≢false}
use Rattle.std.proofs.lemmas.Bool.Decides.{nat_tests}
use Rattle.ways.specs.Kinds.{delays, sooner}
use Rattle.ways.specs.Walks.{Leads, Least, LoopBelow, Best, Answered, total, known}
use Rattle.ways.specs.declared.net.Arc.{Arc}
use Rattle.ways.specs.declared.walk.Way.{Way}
use Rattle.ways.specs.declared.walk.Loop.{Loop}
use Rattle.ways.specs.KindLaws.{delay_laws}
use Rattle.ways.proofs.Good.{total_step}
use Rattle.ways.proofs.Turns.{leads_join, total_join}
use Rattle.model.specs.declared.Wire.{Wire}
use Rattle.model.specs.Circuit.{Circuit, Path, gate, step, Inner, Link, weight, delay, delay_of, gates, NoFreeLoop}
use Rattle.paths.specs.Arcs.{arc_at, wire_arcs, circuit, Nearest}
use Rattle.paths.specs.Rows.{Cell, Rows, Stands, Told, Outside}
use Rattle.paths.proofs.Filling.{Rowed}
use Rattle.paths.specs.Slowest.{gates_of, stations}
use Rattle.paths.proofs.Wired.{link_arc, wired, enters}

pub sooner_first : (x y : ℕ × ℕ) → sooner x y ≡ true → x.0 ≤ y.0
sooner_first x y h = grind (arith, nat_tests)

pub sooner_second : (x y : ℕ × ℕ) → sooner x y ≡ true → y.0 ≡ x.0 → y.1 ≤ x.1
sooner_second x y h e = grind (arith, nat_tests)

below_first : (x : ℕ × ℕ) → sooner (0, 0) x ≡ false → x.0 ≡ 0
below_first x h = grind (arith, nat_tests)

module _ (ds : List ℕ) (ws : List (Option Wire)) where
  abbrev c : Circuit
  c = circuit ds ws

  abbrev at : ℕ → Option (Arc (ℕ × ℕ))
  at = wire_arcs ds ws

  pub begins_inner : {u v : ℕ} → Path c u v → Inner c u
  begins_inner (gate i) = i
  begins_inner (step i l p) = i

  -- a path is a walk
  pub to_walk : {u v : ℕ} (p : Path c u v) → (ps : List ℕ) × Leads at u ps v × ((total delays at ps).0 ≡ weight p) × ((total delays at ps).1 + delay_of c u ≡ delay p)
  to_walk (gate i) = ([], refl, refl, omega arith)
  to_walk (step {u} {x} {v} i l p) =
      let r = to_walk p in
      let a = link_arc ds ws u x i (begins_inner p) l in
      let one : Leads at u (a.0 ∷ []) x = (arc_at ds l.wire, a.1, l.enters, l.leaves) in
      let sum : total delays at (r.0 ++ (a.0 ∷ [])) ≡ delays.sum (delays.sum (0, 0) (l.wire.registers, get_or ds l.wire.to 0)) (total delays at r.0)
      = total_join delay_laws at u r.0 (a.0 ∷ []) ∙ ap (λ t. delays.sum t (total delays at r.0)) (total_step delays at a.0 [] (arc_at ds l.wire) a.1) in
      let d : get_or ds l.wire.to 0 ≡ get_or ds x 0 = ap (λ k. get_or ds k 0) l.enters in (
        r.0 ++ (a.0 ∷ []),
        leads_join at u x r.0 (a.0 ∷ []) v r.1 one,
        ap (λ (t : ℕ × ℕ). t.0) sum ∙ (let z : (0 + l.wire.registers) + (total delays at r.0).0 ≡ l.wire.registers + weight p = omega (arith, r.2) in z),
        ap (λ (t : ℕ × ℕ). t.1 + delay_of c u) sum ∙ (let z : ((0 + get_or ds l.wire.to 0) + (total delays at r.0).1) + get_or ds u 0 ≡ get_or ds u 0 + delay p = omega (arith, r.3) in z),
      )

  -- one wire more at a path's end
  snoc : {u x v : ℕ} (p : Path c u x) (l : Link c x v) → Inner c v
      → (q : Path c u v) × (weight q ≡ weight p + l.wire.registers) × (delay q ≡ delay p + delay_of c v) × (gates_of q ≡ gates_of p ++ (v ∷ []))
  snoc (gate i) l j = (step i l (gate j), omega arith, refl, refl)
  snoc (step {u} i m p) l j = let r = snoc p l j in (step i m r.0, omega (arith, r.1), omega (arith, r.2), ap (λ gs. u ∷ gs) r.3)

  -- a walk is a path
  pub to_path : (u : ℕ) → Inner c u → (ps : List ℕ) (v : ℕ) → Leads at u ps v
      → (p : Path c u v) × (weight p ≡ (total delays at ps).0) × (delay p ≡ (total delays at ps).1 + delay_of c u) × (gates_of p ≡ stations ws u ps)
  to_path u i [] v e = subst (λ w. (p : Path c u w) × (weight p ≡ 0) × (delay p ≡ 0 + delay_of c u) × (gates_of p ≡ u ∷ [])) (sym e) (gate i, refl, omega arith, refl)
  to_path u i (a ∷ ps) v h =
      let x = h.0 in
      let w = wired ds ws a h.0 h.1 in
      let r = to_path u i ps h.0.tail h.3 in
      let q = snoc r.0 w.link w.last in
      let sum : total delays at (a ∷ ps) ≡ delays.sum (total delays at ps) (w.link.wire.registers, delay_of c h.0.head)
      = total_step delays at a ps h.0 h.1 ∙ ap (delays.sum (total delays at ps)) w.is in
      let first : weight q.0 ≡ (total delays at (a ∷ ps)).0 = (let z : weight q.0 ≡ (total delays at ps).0 + w.link.wire.registers = omega (arith, q.1, r.1) in z) ∙ sym (ap (λ (t : ℕ × ℕ). t.0) sum) in
      let second : delay q.0 ≡ (total delays at (a ∷ ps)).1 + delay_of c u
      = (let z : delay q.0 ≡ ((total delays at ps).1 + delay_of c h.0.head) + delay_of c u = omega (arith, q.2, r.2) in z) ∙ sym (ap (λ (t : ℕ × ℕ). t.1 + delay_of c u) sum) in
      let third : gates_of q.0 ≡ stations ws u (a ∷ ps)
      = q.3 ∙ ap (λ gs. gs ++ (h.0.head ∷ [])) r.3 ∙ ap (λ g. stations ws u ps ++ (g ∷ [])) (sym (enters ds ws a h.0 h.1)) in
      subst (λ w. (p : Path c u w) × (weight p ≡ (total delays at (a ∷ ps)).0) × (delay p ≡ (total delays at (a ∷ ps)).1 + delay_of c u) × (gates_of p ≡ stations ws u (a ∷ ps))) h.2
      (q.0, first, second, third)

  -- a least distance is W and D
  pub cell_is : (u v w d own : ℕ) (o : Option (ℕ × ℕ)) → Inner c u → own ≡ delay_of c u → Least delays at u v o → Stands own o w d → Cell c u v w d
  cell_is u v w d own None i e h s = inr (λ p. let r = to_walk p in h r.0 r.1, s.0, s.1)
  cell_is u v w d own (Some x) i e h s =
      let m = to_path u i h.0.0 v h.0.1 in
      let first : weight m.0 ≡ w = m.1 ∙ ap (λ (t : ℕ × ℕ). t.0) h.0.2 ∙ sym s.0 in
      let second : delay m.0 ≡ d = m.2 ∙ ap (λ (t : ℕ × ℕ). t.1 + delay_of c u) h.0.2 ∙ ap (λ k. x.1 + k) (sym e) ∙ sym s.1 in
      inl (record {
        lightest = record {
          least = λ p. let r = to_walk p in let k = sooner_first x (total delays at r.0) (h.1 r.0 r.1) in omega (arith, r.2, s.0);
          met = (m.0, first);
        };
        slowest = record {
          most = λ p f. let r = to_walk p in let k = sooner_second x (total delays at r.0) (h.1 r.0 r.1) (r.2 ∙ f ∙ s.0) in omega (arith, r.3, s.1);
          met = (m.0, first, second);
        };
      })

  -- a row told of the distances found
  pub row_is : (u own n : ℕ) (found : List (Way (ℕ × ℕ))) (W D W' D' : List ℕ) → Inner c u → own ≡ delay_of c u → length found ≡ n → Nearest ds ws u found → n ≡ gates c
      → Told (u * n) own found n W' D' → Outside (u * n) n W W' → Outside (u * n) n D D' → Rowed c u W D W' D'
  row_is u own n found W D W' D' i e long b same told w d = record {
    row = λ v lt. cell_is u v (get_or W' (u * gates c + v) 0) (get_or D' (u * gates c + v) 0) own (known found v).distance i e (b.least v (omega arith)) (subst (λ m. Told (u * m) own found m W' D') same told v lt);
    least = subst (λ m. Outside (u * m) m W W') same w;
    most = subst (λ m. Outside (u * m) m D D') same d;
  }

  -- no path begins at the host
  pub host_row : (W D : List ℕ) → ((v : ℕ) → v < gates c → (get_or W v 0 ≡ 4294967295) × (get_or D v 0 ≡ 0)) → Rows c 1 W D
  host_row W D told u v lt vn =
      let at : u * gates c + v ≡ v = (let z : u ≡ 0 = omega arith in omega (arith, ap (λ k. k * gates c) z)) in
      inr (λ p. let i = (begins_inner p).apart in omega arith, ap (λ k. get_or W k 0) at ∙ (told v vn).0, ap (λ k. get_or D k 0) at ∙ (told v vn).1)

  -- a loop below zero has no registers
  no_loop : NoFreeLoop c → (s : ℕ) (ps : List ℕ) → LoopBelow delays at s ps → ⊥
  no_loop free s ps l = go ps l.vertex l.closed l.below
    where
      go : (ps : List ℕ) (v : ℕ) → Leads at v ps v → sooner (0, 0) (total delays at ps) ≡ false → ⊥
      go [] v h b = true≢false b
      go (a ∷ ps) v h b =
          let w = wired ds ws a h.0 h.1 in
          let r = to_path h.0.head w.last ps h.0.tail (subst (λ u. Leads at u ps h.0.tail) (sym h.2) h.3) in
          let sum : (total delays at (a ∷ ps)).0 ≡ (total delays at ps).0 + w.link.wire.registers
          = ap (λ (t : ℕ × ℕ). t.0) (total_step delays at a ps h.0 h.1) ∙ ap (λ (t : ℕ × ℕ). (total delays at ps).0 + t.0) w.is in
          let none = below_first (total delays at (a ∷ ps)) b in
          free (record { start = h.0.tail; next = h.0.head; inner = w.first; link = w.link; back = r.0; free = omega (arith, r.1) })

  -- so the ways are found
  pub none_looped : NoFreeLoop c → (s : ℕ) (found : List (Way (ℕ × ℕ))) (r : Result Unit Loop) → Answered delays at s found r → IsOk r × Best delays at s found
  none_looped free s found (Ok u) h = (refl, h)
  none_looped free s found (Err l) h = absurd (no_loop free s _ h)
