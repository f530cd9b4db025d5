-- The wires between gates are the arcs of the net.
use Rattle.std.proofs.Common.{◌≡◌, ℕ, zero, suc, ◌≤◌, Bool, true, false, cond, ◌&&◌, ltb, List, [], ◌∷◌, length, get_or, Some, None, Option, sym, refl, ap, ◌∙◌, subst, inl, inr, arith}
use Rattle.std.proofs.lemmas.Bool.{lt-ltb, ltb-true, and_parts, and_from}
use Rattle.ways.specs.Kinds.{delays}
use Rattle.ways.specs.Walks.{Sound}
use Rattle.ways.specs.declared.net.Arc.{Arc}
use Rattle.ways.proofs.Near.{some_none, some_same}
use Rattle.model.specs.declared.Wire.{Wire}
use Rattle.model.specs.Circuit.{Circuit, Inner, Link, delay_of, gates, kept, ◌∈◌}
use Rattle.paths.specs.Arcs.{inside, arc_at, wire_arc, arc_of, wire_arcs, wire_places, circuit, registers_of}
use Rattle.paths.specs.Slowest.{entered_of}

find : (w : Wire) (ws : List (Option Wire)) → w ∈ kept ws → (a : ℕ) × (get_or ws a None ≡ Some w)
find w [] h = absurd h
find w (None ∷ ws) h = let r = find w ws h in (suc r.0, r.1)
find w (Some y ∷ ws) (inl e) = (0, ap Some (sym e))
find w (Some y ∷ ws) (inr h) = let r = find w ws h in (suc r.0, r.1)

lives_at : (ws : List (Option Wire)) (a : ℕ) (w : Wire) → get_or ws a None ≡ Some w → w ∈ kept ws
lives_at [] a w e = absurd (some_none None w refl e)
lives_at (None ∷ ws) zero w e = absurd (some_none None w refl e)
lives_at (None ∷ ws) (suc a) w e = lives_at ws a w e
lives_at (Some y ∷ ws) zero w e = inl (let z : w ≡ y = cc in z)
lives_at (Some y ∷ ws) (suc a) w e = inr (lives_at ws a w e)

module _ (ds : List ℕ) (ws : List (Option Wire)) where
  abbrev c : Circuit
  c = circuit ds ws

  abbrev at : ℕ → Option (Arc (ℕ × ℕ))
  at = wire_arcs ds ws

  -- a wire between gates is an arc
  wire_there : (w : Wire) → Inner c w.from → Inner c w.to → wire_arc ds w ≡ Some (arc_at ds w)
  wire_there w i j =
      ap (λ b. cond b (Some (arc_at ds w)) None)
      (and_from (ltb 0 w.from) _ (lt-ltb 0 w.from i.apart) (and_from (ltb w.from (length ds)) _ (lt-ltb w.from (length ds) i.there) (and_from (ltb 0 w.to) _ (lt-ltb 0 w.to j.apart) (lt-ltb w.to (length ds) j.there))))

  pub link_arc : (u v : ℕ) → Inner c u → Inner c v → (l : Link c u v) → (a : ℕ) × (at a ≡ Some (arc_at ds l.wire))
  link_arc u v i j l =
      let r = find l.wire ws l.lives in
      (r.0, ap (arc_of ds) r.1 ∙ wire_there l.wire (subst (Inner c) (sym l.leaves) i) (subst (Inner c) (sym l.enters) j))

  -- and an arc is a wire between gates
  pub record Wired (x : Arc (ℕ × ℕ)) : Type 0 where
    pub first : Inner c x.tail
    pub last : Inner c x.head
    pub link : Link c x.tail x.head
    pub is : x.length ≡ (link.wire.registers, delay_of c x.head)

  wired_at : (w : Wire) → w ∈ kept ws → inside ds w ≡ true → Wired (arc_at ds w)
  wired_at w m h =
      let p = and_parts (ltb 0 w.from) (ltb w.from (length ds) && (ltb 0 w.to && ltb w.to (length ds))) h in
      let q = and_parts (ltb w.from (length ds)) (ltb 0 w.to && ltb w.to (length ds)) p.1 in
      let r = and_parts (ltb 0 w.to) (ltb w.to (length ds)) q.1 in
      record {
        first = record { apart = ltb-true 0 w.from p.0; there = ltb-true w.from (length ds) q.0 };
        last = record { apart = ltb-true 0 w.to r.0; there = ltb-true w.to (length ds) r.1 };
        link = record { wire = w; lives = m; leaves = refl; enters = refl };
        is = refl;
      }

  wired_by : (w : Wire) (b : Bool) (x : Arc (ℕ × ℕ)) → w ∈ kept ws → inside ds w ≡ b → cond b (Some (arc_at ds w)) None ≡ Some x → Wired x
  wired_by w false x m h e = absurd (some_none None x refl e)
  wired_by w true x m h e = subst Wired (some_same (Some (arc_at ds w)) (arc_at ds w) x refl e) (wired_at w m h)

  wired_of : (a : ℕ) (o : Option Wire) (x : Arc (ℕ × ℕ)) → get_or ws a None ≡ o → arc_of ds o ≡ Some x → Wired x
  wired_of a None x g e = absurd (some_none None x refl e)
  wired_of a (Some w) x g e = wired_by w (inside ds w) x (lives_at ws a w g) refl e

  pub wired : (a : ℕ) (x : Arc (ℕ × ℕ)) → at a ≡ Some x → Wired x
  wired a x e = wired_of a (get_or ws a None) x refl e

  enters_by : (w : Wire) (b : Bool) (x : Arc (ℕ × ℕ)) → cond b (Some (arc_at ds w)) None ≡ Some x → w.to ≡ x.head
  enters_by w false x e = absurd (some_none None x refl e)
  enters_by w true x e = ap (λ (y : Arc (ℕ × ℕ)). y.head) (some_same (Some (arc_at ds w)) (arc_at ds w) x refl e)

  enters_of : (o : Option Wire) (x : Arc (ℕ × ℕ)) → arc_of ds o ≡ Some x → entered_of o ≡ x.head
  enters_of None x e = absurd (some_none None x refl e)
  enters_of (Some w) x e = enters_by w (inside ds w) x e

  -- an arc comes to the gate that its wire enters
  pub enters : (a : ℕ) (x : Arc (ℕ × ℕ)) → at a ≡ Some x → entered_of (get_or ws a None) ≡ x.head
  enters a x e = enters_of (get_or ws a None) x e

  -- the net of a circuit whose numbers are small
  pub net_sound : (n : ℕ) → gates c ≤ n → n ≤ 128 → length ws ≤ 512 → ((g : ℕ) → get_or ds g 0 ≤ 65535) → ((i : ℕ) → registers_of (get_or ws i None) ≤ 255) → Sound delays at (length ws) n
  net_sound n room few m slow deep = record {
    few = few;
    short = omega arith;
    place = wire_places ds ws;
    tail = λ a x h. let k = (wired a x h).first.there in omega arith;
    head = λ a x h. let k = (wired a x h).last.there in omega arith;
    step = λ a x h.
        let w = wired a x h in
        let f = find w.link.wire ws w.link.lives in
        let r : w.link.wire.registers ≤ 255 = subst (λ o. registers_of o ≤ 255) f.1 (deep f.0) in
        let d = slow x.head in
        subst (λ (t : ℕ × ℕ). delays.fits 1 t) (sym w.is) (omega arith, omega arith);
  }
