-- Arcs in their order as a walk, which lists them from its end.
use Rattle.std.proofs.Common.{◌≡◌, MatchOption, None, ℕ, suc, ◌+◌, ◌<◌, List, [], ◌∷◌, ◌++◌, reverse, length, get_or, take, drop, Some, Option, sym, refl, ap, ◌∙◌, subst, ⊎_elim, arith}
use Rattle.std.proofs.lemmas.List.{reverse-append, take-append-drop, drop_more, drop_all, length-take-le, get_or-take}
use Rattle.std.specs.List.{AllWithin, HoldsAt}
use Rattle.std.proofs.lemmas.Grind.{reverse_onto}
use Rattle.ways.specs.Walks.{Leads, Clear}
use Rattle.ways.specs.Keeps.{Leaves, Meets}
use Rattle.ways.specs.declared.net.Arc.{Arc}
use Rattle.ways.proofs.Near.{some_same}

-- a part at the end and the part before it
pub reverse_split : (p : ℕ) (arcs : List ℕ) → reverse arcs ≡ reverse (drop p arcs) ++ reverse (take p arcs)
reverse_split p arcs = ap reverse (sym (take-append-drop p arcs)) ∙ reverse-append (take p arcs) (drop p arcs)

module _ {L : Type 0} (at : ℕ → Option (Arc L)) where
  leaves_at : (u a : ℕ) (x : Arc L) → at a ≡ Some x → x.tail ≡ u → Leaves at u a
  leaves_at u a x e t = subst (λ o. MatchOption o ⊥ (λ (y : Arc L). y.tail ≡ u)) (sym e) t

  tail_of : (u : ℕ) (o : Option (Arc L)) → MatchOption o ⊥ (λ x. x.tail ≡ u) → (x : Arc L) × (o ≡ Some x) × (x.tail ≡ u)
  tail_of u None h = absurd h
  tail_of u (Some x) h = (x, refl, h)

  clear_join : (u : ℕ) (ps qs : List ℕ) → Clear at u ps → Clear at u qs → Clear at u (ps ++ qs)
  clear_join u [] qs h k = k
  clear_join u (a ∷ ps) qs h k = (h.0, clear_join u ps qs h.1 k)

  -- none of the arcs leaves u
  pub clear_all : (u : ℕ) (arcs : List ℕ) → ((k d : ℕ) → k < length arcs → Leaves at u (get_or arcs k d) → ⊥) → Clear at u (reverse arcs)
  clear_all u [] h = tt
  clear_all u (a ∷ arcs) h =
      subst (λ ps. Clear at u ps) (sym (reverse_onto arcs a []))
      (clear_join u (reverse arcs) (a ∷ []) (clear_all u arcs (λ k d lt. h (suc k) d (omega arith))) (λ x e t. h 0 0 (omega arith) (leaves_at u a x e t), tt))

  -- a walk begins where its first arc does
  begins : (ps : List ℕ) (a w v : ℕ) (x : Arc L) → Leads at w (ps ++ (a ∷ [])) v → at a ≡ Some x → w ≡ x.tail
  begins [] a w v x h e = sym h.3 ∙ ap (λ (y : Arc L). y.tail) (some_same (at a) h.0 x h.1 e)
  begins (b ∷ ps) a w v x h e = begins ps a w h.0.tail x h.3 e

  pub begins_at : (arcs : List ℕ) (v u p w : ℕ) → Meets at arcs v u p → Leads at w (reverse (drop p arcs)) v → w ≡ u
  begins_at arcs v u p w m h = ⊎_elim
      (λ a.
      let none = drop_all p arcs (omega (arith, a.0)) in
      let e : Leads at w [] v = subst (λ ps. Leads at w (reverse ps) v) none h in
      sym e ∙ sym a.1)
      (λ a.
      let k = ap reverse (drop_more arcs p 0 a.0) ∙ reverse_onto (drop (p + 1) arcs) (get_or arcs p 0) [] in
      let x = tail_of u (at (get_or arcs p 0)) a.1 in
      begins (reverse (drop (p + 1) arcs)) (get_or arcs p 0) w v x.0 (subst (λ ps. Leads at w ps v) k h) x.1 ∙ x.2)
      m.1

  -- what a search for the first arc that leaves u answers
  pub first_clear : (u : ℕ) (arcs : List ℕ) (r : Option ℕ) → MatchOption r (AllWithin (λ a. Leaves at u a → ⊥) arcs 0 (length arcs)) (λ p. (p < length arcs) × HoldsAt (Leaves at u) arcs p × AllWithin (λ a. Leaves at u a → ⊥) arcs 0 p)
      → MatchOption r (Clear at u (reverse arcs)) (λ p. (p < length arcs) × Leaves at u (get_or arcs p 0) × Clear at u (reverse (take p arcs)))
  first_clear u arcs None h = clear_all u arcs (λ k d lt. h k d (omega arith) lt)
  first_clear u arcs (Some p) h = (
    h.0,
    h.1 0,
    clear_all u (take p arcs) (λ k d lt. let l = length-take-le p arcs (omega (arith, h.0)) in let k-p : k < p = omega arith in subst (λ a. Leaves at u a → ⊥) (sym (get_or-take p arcs k d k-p)) (h.2 k d (omega arith) k-p)),
  )
