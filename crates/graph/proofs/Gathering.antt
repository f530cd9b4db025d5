-- One wire more that is gathered, or passed over.
use Rattle.std.proofs.Common.{◌≡◌, ℕ, ◌+◌, ◌<◌, List, [], ◌∷◌, ◌++◌, length, get_or, Option, sym, subst, arith, below_more}
use Rattle.std.proofs.lemmas.List.{get_or_push, get_or_append_left, length_push}
use Rattle.timing.specs.declared.Arc.{Arc}
use Rattle.timing.specs.Arcs as arcs
use Rattle.graph.specs.declared.graph.ends.Ends.{Ends}
use Rattle.graph.specs.Measures.{Free, Along, Gathered}

module _ (es : List (Option Ends)) (rs : List ℕ) (i : ℕ) (found : List Arc) (old : Gathered es rs i found) where
  abbrev From : List Arc → ℕ → ℕ → Type 0
  From as' m k = (j : ℕ) × (e : Ends) × (j < m) × Free es rs j e × Along e (get_or as' k arcs.nowhere)

  abbrev To : List Arc → ℕ → Type 0
  To as' j = (e : Ends) → Free es rs j e → (k : ℕ) × (k < length as') × Along e (get_or as' k arcs.nowhere)

  pub passed_over : ((e : Ends) → Free es rs i e → ⊥) → Gathered es rs (i + 1) found
  passed_over f = record {
    few = (let a = old.few in omega arith);
    each = λ k h. let e = old.each k h in (e.0, e.1, (let a = e.2 in omega arith), e.3, e.4);
    every = λ j e h. below_more (To found) i (λ k l x. old.every k x l) (λ x g. absurd (f x g)) j h e;
  }

  pub one_more : (e : Ends) → Free es rs i e → (a : Arc) → Along e a → Gathered es rs (i + 1) (found ++ a ∷ [])
  one_more e free a along =
      let more = found ++ a ∷ [] in
      let long : length more ≡ length found + 1 = length_push found a in
      let here : Along e (get_or more (length found) arcs.nowhere) = subst (Along e) (sym (get_or_push found a arcs.nowhere (length found) (omega arith))) along in
      let kept = λ (x : Ends) (k : ℕ) (h : k < length found) (b : Along x (get_or found k arcs.nowhere)). subst (Along x) (sym (get_or_append_left found (a ∷ []) arcs.nowhere k h)) b in
      record {
        few = (let b = old.few in omega arith);
        each = λ k h. below_more (From more (i + 1)) (length found)
            (λ k h. let x = old.each k h in (x.0, x.1, (let b = x.2 in omega arith), x.3, kept x.1 k h x.4))
            (i, e, omega arith, free, here) k (omega arith);
        every = λ j x h. below_more (To more) i
            (λ k l y f. let o = old.every k y l f in (o.0, (let b = o.1 in omega arith), kept y o.0 o.1 o.2))
            (λ y f. let same : e ≡ y = cc in (length found, omega arith, subst (λ (x : Ends). Along x (get_or more (length found) arcs.nowhere)) same here)) j h x;
      }
