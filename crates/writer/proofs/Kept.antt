-- The wires that are not dropped, one after another.
use Rattle.std.proofs.Common.{◌≡◌, ℕ, ◌≤◌, List, [], ◌∷◌, length, false, cond, Some, None, Option, sym, refl, ap, ◌∙◌, subst, Bor, Iter, arith, ◌<◌, get_or}
use Rattle.std.specs.List.{flat_map}
use Rattle.std.specs.Option.{option_to_list, option_len}
use Rattle.std.specs.Slice.Iter.{iter_rest}
use Rattle.std.proofs.iter.Yields.{fronts}
use Rattle.std.specs.Iterator.{Yields, Drains}
use Rattle.std.specs.declared.iter.Enumerate.{Enumerate}
use Rattle.std.specs.declared.iter.Flatten.{Flatten}
use Rattle.std.specs.declared.option.Iter.{OptionIter}
use Rattle.std.proofs.lemmas.List.FromFn.{length-enumerate_from, get_or-enumerate_from}
use Rattle.std.specs.Iterator.Adapters.{enumerate_source, enumerate_count, enumerate_steps, flatten_source, flatten_front, flatten_back, flatten_done, flatten_steps, option_iter_item, option_iter_done, option_iter_steps, OptionIterYieldsItsItem}
use Rattle.std.proofs.lemmas.Iterator.{YieldsList, YieldsList-from_slice}
use Rattle.std.proofs.lemmas.Iterator.Adapters.{YieldsList-from_flatten}
use Rattle.std.proofs.lemmas.Iterator.Consumers.{YieldsList-from_shown, YieldsList-from_enumerate, YieldsList-turn, YieldsList-end, count_from_yields_List}
use Rattle.words.specs.Netlist.{Wire}
use Rattle.model.specs.Circuit.{kept}

kept_as_flat : (ws : List (Option Wire)) → flat_map option_to_list ws ≡ kept ws
kept_as_flat [] = refl
kept_as_flat (None ∷ ws) = kept_as_flat ws
kept_as_flat (Some w ∷ ws) = ap (λ (x : List Wire). w ∷ x) (kept_as_flat ws)

-- what an `Option` behind a reference gives
item_list : {j : _} (o : Option Wire) → option_iter_item j ≡ o → option_iter_done j ≡ false → YieldsList (option_iter_steps {A = Wire}) (λ y. y.now) j (option_to_list o)
item_list {j} o e d =
    let h = YieldsList-from_shown (option_iter_steps {A = Wire}) (λ y. y.now) (λ s. cond (option_iter_done s) [] (option_to_list (option_iter_item s))) (λ s t p. grind arith) (λ s x t p. grind arith) j in
    let k : cond (option_iter_done j) [] (option_to_list (option_iter_item j)) ≡ option_to_list o = grind arith in
    subst (λ (ws : List Wire). YieldsList (option_iter_steps {A = Wire}) (λ y. y.now) j ws) k h

-- what `flatten` gives of them
abbrev pub gives : Flatten (Iter (Option Wire)) (OptionIter Wire) → Option (Bor Wire) → Flatten (Iter (Option Wire)) (OptionIter Wire) → Type 0
gives = flatten_steps fronts (λ o j. (option_iter_item j ≡ o.now) × (option_iter_done j ≡ false) × ((cond (option_iter_done j) 0 (option_len (option_iter_item j))) ≤ 1) × OptionIterYieldsItsItem Wire) option_iter_steps

module _ {s : Flatten (Iter (Option Wire)) (OptionIter Wire)} (ws : List (Option Wire)) (e : iter_rest (flatten_source s) ≡ ws) (f : flatten_front s ≡ None) (g : flatten_back s ≡ None) (h : flatten_done s ≡ false) where
  pub road : YieldsList gives (λ y. y.now) s (kept ws)
  road = rw (sym (kept_as_flat ws)) (YieldsList-from_flatten _ option_iter_steps (λ y. y.now) option_to_list (λ x j p. item_list x.now p.0 p.1) (YieldsList-from_slice ws e) f g h)

  pub count : (n : ℕ) → ((xs : List (Bor Wire)) × Drains gives s xs × (n ≡ length xs)) → n ≡ length (kept ws)
  count n p = count_from_yields_List s n p road

-- what a `for` over them with their numbers has
module _ (s : Enumerate (Flatten (Iter (Option Wire)) (OptionIter Wire))) (ws : List (Option Wire)) (e : iter_rest (flatten_source (enumerate_source s)) ≡ ws) (f : flatten_front (enumerate_source s) ≡ None) (g : flatten_back (enumerate_source s) ≡ None) (h : flatten_done (enumerate_source s) ≡ false) (z : enumerate_count s ≡ 0)
    (xs : List (ℕ × Bor Wire)) (t u : Enumerate (Flatten (Iter (Option Wire)) (OptionIter Wire))) (y : Yields (enumerate_steps gives) s xs t) {r : Option (ℕ × Bor Wire)} where
  pub turn : (i : ℕ) (w : Bor Wire) → r ≡ Some (i, w) → enumerate_steps gives t r u → (length xs < length (kept ws)) × (i ≡ length xs) × (w.now ≡ get_or (kept ws) (length xs) w.now)
  turn i w p q =
      let x : ℕ × Bor Wire = (i, w) in
      let k = YieldsList-turn (YieldsList-from_enumerate (road ws e f g h) z) xs t y r u x p q in
      let l : length xs < length (kept ws) = omega (arith, k.0, length-enumerate_from 0 (kept ws)) in
      let d : ℕ × Wire = (i, w.now) in
      let m = k.1 ∙ get_or-enumerate_from 0 (kept ws) (length xs) d l in
      (l, omega (arith, ap (λ (p : ℕ × Wire). p.0) m), ap (λ (p : ℕ × Wire). p.1) m)

  pub end : r ≡ None → enumerate_steps gives t r u → length xs ≡ length (kept ws)
  end p q = (YieldsList-end (YieldsList-from_enumerate (road ws e f g h) z) xs t y r u p q).1 ∙ length-enumerate_from 0 (kept ws)
