-- The slots that are not empty, one after another.
use Rattle.std.proofs.Common.{◌≡◌, ◌+◌, ◌≤◌, ◌<◌, List, [], ◌∷◌, length, count_by, false, cond, is_some, Some, None, Option, refl, subst, Bor, Iter, arith}
use Rattle.std.specs.List.{flat_map}
use Rattle.std.specs.Option.{option_to_list, option_len}
use Rattle.std.specs.Slice.Iter.{iter_rest}
use Rattle.std.proofs.lemmas.List.Recursion.{is_count_by}
use Rattle.std.proofs.iter.Yields.{fronts}
use Rattle.std.specs.declared.iter.Flatten.{Flatten}
use Rattle.std.specs.declared.option.Iter.{OptionIter}
use Rattle.std.specs.Iterator.{Yields}
use Rattle.std.specs.Iterator.Adapters.{flatten_source, flatten_front, flatten_back, flatten_done, flatten_steps, option_iter_item, option_iter_done, option_iter_steps, OptionIterYieldsItsItem}
use Rattle.std.proofs.lemmas.Iterator.{YieldsList, YieldsList-from_slice}
use Rattle.std.proofs.lemmas.Iterator.Adapters.{YieldsList-from_flatten}
use Rattle.std.proofs.lemmas.Iterator.Consumers.{YieldsList-from_shown, YieldsList-turn}
use Rattle.graph.specs.declared.graph.ends.Ends.{Ends}

abbrev pub present : List (Option Ends) → List Ends
present es = flat_map option_to_list es

pub present_few : (es : List (Option Ends)) → length (present es) ≤ length es
present_few [] = omega arith
present_few (None ∷ es) = let h = present_few es in omega arith
present_few (Some e ∷ es) = let h = present_few es in omega arith

one_slot : (x : Option Ends) (es : List (Option Ends)) → length (present (x ∷ es)) ≡ cond (is_some x) (1 + length (present es)) (length (present es))
one_slot None es = refl
one_slot (Some e) es = omega arith

pub present_count : (es : List (Option Ends)) → length (present es) ≡ count_by is_some es
present_count = is_count_by (λ es. length (present es)) is_some refl one_slot

-- what an `Option` behind a reference gives
item_list : {j : _} (o : Option Ends) → option_iter_item j ≡ o → option_iter_done j ≡ false → YieldsList (option_iter_steps {A = Ends}) (λ y. y.now) j (option_to_list o)
item_list {j} o e d =
    let h = YieldsList-from_shown (option_iter_steps {A = Ends}) (λ y. y.now) (λ s. cond (option_iter_done s) [] (option_to_list (option_iter_item s))) (λ s t p. grind arith) (λ s x t p. grind arith) j in
    let k : cond (option_iter_done j) [] (option_to_list (option_iter_item j)) ≡ option_to_list o = grind arith in
    subst (λ (es : List Ends). YieldsList (option_iter_steps {A = Ends}) (λ y. y.now) j es) k h

-- what `flatten` gives of them
abbrev pub gives : Flatten (Iter (Option Ends)) (OptionIter Ends) → Option (Bor Ends) → Flatten (Iter (Option Ends)) (OptionIter Ends) → Type 0
gives = flatten_steps fronts (λ o j. (option_iter_item j ≡ o.now) × (option_iter_done j ≡ false) × ((cond (option_iter_done j) 0 (option_len (option_iter_item j))) ≤ 1) × OptionIterYieldsItsItem Ends) option_iter_steps

module _ (s : Flatten (Iter (Option Ends)) (OptionIter Ends)) (es : List (Option Ends)) (e : iter_rest (flatten_source s) ≡ es) (f : flatten_front s ≡ None) (g : flatten_back s ≡ None) (h : flatten_done s ≡ false) where
  pub road : YieldsList gives (λ y. y.now) s (present es)
  road = YieldsList-from_flatten _ option_iter_steps (λ y. y.now) option_to_list (λ x j p. item_list x.now p.0 p.1) (YieldsList-from_slice es e) f g h

  -- in a `for` over them
  pub within : (xs : List (Bor Ends)) (t u : Flatten (Iter (Option Ends)) (OptionIter Ends)) → Yields gives s xs t → (r : Option (Bor Ends)) (x : Bor Ends) → r ≡ Some x → gives t r u → length xs < length es
  within xs t u y r x p q = omega (arith, (YieldsList-turn road xs t y r u x p q).0, present_few es)
