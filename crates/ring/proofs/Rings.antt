-- A ring of slots as a list: a write at the next slot adds at the end, and a step of `first` takes the head off.
use Rattle.std.proofs.Common.{◌≡◌, ℕ, suc, ◌+◌, ◌-◌, ◌<◌, ◌≤◌, min, ltb, List, [], ◌∷◌, ◌++◌, length, get_or, take, drop, set, sym, ap, ◌∙◌, arith}
use lib.Seq.{take-set-lt}
use Rattle.std.proofs.lemmas.List.{length-take, length-drop, length-append, take-set-le, drop-set-lt, drop-set-add, set-append_left, set-append_right, take_more_set, take_more, take-append-le, take-take, drop_more, drop_all, append-nil, append_assoc}
use Rattle.std.proofs.lemmas.Bool.{cond_both, ltb-true, ltb-false}
use Rattle.ring.specs.Turned.{turned, ringed, placed}

pub length_ringed : {X : Type 0} (xs : List X) (f n : ℕ) → length (ringed xs f n) ≡ min n (length xs)
length_ringed xs f n = simp (length-take, length-append, length-drop) (omega arith)

module _ {X : Type 0} (xs : List X) (f : ℕ) (inside : f < length xs) where
  near : (n : ℕ) (y : X) → n < length xs - f → turned (set xs (f + n) y) f ≡ set (turned xs f) n y
  near n y h =
      let a = drop-set-add f xs n y in
      let b = take-set-le f xs (f + n) y (omega arith) in
      let l : n < length (drop f xs) = simp length-drop h in
      let s = set-append_left (drop f xs) (take f xs) n y l in
      cc

  far : (n : ℕ) (y : X) → length xs - f ≤ n → n < length xs → turned (set xs (n - (length xs - f)) y) f ≡ set (turned xs f) n y
  far n y h hn =
      let a = drop-set-lt f xs (n - (length xs - f)) y (omega arith) in
      let b = take-set-lt f xs (n - (length xs - f)) y (omega arith) in
      let s = set-append_right (drop f xs) (take f xs) (length xs - f) n y (length-drop f xs) h in
      cc

  -- a write at the slot after the newest adds it at the end
  pub ringed_push : (n : ℕ) (y : X) → n < length xs → ringed (set xs (placed f n (length xs)) y) f (n + 1) ≡ ringed xs f n ++ y ∷ []
  ringed_push n y hn =
      let l : n < length (turned xs f) = simp (length-append, length-drop, length-take) (omega arith) in
      ap (take (n + 1)) (cond_both (ltb n (length xs - f)) (f + n) (n - (length xs - f)) (λ at. turned (set xs at y) f ≡ set (turned xs f) n y)
      (λ e. near n y (ltb-true n (length xs - f) e))
      (λ e. far n y (ltb-false n (length xs - f) e) hn)) ∙ take_more_set (turned xs f) n y l

  -- begun one slot on, the slot at `f` comes last
  next_near : (m : ℕ) (d : X) → m < length xs → take m (turned xs (f + 1)) ≡ take m (drop (f + 1) xs ++ take f xs)
  next_near m d hm =
      let e : turned xs (f + 1) ≡ (drop (f + 1) xs ++ take f xs) ++ get_or xs f d ∷ [] = ap (λ t. drop (f + 1) xs ++ t) (take_more xs f d inside) ∙ sym (append_assoc (drop (f + 1) xs) (take f xs) (get_or xs f d ∷ [])) in
      let l : m ≤ length (drop (f + 1) xs ++ take f xs) = simp (length-append, length-drop, length-take) (omega arith) in
      ap (take m) e ∙ take-append-le m (drop (f + 1) xs ++ take f xs) (get_or xs f d ∷ []) l

  next_far : (m : ℕ) → length xs ≡ f + 1 → m < length xs → take m (turned xs 0) ≡ take m (drop (f + 1) xs ++ take f xs)
  next_far m e hm =
      let a = append-nil xs in
      let b = drop_all (f + 1) xs (omega arith) in
      let t = take-take m f xs (omega arith) in
      ap (take m) a ∙ sym t ∙ ap (λ r. take m (r ++ take f xs)) (sym b)

  next : (m : ℕ) (d : X) → m < length xs → take m (turned xs (placed f 1 (length xs))) ≡ take m (drop (f + 1) xs ++ take f xs)
  next m d hm =
      cond_both (ltb 1 (length xs - f)) (f + 1) (1 - (length xs - f)) (λ at. take m (turned xs at) ≡ take m (drop (f + 1) xs ++ take f xs))
      (λ e. next_near m d hm)
      (λ e. let l = ltb-false 1 (length xs - f) e in let z : 1 - (length xs - f) ≡ 0 = omega arith in ap (λ at. take m (turned xs at)) z ∙ next_far m (omega arith) hm)

  -- the oldest stands at `f`, and the others begin one slot on
  pub ringed_take : (n : ℕ) (d : X) → 0 < n → n ≤ length xs → ringed xs f n ≡ get_or xs f d ∷ ringed xs (placed f 1 (length xs)) (n - 1)
  ringed_take n d h hn =
      let e : n ≡ suc (n - 1) = omega arith in
      ap (λ k. take k (turned xs f)) e
      ∙ ap (λ r. take (suc (n - 1)) (r ++ take f xs)) (drop_more xs f d inside)
      ∙ ap (λ r. get_or xs f d ∷ r) (sym (next (n - 1) d (omega arith)))
