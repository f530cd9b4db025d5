-- Nothing stands past the end of a list.
use Rattle.std.specs.Prelude.{◌≡◌, ℕ, zero, suc, ◌<◌, List, [], ◌∷◌, length, Some, None, Option, ◌≢◌, slice_index_or}
use Rattle.std.proofs.Common.{arith}

pub none_some : {X : Type 0} (x : X) → None ≢ Some x
none_some x e = cc

pub listed_places : {X : Type 0} (xs : List (Option X)) (a : ℕ) (x : X) → slice_index_or xs a None ≡ Some x → a < length xs
listed_places [] a x e = absurd (none_some x e)
listed_places (y ∷ ys) zero x e = omega arith
listed_places (y ∷ ys) (suc a) x e = let h = listed_places ys a x e in omega arith
