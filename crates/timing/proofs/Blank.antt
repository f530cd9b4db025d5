-- The front of a row of one value.
use Rattle.std.proofs.Common.{◌≡◌, ℕ, get_or, replicate, inl, inr, arith}
use Rattle.std.proofs.lemmas.List.{get_or-replicate, get_or_past, length-replicate}
use Rattle.std.proofs.lemmas.Bool.{cases_lt}

pub blank_all : {X : Type 0} (n k : ℕ) (y : X) → get_or (replicate n y) k y ≡ y
blank_all n k y = elim (cases_lt k n) [ inl l ↦ get_or-replicate n k y y l | inr l ↦ get_or_past (replicate n y) k y (let f = length-replicate n y in omega arith) ]
