-- The order of distances with `None` as the farthest.
use Rattle.std.proofs.Common.{◌≡◌, true, false, Some, None, Option, refl, ⊎_elim}
use Rattle.std.proofs.lemmas.Bool.{both_ways, false≢true, true≢false, cases_Bool}
use Rattle.ways.specs.Laws.{Kind, Laws}
use Rattle.ways.specs.Walks.{near, past}

pub some_none : {X : Type 0} (o : Option X) (x : X) → o ≡ None → o ≡ Some x → ⊥
some_none o x p q = cc

pub some_same : {X : Type 0} (o : Option X) (x y : X) → o ≡ Some x → o ≡ Some y → x ≡ y
some_same o x y p q = cc

module _ {L : Type 0} {K : Kind L} (laws : Laws K) where
  upto_refl : (x : L) → K.upto x x ≡ true
  upto_refl x = ⊎_elim (λ t. t) (λ f. laws.total x x f) (cases_Bool (K.upto x x))

  pub near_refl : (x : Option L) → near K x x ≡ true
  near_refl None = refl
  near_refl (Some x) = upto_refl x

  pub near_trans : (x y z : Option L) → near K x y ≡ true → near K y z ≡ true → near K x z ≡ true
  near_trans x y None h k = refl
  near_trans x None (Some z) h k = absurd (false≢true k)
  near_trans None (Some y) (Some z) h k = absurd (false≢true h)
  near_trans (Some x) (Some y) (Some z) h k = laws.trans x y z h k

  pub near_total : (x y : Option L) → near K x y ≡ false → near K y x ≡ true
  near_total x None h = absurd (true≢false h)
  near_total None (Some y) h = refl
  near_total (Some x) (Some y) h = laws.total x y h

  pub near_past : (x y : Option L) (z : L) → near K x y ≡ true → near K (past K x z) (past K y z) ≡ true
  near_past x None z h = refl
  near_past None (Some y) z h = absurd (false≢true h)
  near_past (Some x) (Some y) z h = laws.on_right x y z h

  -- x is above y, and so is what is above x
  pub above_trans : (x y z : Option L) → near K x y ≡ true → near K x z ≡ false → near K y z ≡ false
  above_trans x y z h k = ⊎_elim (λ t. absurd (both_ways (near K x z) k (near_trans x y z h t))) (λ f. f) (cases_Bool (near K y z))
