-- What a kind of distance is: sums, an order that sums keep, and how far sums of machine numbers are exact.
use Rattle.std.specs.Prelude.{◌≡◌, ℕ, ◌+◌, Bool, true, false}

-- `upto x y` says that x is at most y, and `fits k x` that x is a sum of at most k steps
pub record Kind (L : Type 0) : Type 1 where
  pub zero : L
  pub sum : L → L → L
  pub upto : L → L → Bool
  pub fits : ℕ → L → Type 0

pub record Laws {L : Type 0} (K : Kind L) : Type 0 where
  pub zero_left : (x : L) → K.sum K.zero x ≡ x
  pub zero_right : (x : L) → K.sum x K.zero ≡ x
  pub assoc : (x y z : L) → K.sum (K.sum x y) z ≡ K.sum x (K.sum y z)
  pub total : (x y : L) → K.upto x y ≡ false → K.upto y x ≡ true
  pub trans : (x y z : L) → K.upto x y ≡ true → K.upto y z ≡ true → K.upto x z ≡ true
  pub antisym : (x y : L) → K.upto x y ≡ true → K.upto y x ≡ true → x ≡ y
  pub on_left : (x y z : L) → K.upto y z ≡ true → K.upto (K.sum x y) (K.sum x z) ≡ true
  pub on_right : (x y z : L) → K.upto x y ≡ true → K.upto (K.sum x z) (K.sum y z) ≡ true
  pub cancel : (x y z : L) → K.upto (K.sum x y) (K.sum x z) ≡ true → K.upto y z ≡ true
  pub fits_zero : K.fits 0 K.zero
  pub fits_sum : (k : ℕ) (x y : L) → K.fits k x → K.fits 1 y → K.fits (k + 1) (K.sum x y)
