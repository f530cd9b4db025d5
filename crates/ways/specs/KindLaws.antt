-- The laws of the two kinds of distance.
use Rattle.std.specs.Prelude.{◌≡◌, ℕ, ◌+◌, Bool, true, false, ◌&&◌, ◌||◌, ◌==◌, nat_le, nat_lt}
use Rattle.std.proofs.Common.{arith}
use Rattle.std.proofs.lemmas.Int.{ints}
use Rattle.std.proofs.lemmas.Bool.Decides.{nat_tests}
use Rattle.ways.specs.Laws.{Laws}
use Rattle.ways.specs.Kinds.{delays, shifts}

same : (a b c d : ℕ) → a ≡ c → b ≡ d → ◌≡◌ {A = ℕ × ℕ} (a, b) (c, d)
same a b c d p q = cc

test : ℕ → ℕ → ℕ → ℕ → Bool
test a b c d = nat_lt a c || (a == c && nat_le d b)

test_trans : (a b c d e f : ℕ) → test a b c d ≡ true → test c d e f ≡ true → test a b e f ≡ true
unfolding test
test_trans a b c d e f h k = grind (arith, nat_tests)

test_total : (a b c d : ℕ) → test a b c d ≡ false → test c d a b ≡ true
unfolding test
test_total a b c d h = grind (arith, nat_tests)

test_first : (a b c d : ℕ) → test a b c d ≡ true → test c d a b ≡ true → a ≡ c
unfolding test
test_first a b c d h k = grind (arith, nat_tests)

test_second : (a b c d : ℕ) → test a b c d ≡ true → test c d a b ≡ true → b ≡ d
unfolding test
test_second a b c d h k = grind (arith, nat_tests)

test_left : (p q a b c d : ℕ) → test a b c d ≡ true → test (p + a) (q + b) (p + c) (q + d) ≡ true
unfolding test
test_left p q a b c d h = grind (arith, nat_tests)

test_right : (p q a b c d : ℕ) → test a b c d ≡ true → test (a + p) (b + q) (c + p) (d + q) ≡ true
unfolding test
test_right p q a b c d h = grind (arith, nat_tests)

test_cancel : (p q a b c d : ℕ) → test (p + a) (q + b) (p + c) (q + d) ≡ true → test a b c d ≡ true
unfolding test
test_cancel p q a b c d h = grind (arith, nat_tests)

pub delay_laws : Laws delays
unfolding test
delay_laws = record {
  zero_left = λ x. same (0 + x.0) (0 + x.1) x.0 x.1 (omega arith) (omega arith);
  zero_right = λ x. same (x.0 + 0) (x.1 + 0) x.0 x.1 (omega arith) (omega arith);
  assoc = λ x y z. same _ _ _ _ (omega arith) (omega arith);
  total = λ x y h. test_total x.0 x.1 y.0 y.1 h;
  trans = λ x y z h k. test_trans x.0 x.1 y.0 y.1 z.0 z.1 h k;
  antisym = λ x y h k.
      same x.0 x.1 y.0 y.1
      (test_first x.0 x.1 y.0 y.1 h k)
      (test_second x.0 x.1 y.0 y.1 h k);
  on_left = λ x y z h. test_left x.0 x.1 y.0 y.1 z.0 z.1 h;
  on_right = λ x y z h. test_right z.0 z.1 x.0 x.1 y.0 y.1 h;
  cancel = λ x y z h. test_cancel x.0 x.1 y.0 y.1 z.0 z.1 h;
  fits_zero = (omega arith, omega arith);
  fits_sum = λ k x y h j. (omega arith, omega arith);
}

pub shift_laws : Laws shifts
shift_laws = record {
  zero_left = λ x. omega (arith, ints);
  zero_right = λ x. omega (arith, ints);
  assoc = λ x y z. omega (arith, ints);
  total = λ x y h. grind (arith, ints);
  trans = λ x y z h k. grind (arith, ints);
  antisym = λ x y h k. grind (arith, ints);
  on_left = λ x y z h. grind (arith, ints);
  on_right = λ x y z h. grind (arith, ints);
  cancel = λ x y z h. grind (arith, ints);
  fits_zero = (omega (arith, ints), omega (arith, ints));
  fits_sum = λ k x y h j. (omega (arith, ints), omega (arith, ints));
}
