-- Making a word and taking it apart.
use Rattle.std.proofs.Common.{◌≡◌, ℕ, ◌/◌, ◌%◌, min, false, Some, None, Option, sym, refl, ap, ◌∙◌, arith}
use Rattle.std.proofs.lemmas.Bool.{lt-leb, leb-false}
use Rattle.std.proofs.lemmas.Bool.Decides.{nat_tests}
use Rattle.words.specs.declared.Kind.{Kind}
use Rattle.words.specs.declared.Kind.TheVariants.{End, Gate, Wire, Fill, Clock, Cost, Label, Refused, Limited, Other}
use Rattle.words.specs.Layout.{kind_at, kind_of, stray_in, gate_word, wire_word, fill_word, clock_word, end_word, Makes}
use Rattle.words.specs.Trips.{Plain, Trips}

-- what is made where the numbers fit
pub made : {Fit : Type 0} {w : ℕ} (r : Option ℕ) → Fit → Makes Fit w r → r ≡ Some w
made None f h = absurd (h f)
made (Some v) f h = ap Some h.1

-- the number of a kind
abbrev top_of : Kind → ℕ
top_of End = 0
top_of Gate = 1
top_of Wire = 2
top_of Fill = 3
top_of Clock = 4
top_of Cost = 5
top_of Label = 6
top_of Refused = 7
top_of Limited = 8
top_of Other = 9

top_at : (n : ℕ) → top_of (kind_at n) ≡ min n 9
top_at n = grind (arith, nat_tests)

module _ (k : Kind) (w : ℕ) where
  -- a word by its top number and what is below it
  pub plain : (n : ℕ) → w / 0x1000_0000 ≡ n → kind_at n ≡ k → stray_in k (w % 0x1000_0000) ≡ false → Plain k w
  plain n e f g =
      let h : kind_of w ≡ k = ap kind_at e ∙ f in
      record { kind = h; clean = ap (λ (x : Kind). stray_in x (w % 0x1000_0000)) h ∙ g }

  pub top : Plain k w → min (w / 0x1000_0000) 9 ≡ top_of k
  top h = sym (top_at (w / 0x1000_0000)) ∙ ap top_of h.kind

  -- what is below the kind, where no bit is stray
  pub low : Plain k w → stray_in k (w % 0x1000_0000) ≡ false
  low h = sym (ap (λ (x : Kind). stray_in x (w % 0x1000_0000)) h.kind) ∙ h.clean

pub trips : Trips
trips = record {
  gate = λ d h. (plain Gate (gate_word d) 1 (omega arith) refl (lt-leb 0x1_0000 _ (omega arith)), omega arith);
  wire = λ f t h k. (plain Wire (wire_word f t) 2 (omega arith) refl (lt-leb 0x4000 _ (omega arith)), omega arith, omega arith);
  fill = λ p r f c a b d e g. (plain Fill (fill_word p r f c) 3 (omega arith) refl refl, omega arith, omega arith, omega arith, omega arith);
  clock = λ c h. (plain Clock (clock_word c) 4 (omega arith) refl (lt-leb 0x100_0000 _ (omega arith)), omega arith);
  end = λ n h. (plain End (end_word n) 0 (omega arith) refl refl, omega arith);
  gate_back = λ w h. let a = top Gate w h in let b = leb-false 0x1_0000 (w % 0x1000_0000) (low Gate w h) in omega arith;
  wire_back = λ w h. let a = top Wire w h in let b = leb-false 0x4000 (w % 0x1000_0000) (low Wire w h) in omega arith;
  fill_back = λ w h. let a = top Fill w h in omega arith;
  clock_back = λ w h. let a = top Clock w h in let b = leb-false 0x100_0000 (w % 0x1000_0000) (low Clock w h) in omega arith;
  end_back = λ w h. let a = top End w h in omega arith;
}
