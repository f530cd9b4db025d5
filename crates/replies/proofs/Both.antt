-- Making a reply's word and taking it apart.
use Rattle.std.proofs.Common.{◌≡◌, ℕ, zero, suc, ◌/◌, ◌%◌, ◌<◌, ℤ, pos, negsuc, ◌≤ℤ◌, sym, refl, ap, ◌∙◌, subst, arith}
use Rattle.std.proofs.lemmas.Int.{ints}
use Rattle.std.proofs.lemmas.Bool.Decides.{nat_tests}
use Rattle.std.proofs.lemmas.Bool.{lt-leb, leb-false}
use Rattle.words.specs.declared.Kind.TheVariants.{Cost, Label, Refused, Limited}
use Rattle.replies.specs.declared.LimitWord.{LimitWord}
use Rattle.replies.specs.declared.LimitWord.TheVariants.{Floor, Ceiling, Clock as Clocked, Rule}
use Rattle.words.specs.Layout.{limit_kind_at, limit_room, from_of, to_of}
use Rattle.replies.specs.Replies.{signed, complement, limit_at, limit_of, cost_word, label_word, refusal_word, limit_word, InFields}
use Rattle.words.specs.Trips.{Plain}
use Rattle.words.proofs.Both.{plain, top, low}
use Rattle.replies.specs.Trips.{ReplyTrips}

-- two's complement and back
signed-complement : (l : ℤ) → negsuc 0x7FFF ≤ℤ l → l ≤ℤ pos 0x7FFF → (complement l < 0x1_0000) × (signed (complement l) ≡ l)
signed-complement (pos n) h k = let p : n < 0x8000 = omega (arith, ints) in (omega arith, grind (arith, nat_tests))
signed-complement (negsuc n) h k = let p : n < 0x8000 = omega (arith, ints) in (omega arith, grind (arith, nat_tests))

complement-signed : (n : ℕ) → n < 0x1_0000 → complement (signed n) ≡ n
complement-signed n h = grind (arith, nat_tests)

-- the fields below which a limit has no stray bit
limit_plain : (w which : ℕ) → w / 0x1000_0000 ≡ 8 → w % 0x1000_0000 / 0x400_0000 ≡ which → w % 0x1000_0000 % 0x400_0000 < limit_room (limit_kind_at which) → Plain Limited w
limit_plain w which e f h = plain Limited w 8 e refl (lt-leb _ _ (subst (λ (x : ℕ). w % 0x1000_0000 % 0x400_0000 < limit_room (limit_kind_at x)) (sym f) h))

limit_at_lem : (l : LimitWord) (which : ℕ) → limit_word l / 0x400_0000 % 4 ≡ which → limit_at (limit_kind_at which) (limit_word l) ≡ l → limit_of (limit_word l) ≡ l
limit_at_lem l which e f = ap (λ (x : ℕ). limit_at (limit_kind_at x) (limit_word l)) e ∙ f

limit_trip : (l : LimitWord) → InFields l → Plain Limited (limit_word l) × (limit_of (limit_word l) ≡ l)
limit_trip (Floor n) h =
    (limit_plain (limit_word (Floor n)) 0 (omega arith) (omega arith) (omega arith), limit_at_lem (Floor n) 0 (omega arith) (ap Floor (omega arith)))
limit_trip (Ceiling n) h =
    (limit_plain (limit_word (Ceiling n)) 1 (omega arith) (omega arith) (omega arith), limit_at_lem (Ceiling n) 1 (omega arith) (ap Ceiling (omega arith)))
limit_trip (Clocked u v) h =
    let w = limit_word (Clocked u v) in
    let e : Clocked (from_of w) (to_of w) ≡ Clocked u v = grind arith in
    (limit_plain w 2 (omega arith) (omega arith) (omega arith), limit_at_lem (Clocked u v) 2 (omega arith) e)
limit_trip (Rule n) h =
    (limit_plain (limit_word (Rule n)) 3 (omega arith) (omega arith) (omega arith), limit_at_lem (Rule n) 3 (omega arith) (ap Rule (omega arith)))

limit_whole : (w which : ℕ) → w / 0x1000_0000 ≡ 8 → w / 0x400_0000 % 4 ≡ which → w % 0x400_0000 < limit_room (limit_kind_at which) → limit_word (limit_at (limit_kind_at which) w) ≡ w
limit_whole w zero e f h = omega arith
limit_whole w (suc zero) e f h = omega arith
limit_whole w (suc (suc zero)) e f h = omega arith
limit_whole w (suc (suc (suc zero))) e f h = omega arith
limit_whole w (suc (suc (suc (suc n)))) e f h = absurd (omega arith)

limit_back : (w : ℕ) → Plain Limited w → limit_word (limit_of w) ≡ w
limit_back w h =
    let a = top Limited w h in
    let p : w % 0x1000_0000 / 0x400_0000 ≡ w / 0x400_0000 % 4 = omega arith in
    let q : w % 0x1000_0000 % 0x400_0000 ≡ w % 0x400_0000 = omega arith in
    let b = leb-false (limit_room (limit_kind_at (w % 0x1000_0000 / 0x400_0000))) (w % 0x1000_0000 % 0x400_0000) (low Limited w h) in
    let c : w % 0x1000_0000 % 0x400_0000 < limit_room (limit_kind_at (w / 0x400_0000 % 4)) = subst (λ (x : ℕ). w % 0x1000_0000 % 0x400_0000 < limit_room (limit_kind_at x)) p b in
    limit_whole w (w / 0x400_0000 % 4) (omega arith) refl (subst (λ (x : ℕ). x < limit_room (limit_kind_at (w / 0x400_0000 % 4))) q c)

pub reply_trips : ReplyTrips
reply_trips = record {
  cost = λ c h. (plain Cost (cost_word c) 5 (omega arith) refl refl, omega arith);
  label = λ g l h a b.
      let s = signed-complement l a b in
      (plain Label (label_word g l) 6 (omega arith) refl (lt-leb 0x80_0000 _ (omega arith)), omega arith, (let r : label_word g l % 0x1_0000 ≡ complement l = omega arith in ap signed r ∙ s.1));
  refusal = λ n p h k. (plain Refused (refusal_word n p) 7 (omega arith) refl refl, omega arith, omega arith);
  limit = limit_trip;
  cost_back = λ w h. let a = top Cost w h in omega arith;
  label_back = λ w h.
      let a = top Label w h in
      let b = leb-false 0x80_0000 (w % 0x1000_0000) (low Label w h) in
      let c = complement-signed (w % 0x1_0000) (omega arith) in
      omega arith;
  refusal_back = λ w h.
      let a = top Refused w h in
      omega arith;
  limit_back = limit_back;
}
