-- Words put into a memory one after the other.
use Rattle.std.proofs.Common.{◌≡◌, ℕ, ◌+◌, ◌*◌, ◌<◌, ◌≤◌, List, [], ◌∷◌, ◌++◌, map, length, get_or, take, drop, set, sym, refl, ap, ◌∙◌, subst, arith}
use Rattle.std.proofs.lemmas.List.{append-nil, take_at, drop_at, drop-drop, drop_all, length-drop, append_assoc, length-append, length-take-le, length_push, take_more, take_all, drop_more, set_at, length-map, map_more}
use borrow.Rule.Slice.PartMut.{put_mid}
use Rattle.words.specs.Layout.{gate_word, wire_word, fill_word}
use Rattle.words.specs.Netlist.{Wire, WireWords, none, filled}
use Rattle.writer.specs.Writing.{body_of, Puts}

-- one word more
pub puts_more : (old xs out : List ℕ) (n w : ℕ) → Puts old xs out → n ≡ length xs → n < length old → Puts old (xs ++ w ∷ []) (set out n w)
puts_more old xs out n w p e h =
    ap (λ (x : List ℕ). set x n w) (p ∙ ap (λ (k : ℕ). xs ++ drop k old) (sym e) ∙ ap (λ (x : List ℕ). xs ++ x) (drop_more old n 0 h))
    ∙ set_at xs (get_or old n 0) (drop (n + 1) old) w n (sym e)
    ∙ sym (append_assoc xs (w ∷ []) (drop (n + 1) old))
    ∙ ap (λ (k : ℕ). (xs ++ w ∷ []) ++ drop k old) (omega (arith, e, length_push xs w))

-- more words, as a part of the memory
pub puts_part : (old xs out ys part : List ℕ) (n k : ℕ) → Puts old xs out → n ≡ length xs → part ≡ ys → k ≡ length ys → Puts old (xs ++ ys) (put_mid n k out part)
puts_part old xs out ys part n k p e q f =
    let front : take n out ≡ xs = ap (take n) p ∙ take_at xs (drop (length xs) old) n (sym e) in
    let back : drop k (drop n out) ≡ drop (length (xs ++ ys)) old =
    ap (drop k) (ap (drop n) p ∙ drop_at xs (drop (length xs) old) n (sym e)) ∙ drop-drop k (length xs) old ∙ ap (λ (z : ℕ). drop z old) (omega (arith, f, length-append xs ys)) in
    ap (λ (z : List ℕ). put_mid n k out z) q
    ∙ ap (λ (z : List ℕ). z ++ (ys ++ drop k (drop n out))) front
    ∙ ap (λ (z : List ℕ). xs ++ (ys ++ z)) back
    ∙ sym (append_assoc xs ys (drop (length (xs ++ ys)) old))

-- more words, at the start of the memory's rest
pub puts_behind : (old xs out ys part : List ℕ) (n k : ℕ) → Puts old xs out → n ≡ length xs → Puts (take k (drop n out)) ys part → length out ≤ n + k → Puts old (xs ++ ys) (put_mid n k out part)
puts_behind old xs out ys part n k p e q h =
    let none : drop k (drop n out) ≡ [] = drop-drop k n out ∙ drop_all (n + k) out (omega arith) in
    ap (λ (z : List ℕ). take n out ++ (part ++ z)) none
    ∙ ap (λ (z : List ℕ). take n out ++ z) (append-nil part ∙ q ∙ ap (λ (z : List ℕ). ys ++ drop (length ys) z) (take_all k (drop n out) (omega (arith, length-drop n out))))
    ∙ puts_part old xs out ys ys n (length ys) p e refl refl

-- ---- wires
body_append : (xs ys : List Wire) → body_of (xs ++ ys) ≡ body_of xs ++ body_of ys
body_append [] ys = refl
body_append (v ∷ xs) ys = ap (λ (x : List ℕ). wire_word v.from v.to ∷ fill_word v.price v.registers v.floor v.ceiling ∷ x) (body_append xs ys)

pub length_body : (vs : List Wire) → length (body_of vs) ≡ 2 * length vs
length_body [] = refl
length_body (v ∷ vs) = let h = length_body vs in omega arith

pub of_body : (vs : List Wire) → WireWords vs (body_of vs)
of_body [] = none
of_body (v ∷ vs) = filled (of_body vs)

pub wired_more : (vs : List Wire) (k i : ℕ) (v : Wire) (old out part : List ℕ) (n m j : ℕ) → Puts old (body_of (take k vs)) out → (k < length vs) × (i ≡ k) × (v ≡ get_or vs k v) → part ≡ body_of (v ∷ []) → n ≡ 2 * i → m ≡ 2 → j ≡ k + 1
    → Puts old (body_of (take j vs)) (put_mid n m out part)
wired_more vs k i v old out part n m j g h p e f q =
    let a = length_body (take k vs) in
    let b = length-take-le k vs (omega (arith, h.0)) in
    let c = h.1 in
    let same : body_of (take k vs) ++ body_of (v ∷ []) ≡ body_of (take (k + 1) vs) =
    sym (body_append (take k vs) (v ∷ [])) ∙ ap (λ (z : Wire). body_of (take k vs ++ z ∷ [])) h.2 ∙ ap body_of (sym (take_more vs k v h.0)) in
    rw q (subst (λ (z : List ℕ). Puts old z (put_mid n m out part)) same (puts_part old (body_of (take k vs)) out (body_of (v ∷ [])) part n m g (omega arith) p f))

-- ---- gates
pub gated_more : (delays : List ℕ) (i : ℕ) (old out : List ℕ) (w : ℕ) → Puts old (map gate_word (take i delays)) out → i < length delays → length delays ≤ length old → w ≡ gate_word (get_or delays i 0) → Puts old (map gate_word (take (i + 1) delays)) (set out i w)
gated_more delays i old out w g h l e =
    let a = length-map (take i delays) gate_word in
    let b = length-take-le i delays (omega arith) in
    let p = puts_more old (map gate_word (take i delays)) out i w g (omega arith) (omega arith) in
    subst (λ (x : List ℕ). Puts old x (set out i w)) (ap (λ (x : ℕ). map gate_word (take i delays) ++ x ∷ []) e ∙ sym (map_more gate_word delays i 0 h)) p
