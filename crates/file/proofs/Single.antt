-- Words have one fault at most, and none if they are a file; and they are one file at most.
use Rattle.std.proofs.Common.{◌≡◌, ℕ, ◌+◌, ◌<◌, ◌≤◌, Bool, cond, ◌⊎◌, ◌↔◌, List, [], ◌∷◌, ◌++◌, map, length, get_or, take, Some, None, Option, sym, refl, ap, ◌∙◌, subst, inl, inr, arith}
use Rattle.std.specs.List.{AllByRecursion}
use Rattle.std.proofs.lemmas.List.{take_all, length-take, length-take-le, take-take, get_or-take, length_push, length-append, length-map, take_at, get_or_at}
use Rattle.std.proofs.lemmas.Bool.{cases_order}
use Rattle.words.proofs.Both.{trips}
use Rattle.words.specs.declared.Kind.{Kind}
use Rattle.words.specs.Layout.{kind_of, stray, price_of, registers_of, floor_of, ceiling_of, gate_word, wire_word, fill_word, clock_word, end_word}
use Rattle.refusals.specs.declared.Refusal.TheVariants.{BadEnd}
use Rattle.refusals.specs.declared.LoadRefusal.{LoadRefusal}
use Rattle.refusals.specs.declared.LoadRefusal.TheVariants.{Call}
use Rattle.words.specs.Netlist.{Wire, Netlist, Joins, WireWords, none, alone, filled, Spells, Begins}
use Rattle.refusals.specs.Refusals.{load_place_of}
use Rattle.file.specs.Faults.{Before, before, is_end, may_follow, called, wrong, FaultAt, word, missing}
use Rattle.file.specs.Stepping.{start}
use Rattle.file.specs.Theorems.{OneMeaning}
use Rattle.file.proofs.Rights.{wrong_is, Right, right_front, right_at, right_more}
use Rattle.file.proofs.Rows.{right_begins}
use Rattle.file.proofs.Files.{file_right, body_long}

-- ---- faults
pub begins_right : (f : List ℕ) → Begins f → Right start f
begins_right f b = right_front start f b.rest (file_right (f ++ b.rest) b.netlist b.spelled)

-- a word that is wrong stands in no front of a file
not_inside : (ws : List ℕ) (f : LoadRefusal) (i k : ℕ) → i < k → k ≤ length ws → wrong (before (take i ws)) (get_or ws i 0) ≡ Some f → Right start (take k ws) → ⊥
not_inside ws f i k h l e r =
    let a = right_at start (take k ws) i (rw (length-take-le k ws l) h) r in
    let y = wrong_is (take i ws) (get_or ws i 0) in
    let le : i ≤ k = omega arith in
    let t : take i (take k ws) ≡ take i ws = take-take i k ws le in
    let d : get_or (take k ws) i 0 ≡ get_or ws i 0 = get_or-take k ws i 0 h in
    grind arith

not_in_all : (ws : List ℕ) (f : LoadRefusal) (i : ℕ) → i < length ws → wrong (before (take i ws)) (get_or ws i 0) ≡ Some f → Right start ws → ⊥
not_in_all ws f i h e r = let y = wrong_is (take i ws) (get_or ws i 0) in let a = right_at start ws i h r in grind arith

no_fault : (ws : List ℕ) (f : LoadRefusal) (s : Netlist) → FaultAt ws f → Spells ws s → ⊥
no_fault ws f s (word at b h e) p = not_in_all ws f at h e (file_right ws s p)
no_fault ws f s (missing b n) p = n s p

one_fault : (ws : List ℕ) (f g : LoadRefusal) → FaultAt ws f → FaultAt ws g → f ≡ g
one_fault ws f g (word at b h e) (word at' b' h' e') = go (cases_order at at')
  where
    go : (at ≡ at') ⊎ ((at < at') ⊎ (at' < at)) → f ≡ g
    go (inl q) =
        let x : wrong (before (take at ws)) (get_or ws at 0) ≡ Some g = subst (λ (k : ℕ). wrong (before (take k ws)) (get_or ws k 0) ≡ Some g) (sym q) e' in
        cc
    go (inr (inl l)) = absurd (not_inside ws f at at' l (omega arith) e (begins_right (take at' ws) b'))
    go (inr (inr l)) = absurd (not_inside ws g at' at l (omega arith) e' (begins_right (take at ws) b))
one_fault ws f g (word at b h e) (missing b' n) = absurd (not_in_all ws f at h e (begins_right ws b'))
one_fault ws f g (missing b n) (word at b' h e) = absurd (not_in_all ws g at h e (begins_right ws b))
one_fault ws f g (missing b n) (missing b' n') = refl

-- ---- readings
-- words that do not begin with a gate's
abbrev Past : List ℕ → Type 0
Past [] = Unit {0}
Past (w ∷ ws) = 0x2000_0000 ≤ w

gates_same : (ds es : List ℕ) (r t : List ℕ) → AllByRecursion (λ d. d < 0x1_0000) ds → AllByRecursion (λ d. d < 0x1_0000) es → Past r → Past t → map gate_word ds ++ r ≡ map gate_word es ++ t → (ds ≡ es) × (r ≡ t)
gates_same [] [] r t h k p q e = (refl, e)
gates_same [] (x ∷ es) [] t h k p q e = grind arith
gates_same [] (x ∷ es) (w ∷ r) t h k p q e = absurd (let z : w ≡ gate_word x = cc in let y = k.0 in omega arith)
gates_same (d ∷ ds) [] r [] h k p q e = grind arith
gates_same (d ∷ ds) [] r (w ∷ t) h k p q e = absurd (let z : gate_word d ≡ w = cc in let y = h.0 in omega arith)
gates_same (d ∷ ds) (x ∷ es) r t h k p q e =
    let a : gate_word d ≡ gate_word x = cc in
    let b : map gate_word ds ++ r ≡ map gate_word es ++ t = cc in
    let i = gates_same ds es r t h.1 k.1 p q b in
    let s : d ≡ x = omega arith in
    (ap (λ (y : ℕ). y ∷ ds) s ∙ ap (λ (y : List ℕ). x ∷ y) i.0, i.1)

past_wires : {vs : List Wire} {xs : List ℕ} → WireWords vs xs → (c : ℕ) (r : List ℕ) → Past (xs ++ clock_word c ∷ r)
past_wires none c r = omega arith
past_wires (alone q) c r = omega arith
past_wires (filled q) c r = omega arith

-- what a clock or a wire begins is no fill
no_fill : (g : ℕ) → g ≤ 127 → {vs : List Wire} {xs : List ℕ} → WireWords vs xs → AllByRecursion (Joins g) vs → (c w : ℕ) (r t : List ℕ) → c < 0x100_0000
    → 0x3000_0000 ≤ w → w < 0x4000_0000 → xs ++ clock_word c ∷ r ≡ w ∷ t → ⊥
no_fill g f none j c w r t h k l e = let z : clock_word c ≡ w = cc in omega arith
no_fill g f (alone {from} {to} q) j c w r t h k l e = let z : wire_word from to ≡ w = cc in let x = j.0.from in let y = j.0.to in omega arith
no_fill g f (filled {v} q) j c w r t h k l e = let z : wire_word v.from v.to ≡ w = cc in let x = j.0.from in let y = j.0.to in omega arith

fill_range : (g : ℕ) (v : Wire) → Joins g v → (0x3000_0000 ≤ fill_word v.price v.registers v.floor v.ceiling) × (fill_word v.price v.registers v.floor v.ceiling < 0x4000_0000)
fill_range g v j = (omega arith, omega arith)

same_wire : (a b a' b' : ℕ) → a < 128 → b < 128 → a' < 128 → b' < 128 → wire_word a b ≡ wire_word a' b' → (a ≡ a') × (b ≡ b')
same_wire a b a' b' h k l m e = (omega arith, omega arith)

pub same_fields : (v u : Wire) → v.from ≡ u.from → v.to ≡ u.to → v.registers ≡ u.registers → v.price ≡ u.price → v.floor ≡ u.floor → v.ceiling ≡ u.ceiling → v ≡ u
same_fields v u a b c d e f = grind arith

same_fill : (g : ℕ) (v u : Wire) → Joins g v → Joins g u → v.from ≡ u.from → v.to ≡ u.to → fill_word v.price v.registers v.floor v.ceiling ≡ fill_word u.price u.registers u.floor u.ceiling → v ≡ u
same_fill g v u j k p q e =
    let x = trips.fill v.price v.registers v.floor v.ceiling j.priced j.cheap j.registers (omega arith) j.ceiling in
    let y = trips.fill u.price u.registers u.floor u.ceiling k.priced k.cheap k.registers (omega arith) k.ceiling in
    let a : v.price ≡ u.price = sym x.1 ∙ ap price_of e ∙ y.1 in
    let b : v.registers ≡ u.registers = sym x.2 ∙ ap registers_of e ∙ y.2 in
    let f : v.floor ≡ u.floor = sym x.3 ∙ ap floor_of e ∙ y.3 in
    let c : v.ceiling ≡ u.ceiling = sym x.4 ∙ ap ceiling_of e ∙ y.4 in
    same_fields v u p q b a f c

module _ (g : ℕ) (few : g ≤ 127) (c d : ℕ) (hc : c < 0x100_0000) (hd : d < 0x100_0000) (r t : List ℕ) where
  wires_same : {vs us : List Wire} {xs ys : List ℕ} → WireWords vs xs → WireWords us ys → AllByRecursion (Joins g) vs → AllByRecursion (Joins g) us → xs ++ clock_word c ∷ r ≡ ys ++ clock_word d ∷ t → (vs ≡ us) × (c ≡ d)
  wires_same none none j k e = (refl, let z : clock_word c ≡ clock_word d = cc in omega arith)
  wires_same none (alone {from} {to} q) j k e = absurd (let z : clock_word c ≡ wire_word from to = cc in let x = k.0.from in let y = k.0.to in omega arith)
  wires_same none (filled {v} q) j k e = absurd (let z : clock_word c ≡ wire_word v.from v.to = cc in let x = k.0.from in let y = k.0.to in omega arith)
  wires_same (alone {from} {to} q) none j k e = absurd (let z : wire_word from to ≡ clock_word d = cc in let x = j.0.from in let y = j.0.to in omega arith)
  wires_same (filled {v} q) none j k e = absurd (let z : wire_word v.from v.to ≡ clock_word d = cc in let x = j.0.from in let y = j.0.to in omega arith)
  wires_same (alone {from} {to} {vs} {ws} q) (alone {from = from'} {to = to'} {vs = us} {ws = ys} q') j k e =
      let z : wire_word from to ≡ wire_word from' to' = cc in
      let b : ws ++ clock_word c ∷ r ≡ ys ++ clock_word d ∷ t = cc in
      let s = same_wire from to from' to' (let x = j.0.from in omega arith) (let x = j.0.to in omega arith) (let x = k.0.from in omega arith) (let x = k.0.to in omega arith) z in
      let i = wires_same q q' j.1 k.1 b in
      let f = s.0 in
      let o = s.1 in
      let l = i.0 in
      (cc, i.1)
  wires_same (alone {from} {to} {vs} {ws} q) (filled {v} {vs = us} {ws = ys} q') j k e =
      absurd (let w = fill_word v.price v.registers v.floor v.ceiling in
      let b : ws ++ clock_word c ∷ r ≡ w ∷ (ys ++ clock_word d ∷ t) = cc in
      let f = fill_range g v k.0 in
      no_fill g few q j.1 c w r (ys ++ clock_word d ∷ t) hc f.0 f.1 b)
  wires_same (filled {v} {vs} {ws} q) (alone {vs = us} {ws = ys} q') j k e =
      absurd (let w = fill_word v.price v.registers v.floor v.ceiling in
      let b : ys ++ clock_word d ∷ t ≡ w ∷ (ws ++ clock_word c ∷ r) = cc in
      let f = fill_range g v j.0 in
      no_fill g few q' k.1 d w t (ws ++ clock_word c ∷ r) hd f.0 f.1 b)
  wires_same (filled {v} {vs} {ws} q) (filled {v = u} {vs = us} {ws = ys} q') j k e =
      let z : wire_word v.from v.to ≡ wire_word u.from u.to = cc in
      let y : fill_word v.price v.registers v.floor v.ceiling ≡ fill_word u.price u.registers u.floor u.ceiling = cc in
      let b : ws ++ clock_word c ∷ r ≡ ys ++ clock_word d ∷ t = cc in
      let s = same_wire v.from v.to u.from u.to (let x = j.0.from in omega arith) (let x = j.0.to in omega arith) (let x = k.0.from in omega arith) (let x = k.0.to in omega arith) z in
      let i = wires_same q q' j.1 k.1 b in
      let l = i.0 in
      let m : v ≡ u = same_fill g v u j.0 k.0 s.0 s.1 y in
      (cc, i.1)

one_reading : (ws : List ℕ) (s t : Netlist) → Spells ws s → Spells ws t → s ≡ t
one_reading ws s t p q =
    let n = length s.delays + length p.body + 1 in
    let m = length t.delays + length q.body + 1 in
    let a = gates_same s.delays t.delays _ _ p.fits.short q.fits.short (past_wires p.wires s.clock (end_word n ∷ [])) (past_wires q.wires t.clock (end_word m ∷ [])) (sym p.whole ∙ q.whole) in
    let j = subst (λ (x : List ℕ). AllByRecursion (Joins (length x)) t.wires) (sym a.0) q.fits.joins in
    let b = wires_same (length s.delays) p.fits.few s.clock t.clock p.fits.limit q.fits.limit (end_word n ∷ []) (end_word m ∷ []) p.wires q.wires p.fits.joins j a.1 in
    let d = a.0 in
    let v = b.0 in
    let k = b.1 in
    grind arith

-- ---- fronts
next_word : (front : List ℕ) (w : ℕ) → Begins front → (wrong (before front) w ≡ None) ↔ Begins (front ++ w ∷ [])
next_word front w b = ((λ e. right_begins (front ++ w ∷ []) (right_more start front w (begins_right front b) (wrong_is front w ∙ e))), back)
  where
    back : Begins (front ++ w ∷ []) → wrong (before front) w ≡ None
    back c =
        let r = begins_right (front ++ w ∷ []) c in
        let l : length front < length (front ++ w ∷ []) = omega (arith, length_push front w) in
        let e = right_at start (front ++ w ∷ []) (length front) l r in
        let t : take (length front) (front ++ w ∷ []) ≡ front = take_at front (w ∷ []) (length front) refl in
        let d : get_or (front ++ w ∷ []) (length front) 0 ≡ w = get_or_at front w [] 0 (length front) refl in
        let y = wrong_is front w in
        cc

pub file_long : (ws : List ℕ) (s : Netlist) → Spells ws s → length ws ≤ 1153
file_long ws s p =
    let n = length s.delays + length p.body + 1 in
    let a = ap length p.whole in
    let b = length-append (map gate_word s.delays) (p.body ++ (clock_word s.clock ∷ end_word n ∷ [])) in
    let c = length-append p.body (clock_word s.clock ∷ end_word n ∷ []) in
    let d = length-map s.delays gate_word in
    let e = body_long p.wires in
    let f = p.fits.held in
    let g = p.fits.few in
    omega arith

pub front_long : (f : List ℕ) → Begins f → length f ≤ 1153
front_long f b = let a = file_long (f ++ b.rest) b.netlist b.spelled in let c = length-append f b.rest in omega arith

-- what is wrong with a word has the word's index as its place
called_place : (k : Kind) (b : Before) (w : ℕ) (f : LoadRefusal) → called k b w ≡ Some f → load_place_of f ≡ b.words
called_place k b w f e = grind arith

placed : (x y z : Bool) (a s n f : LoadRefusal) (o : Option LoadRefusal) (at : ℕ) → load_place_of a ≡ at → load_place_of s ≡ at → load_place_of n ≡ at → (o ≡ Some f → load_place_of f ≡ at)
    → cond x (Some a) (cond y (cond z (Some s) o) (Some n)) ≡ Some f → load_place_of f ≡ at
placed x y z a s n f o at p q r h e = grind arith

wrong_place : (b : Before) (w : ℕ) (f : LoadRefusal) → wrong b w ≡ Some f → load_place_of f ≡ b.words
wrong_place b w f e =
    placed (is_end b.last) (may_follow b.last (kind_of w)) (stray w) _ _ _ f _ b.words refl refl refl (called_place (kind_of w) b w f) e

place : (ws : List ℕ) (f : LoadRefusal) → FaultAt ws f → load_place_of f ≤ 1153
place ws f (word at b h e) =
    let a = front_long (take at ws) b in
    let p = wrong_place (before (take at ws)) (get_or ws at 0) f e in
    omega arith
place ws f (missing b n) = front_long ws b

-- no fault needs a word past the first 1,154
early : (ws : List ℕ) (k : ℕ) (f : LoadRefusal) → 1154 ≤ k → FaultAt (take k ws) f → FaultAt ws f
early ws k f l (word at b h e) =
    let lk : at < k = let a = length-take k ws in omega arith in
    let lw : at < length ws = let a = length-take k ws in omega arith in
    let t : take at (take k ws) ≡ take at ws = take-take at k ws (omega arith) in
    let d : get_or (take k ws) at 0 ≡ get_or ws at 0 = get_or-take k ws at 0 lk in
    word at (subst Begins t b) lw (ap (λ (x : ℕ). wrong (before (take at ws)) x) (sym d) ∙ ap (λ (x : List ℕ). wrong (before x) (get_or (take k ws) at 0)) (sym t) ∙ e)
early ws k f l (missing b n) =
    let a = front_long (take k ws) b in
    let c = length-take k ws in
    let t : take k ws ≡ ws = take_all k ws (omega arith) in
    subst (λ (x : List ℕ). FaultAt ws (Call (BadEnd (length x)))) (sym t) (missing (subst Begins t b) (λ s p. n s (subst (λ (x : List ℕ). Spells x s) (sym t) p)))

pub one_meaning : OneMeaning
one_meaning = record { next_word = next_word; one_fault = one_fault; no_fault = no_fault; one_reading = one_reading; place = place; early = early }
