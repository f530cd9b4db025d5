-- A file's graph, record by record: each call is taken, and adds what the record says.
use Rattle.std.proofs.Common.{◌≡◌, ℕ, ◌+◌, ◌<◌, ◌≤◌, Bool, true, false, cond, ltb, ◌⊎◌, List, [], ◌∷◌, ◌++◌, map, length, get_or, take, drop, Some, Option, sym, refl, ap, ◌∙◌, subst, inl, inr, arith}
use Rattle.std.specs.List.{AllByRecursion}
use Rattle.std.proofs.lemmas.List.{drop-drop, append-nil, append_assoc, map_push, length-append, length-map, length-drop}
use Rattle.std.proofs.lemmas.Grind.{common_steps}
use Rattle.std.proofs.lemmas.Bool.Decides.{nat_tests}
use Rattle.std.proofs.lemmas.Bool.{lt-ltb, cond-true}
use Rattle.words.specs.declared.Kind.{Kind}
use Rattle.words.specs.declared.Kind.TheVariants.{End, Gate, Wire, Fill, Clock}
use Rattle.words.specs.declared.reader.Record.{Record}
use Rattle.words.specs.declared.reader.Record.TheVariants.{Gate as GateRecord, Wire as WireRecord, Clock as ClockRecord}
use Rattle.words.specs.Layout.{kind_of, gate_word, wire_word, fill_word, clock_word, end_word, to_of}
use Rattle.words.specs.Netlist.{Wire as Wired, Netlist, Joins, WithinLimits, WireWords, none, alone, filled, Spells, bare, circuit_of}
use Rattle.words.specs.Records.{is_fill, opens, fills_at, Stretch, StartsAs, part_of, gate_in, clock_in, wire_in}
use Rattle.words.proofs.Both.{trips}
use Rattle.model.specs.Circuit.{Circuit, gates}
use Rattle.file.specs.Faults.{is_gate, is_wire, is_clock}
use Rattle.file.proofs.Files.{body_long}
use Rattle.file.proofs.Single.{same_fields}
use Rattle.graph.specs.Calls.{after, gate_answer, with_gate, clock_answer, with_clock}
use Rattle.graph.specs.Loading.{wired, circuit_with, clock_with}

-- gates and wires are added, and these are left, with the words of the wires
pub record Todo (n : Netlist) (rest : List ℕ) (c : Circuit) (left : List ℕ) (later : List Wired) (body : List ℕ) : Type 0 where
  pub gone : List ℕ
  pub made : List Wired
  pub count : ℕ
  pub delays_are : n.delays ≡ gone ++ left
  pub wires_are : n.wires ≡ made ++ later
  pub short : AllByRecursion (λ d. d < 0x1_0000) left
  pub joins : AllByRecursion (Joins (length n.delays)) later
  pub rest_is : rest ≡ map gate_word left ++ (body ++ (clock_word n.clock ∷ end_word count ∷ []))
  pub small : count < 0x1000_0000
  pub gates_in : c.delays ≡ 0 ∷ gone
  pub wires_in : c.wires ≡ map Some made

-- all is added, and the end is left
pub record Done (n : Netlist) (rest : List ℕ) (c : Circuit) (t : Option ℕ) : Type 0 where
  pub count : ℕ
  pub rest_is : rest ≡ end_word count ∷ []
  pub small : count < 0x1000_0000
  pub circuit_is : c ≡ circuit_of n
  pub clock_is : t ≡ Some n.clock

pub data State (n : Netlist) (rest : List ℕ) (c : Circuit) (t : Option ℕ) : Type 0 where
  todo : {left : List ℕ} {later : List Wired} {body : List ℕ} → WireWords later body → Todo n rest c left later body → State n rest c t
  done : Done n rest c t → State n rest c t

pub record Filling (ws : List ℕ) (at : ℕ) (c : Circuit) (t : Option ℕ) : Type 0 where
  pub netlist : Netlist
  pub file : Spells ws netlist
  pub state : State netlist (drop at ws) c t

-- the word at n, where what is left from n is known
pub record Head (ws : List ℕ) (n x : ℕ) (xs : List ℕ) : Type 0 where
  pub here : get_or ws n 0 ≡ x
  pub within : n < length ws
  pub next : drop (n + 1) ws ≡ xs

head : (ws : List ℕ) (n x : ℕ) (xs : List ℕ) → drop n ws ≡ x ∷ xs → Head ws n x xs
head ws n x xs e = record {
  here = grind (arith, common_steps, ap (λ (l : List ℕ). get_or l 0 0) e);
  within = omega (arith, ap length e, length-drop n ws);
  next = sym (drop-drop 1 n ws) ∙ ap (drop 1) e;
}

-- a word of one kind is of no other
apart : (x : ℕ) (b : Kind → Bool) (k l : Kind) → kind_of x ≡ k → kind_of x ≡ l → b k ≡ true → b l ≡ false → ⊥
apart x b k l p q e f = absurd (cc)

-- a word that a file has at a place is of its kind
here_is : (ws : List ℕ) (n x : ℕ) (xs : List ℕ) (k : Kind) → drop n ws ≡ x ∷ xs → kind_of x ≡ k → kind_of (get_or ws n 0) ≡ k
here_is ws n x xs k e p = ap kind_of (head ws n x xs e).here ∙ p

wire_kind : (n : Netlist) (v : Wired) → WithinLimits n → Joins (length n.delays) v → kind_of (wire_word v.from v.to) ≡ Wire
wire_kind n v f j = let x = f.few in let y = j.from in let z = j.to in (trips.wire v.from v.to (omega arith) (omega arith)).0.kind

-- the start: the host alone
pub begun : (ws : List ℕ) (n : Netlist) (c : Circuit) (t : Option ℕ) → Spells ws n → c ≡ record { delays = 0 ∷ []; wires = [] } → Filling ws 0 c t
begun ws n c t p e = record {
  netlist = n;
  file = p;
  state = todo p.wires (record {
    gone = [];
    made = [];
    count = length n.delays + length p.body + 1;
    delays_are = refl;
    wires_are = refl;
    short = p.fits.short;
    joins = p.fits.joins;
    rest_is = p.whole;
    small = let x = body_long p.wires in let y = p.fits.held in let z = p.fits.few in omega arith;
    gates_in = ap (λ (d : Circuit). d.delays) e;
    wires_in = ap (λ (d : Circuit). d.wires) e;
  });
}

-- the parts of a stretch
one_word : (ws : List ℕ) (at x : ℕ) (xs : List ℕ) (part : List ℕ) → drop at ws ≡ x ∷ xs → part ≡ take 1 (drop at ws) → part ≡ x ∷ []
one_word ws at x xs part e p = p ∙ ap (take 1) e

two_words : (ws : List ℕ) (at x y : ℕ) (xs : List ℕ) (part : List ℕ) → drop at ws ≡ x ∷ y ∷ xs → part ≡ take 2 (drop at ws) → part ≡ x ∷ y ∷ []
two_words ws at x y xs part e p = p ∙ ap (take 2) e

-- ---- calls that are taken
gate_taken : (c : Circuit) (d : ℕ) → d < 0x1_0000 → gates c < 128 → after (gate_answer c d) c (with_gate c d) ≡ with_gate c d
gate_taken c d h k = grind (arith, nat_tests)

wire_taken : (c : Circuit) (v : Wired) (m : ℕ) → gates c ≡ m + 1 → Joins m v → length c.wires < 512
    → wired c v ≡ record { delays = c.delays; wires = c.wires ++ Some v ∷ [] }
wire_taken c v m e j h = grind (arith, nat_tests)

clock_taken : (k : ℕ) (t : Option ℕ) → 1 ≤ k → k < 0x100_0000 → after (clock_answer k) t (with_clock k) ≡ Some k
clock_taken k t h l = grind (arith, nat_tests)

module _ (ws : List ℕ) (at : ℕ) (c : Circuit) (t : Option ℕ) (part : List ℕ) (i : ℕ) (n : Netlist) (file : Spells ws n) where
  -- how many are added and how many are left
  gates_now : (gone left : List ℕ) → n.delays ≡ gone ++ left → c.delays ≡ 0 ∷ gone → (gates c ≡ length gone + 1) × (length gone + length left ≤ 127)
  gates_now gone left e g = let a = ap length e in let b = length-append gone left in let f = file.fits.few in let h = ap length g in (omega arith, omega arith)

  wires_now : (made later : List Wired) → n.wires ≡ made ++ later → c.wires ≡ map Some made → (length c.wires ≡ length made) × (length made + length later ≤ 512)
  wires_now made later e g =
      let a = ap length e in
      let b = length-append made later in
      let f = file.fits.held in
      let h : length c.wires ≡ length made = ap length g ∙ length-map made Some in
      (h, omega arith)

  gate_as : {left : List ℕ} {later : List Wired} {body : List ℕ} → WireWords later body → Todo n (drop at ws) c left later body → Stretch ws at Gate 1 part i
      → Filling ws (at + length part) (after (gate_answer c (gate_in part)) c (with_gate c (gate_in part))) t
  gate_as {left = []} none o st = absurd (apart (get_or ws at 0) is_gate Gate Clock st.kind (here_is ws at _ _ Clock o.rest_is (trips.clock n.clock file.fits.limit).0.kind) refl refl)
  gate_as {left = []} (alone {from} {to} q) o st = absurd (apart (get_or ws at 0) is_gate Gate Wire st.kind (here_is ws at _ _ Wire o.rest_is (wire_kind n (bare from to) file.fits o.joins.0)) refl refl)
  gate_as {left = []} (filled {v} q) o st = absurd (apart (get_or ws at 0) is_gate Gate Wire st.kind (here_is ws at _ _ Wire o.rest_is (wire_kind n v file.fits o.joins.0)) refl refl)
  gate_as {left = d ∷ left} {body = body} q o st =
      let xs = map gate_word left ++ (body ++ (clock_word n.clock ∷ end_word o.count ∷ [])) in
      let h = head ws at (gate_word d) xs o.rest_is in
      let p = one_word ws at (gate_word d) xs part o.rest_is st.words in
      let v : gate_in part ≡ d = ap gate_in p ∙ (trips.gate d o.short.0).1 in
      let g = gates_now o.gone (d ∷ left) o.delays_are o.gates_in in
      let room : gates c < 128 = let a = g.0 in let b = g.1 in omega arith in
      let taken : after (gate_answer c (gate_in part)) c (with_gate c (gate_in part)) ≡ with_gate c d = ap (λ (x : ℕ). after (gate_answer c x) c (with_gate c x)) v ∙ gate_taken c d o.short.0 room in
      let len : at + length part ≡ at + 1 = ap (λ (x : List ℕ). at + length x) p in
      subst (λ (x : Circuit). Filling ws (at + length part) x t) (sym taken) (subst (λ (x : ℕ). Filling ws x (with_gate c d) t) (sym len) (record {
        netlist = n;
        file = file;
        state = todo q (record {
          gone = o.gone ++ d ∷ [];
          made = o.made;
          count = o.count;
          delays_are = o.delays_are ∙ sym (append_assoc o.gone (d ∷ []) left);
          wires_are = o.wires_are;
          short = o.short.1;
          joins = o.joins;
          rest_is = h.next;
          small = o.small;
          gates_in = ap (λ (x : List ℕ). x ++ d ∷ []) o.gates_in;
          wires_in = o.wires_in;
        });
      }))

  -- a wire is added, and these words are left
  wire_filled : (v : Wired) (later : List Wired) (body xs : List ℕ) (k : ℕ) → WireWords later body → Todo n (drop at ws) c [] (v ∷ later) xs
      → wire_in part ≡ v → length part ≡ k → (count : ℕ) → count < 0x1000_0000 → drop (at + k) ws ≡ body ++ (clock_word n.clock ∷ end_word count ∷ [])
      → Filling ws (at + length part) (wired c (wire_in part)) t
  wire_filled v later body xs k q o e l count small r =
      let w = wires_now o.made (v ∷ later) o.wires_are o.wires_in in
      let room : length c.wires < 512 = let a = w.0 in let b = w.1 in omega arith in
      let g = gates_now o.gone [] o.delays_are o.gates_in in
      let all : length n.delays ≡ length o.gone = ap length (o.delays_are ∙ append-nil o.gone) in
      let m : gates c ≡ length n.delays + 1 = let a = g.0 in omega arith in
      let taken : wired c (wire_in part) ≡ record { delays = c.delays; wires = c.wires ++ Some v ∷ [] } = ap (wired c) e ∙ wire_taken c v (length n.delays) m o.joins.0 room in
      subst (λ (x : Circuit). Filling ws (at + length part) x t) (sym taken) (record {
        netlist = n;
        file = file;
        state = todo q (record {
          gone = o.gone;
          made = o.made ++ v ∷ [];
          count = count;
          delays_are = o.delays_are;
          wires_are = o.wires_are ∙ sym (append_assoc o.made (v ∷ []) later);
          short = o.short;
          joins = o.joins.1;
          rest_is = ap (λ (x : ℕ). drop (at + x) ws) l ∙ r;
          small = small;
          gates_in = o.gates_in;
          wires_in = ap (λ (x : List (Option Wired)). x ++ Some v ∷ []) o.wires_in ∙ sym (map_push Some o.made v);
        });
      })

  -- no fill stands where wires or the clock go on
  no_fill_at : (k count : ℕ) {later : List Wired} {body : List ℕ} → WireWords later body → AllByRecursion (Joins (length n.delays)) later → drop k ws ≡ body ++ (clock_word n.clock ∷ end_word count ∷ []) → fills_at ws k ≡ false
  no_fill_at k count q j r = settled (ltb k (length ws)) (kind q j r)
    where
      settled : (b : Bool) {e : Bool} → e ≡ false → cond b e false ≡ false
      settled true e = e
      settled false e = refl

      kind : {later : List Wired} {body : List ℕ} → WireWords later body → AllByRecursion (Joins (length n.delays)) later → drop k ws ≡ body ++ (clock_word n.clock ∷ end_word count ∷ []) → is_fill (kind_of (get_or ws k 0)) ≡ false
      kind none j r = ap is_fill (here_is ws k _ _ Clock r (trips.clock n.clock file.fits.limit).0.kind)
      kind (alone {from} {to} q) j r = ap is_fill (here_is ws k _ _ Wire r (wire_kind n (bare from to) file.fits j.0))
      kind (filled {v} q) j r = ap is_fill (here_is ws k _ _ Wire r (wire_kind n v file.fits j.0))

  wire_as : {left : List ℕ} {later : List Wired} {body : List ℕ} → WireWords later body → Todo n (drop at ws) c left later body → Stretch ws at Wire (cond (fills_at ws (at + 1)) 2 1) part i
      → Filling ws (at + length part) (wired c (wire_in part)) t
  wire_as {left = d ∷ left} q o st = absurd (apart (get_or ws at 0) is_wire Wire Gate st.kind (here_is ws at _ _ Gate o.rest_is (trips.gate d o.short.0).0.kind) refl refl)
  wire_as {left = []} none o st = absurd (apart (get_or ws at 0) is_wire Wire Clock st.kind (here_is ws at _ _ Clock o.rest_is (trips.clock n.clock file.fits.limit).0.kind) refl refl)
  wire_as {left = []} (alone {from} {to} {vs} {ws = body} q) o st =
      let h = head ws at _ _ o.rest_is in
      let f = no_fill_at (at + 1) o.count q o.joins.1 h.next in
      let p = one_word ws at (wire_word from to) _ part o.rest_is (st.words ∙ ap (λ (b : Bool). take (cond b 2 1) (drop at ws)) f) in
      let few = file.fits.few in
      let j = o.joins.0 in
      let w = trips.wire from to (let x = j.from in omega arith) (let x = j.to in omega arith) in
      let e : wire_in part ≡ bare from to = ap wire_in p ∙ ap (λ (x : ℕ). bare x (to_of (wire_word from to))) w.1 ∙ ap (bare from) w.2 in
      wire_filled (bare from to) vs body _ 1 q o e (ap length p) o.count o.small h.next
  wire_as {left = []} (filled {v} {vs} {ws = body} q) o st =
      let h = head ws at _ _ o.rest_is in
      let g = head ws (at + 1) _ _ h.next in
      let few = file.fits.few in
      let j = o.joins.0 in
      let w = trips.wire v.from v.to (let x = j.from in omega arith) (let x = j.to in omega arith) in
      let u = trips.fill v.price v.registers v.floor v.ceiling j.priced j.cheap j.registers (let x = j.ordered in let y = j.ceiling in omega arith) j.ceiling in
      let f : fills_at ws (at + 1) ≡ true =
      cond-true (ltb (at + 1) (length ws)) (is_fill (kind_of (get_or ws (at + 1) 0))) false (lt-ltb (at + 1) (length ws) g.within)
      ∙ ap is_fill (here_is ws (at + 1) _ _ Fill h.next u.0.kind) in
      let p = two_words ws at (wire_word v.from v.to) (fill_word v.price v.registers v.floor v.ceiling) _ part o.rest_is (st.words ∙ ap (λ (b : Bool). take (cond b 2 1) (drop at ws)) f) in
      let e : wire_in part ≡ v = ap wire_in p ∙ same_fields _ v w.1 w.2 u.2 u.1 u.3 u.4 in
      let two : at + 1 + 1 ≡ at + 2 = omega arith in
      wire_filled v vs body _ 2 q o e (ap length p) o.count o.small (ap (λ (k : ℕ). drop k ws) (sym two) ∙ g.next)

  clock_as : {left : List ℕ} {later : List Wired} {body : List ℕ} → WireWords later body → Todo n (drop at ws) c left later body → Stretch ws at Clock 1 part i
      → Filling ws (at + length part) c (after (clock_answer (clock_in part)) t (with_clock (clock_in part)))
  clock_as {left = d ∷ left} q o st = absurd (apart (get_or ws at 0) is_clock Clock Gate st.kind (here_is ws at _ _ Gate o.rest_is (trips.gate d o.short.0).0.kind) refl refl)
  clock_as {left = []} (alone {from} {to} q) o st = absurd (apart (get_or ws at 0) is_clock Clock Wire st.kind (here_is ws at _ _ Wire o.rest_is (wire_kind n (bare from to) file.fits o.joins.0)) refl refl)
  clock_as {left = []} (filled {v} q) o st = absurd (apart (get_or ws at 0) is_clock Clock Wire st.kind (here_is ws at _ _ Wire o.rest_is (wire_kind n v file.fits o.joins.0)) refl refl)
  clock_as {left = []} none o st =
      let h = head ws at _ _ o.rest_is in
      let p = one_word ws at (clock_word n.clock) _ part o.rest_is st.words in
      let v : clock_in part ≡ n.clock = ap clock_in p ∙ (trips.clock n.clock file.fits.limit).1 in
      let len : at + length part ≡ at + 1 = ap (λ (x : List ℕ). at + length x) p in
      record {
        netlist = n;
        file = file;
        state = done (record {
          count = o.count;
          rest_is = ap (λ (x : ℕ). drop x ws) len ∙ h.next;
          small = o.small;
          circuit_is =
              ap (λ (x : List ℕ). record { delays = x; wires = c.wires }) (o.gates_in ∙ ap (λ (x : List ℕ). 0 ∷ x) (sym (o.delays_are ∙ append-nil o.gone)))
              ∙ ap (λ (x : List (Option Wired)). record { delays = 0 ∷ n.delays; wires = x }) (o.wires_in ∙ ap (map Some) (sym (o.wires_are ∙ append-nil o.made)));
          clock_is = ap (λ (x : ℕ). after (clock_answer x) t (with_clock x)) v ∙ clock_taken n.clock t file.fits.ticks file.fits.limit;
        });
      }

  -- a record starts where something is left to do
  opens_as : {left : List ℕ} {later : List Wired} {body : List ℕ} → WireWords later body → Todo n (drop at ws) c left later body → (at < length ws) × (opens (kind_of (get_or ws at 0)) ≡ true)
  opens_as {left = d ∷ left} q o = ((head ws at _ _ o.rest_is).within, ap opens (here_is ws at _ _ Gate o.rest_is (trips.gate d o.short.0).0.kind))
  opens_as {left = []} none o = ((head ws at _ _ o.rest_is).within, ap opens (here_is ws at _ _ Clock o.rest_is (trips.clock n.clock file.fits.limit).0.kind))
  opens_as {left = []} (alone {from} {to} q) o = ((head ws at _ _ o.rest_is).within, ap opens (here_is ws at _ _ Wire o.rest_is (wire_kind n (bare from to) file.fits o.joins.0)))
  opens_as {left = []} (filled {v} q) o = ((head ws at _ _ o.rest_is).within, ap opens (here_is ws at _ _ Wire o.rest_is (wire_kind n v file.fits o.joins.0)))

module _ (ws : List ℕ) (at : ℕ) (c : Circuit) (t : Option ℕ) (f : Filling ws at c t) where
  no_end : (b : Kind → Bool) (k : Kind) → Done f.netlist (drop at ws) c t → kind_of (get_or ws at 0) ≡ k → b k ≡ true → b End ≡ false → ⊥
  no_end b k o e p q = apart (get_or ws at 0) b k End e (here_is ws at _ _ End o.rest_is (trips.end o.count o.small).0.kind) p q

  -- one record more
  pub turn : (item : Record) → StartsAs ws at (Some item) → Filling ws (at + length (part_of item)) (circuit_with c item) (clock_with t item)
  turn (GateRecord part i) st = go f.state
    where
      go : State f.netlist (drop at ws) c t → Filling ws (at + length part.now) (after (gate_answer c (gate_in part.now)) c (with_gate c (gate_in part.now))) t
      go (todo q o) = gate_as ws at c t part.now i f.netlist f.file q o st
      go (done o) = absurd (no_end is_gate Gate o st.kind refl refl)
  turn (WireRecord part i) st = go f.state
    where
      go : State f.netlist (drop at ws) c t → Filling ws (at + length part.now) (wired c (wire_in part.now)) t
      go (todo q o) = wire_as ws at c t part.now i f.netlist f.file q o st
      go (done o) = absurd (no_end is_wire Wire o st.kind refl refl)
  turn (ClockRecord part i) st = go f.state
    where
      go : State f.netlist (drop at ws) c t → Filling ws (at + length part.now) c (after (clock_answer (clock_in part.now)) t (with_clock (clock_in part.now)))
      go (todo q o) = clock_as ws at c t part.now i f.netlist f.file q o st
      go (done o) = absurd (no_end is_clock Clock o st.kind refl refl)

  -- nothing is left but the end
  pub finish : (length ws ≤ at) ⊎ (opens (kind_of (get_or ws at 0)) ≡ false) → Done f.netlist (drop at ws) c t
  finish e = go f.state
    where
      stop : (at < length ws) × (opens (kind_of (get_or ws at 0)) ≡ true) → (length ws ≤ at) ⊎ (opens (kind_of (get_or ws at 0)) ≡ false) → ⊥
      stop h (inl l) = omega arith
      stop h (inr l) = let x = h.1 in absurd (cc)

      go : State f.netlist (drop at ws) c t → Done f.netlist (drop at ws) c t
      go (todo q o) = absurd (stop (opens_as ws at c t [] 0 f.netlist f.file q o) e)
      go (done o) = o
