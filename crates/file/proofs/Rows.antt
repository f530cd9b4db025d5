-- Right words are the front of a file.
use Rattle.std.proofs.Common.{◌≡◌, ℕ, ◌+◌, ◌<◌, ◌≤◌, true, List, [], ◌∷◌, ◌++◌, map, length, None, sym, refl, ap, ◌∙◌, subst, arith}
use Rattle.std.specs.List.{AllByRecursion}
use Rattle.std.proofs.lemmas.List.{append-nil, append_assoc, length-append, length-map, map_push, length_push}
use Rattle.std.proofs.lemmas.Bool.{false≢true}
use Rattle.words.specs.declared.Kind.{Kind}
use Rattle.words.specs.declared.Kind.TheVariants.{End, Gate, Wire, Fill, Clock, Other}
use Rattle.words.specs.Layout.{kind_of, stray, gate_word, wire_word, fill_word, clock_word, delay_of, from_of, to_of, price_of, registers_of, floor_of, ceiling_of, clock_of, count_of}
use Rattle.words.specs.Trips.{Plain}
use Rattle.words.proofs.Both.{trips}
use Rattle.words.specs.Netlist.{Wire as Wired, Netlist, Joins, WireWords, none, alone, filled, Spells, Begins, bare}
use Rattle.file.specs.Faults.{Before, may_follow, is_end, called, wrong}
use Rattle.file.specs.Stepping.{start, more, up_to}
use Rattle.file.proofs.Rights.{reached, Right, peel}

-- gate words for g gates, then the words of n wires
pub record Row (f : List ℕ) (g n : ℕ) : Type 0 where
  pub delays : List ℕ
  pub wires : List Wired
  pub gated : length delays ≡ g
  pub wired : length wires ≡ n
  pub few : g ≤ 127
  pub short : AllByRecursion (λ d. d < 0x1_0000) delays
  pub held : n ≤ 512
  pub joins : AllByRecursion (Joins g) wires
  pub body : List ℕ
  pub spelled : WireWords wires body
  pub whole : f ≡ map gate_word delays ++ body

all_push : {X : Type 0} (P : X → Type 0) (xs : List X) (x : X) → AllByRecursion P xs → P x → AllByRecursion P (xs ++ x ∷ [])
all_push P [] x h p = (p, tt)
all_push P (y ∷ xs) x h p = (h.0, all_push P xs x h.1 p)

of_append : {vs us : List Wired} {ws xs : List ℕ} → WireWords vs ws → WireWords us xs → WireWords (vs ++ us) (ws ++ xs)
of_append none q = q
of_append (alone p) q = alone (of_append p q)
of_append (filled p) q = filled (of_append p q)

-- no wires, no words of theirs
of_none : {vs : List Wired} {ws : List ℕ} → WireWords vs ws → length vs ≡ 0 → ws ≡ []
of_none none e = refl
of_none (alone q) e = absurd (omega arith)
of_none (filled q) e = absurd (omega arith)

-- one gate more, before any wire
row_gate : (f : List ℕ) (g w : ℕ) → Row f g 0 → Plain Gate w → g < 127 → Row (f ++ w ∷ []) (g + 1) 0
row_gate f g w r p h = record {
  delays = r.delays ++ delay_of w ∷ [];
  wires = [];
  gated = length_push r.delays (delay_of w) ∙ ap (λ (x : ℕ). x + 1) r.gated;
  wired = refl;
  few = omega arith;
  short = all_push (λ (d : ℕ). d < 0x1_0000) r.delays (delay_of w) r.short (omega arith);
  held = omega arith;
  joins = tt;
  body = [];
  spelled = none;
  whole =
      let e = of_none r.spelled r.wired in
      ap (λ (x : List ℕ). x ++ w ∷ []) (r.whole ∙ ap (λ (x : List ℕ). map gate_word r.delays ++ x) e ∙ append-nil (map gate_word r.delays))
      ∙ ap (λ (x : ℕ). map gate_word r.delays ++ x ∷ []) (sym (trips.gate_back w p))
      ∙ sym (map_push gate_word r.delays (delay_of w))
      ∙ sym (append-nil (map gate_word (r.delays ++ delay_of w ∷ [])));
}

-- one wire more, with its words
row_wire : (f : List ℕ) (g n : ℕ) (v : Wired) (xs : List ℕ) → Row f g n → Joins g v → WireWords (v ∷ []) xs → n < 512 → Row (f ++ xs) g (n + 1)
row_wire f g n v xs r j o h = record {
  delays = r.delays;
  wires = r.wires ++ v ∷ [];
  gated = r.gated;
  wired = length_push r.wires v ∙ ap (λ (x : ℕ). x + 1) r.wired;
  few = r.few;
  short = r.short;
  held = omega arith;
  joins = all_push (Joins g) r.wires v r.joins j;
  body = r.body ++ xs;
  spelled = of_append r.spelled o;
  whole = ap (λ (x : List ℕ). x ++ xs) r.whole ∙ append_assoc (map gate_word r.delays) r.body xs;
}

-- a wire word last
pub record WireLast (f : List ℕ) (g n : ℕ) : Type 0 where
  pub front : List ℕ
  pub earlier : ℕ
  pub from : ℕ
  pub to : ℕ
  pub row : Row front g earlier
  pub counted : n ≡ earlier + 1
  pub room : earlier < 512
  pub starts : from ≤ g
  pub ends : to ≤ g
  pub whole : f ≡ front ++ wire_word from to ∷ []

-- a clock word last
pub record ClockLast (f : List ℕ) (g n : ℕ) : Type 0 where
  pub front : List ℕ
  pub clock : ℕ
  pub row : Row front g n
  pub ticks : 1 ≤ clock
  pub limit : clock < 0x100_0000
  pub whole : f ≡ front ++ clock_word clock ∷ []

abbrev pub PartAs : Kind → List ℕ → ℕ → ℕ → Type 0
PartAs Gate f g n = Row f g n × (n ≡ 0)
PartAs Wire f g n = WireLast f g n
PartAs Fill f g n = Row f g n
PartAs Clock f g n = ClockLast f g n
PartAs End f g n = (s : Netlist) × Spells f s
PartAs k f g n = ⊥

bare_joins : (g from to : ℕ) → from ≤ g → to ≤ g → Joins g (bare from to)
bare_joins g from to h k = record { from = h; to = k; registers = omega arith; cheap = omega arith; priced = omega arith; ordered = omega arith; ceiling = omega arith }

wire_row : (f : List ℕ) (g n : ℕ) → WireLast f g n → Row f g n
wire_row f g n l =
    let r = row_wire l.front g l.earlier (bare l.from l.to) (wire_word l.from l.to ∷ []) l.row (bare_joins g l.from l.to l.starts l.ends) (alone none) l.room in
    subst (λ (x : ℕ). Row f g x) (sym l.counted) (subst (λ (x : List ℕ). Row x g (l.earlier + 1)) (sym l.whole) r)

fill_row : (f : List ℕ) (g n w : ℕ) → WireLast f g n → Plain Fill w → floor_of w ≤ ceiling_of w → Row (f ++ w ∷ []) g n
fill_row f g n w l p h =
    let v : Wired = record { from = l.from; to = l.to; registers = registers_of w; price = price_of w; floor = floor_of w; ceiling = ceiling_of w } in
    let j : Joins g v = record { from = l.starts; to = l.ends; registers = omega arith; cheap = omega arith; priced = omega arith; ordered = h; ceiling = omega arith } in
    let xs = wire_word l.from l.to ∷ fill_word (price_of w) (registers_of w) (floor_of w) (ceiling_of w) ∷ [] in
    let r = row_wire l.front g l.earlier v xs l.row j (filled none) l.room in
    let e : l.front ++ xs ≡ f ++ w ∷ [] =
    ap (λ (x : ℕ). l.front ++ (wire_word l.from l.to ∷ x ∷ [])) (trips.fill_back w p)
    ∙ sym (append_assoc l.front (wire_word l.from l.to ∷ []) (w ∷ []))
    ∙ ap (λ (x : List ℕ). x ++ w ∷ []) (sym l.whole) in
    subst (λ (x : ℕ). Row (f ++ w ∷ []) g x) (sym l.counted) (subst (λ (x : List ℕ). Row x g (l.earlier + 1)) e r)

-- a file, once the clock and the end stand
ends : (f : List ℕ) (g n w : ℕ) → ClockLast f g n → w ≡ length f → (s : Netlist) × Spells (f ++ w ∷ []) s
ends f g n w l e = (
  record { delays = l.row.delays; wires = l.row.wires; clock = l.clock },
  record {
    fits = record {
      few = subst (λ (x : ℕ). x ≤ 127) (sym l.row.gated) l.row.few;
      short = l.row.short;
      held = subst (λ (x : ℕ). x ≤ 512) (sym l.row.wired) l.row.held;
      joins = subst (λ (x : ℕ). AllByRecursion (Joins x) l.row.wires) (sym l.row.gated) l.row.joins;
      ticks = l.ticks;
      limit = l.limit;
    };
    body = l.row.body;
    wires = l.row.spelled;
    whole =
        let count : w ≡ length l.row.delays + length l.row.body + 1 =
        e ∙ ap length (l.whole ∙ ap (λ (x : List ℕ). x ++ clock_word l.clock ∷ []) l.row.whole)
        ∙ simp (length-append, length-map) in
        ap (λ (x : List ℕ). x ++ w ∷ []) (l.whole ∙ ap (λ (x : List ℕ). x ++ clock_word l.clock ∷ []) l.row.whole)
        ∙ append_assoc (map gate_word l.row.delays ++ l.row.body) (clock_word l.clock ∷ []) (w ∷ [])
        ∙ append_assoc (map gate_word l.row.delays) l.row.body (clock_word l.clock ∷ w ∷ [])
        ∙ ap (λ (x : ℕ). map gate_word l.row.delays ++ (l.row.body ++ (clock_word l.clock ∷ x ∷ []))) count;
  },
)

-- what may stand next, and what the words then are
for_gate : (l : Kind) (f : List ℕ) (g n : ℕ) → PartAs l f g n → may_follow l Gate ≡ true → Row f g n × (n ≡ 0)
for_gate Gate f g n p e = p
for_gate l f g n p e = absurd (false≢true e)

for_wire : (l : Kind) (f : List ℕ) (g n : ℕ) → PartAs l f g n → may_follow l Wire ≡ true → Row f g n
for_wire Gate f g n p e = p.0
for_wire Wire f g n p e = wire_row f g n p
for_wire Fill f g n p e = p
for_wire l f g n p e = absurd (false≢true e)

for_clock : (l : Kind) (f : List ℕ) (g n : ℕ) → PartAs l f g n → may_follow l Clock ≡ true → Row f g n
for_clock Gate f g n p e = p.0
for_clock Wire f g n p e = wire_row f g n p
for_clock Fill f g n p e = p
for_clock l f g n p e = absurd (false≢true e)

for_fill : (l : Kind) (f : List ℕ) (g n : ℕ) → PartAs l f g n → may_follow l Fill ≡ true → WireLast f g n
for_fill Wire f g n p e = p
for_fill l f g n p e = absurd (false≢true e)

for_end : (l : Kind) (f : List ℕ) (g n : ℕ) → PartAs l f g n → may_follow l End ≡ true → ClockLast f g n
for_end Clock f g n p e = p
for_end l f g n p e = absurd (false≢true e)

pub record Part (f : List ℕ) (b : Before) : Type 0 where
  pub part : PartAs b.last f b.gates b.wires
  pub counted : b.words ≡ length f

-- no other kind follows any
none_follows : (l : Kind) → may_follow l Other ≡ true → ⊥
none_follows End e = false≢true e
none_follows l e = false≢true e

next_as : (k : Kind) (f : List ℕ) (b : Before) (w : ℕ) → Part f b → Plain k w → may_follow b.last k ≡ true → called k b w ≡ None → PartAs (more k b).last (f ++ w ∷ []) (more k b).gates (more k b).wires
next_as Gate f b w p h m c =
    let q = for_gate b.last f b.gates b.wires p.part m in
    let l : b.gates < 127 = grind arith in
    let r = row_gate f b.gates w (subst (λ (x : ℕ). Row f b.gates x) q.1 q.0) h l in
    (subst (λ (x : ℕ). Row (f ++ w ∷ []) (b.gates + 1) x) (sym q.1) r, q.1)
next_as Wire f b w p h m c =
    record {
      front = f;
      earlier = b.wires;
      from = from_of w;
      to = to_of w;
      row = for_wire b.last f b.gates b.wires p.part m;
      counted = refl;
      room = grind arith;
      starts = grind arith;
      ends = grind arith;
      whole = ap (λ (u : ℕ). f ++ u ∷ []) (sym (trips.wire_back w h));
    }
next_as Fill f b w p h m c =
    fill_row f b.gates b.wires w (for_fill b.last f b.gates b.wires p.part m) h (grind arith)
next_as Clock f b w p h m c =
    let z : 1 ≤ clock_of w = grind arith in
    record {
      front = f;
      clock = clock_of w;
      row = for_clock b.last f b.gates b.wires p.part m;
      ticks = z;
      limit = omega arith;
      whole = ap (λ (u : ℕ). f ++ u ∷ []) (sym (trips.clock_back w h));
    }
next_as End f b w p h m c =
    let z : count_of w ≡ b.words = grind arith in
    ends f b.gates b.wires w (for_end b.last f b.gates b.wires p.part m) (sym (trips.end_back w h) ∙ z ∙ p.counted)
next_as k f b w p h m c = absurd (none_follows b.last m)

next : (f : List ℕ) (b : Before) (w : ℕ) → Part f b → wrong b w ≡ None → Part (f ++ w ∷ []) (more (kind_of w) b)
next f b w p e =
    let q = peel (is_end b.last) (may_follow b.last (kind_of w)) (stray w) _ _ _ (called (kind_of w) b w) e in
    record {
      part = next_as (kind_of w) f b w p (record { kind = refl; clean = q.2 }) q.1 q.3;
      counted = ap (λ (x : ℕ). x + 1) p.counted ∙ sym (length_push f w);
    }

parts : (f ws : List ℕ) (b : Before) → Part f b → Right b ws → Part (f ++ ws) (up_to b ws)
parts f [] b p r = subst (λ (x : List ℕ). Part x b) (sym (append-nil f)) p
parts f (w ∷ ws) b p r =
    subst (λ (x : List ℕ). Part x (up_to (more (kind_of w) b) ws)) (append_assoc f (w ∷ []) ws)
    (parts (f ++ w ∷ []) ws (more (kind_of w) b) (next f b w p r.0) r.1)

empty : Part [] start
empty = record {
  part = (record { delays = []; wires = []; gated = refl; wired = refl; few = omega arith; short = tt; held = omega arith; joins = tt; body = []; spelled = none; whole = refl }, refl);
  counted = refl;
}

pub right_part : (ws : List ℕ) → Right start ws → Part ws (reached ws)
right_part ws r = parts [] ws start empty r

-- a row goes on to a file with the clock 1
row_begins : (f : List ℕ) (g n : ℕ) → Row f g n → Begins f
row_begins f g n r =
    let l : ClockLast (f ++ clock_word 1 ∷ []) g n = record { front = f; clock = 1; row = r; ticks = omega arith; limit = omega arith; whole = refl } in
    let e = ends (f ++ clock_word 1 ∷ []) g n (length (f ++ clock_word 1 ∷ [])) l refl in
    record {
      rest = clock_word 1 ∷ length (f ++ clock_word 1 ∷ []) ∷ [];
      netlist = e.0;
      spelled = subst (λ (x : List ℕ). Spells x e.0) (append_assoc f (clock_word 1 ∷ []) (length (f ++ clock_word 1 ∷ []) ∷ [])) e.1;
    }

begins_as : (l : Kind) (f : List ℕ) (g n : ℕ) → PartAs l f g n → Begins f
begins_as Gate f g n p = row_begins f g n p.0
begins_as Wire f g n p = row_begins f g n (wire_row f g n p)
begins_as Fill f g n p = row_begins f g n p
begins_as Clock f g n p = let e = ends f g n (length f) p refl in record { rest = length f ∷ []; netlist = e.0; spelled = e.1 }
begins_as End f g n p = record { rest = []; netlist = p.0; spelled = subst (λ (x : List ℕ). Spells x p.0) (sym (append-nil f)) p.1 }
begins_as k f g n p = absurd p

pub right_begins : (ws : List ℕ) → Right start ws → Begins ws
right_begins ws r = let p = right_part ws r in begins_as (reached ws).last ws (reached ws).gates (reached ws).wires p.part

pub right_spells : (ws : List ℕ) → Right start ws → (reached ws).last ≡ End → (s : Netlist) × Spells ws s
right_spells ws r e = let p = right_part ws r in subst (λ (x : Kind). PartAs x ws (reached ws).gates (reached ws).wires) e p.part
