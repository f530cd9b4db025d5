-- In a file no word is wrong.
use Rattle.std.proofs.Common.{◌≡◌, ℕ, ◌+◌, ◌*◌, ◌<◌, ◌≤◌, true, false, not, eqb, ltb, leb, List, [], ◌∷◌, ◌++◌, map, length, Some, None, sym, refl, ap, ◌∙◌, subst, arith}
use Rattle.std.specs.List.{AllByRecursion}
use Rattle.std.proofs.lemmas.Bool.{lt-leb, le-ltb, eq-eqb, ne_eqb, cond-false}
use Rattle.words.specs.declared.Kind.{Kind}
use Rattle.words.specs.declared.Kind.TheVariants.{End, Gate, Wire, Fill, Clock}
use Rattle.words.specs.Layout.{gate_word, wire_word, fill_word, clock_word, end_word, from_of, to_of, floor_of, ceiling_of, clock_of, count_of}
use Rattle.words.proofs.Both.{trips}
use Rattle.refusals.specs.declared.Refusal.TheVariants.{Range, Reversed, BadEnd, Full, WiresUsed}
use Rattle.refusals.specs.declared.LoadRefusal.TheVariants.{Call, Word}
use Rattle.words.specs.Netlist.{Wire as Wired, Netlist, Joins, WireWords, none, alone, filled, Spells}
use Rattle.file.specs.Faults.{Before, may_follow, is_end}
use Rattle.file.specs.Stepping.{start}
use Rattle.file.proofs.Rights.{Right, one}

abbrev pub stand : Kind → ℕ → ℕ → ℕ → Before
stand l g n m = record { last = l; gates = g; wires = n; words = m }

-- a kind after which wires and the clock may stand
pub record Open (l : Kind) : Type 0 where
  pub wire : may_follow l Wire ≡ true
  pub clock : may_follow l Clock ≡ true
  pub going : is_end l ≡ false

moved : (l : Kind) (g n m g' n' m' : ℕ) (rest : List ℕ) → Right (stand l g n m) rest → g ≡ g' → n ≡ n' → m ≡ m' → Right (stand l g' n' m') rest
moved l g n m g' n' m' rest r p q s =
    subst (λ (x : ℕ). Right (stand l x n' m') rest) p (subst (λ (x : ℕ). Right (stand l g x m') rest) q (subst (λ (x : ℕ). Right (stand l g n x) rest) s r))

gates_right : (ds : List ℕ) (g n m g' m' : ℕ) (rest : List ℕ) → AllByRecursion (λ d. d < 0x1_0000) ds → g' ≤ 127
    → g' ≡ g + length ds → m' ≡ m + length ds → Right (stand Gate g' n m') rest → Right (stand Gate g n m) (map gate_word ds ++ rest)
gates_right [] g n m g' m' rest h f d e r = moved Gate g' n m' g n m rest r (omega arith) refl (omega arith)
gates_right (d ∷ ds) g n m g' m' rest h f a e r =
    one (stand Gate g n m) (gate_word d) Gate (map gate_word ds ++ rest) (trips.gate d h.0).0 refl refl
    (cond-false (leb 127 g) (Some (Word m (Full 0))) None (lt-leb 127 g (omega arith)))
    (gates_right ds (g + 1) n (m + 1) g' m' rest h.1 f (omega arith) (omega arith) r)

-- a wire word that joins gates
wire_right : (l : Kind) (g n m a b : ℕ) (ws : List ℕ) → Open l → a ≤ g → b ≤ g → g ≤ 127 → n < 512
    → Right (stand Wire g (n + 1) (m + 1)) ws → Right (stand l g n m) (wire_word a b ∷ ws)
wire_right l g n m a b ws o p q few room r =
    let t = trips.wire a b (omega arith) (omega arith) in
    let from : ltb g (from_of (wire_word a b)) ≡ false = le-ltb g _ (omega (arith, t.1)) in
    let to : ltb g (to_of (wire_word a b)) ≡ false = le-ltb g _ (omega (arith, t.2)) in
    one (stand l g n m) (wire_word a b) Wire ws t.0 o.going o.wire
    (cond-false (ltb g (from_of (wire_word a b))) _ _ from ∙ (cond-false (ltb g (to_of (wire_word a b))) _ _ to ∙ cond-false (leb 512 n) (Some (Word m WiresUsed)) None (lt-leb 512 n room)))
    r

after_wire : Open Wire
after_wire = record { wire = refl; clock = refl; going = refl }

after_fill : Open Fill
after_fill = record { wire = refl; clock = refl; going = refl }

after_gate : Open Gate
after_gate = record { wire = refl; clock = refl; going = refl }

wires_right : {vs : List Wired} {body : List ℕ} → WireWords vs body → (l : Kind) (g n m n' m' : ℕ) (rest : List ℕ) → Open l → g ≤ 127 → n' ≤ 512
    → AllByRecursion (Joins g) vs → n' ≡ n + length vs → m' ≡ m + length body
    → ((k : Kind) → Open k → Right (stand k g n' m') rest) → Right (stand l g n m) (body ++ rest)
wires_right none l g n m n' m' rest o few room j d e r = moved l g n' m' g n m rest (r l o) refl (omega arith) (omega arith)
wires_right (alone {from} {to} {vs} {ws} q) l g n m n' m' rest o few room j d e r =
    wire_right l g n m from to (ws ++ rest) o j.0.from j.0.to few (omega arith)
    (wires_right q Wire g (n + 1) (m + 1) n' m' rest after_wire few room j.1 (omega arith) (omega arith) r)
wires_right (filled {v} {vs} {ws} q) l g n m n' m' rest o few room j d e r =
    let t = trips.fill v.price v.registers v.floor v.ceiling j.0.priced j.0.cheap j.0.registers (let x = j.0.ordered in let y = j.0.ceiling in omega arith) j.0.ceiling in
    let w = fill_word v.price v.registers v.floor v.ceiling in
    wire_right l g n m v.from v.to (w ∷ (ws ++ rest)) o j.0.from j.0.to few (omega arith)
    (one (stand Wire g (n + 1) (m + 1)) w Fill (ws ++ rest) t.0 refl refl
    (cond-false (ltb (ceiling_of w) (floor_of w)) (Some (Word (m + 1) (Reversed 4))) None (le-ltb (ceiling_of w) (floor_of w) (omega (arith, t.3, t.4, j.0.ordered))))
    (wires_right q Fill g (n + 1) (m + 1 + 1) n' m' rest after_fill few room j.1 (omega arith) (omega arith) r))

-- at most two words for each wire
pub body_long : {vs : List Wired} {body : List ℕ} → WireWords vs body → length body ≤ 2 * length vs
body_long none = omega arith
body_long (alone q) = let h = body_long q in omega arith
body_long (filled q) = let h = body_long q in omega arith

pub file_right : (ws : List ℕ) (s : Netlist) → Spells ws s → Right start ws
file_right ws s p =
    let n = length s.wires in
    let g = length s.delays in
    let m = g + length p.body in
    let t = trips.clock s.clock p.fits.limit in
    let short : m + 1 < 0x1000_0000 = let x = body_long p.wires in let y = p.fits.held in let z = p.fits.few in omega arith in
    subst (Right start) (sym p.whole)
    (gates_right s.delays 0 0 0 g g _ p.fits.short p.fits.few (omega arith) (omega arith)
    (wires_right p.wires Gate g 0 g n m _ after_gate p.fits.few p.fits.held p.fits.joins (omega arith) refl
    (λ k o. one (stand k g n m) (clock_word s.clock) Clock (end_word (m + 1) ∷ []) t.0 o.going o.clock
    (cond-false (eqb (clock_of (clock_word s.clock)) 0) (Some (Word m (Range 0))) None (ne_eqb _ 0 (λ z. let x = p.fits.ticks in let y = t.1 in omega arith)))
    (one (stand Clock g n (m + 1)) (end_word (m + 1)) End [] (trips.end (m + 1) short).0 refl refl
    (cond-false (not (eqb (count_of (end_word (m + 1))) (m + 1))) (Some (Call (BadEnd (m + 1)))) None (ap not (eq-eqb _ _ (trips.end (m + 1) short).1)))
    tt))))
