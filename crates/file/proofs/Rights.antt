-- Words of which none is wrong after those before it.
use Rattle.std.proofs.Common.{◌≡◌, ℕ, zero, suc, ◌+◌, ◌<◌, Bool, true, false, cond, List, [], ◌∷◌, ◌++◌, length, get_or, take, Some, None, count_by, Option, sym, refl, ap, ◌∙◌, subst, arith}
use Rattle.std.proofs.lemmas.List.Sums.{sum_by-cons}
use Rattle.words.specs.declared.Kind.{Kind}
use Rattle.words.specs.Layout.{kind_of, stray}
use Rattle.words.specs.Trips.{Plain}
use Rattle.refusals.specs.declared.Refusal.{Refusal}
use Rattle.refusals.specs.declared.LoadRefusal.{LoadRefusal}
use Rattle.refusals.specs.declared.LoadRefusal.TheVariants.{Call}
use Rattle.file.specs.Faults.{last_kind, is_gate, is_wire, Before, before, may_follow, is_end, called, wrong}
use Rattle.file.specs.Stepping.{start, more, up_to, barred}

abbrev pub reached : List ℕ → Before
reached f = up_to start f

abbrev pub Right : Before → List ℕ → Type 0
Right b [] = Unit {0}
Right b (w ∷ ws) = (wrong b w ≡ None) × Right (more (kind_of w) b) ws

pub right_append : (b : Before) (f ws : List ℕ) → Right b f → Right (up_to b f) ws → Right b (f ++ ws)
right_append b [] ws r s = s
right_append b (x ∷ f) ws r s = (r.0, right_append (more (kind_of x) b) f ws r.1 s)

pub right_more : (b : Before) (f : List ℕ) (w : ℕ) → Right b f → wrong (up_to b f) w ≡ None → Right b (f ++ w ∷ [])
right_more b f w r e = right_append b f (w ∷ []) r (e, tt)

pub right_front : (b : Before) (f ws : List ℕ) → Right b (f ++ ws) → Right b f
right_front b [] ws r = tt
right_front b (x ∷ f) ws r = (r.0, right_front (more (kind_of x) b) f ws r.1)

pub up_to_more : (b : Before) (f : List ℕ) (w : ℕ) → up_to b (f ++ w ∷ []) ≡ more (kind_of w) (up_to b f)
up_to_more b [] w = refl
up_to_more b (x ∷ f) w = up_to_more (more (kind_of x) b) f w

-- the word at k is right
pub right_at : (b : Before) (ws : List ℕ) (k : ℕ) → k < length ws → Right b ws → wrong (up_to b (take k ws)) (get_or ws k 0) ≡ None
right_at b [] k h r = absurd (omega arith)
right_at b (x ∷ ws) zero h r = r.0
right_at b (x ∷ ws) (suc k) h r = right_at (more (kind_of x) b) ws k (omega arith) r.1

-- how many words
pub words_up_to : (b : Before) (f : List ℕ) → (up_to b f).words ≡ b.words + length f
words_up_to b [] = omega arith
words_up_to b (x ∷ f) = let i = words_up_to (more (kind_of x) b) f in omega arith

-- what is not wrong, part by part
pub peel : (x y z : Bool) (a s n : LoadRefusal) (o : Option LoadRefusal) → cond x (Some a) (cond y (cond z (Some s) o) (Some n)) ≡ None → (x ≡ false) × (y ≡ true) × (z ≡ false) × (o ≡ None)
peel x y z a s n o e = grind arith

pub build : (x y z : Bool) (a s n : LoadRefusal) (o : Option LoadRefusal) → x ≡ false → y ≡ true → z ≡ false → o ≡ None → cond x (Some a) (cond y (cond z (Some s) o) (Some n)) ≡ None
build x y z a s n o e f g h = grind arith

-- what bars a word is wrong with it
barred_as : (x y : Bool) (a n f : Refusal) (o : Option LoadRefusal) → Some f ≡ cond x (Some a) (cond y None (Some n)) → Some (Call f) ≡ cond x (Some (Call a)) (cond y o (Some (Call n)))
barred_as x y a n f o e = grind arith

pub barred_wrong : (b : Before) (w : ℕ) (k : Kind) (f : Refusal) → k ≡ kind_of w → Some f ≡ barred b k → Some (Call f) ≡ wrong b w
barred_wrong b w k f h e = barred_as (is_end b.last) (may_follow b.last (kind_of w)) _ _ f _ (e ∙ ap (barred b) h)

-- a right word of a kind in front
pub one : (b : Before) (w : ℕ) (k : Kind) (ws : List ℕ) → Plain k w → is_end b.last ≡ false → may_follow b.last k ≡ true → called k b w ≡ None → Right (more k b) ws → Right b (w ∷ ws)
one b w k ws p e f g r =
    let s = sym p.kind in (
      build (is_end b.last) (may_follow b.last (kind_of w)) (stray w) _ _ _ (called (kind_of w) b w) e
          (subst (λ (x : Kind). may_follow b.last x ≡ true) s f) p.clean (subst (λ (x : Kind). called x b w ≡ None) s g),
      subst (λ (x : Kind). Right (more x b) ws) s r,
    )

-- ---- what stands before a word, counted and step by step
counted_on : (t : Bool) (n : ℕ) → cond t (n + 1) n ≡ n + cond t 1 0
counted_on t n = grind arith

last_up_to : (b : Before) (f : List ℕ) → (up_to b f).last ≡ last_kind b.last f
last_up_to b [] = refl
last_up_to b (x ∷ f) = last_up_to (more (kind_of x) b) f

gates_up_to : (b : Before) (f : List ℕ) → (up_to b f).gates ≡ b.gates + count_by (λ w. is_gate (kind_of w)) f
gates_up_to b [] = omega arith
gates_up_to b (x ∷ f) =
    let i = gates_up_to (more (kind_of x) b) f in
    let j = counted_on (is_gate (kind_of x)) b.gates in
    let k = sum_by-cons (λ (w : ℕ). cond (is_gate (kind_of w)) 1 0) x f in
    omega arith

wires_up_to : (b : Before) (f : List ℕ) → (up_to b f).wires ≡ b.wires + count_by (λ w. is_wire (kind_of w)) f
wires_up_to b [] = omega arith
wires_up_to b (x ∷ f) =
    let i = wires_up_to (more (kind_of x) b) f in
    let j = counted_on (is_wire (kind_of x)) b.wires in
    let k = sum_by-cons (λ (w : ℕ). cond (is_wire (kind_of w)) 1 0) x f in
    omega arith

pub reached_is : (f : List ℕ) → reached f ≡ before f
reached_is f =
    let l = last_up_to start f in
    let g = gates_up_to start f in
    let w = wires_up_to start f in
    let n = words_up_to start f in
    grind arith

pub wrong_is : (f : List ℕ) (w : ℕ) → wrong (reached f) w ≡ wrong (before f) w
wrong_is f w = ap (λ (b : Before). wrong b w) (reached_is f)
