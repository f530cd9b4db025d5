-- Grouping the arcs by the gate that they leave, and going over one gate's arcs, last first.
use Rattle.std.proofs.lemmas.Grind.{common_steps}
use Rattle.std.proofs.Common.{◌≡◌, ℕ, zero, suc, ◌+◌, ◌<◌, ◌≤◌, List, [], ◌∷◌, ◌++◌, length, get_or, take, replicate, Some, None, count_by, Option, sym, refl, ap, ◌∙◌, add-one, append_assoc, subst, inl, inr, arith}
use Rattle.std.proofs.lemmas.List.{take_all, append-nil}
use Rattle.std.proofs.lemmas.Bool.{cases_eq}
use Rattle.timing.specs.declared.Arc.{Arc}
use Rattle.timing.specs.Arcs.{nowhere, Within, between}
use Rattle.timing.specs.Groups.{Last, Grouped, Leaves, past, heads, entered}
use Rattle.timing.proofs.Hops.{head_inner}

pub grouped_none : (arcs : List Arc) (m n : ℕ) → m ≡ 256 → n ≡ 512 → Grouped arcs 0 (replicate m None) (replicate n None)
grouped_none arcs m n a b = grind (arith, common_steps)

-- ---- the gates that the arcs from u enter
module _ (arcs : List Arc) (u i : ℕ) (h : i < length arcs) where
  abbrev here : Arc
  here = get_or arcs i nowhere

  pub heads_yes : here.from ≡ u → heads (take (i + 1) arcs) u ≡ here.to ∷ heads (take i arcs) u
  heads_yes e = grind (arith, common_steps)

  heads_no : (here.from ≡ u → ⊥) → heads (take (i + 1) arcs) u ≡ heads (take i arcs) u
  heads_no f = grind (arith, common_steps)

heads_gap : (arcs : List Arc) (u i j : ℕ) → i ≤ j → j ≤ length arcs → ((k : ℕ) → i ≤ k → k < j → (get_or arcs k nowhere).from ≡ u → ⊥) → heads (take j arcs) u ≡ heads (take i arcs) u
heads_gap arcs u i zero l h f = grind (arith, common_steps)
heads_gap arcs u i (suc j) l h f = elim (cases_eq i (suc j)) [
  | inl q ↦ ap (λ (k : ℕ). heads (take k arcs) u) (sym q)
  | inr n ↦ rw (← add-one) (heads_no arcs u j (omega arith) (f j (omega arith) (omega arith)) ∙ heads_gap arcs u i j (omega arith) (omega arith) (λ k a b. f k a (omega arith)))
]

-- none are left out between the arcs of a group
skipped : (arcs : List Arc) (u m : ℕ) (o : Option ℕ) → m ≤ length arcs → Last arcs u m o → heads (take m arcs) u ≡ heads (take (past o) arcs) u
skipped arcs u m None h l = heads_gap arcs u 0 m (omega arith) h (λ k a b. l k b)
skipped arcs u m (Some i) h l = heads_gap arcs u (suc i) m (let a = l.0 in omega arith) h (λ k a b. l.2 k (omega arith) b)

-- each gate is entered by as many arcs from u as it stands among the heads
entered_more : (arcs : List Arc) (u v m : ℕ) → m < length arcs → entered (heads (take m arcs) u) v ≡ count_by (between u v) (take m arcs) → entered (heads (take (m + 1) arcs) u) v ≡ count_by (between u v) (take (m + 1) arcs)
entered_more arcs u v m h e = grind (arith, common_steps, heads_yes arcs u m h, heads_no arcs u m h)

entered_front : (arcs : List Arc) (u v m : ℕ) → m ≤ length arcs → entered (heads (take m arcs) u) v ≡ count_by (between u v) (take m arcs)
entered_front arcs u v zero h = refl
entered_front arcs u v (suc m) h = rw (← add-one m) (entered_more arcs u v m (omega arith) (entered_front arcs u v m (omega arith)))

pub entered_all : (arcs : List Arc) (u v : ℕ) → entered (heads arcs u) v ≡ count_by (between u v) arcs
entered_all arcs u v = grind (arith, take_all (length arcs) arcs, entered_front arcs u v (length arcs))

pub entered_same : (hs : List ℕ) (x v : ℕ) → v ≡ x → entered (hs ++ x ∷ []) v ≡ entered hs v + 1
entered_same hs x v e = grind (arith, common_steps)

pub entered_other : (hs : List ℕ) (x v : ℕ) → (v ≡ x → ⊥) → entered (hs ++ x ∷ []) v ≡ entered hs v
entered_other hs x v f = grind (arith, common_steps)

-- ---- going over the heads: those before, and those that are left
module _ (arcs : List Arc) (u : ℕ) (hs left : List ℕ) (all : hs ++ left ≡ heads arcs u) where
  pub entered_end : left ≡ [] → (v : ℕ) → entered hs v ≡ count_by (between u v) arcs
  entered_end e v = grind (arith, append-nil, entered_all arcs u v)

  module _ (x : ℕ) (rest : List ℕ) (is : left ≡ x ∷ rest) where
    pub heads_more : (hs ++ x ∷ []) ++ rest ≡ heads arcs u
    heads_more = grind (arith, append_assoc)

    -- a head stands less often before itself than in all
    pub among : entered hs x < count_by (between u x) arcs
    among = grind (arith, common_steps, entered_all arcs u x, all, is)

    pub inner : (n : ℕ) → Within n arcs → (0 < x) × (x < n)
    inner n within = grind (arith, head_inner n arcs within u x, among)

-- ---- one step along a group
module _ (arcs : List Arc) (last earlier : List (Option ℕ)) (groups : Grouped arcs (length arcs) last earlier) (u : ℕ) where
  pub heads_first : u < 256 → heads (take (past (get_or last u None)) arcs) u ≡ heads arcs u
  heads_first h = grind (arith, skipped arcs u (length arcs), groups.ends u h, take_all (length arcs) arcs)

  module _ (i : ℕ) (at : Option ℕ) (is : at ≡ Some i) (here : Leaves arcs u at) where
    at_hand : (i < length arcs) × ((get_or arcs i nowhere).from ≡ u)
    at_hand = subst (Leaves arcs u) is here

    before_it : Last arcs u i (get_or earlier i None)
    before_it = grind (arith, groups.steps i, at_hand)

    pub heads_next : heads (take (past at) arcs) u ≡ (get_or arcs i nowhere).to ∷ heads (take (past (get_or earlier i None)) arcs) u
    heads_next =
        let s : suc i ≡ i + 1 = omega arith in
        ap (λ o. heads (take (past o) arcs) u) is ∙ ap (λ (k : ℕ). heads (take k arcs) u) s
        ∙ heads_yes arcs u i at_hand.0 at_hand.1
        ∙ ap (λ hs. (get_or arcs i nowhere).to ∷ hs) (skipped arcs u i _ (let a = at_hand.0 in omega arith) before_it)
