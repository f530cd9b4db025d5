-- The gates that are taken in order, and what is known when some are.
use Rattle.std.proofs.lemmas.Grind.{common_steps}
use Rattle.std.proofs.Common.{◌≡◌, ℕ, zero, suc, ◌+◌, ◌-◌, ◌*◌, ◌<◌, ◌≤◌, max, Bool, true, false, not, ◌&&◌, eqb, ◌⊎◌, List, [], ◌∷◌, length, get_or, count_by, sym, refl, ap, ◌∙◌, subst, inl, inr, arith}
use Rattle.std.proofs.lemmas.Bool.{cases_eq, cases_lt, ne_eqb, eqb-true, and_parts, not-true, both_ways}
use Rattle.std.specs.Bool.{then_some}
use Rattle.model.specs.Circuit.{◌∈◌}
use Rattle.model.specs.Limits.{Different}
use Rattle.timing.specs.declared.Arc.{Arc}
use Rattle.timing.specs.Arcs.{nowhere, Within, Hop, Walk, hop, more, Run, alone, on, spent, Longest, Arrives, NoLoop, Timed, into, between, inflow}
use Rattle.timing.specs.Lowered.{Lowerable, Lowered, Raised, Seeded}
use Rattle.timing.specs.Marks.{undone}
use Rattle.timing.proofs.Counting.{bit, count_some, count_split, count_same, also, also_same, also_other, also_old, undone_less, undone_none, undone_some, host, undone_host}
use Rattle.timing.proofs.Hops.{hop_inner, hop_count, count_hop, hop_end, head_inner, walk_end}
use Rattle.timing.proofs.Chase.{before, loops}

-- when v is done
abbrev pub done : List ℕ → List ℕ → ℕ → ℕ
done ds times v = get_or times v 0 + get_or ds v 0

-- v starts once the last taken gate with an arc into it is done, or at 0
pub record Starts (ds : List ℕ) (arcs : List Arc) (times : List ℕ) (taken : ℕ → Bool) (v : ℕ) : Type 0 where
  pub most : (x : ℕ) → Hop arcs x v → taken x ≡ true → done ds times x ≤ get_or times v 0
  pub met : (get_or times v 0 ≡ 0) ⊎ ((x : ℕ) × Hop arcs x v × (taken x ≡ true) × (done ds times x ≡ get_or times v 0))

pub record Stage (ds : List ℕ) (arcs : List Arc) (counts times ready : List ℕ) (period left : ℕ) (taken : ℕ → Bool) : Type 0 where
  pub idle : taken 0 ≡ true
  pub counted : (v : ℕ) → 0 < v → v < length ds → get_or counts v 0 ≡ inflow arcs taken v
  pub different : Different ready
  pub queued : (v : ℕ) → v ∈ ready → (0 < v) × (v < length ds) × (taken v ≡ false) × (get_or counts v 0 ≡ 0)
  pub waiting : (v : ℕ) → 0 < v → v < length ds → taken v ≡ false → get_or counts v 0 ≡ 0 → v ∈ ready
  pub closed : (v : ℕ) → 0 < v → v < length ds → taken v ≡ true → get_or counts v 0 ≡ 0
  pub starts : (v : ℕ) → 0 < v → v < length ds → Starts ds arcs times taken v
  pub arrives : (v : ℕ) → 0 < v → v < length ds → taken v ≡ true → Arrives ds arcs v (done ds times v)
  pub clear : (v : ℕ) → 0 < v → v < length ds → taken v ≡ true → Walk arcs v v → ⊥
  pub most : (v : ℕ) → 0 < v → v < length ds → taken v ≡ true → done ds times v ≤ period
  pub met : (period ≡ 0) ⊎ ((u : ℕ) × (v : ℕ) × (r : Run ds arcs u v) × (spent r ≡ period))
  pub small : period + 65535 * left ≤ 65535 * length ds
  pub lefts : left ≡ undone taken (length ds)

pub at_front : {ds : List ℕ} {arcs : List Arc} {counts times old : List ℕ} {period left : ℕ} {taken : ℕ → Bool} {u : ℕ} {rest : List ℕ}
    → old ≡ u ∷ rest → Stage ds arcs counts times old period left taken → Stage ds arcs counts times (u ∷ rest) period left taken
at_front {ds} {arcs} {counts} {times} {old} {period} {left} {taken} e s = subst (λ (xs : List ℕ). Stage ds arcs counts times xs period left taken) e s

-- ---- one gate more
-- the arcs from u are those that its taking takes off
parted : (taken : ℕ → Bool) (u v : ℕ) → taken u ≡ false → (a : Arc)
    → bit (eqb a.to v && not (taken a.from)) ≡ bit (eqb a.to v && not (also u taken a.from)) + bit (between u v a)
parted taken u v free a = grind (arith, common_steps)

pub split : (arcs : List Arc) (taken : ℕ → Bool) (u v : ℕ) → taken u ≡ false
    → inflow arcs taken v ≡ inflow arcs (also u taken) v + count_by (between u v) arcs
split arcs taken u v free =
    count_split (λ a. eqb a.to v && not (taken a.from)) (λ a. eqb a.to v && not (also u taken a.from)) (between u v) (parted taken u v free) arcs

module _ (ds : List ℕ) (arcs : List Arc) (within : Within (length ds) arcs) (counts times rest : List ℕ) (period left u : ℕ) (taken : ℕ → Bool)
    (stage : Stage ds arcs counts times (u ∷ rest) period left taken) where
  q : (0 < u) × (u < length ds) × (taken u ≡ false) × (get_or counts u 0 ≡ 0)
  q = stage.queued u (inl refl)

  -- a walk or a run that ends at u comes from a taken gate
  hop_taken : (x : ℕ) → Hop arcs x u → (0 < x) × (x < length ds) × (taken x ≡ true)
  hop_taken x h = grind (arith, common_steps)

  pub lowerable : (m : ℕ) → length ds ≤ m → Lowerable arcs m u counts rest
  lowerable m wide = record {
    covers = λ v o l. elim (cases_eq (count_by (between u v) arcs) 0) [
      | inl z ↦ omega arith
      | inr f ↦
          let a = split arcs taken u v q.2 in
          let b = stage.counted v o (head_inner (length ds) arcs within u v (omega arith)).1 in
          omega arith
    ];
    different = stage.different.1;
    zero = λ v k. let a = stage.queued v (inr k) in (omega arith, a.3);
  }

  -- u is not among the others that are ready
  apart : (v : ℕ) → v ∈ rest → v ≡ u → ⊥
  apart v m e = grind (arith, common_steps, stage.different)

  pub some_left : 1 ≤ left
  some_left = grind (arith, common_steps, undone_less taken u (length ds), q, stage.lefts)

  abbrev time : ℕ
  time = done ds times u

  begins : Starts ds arcs times taken u
  begins = stage.starts u q.0 q.1

  arrives_most : (x v : ℕ) → v ≡ u → (r : Run ds arcs x v) → spent r ≤ time
  arrives_most x v e (alone i l) = let a = ap (λ (g : ℕ). get_or ds g 0) e in omega arith
  arrives_most x v e (on {x = y} r h) =
      let k : Hop arcs y u = subst (λ (g : ℕ). Hop arcs y g) e h in
      let t = hop_taken y k in
      let a = (stage.arrives y t.0 t.1 t.2).most x r in
      let b = begins.most y k t.2 in
      let d = ap (λ (g : ℕ). get_or ds g 0) e in
      omega arith

  arrives_met : (x : ℕ) × (r : Run ds arcs x u) × (spent r ≡ time)
  arrives_met = elim begins.met [
    | inl z ↦ (u, alone q.0 q.1, omega arith)
    | inr m ↦
        let t = hop_taken m.0 m.1 in
        let a = (stage.arrives m.0 t.0 t.1 t.2).met in
        (a.0, on a.1 m.1, (let b = a.2 in let d = m.3 in omega arith))
  ]

  no_walk : (v : ℕ) → v ≡ u → Walk arcs v u → ⊥
  no_walk v e (hop h) = both_ways _ q.2 (ap taken (sym e) ∙ (hop_taken v h).2)
  no_walk v e (more {x = x} w h) =
      let t = hop_taken x h in
      let k : Hop arcs x v = subst (λ (g : ℕ). Hop arcs x g) (sym e) h in
      stage.clear x t.0 t.1 t.2 (before k w)

  pub start_most : get_or times u 0 ≤ period
  start_most = grind (arith, begins.met, hop_taken, stage.most)

  module _ (slow : get_or ds u 0 ≤ 65535) (next : ℕ) (is : next ≡ max period time)
      (later : List ℕ) (rise : Raised arcs u time times later) (m : ℕ) (wide : length ds ≤ m) (lowered ready : List ℕ) (low : Lowered arcs m u counts lowered rest ready) where
    abbrev then : ℕ → Bool
    then = also u taken

    less : (v : ℕ) → v < length ds → get_or lowered v 0 ≤ get_or counts v 0
    less v h = let a = low.less v (omega arith) in omega arith

    then_was : (v : ℕ) → then v ≡ true → (v ≡ u) ⊎ ((v ≡ u → ⊥) × (taken v ≡ true))
    then_was v e = elim (cases_eq v u) [ inl s ↦ inl s | inr f ↦ inr (f, sym (also_other u taken v f) ∙ e) ]

    queued_then : (v : ℕ) → v ∈ ready → (0 < v) × (v < length ds) × (then v ≡ false) × (get_or lowered v 0 ≡ 0)
    queued_then v m = grind (arith, low.fresh v m, stage.queued v, stage.closed v, apart v, low.less v, head_inner (length ds) arcs within u v, q.3, also_other u taken v)

    waiting_then : (v : ℕ) → 0 < v → v < length ds → then v ≡ false → get_or lowered v 0 ≡ 0 → v ∈ ready
    waiting_then v o l e z = grind (arith, common_steps)

    counted_out : (v : ℕ) → 0 < v → v < length ds → then v ≡ true → get_or counts v 0 ≡ 0
    counted_out v o l e = grind (arith, then_was v e, stage.closed v o l, q.3)

    -- the times of the taken gates stay
    stays : (v : ℕ) → 0 < v → v < length ds → then v ≡ true → get_or later v 0 ≡ get_or times v 0
    stays v o l e = grind (arith, rise.kept v, low.less v, counted_out v o l e)

    grows : (v : ℕ) → get_or times v 0 ≤ get_or later v 0
    grows v = grind (arith, common_steps)

    starts_most : (v x : ℕ) → Hop arcs x v → then x ≡ true → done ds later x ≤ get_or later v 0
    starts_most v x h e =
        let i = hop_inner (length ds) arcs within x v h in
        let s = stays x i.0 i.1 e in
        elim (then_was x e) [
          | inl y ↦
              let a = rise.raised v (hop_count arcs u v (subst (λ (g : ℕ). Hop arcs g v) y h)) in
              let b = ap (done ds times) y in
              omega arith
          | inr t ↦
              let j = hop_end (length ds) arcs within x v h in
              let a = (stage.starts v j.0 j.1).most x h t.1 in
              let b = grows v in
              omega arith
        ]

    abbrev Met : ℕ → Type 0
    Met v = (get_or later v 0 ≡ 0) ⊎ ((x : ℕ) × Hop arcs x v × (then x ≡ true) × (done ds later x ≡ get_or later v 0))

    met_still : (v : ℕ) → 0 < v → v < length ds → get_or later v 0 ≡ get_or times v 0 → Met v
    met_still v o l e = elim (stage.starts v o l).met [
      | inl z ↦ inl (e ∙ z)
      | inr m ↦
          let i = hop_inner (length ds) arcs within m.0 v m.1 in
          let t = also_old u taken m.0 m.2 in
          let s = stays m.0 i.0 i.1 t in
          inr (m.0, m.1, t, (let d = m.3 in omega arith))
    ]

    starts_met : (v : ℕ) → 0 < v → v < length ds → Met v
    starts_met v o l = elim (cases_eq (count_by (between u v) arcs) 0) [
      | inl z ↦ met_still v o l (rise.kept v z)
      | inr f ↦
          let p : 0 < count_by (between u v) arcs = omega arith in
          let a = rise.raised v p in
          elim (cases_lt (get_or times v 0) time) [
            | inl h ↦
                let t = also_same u taken u refl in
                let s = stays u q.0 q.1 t in
                inr (u, count_hop arcs u v p, t, omega arith)
            | inr h ↦ met_still v o l (omega arith)
          ]
    ]

    arrives_then : (v : ℕ) → 0 < v → v < length ds → then v ≡ true → Arrives ds arcs v (done ds later v)
    arrives_then v o l e =
        let s : done ds times v ≡ done ds later v = let a = stays v o l e in omega arith in
        subst (λ (t : ℕ). Arrives ds arcs v t) s (elim (then_was v e) [
          | inl y ↦ subst (λ (g : ℕ). Arrives ds arcs g (done ds times g)) (sym y) record { most = λ x r. arrives_most x u refl r; met = arrives_met }
          | inr t ↦ stage.arrives v o l t.1
        ])

    clear_then : (v : ℕ) → 0 < v → v < length ds → then v ≡ true → Walk arcs v v → ⊥
    clear_then v o l e w = grind (arith, common_steps, no_walk v, stage.clear v o l)

    most_then : (v : ℕ) → 0 < v → v < length ds → then v ≡ true → done ds later v ≤ next
    most_then v o l e = grind (arith, then_was v e, stays v o l e, stage.most v o l)

    met_then : (next ≡ 0) ⊎ ((x : ℕ) × (v : ℕ) × (r : Run ds arcs x v) × (spent r ≡ next))
    met_then = elim (cases_lt period time) [
      | inl h ↦ let a = arrives_met in inr (a.0, u, a.1, a.2 ∙ (omega arith))
      | inr h ↦ let e : next ≡ period = omega arith in elim stage.met [ inl z ↦ inl (e ∙ z) | inr m ↦ inr (m.0, m.1, m.2, m.3 ∙ sym e) ]
    ]

    pub advanced : Stage ds arcs lowered later ready next (left - 1) then
    advanced = record {
      idle = also_old u taken 0 stage.idle;
      counted = λ v o l. let a = split arcs taken u v q.2 in let b = stage.counted v o l in let d = low.less v (omega arith) in omega arith;
      different = low.different;
      queued = queued_then;
      waiting = waiting_then;
      closed = λ v o l e. let m = less v l in let z = counted_out v o l e in omega arith;
      starts = λ v o l. record { most = starts_most v; met = starts_met v o l };
      arrives = arrives_then;
      clear = clear_then;
      most = most_then;
      met = met_then;
      small = (let a = stage.small in let b = start_most in let d = some_left in omega arith);
      lefts = (let a = undone_less taken u (length ds) q.1 q.2 in let b = stage.lefts in omega arith);
    }

-- ---- before the first gate, and after the last
undone_start : (n : ℕ) → 0 < n → undone host n ≡ n - 1
undone_start zero h = absurd (omega arith)
undone_start (suc n) h = let a = undone_host n in omega arith

and_true : (b c : Bool) → c ≡ true → b ≡ (b && c)
and_true true c e = sym e
and_true false c e = refl

not_host : (v : ℕ) → 0 < v → host v ≡ false
not_host v h = ne_eqb v 0 (omega arith)

pub begun : (ds : List ℕ) (arcs : List Arc) → 0 < length ds → Within (length ds) arcs → (counts times ready : List ℕ) → ((v : ℕ) → get_or counts v 0 ≡ count_by (into v) arcs) → Seeded counts (length ds) ready → ((k : ℕ) → get_or times k 0 ≡ 0)
    → Stage ds arcs counts times ready 0 (length ds - 1) host
begun ds arcs some within counts times ready all s none = record {
  idle = refl;
  counted = λ v o l. all v ∙ count_same (into v) (λ a. eqb a.to v && not (host a.from)) arcs nowhere
      (λ k h. and_true (eqb (get_or arcs k nowhere).to v) (not (host (get_or arcs k nowhere).from)) (ap not (not_host (get_or arcs k nowhere).from (within k h).leaves)));
  different = s.different;
  queued = λ v m. let z = s.zero v m in (z.0, z.1, not_host v z.0, z.2);
  waiting = λ v o l e z. s.found v o l z;
  closed = λ v o l e. absurd (both_ways _ (not_host v o) e);
  starts = λ v o l. record { most = λ x h e. absurd (both_ways _ (not_host x (hop_inner (length ds) arcs within x v h).0) e); met = inl (none v) };
  arrives = λ v o l e. absurd (both_ways _ (not_host v o) e);
  clear = λ v o l e w. both_ways _ (not_host v o) e;
  most = λ v o l e. absurd (both_ways _ (not_host v o) e);
  met = inl refl;
  small = omega arith;
  lefts = sym (undone_start (length ds) some);
}

run_end : (ds : List ℕ) (arcs : List Arc) → Within (length ds) arcs → (u v : ℕ) → Run ds arcs u v → (0 < v) × (v < length ds)
run_end ds arcs within u v (alone i l) = (i, l)
run_end ds arcs within u v (on {x = x} r h) = hop_end (length ds) arcs within x v h

module _ (ds : List ℕ) (arcs : List Arc) (within : Within (length ds) arcs) (counts times ready : List ℕ) (period left : ℕ) (taken : ℕ → Bool)
    (stage : Stage ds arcs counts times ready period left taken) where
  all_taken : left ≡ 0 → NoLoop arcs × Longest ds arcs period
  all_taken z =
      let every : (k : ℕ) → k < length ds → taken k ≡ true = undone_none taken (length ds) (sym stage.lefts ∙ z) in (
        (λ v w. let i = walk_end (length ds) arcs within v v w in stage.clear v i.0 i.1 (every v i.1) w),
        record {
          most = λ u v r.
              let i = run_end ds arcs within u v r in
              let a = (stage.arrives v i.0 i.1 (every v i.1)).most u r in
              let b = stage.most v i.0 i.1 (every v i.1) in
              omega arith;
          met = stage.met;
        },
      )

  stuck : ready ≡ [] → 0 < left → (v : ℕ) × Walk arcs v v
  stuck none some =
      let f = undone_some taken (length ds) (let a = stage.lefts in omega arith) in
      loops arcs (length ds) taken prev f.0 f.1 f.2
    where
      prev : (v : ℕ) → v < length ds → taken v ≡ false → (x : ℕ) × Hop arcs x v × (x < length ds) × (taken x ≡ false)
      prev v l t =
          let o : 0 < v = elim (cases_eq v 0) [ inl e ↦ absurd (both_ways _ (ap taken (sym e) ∙ t) stage.idle) | inr f ↦ omega arith ] in
          let w : 0 < inflow arcs taken v = elim (cases_eq (get_or counts v 0) 0) [
            | inl z ↦ absurd (subst (λ (xs : List ℕ). v ∈ xs) none (stage.waiting v o l t z))
            | inr f ↦ let a = stage.counted v o l in omega arith
          ] in
          let m = count_some (λ a. eqb a.to v && not (taken a.from)) arcs nowhere w in
          let p = and_parts _ _ m.2 in
          ((get_or arcs m.0 nowhere).from, record { place = m.0; there = m.1; leaves = refl; enters = eqb-true _ _ p.0 }, (within m.0 m.1).left, not-true _ p.1)

  pub settled : ready ≡ [] → Timed ds arcs (then_some (eqb left 0) period)
  settled none = grind (arith, common_steps, all_taken, stuck)
