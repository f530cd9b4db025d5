-- Rounds: one arc more, one round more, and what a round that changes nothing shows.
use Rattle.std.proofs.Common.{◌≡◌, ℕ, ◌+◌, ◌<◌, ◌≤◌, Bool, true, false, ◌||◌, List, [], ◌∷◌, ◌++◌, reverse, length, Some, None, Option, sym, refl, ap, ◌∙◌, subst, ⊎_elim, arith}
use Rattle.std.proofs.lemmas.Bool.{both_ways, false≢true, cases_eq, cases_lt}
use Rattle.ways.specs.Laws.{Kind, Laws}
use Rattle.ways.specs.Walks.{Leads, Least, long, total, known, row, near, past, Sound, Best}
use Rattle.ways.specs.Keeps.{Good, Short, Moved, Tried, Changed, After, Begun}
use Rattle.ways.specs.declared.net.Arc.{Arc}
use Rattle.ways.specs.declared.walk.Way.{Way}
use Rattle.ways.proofs.Near.{some_none, some_same, near_refl, near_trans, near_past, above_trans}
use Rattle.ways.proofs.Steps.{len_few, dist_fits}
use Rattle.ways.proofs.Good.{total_step, good_leads, good_way}

-- one walk after another
pub leads_join : {L : Type 0} (at : ℕ → Option (Arc L)) (s v : ℕ) (ps qs : List ℕ) (w : ℕ) → Leads at v ps w → Leads at s qs v → Leads at s (ps ++ qs) w
leads_join at s v [] qs w h k = subst (λ u. Leads at s qs u) (sym h) k
leads_join at s v (a ∷ ps) qs w h k = (h.0, h.1, h.2, leads_join at s v ps qs h.0.tail h.3 k)

module _ {L : Type 0} {K : Kind L} (laws : Laws K) (at : ℕ → Option (Arc L)) (s : ℕ) where
  pub total_join : (ps qs : List ℕ) → total K at (ps ++ qs) ≡ K.sum (total K at qs) (total K at ps)
  total_join [] qs = sym (laws.zero_right (total K at qs))
  total_join (a ∷ ps) qs = ap (λ t. K.sum t (long K (at a))) (total_join ps qs) ∙ laws.assoc (total K at qs) (total K at ps) (long K (at a))

  module _ (i : ℕ) (old new : List (Way L)) (t : Tried K at s i old new) where
    tried_more : (new' : List (Way L)) → Moved K at s i new new' → Tried K at s (i + 1) old new'
    tried_more new' m = record {
      kept = m.kept;
      lower = λ v. near_trans laws (known new' v).distance (known new v).distance (known old v).distance (m.lower v) (t.lower v);
      settled = λ a x h e. ⊎_elim
          (λ q. near_trans laws (known new' x.head).distance (past K (known new x.tail).distance x.length) (past K (known old x.tail).distance x.length)
          (m.settled x (ap at (sym q) ∙ e))
          (near_past laws (known new x.tail).distance (known old x.tail).distance x.length (t.lower x.tail)))
          (λ n. near_trans laws (known new' x.head).distance (known new x.head).distance (past K (known old x.tail).distance x.length)
          (m.lower x.head)
          (t.settled a x (let z : a < i = omega arith in z) e))
          (cases_eq a i);
    }

    short_old : length new ≡ length old → Short K at s (length new) new → Short K at s (length old) old
    short_old e h = (h.0, h.1, subst (λ k. length h.1 < k) e h.2, h.3, above_trans laws (known new h.0).distance (known old h.0).distance (Some (total K at h.1)) (t.lower h.0) h.4)

    changed_more : length new ≡ length old → (new' : List (Way L)) (b b' : Bool) → Changed K at s old new b → Changed K at s new new' b' → Changed K at s old new' (b || b')
    changed_more e new' false false h k = k ∙ h
    changed_more e new' false true h k = short_old e k
    changed_more e new' true b' h k = h

    pub round_more : length new ≡ length old → (new' : List (Way L)) (b b' : Bool) → Changed K at s old new b → Moved K at s i new new' × Changed K at s new new' b' → Tried K at s (i + 1) old new' × Changed K at s old new' (b || b')
    round_more e new' b b' h m = (tried_more new' m.0, changed_more e new' b b' h m.1)

  module _ (many : ℕ) (old : List (Way L)) (sound : Sound K at many (length old)) (k : ℕ) (after : After K at s k old) where
    -- a walk that is below a distance has more arcs than there were rounds
    more_left : Short K at s (length old) old → k + 1 < length old
    more_left h =
        let lt = h.2 in
        ⊎_elim
        (λ l. omega arith)
        (λ g. absurd (both_ways (near K (known old h.0).distance (Some (total K at h.1))) h.4 (after.low h.1 h.0 g h.3)))
        (cases_lt k (length h.1))

    module _ (new : List (Way L)) (tried : Tried K at s many old new) where
      low_next : (ps : List ℕ) (v : ℕ) → length ps ≤ k + 1 → Leads at s ps v → near K (known new v).distance (Some (total K at ps)) ≡ true
      low_next [] v lk e = near_trans laws (known new v).distance (known old v).distance (Some K.zero) (tried.lower v) (after.low [] v (omega arith) e)
      low_next (a ∷ ps) v lk h =
          let lk' : length ps ≤ k = omega arith in
          let up = near_past laws (known old h.0.tail).distance (Some (total K at ps)) h.0.length (after.low ps h.0.tail lk' h.3) in
          subst (λ u. near K (known new u).distance (Some (total K at (a ∷ ps))) ≡ true) h.2
          (subst (λ t. near K (known new h.0.head).distance (Some t) ≡ true) (sym (total_step K at a ps h.0 h.1))
          (near_trans laws (known new h.0.head).distance (past K (known old h.0.tail).distance h.0.length) (Some (K.sum (total K at ps) h.0.length))
          (tried.settled a h.0 (sound.place a h.0 h.1) h.1) up))

      after_next : After K at s (k + 1) new
      after_next = record { kept = tried.kept; low = low_next }

    -- no distance fell in the round
    module _ (tried : Tried K at s many old old) where
      low_all : (ps : List ℕ) (v : ℕ) → Leads at s ps v → near K (known old v).distance (Some (total K at ps)) ≡ true
      low_all [] v e = after.low [] v (omega arith) e
      low_all (a ∷ ps) v h =
          let up = near_past laws (known old h.0.tail).distance (Some (total K at ps)) h.0.length (low_all ps h.0.tail h.3) in
          subst (λ u. near K (known old u).distance (Some (total K at (a ∷ ps))) ≡ true) h.2
          (subst (λ t. near K (known old h.0.head).distance (Some t) ≡ true) (sym (total_step K at a ps h.0 h.1))
          (near_trans laws (known old h.0.head).distance (past K (known old h.0.tail).distance h.0.length) (Some (K.sum (total K at ps) h.0.length))
          (tried.settled a h.0 (sound.place a h.0 h.1) h.1) up))

      walk : (v : ℕ) (x : L) → v < length old → (known old v).distance ≡ Some x → (ps : List ℕ) × Leads at s ps v × (total K at ps ≡ x)
      walk v x lt e = let q = tried.kept v x lt e in (row old v, good_leads laws at s old (row old v) v q.0, q.1)

      least_from : (v : ℕ) (o : Option L) → ((x : L) → o ≡ Some x → (ps : List ℕ) × Leads at s ps v × (total K at ps ≡ x)) → ((ps : List ℕ) → Leads at s ps v → near K o (Some (total K at ps)) ≡ true) → Least K at s v o
      least_from v None r l = λ ps h. false≢true (l ps h)
      least_from v (Some d) r l = (r d refl, l)

      none_from : (v : ℕ) (ps qs : List ℕ) (o : Option L) → ((x : L) → o ≡ Some x → (rs : List ℕ) × Leads at s rs v × (total K at rs ≡ x)) → ((rs : List ℕ) → Leads at s rs v → near K o (Some (total K at rs)) ≡ true)
          → Leads at s qs v → Leads at v ps v → K.upto K.zero (total K at ps) ≡ true
      none_from v ps qs None r l q p = absurd (false≢true (l qs q))
      none_from v ps qs (Some d) r l q p =
          let w = r d refl in
          let b : K.upto d (total K at (ps ++ w.0)) ≡ true = l (ps ++ w.0) (leads_join at s v ps w.0 v p w.1) in
          let e : total K at (ps ++ w.0) ≡ K.sum d (total K at ps) = total_join ps w.0 ∙ ap (λ t. K.sum t (total K at ps)) w.2 in
          laws.cancel d K.zero (total K at ps)
          (subst (λ t. K.upto t (K.sum d (total K at ps)) ≡ true) (sym (laws.zero_right d)) (subst (λ t. K.upto d t ≡ true) e b))

      best : s < length old → Best K at s old
      best started = record {
        least = λ v lt. least_from v (known old v).distance (λ x e. walk v x lt e) (λ ps h. low_all ps v h);
        ways = λ v d lt e. let q = tried.kept v d lt e in good_way laws at s old (row old v) v d q.0 q.1;
        few = λ v d lt e. len_few laws at s many old sound tried.kept v d lt e;
        fits = λ v d lt e. dist_fits laws at s many old sound tried.kept v d lt e;
        none_below = λ v qs ps q p. none_from v ps qs (known old v).distance (λ x e. walk v x (in-net qs v q) e) (λ rs h. low_all rs v h) q p;
      }
        where
          in-net : (qs : List ℕ) (v : ℕ) → Leads at s qs v → v < length old
          in-net [] v e = subst (λ u. u < length old) (sym e) started
          in-net (a ∷ qs) v h = subst (λ u. u < length old) h.2 (sound.head a h.0 h.1)

    -- what a round shows, by whether a distance fell
    module _ (new : List (Way L)) (b : Bool) (m : Tried K at s many old new × Changed K at s old new b) where
      pub settled : b ≡ false → s < length old → Best K at s new
      settled none started =
          let e : new ≡ old = subst (λ c. Changed K at s old new c) none m.1 in
          subst (λ f. Best K at s f) (sym e) (best (subst (λ f. Tried K at s many old f) e m.0) started)

      pub round_next : b ≡ true → length new ≡ length old → After K at s (k + 1) new × (k + 1 < length new)
      round_next fell e =
          let more = more_left (subst (λ c. Changed K at s old new c) fell m.1) in
          (after_next new m.0, omega arith)

-- before the first round
module _ {L : Type 0} {K : Kind L} (laws : Laws K) (at : ℕ → Option (Arc L)) (s : ℕ) (found : List (Way L)) (b : Begun K s found) where
  value_at : (v : ℕ) (x : L) → (known found v).distance ≡ Some x → (v ≡ s) × (x ≡ K.zero)
  value_at v x e = ⊎_elim
      (λ vs. (vs, some_same (known found v).distance x K.zero e (ap (λ u. (known found u).distance) vs ∙ b.start)))
      (λ ne. absurd (some_none (known found v).distance x (b.others v ne) e))
      (cases_eq v s)

  near_start : near K (known found s).distance (Some K.zero) ≡ true
  near_start = subst (λ o. near K o (Some K.zero) ≡ true) (sym b.start) (near_refl laws (Some K.zero))

  kept_start : (x : L) → x ≡ K.zero → Good K at s found (row found s) s × (total K at (row found s) ≡ x)
  kept_start x e = subst (λ ps. Good K at s found ps s × (total K at ps ≡ x)) (sym (ap reverse b.here)) ((refl, near_start), sym e)

  start_low : (ps : List ℕ) (v : ℕ) → length ps ≤ 0 → Leads at s ps v → near K (known found v).distance (Some (total K at ps)) ≡ true
  start_low [] v lk e = subst (λ u. near K (known found u).distance (Some K.zero) ≡ true) (sym e) near_start
  start_low (a ∷ ps) v lk h = absurd (omega arith)

  pub after_start : After K at s 0 found
  after_start = record {
    kept = λ v x lt e. let p = value_at v x e in subst (λ u. Good K at s found (row found u) u × (total K at (row found u) ≡ x)) (sym p.0) (kept_start x p.1);
    low = start_low;
  }
