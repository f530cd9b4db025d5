-- One arc more.
use Rattle.std.proofs.Common.{◌≡◌, ℕ, ◌<◌, ◌≤◌, true, false, List, ◌∷◌, ◌++◌, [], reverse, length, get_or, take, drop, set, Some, Option, sym, refl, ap, ◌∙◌, subst, ⊎_elim, arith}
use Rattle.std.proofs.lemmas.List.{get_or_default, get_or-set_same, get_or-set_other, length-set, length-reverse, reverse-append}
use Rattle.std.proofs.lemmas.Bool.{cases_eq}
use Rattle.ways.specs.Laws.{Kind, Laws}
use Rattle.ways.specs.Walks.{Clear, total, known, row, near, past, Sound, LoopBelow, Closes}
use Rattle.ways.specs.Keeps.{Good, Kept, Short, Better, Meets, Moved}
use Rattle.ways.specs.declared.net.Arc.{Arc}
use Rattle.ways.specs.declared.walk.Way.{Way}
use Rattle.ways.specs.declared.walk.Loop.{Loop}
use Rattle.ways.proofs.Near.{some_same, near_refl, near_total}
use Rattle.ways.proofs.Walks.{reverse_split, begins_at}
use Rattle.ways.proofs.Good.{total_step, good_leads, good_few, good_fits, good_lower, loop_of}

module _ {L : Type 0} {K : Kind L} (laws : Laws K) (at : ℕ → Option (Arc L)) (s many : ℕ) (found : List (Way L)) (sound : Sound K at many (length found)) (kept : Kept K at s found) where
  -- how long the way of a vertex is
  pub len_few : (v : ℕ) (x : L) → v < length found → (known found v).distance ≡ Some x → length (known found v).arcs.items < length found
  len_few v x lt e =
      let n = good_few laws at s found many (length found) sound (row found v) v lt (kept v x lt e).0 in
      let l = length-reverse (known found v).arcs.items in
      omega arith

  pub dist_fits : (v : ℕ) (x : L) → v < length found → (known found v).distance ≡ Some x → K.fits (length (known found v).arcs.items) x
  dist_fits v x lt e =
      let k = kept v x lt e in
      subst (λ y. K.fits (length (known found v).arcs.items) y) k.1
      (subst (λ m. K.fits m (total K at (row found v))) (length-reverse (known found v).arcs.items)
      (good_fits laws at s found many (length found) sound (row found v) v k.0))

  -- nothing changes
  moved_same : (i : ℕ) → ((x : Arc L) → at i ≡ Some x → near K (known found x.head).distance (past K (known found x.tail).distance x.length) ≡ true) → Moved K at s i found found
  moved_same i h = record { kept = kept; lower = λ v. near_refl laws (known found v).distance; settled = h }

  -- the arc at i is tried, and its tail has the distance `far`
  module _ (i : ℕ) (x : Arc L) (stands : at i ≡ Some x) (d : Way L) (far : L) (there : (get_or found x.tail d).distance ≡ Some far) where
    from : (known found x.tail).distance ≡ Some far
    from = sym (ap (λ (w : Way L). w.distance) (get_or_default found x.tail d _ (sound.tail i x stands))) ∙ there

    len_under : length (known found x.tail).arcs.items < length found
    len_under = len_few x.tail far (sound.tail i x stands) from

    pub one_more : (k : ℕ) × (k < 128) × K.fits k far × K.fits 1 x.length
    one_more =
        let lt = len_under in
        let few = sound.few in
        (length (known found x.tail).arcs.items, omega arith, dist_fits x.tail far (sound.tail i x stands) from, sound.step i x stands)

    pub within : (x.tail < length found) × (x.head < length found) × (length found ≤ 128) × (i < 65536) × (length (known found x.tail).arcs.items < length found)
    within =
        let place = sound.place i x stands in
        let many-few = sound.short in
        (sound.tail i x stands, sound.head i x stands, sound.few, omega arith, len_under)

    module _ (sum : L) (sums : sum ≡ K.sum far x.length) (e : Way L) where
      head_at : (get_or found x.head e).distance ≡ (known found x.head).distance
      head_at = ap (λ (w : Way L). w.distance) (get_or_default found x.head e _ (sound.head i x stands))

      pub is_better : near K (get_or found x.head e).distance (Some sum) ≡ false → Better K at i found x sum
      is_better less = record { stands = stands; far = far; from = from; is = sums; less = subst (λ o. near K o (Some sum) ≡ false) head_at less }

      pub no_better : near K (get_or found x.head e).distance (Some sum) ≡ true → Moved K at s i found found
      no_better nearer = moved_same i (λ y q.
          subst (λ (z : Arc L). near K (known found z.head).distance (past K (known found z.tail).distance z.length) ≡ true) (some_same (at i) x y stands q)
          (subst (λ o. near K (known found x.head).distance (past K o x.length) ≡ true) (sym from)
          (subst (λ t. near K (known found x.head).distance (Some t) ≡ true) sums (subst (λ o. near K o (Some sum) ≡ true) head_at nearer))))

  -- `arcs` is what was read as the way of the arc's tail
  module _ (i : ℕ) (x : Arc L) (sum : L) (better : Better K at i found x sum) (d : Way L) (arcs : List ℕ) (read : arcs ≡ (get_or found x.tail d).arcs.items) where
    from_in : x.tail < length found
    from_in = sound.tail i x better.stands

    to_in : x.head < length found
    to_in = sound.head i x better.stands

    is_row : row found x.tail ≡ reverse arcs
    is_row = ap reverse (sym (read ∙ ap (λ (w : Way L). w.arcs.items) (get_or_default found x.tail d _ from_in)))

    good : Good K at s found (row found x.tail) x.tail
    good = (kept x.tail better.far from_in better.from).0

    sums : total K at (row found x.tail) ≡ better.far
    sums = (kept x.tail better.far from_in better.from).1

    -- the arc closes a loop with those from p on
    pub closes : (p : ℕ) (l : Loop) → Meets at arcs x.tail x.head p → l.arcs.items ≡ drop p arcs ++ i ∷ [] → Closes K at s l
    closes p l m e =
        let parts = is_row ∙ reverse_split p arcs in
        let loop = ap reverse e ∙ reverse-append (drop p arcs) (i ∷ []) in
        subst (λ ps. LoopBelow K at s ps) (sym loop)
        (loop_of laws at s found (reverse (drop p arcs)) (reverse (take p arcs)) i x better.far sum better.stands
        (subst (λ ps. Good K at s found ps x.tail) parts good)
        (ap (total K at) (sym parts) ∙ sums)
        better.is better.less
        (λ w h. begins_at at arcs x.tail x.head p w m h))

    -- the distance falls
    module _ (ne : x.tail ≡ x.head → ⊥) (clear-on : Clear at x.head (reverse arcs)) (way : Way L) (far : way.distance ≡ Some sum) (longer : way.arcs.items ≡ arcs ++ i ∷ []) where
      clear : Clear at x.head (row found x.tail)
      clear = subst (λ ps. Clear at x.head ps) (sym is_row) clear-on

      found' : List (Way L)
      found' = set found x.head way

      reached : known found' x.head ≡ way
      unfolding found'
      reached = get_or-set_same found x.head way _ to_in

      same : (v : ℕ) → (v ≡ x.head → ⊥) → known found' v ≡ known found v
      unfolding found'
      same v n = get_or-set_other found x.head v way _ n

      reached_far : (known found' x.head).distance ≡ Some sum
      reached_far = ap (λ (w : Way L). w.distance) reached ∙ far

      lower : (v : ℕ) → near K (known found' v).distance (known found v).distance ≡ true
      lower v = ⊎_elim
          (λ e. subst (λ u. near K (known found' u).distance (known found u).distance ≡ true) (sym e)
          (subst (λ o. near K o (known found x.head).distance ≡ true) (sym reached_far) (near_total laws (known found x.head).distance (Some sum) better.less)))
          (λ n. subst (λ (w : Way L). near K w.distance (known found v).distance ≡ true) (sym (same v n)) (near_refl laws (known found v).distance))
          (cases_eq v x.head)

      total_is : total K at (i ∷ row found x.tail) ≡ sum
      total_is = total_step K at i (row found x.tail) x better.stands ∙ ap (λ t. K.sum t x.length) sums ∙ sym better.is

      good_next : Good K at s found' (i ∷ row found x.tail) x.head
      good_next = (
        x,
        better.stands,
        refl,
        (λ y e q. ne (ap (λ (z : Arc L). z.tail) (some_same (at i) x y better.stands e) ∙ q), clear),
        subst (λ o. near K o (Some (total K at (i ∷ row found x.tail))) ≡ true) (sym reached_far) (subst (λ t. near K (Some sum) (Some t) ≡ true) (sym total_is) (near_refl laws (Some sum))),
        good_lower laws at s found found' lower (row found x.tail) x.tail good,
      )

      row_next : row found' x.head ≡ i ∷ row found x.tail
      row_next = ap (λ (w : Way L). reverse w.arcs.items) reached ∙ ap reverse longer ∙ reverse-append arcs (i ∷ []) ∙ ap (λ ps. i ∷ ps) (sym is_row)

      kept_here : (y : L) → (known found' x.head).distance ≡ Some y → Good K at s found' (row found' x.head) x.head × (total K at (row found' x.head) ≡ y)
      kept_here y e =
          subst (λ ps. Good K at s found' ps x.head × (total K at ps ≡ y)) (sym row_next)
          (good_next, total_is ∙ some_same (known found' x.head).distance sum y reached_far e)

      kept_there : (v : ℕ) (y : L) → v < length found → (v ≡ x.head → ⊥) → (known found v).distance ≡ Some y → Good K at s found' (row found' v) v × (total K at (row found' v) ≡ y)
      kept_there v y lt n e =
          let k = kept v y lt e in
          subst (λ ps. Good K at s found' ps v × (total K at ps ≡ y)) (sym (ap (λ (w : Way L). reverse w.arcs.items) (same v n)))
          (good_lower laws at s found found' lower (row found v) v k.0, k.1)

      kept' : Kept K at s found'
      unfolding found'
      kept' v y lt e = ⊎_elim
          (λ q. subst (λ u. Good K at s found' (row found' u) u × (total K at (row found' u) ≡ y)) (sym q)
          (kept_here y (ap (λ u. (known found' u).distance) (sym q) ∙ e)))
          (λ n. kept_there v y (let l = length-set found x.head way in let z : v < length found = omega arith in z) n (ap (λ (w : Way L). w.distance) (sym (same v n)) ∙ e))
          (cases_eq v x.head)

      moved_set : Moved K at s i found (set found x.head way)
      unfolding found'
      moved_set = record {
        kept = kept';
        lower = lower;
        settled = λ y e.
            subst (λ (z : Arc L). near K (known found' z.head).distance (past K (known found z.tail).distance z.length) ≡ true) (some_same (at i) x y better.stands e)
            (subst (λ o. near K o (past K (known found x.tail).distance x.length) ≡ true) (sym reached_far)
            (subst (λ o. near K (Some sum) (past K o x.length) ≡ true) (sym better.from)
            (subst (λ t. near K (Some sum) (Some t) ≡ true) better.is (near_refl laws (Some sum)))));
      }

      short : Short K at s (length found) found
      short = (
        x.head,
        i ∷ row found x.tail,
        good_few laws at s found' many (length found) sound (i ∷ row found x.tail) x.head to_in good_next,
        good_leads laws at s found' (i ∷ row found x.tail) x.head good_next,
        subst (λ t. near K (known found x.head).distance (Some t) ≡ false) (sym total_is) better.less,
      )

      pub lowered : Moved K at s i found (set found x.head way) × Short K at s (length found) found
      lowered = (moved_set, short)
