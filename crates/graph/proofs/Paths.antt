-- Paths of weight 0 and register-free loops are the runs and walks along the gathered arcs.
use Rattle.std.proofs.Common.{◌≡◌, ℕ, ◌+◌, ◌<◌, ◌⊎◌, List, length, get_or, Ok, Err, Option, Result, sym, refl, ap, ◌∙◌, subst, inl, inr, arith}
use Rattle.model.specs.declared.Wire.{Wire}
use Rattle.model.specs.Circuit.{Circuit, delay_of, Inner, Link, Path, gate, step, weight, delay, FreeLoop, Visits, OnFreeLoop}
use Rattle.model.proofs.Clock.{starts}
use Rattle.timing.specs.declared.Arc.{Arc}
use Rattle.timing.specs.Arcs.{Hop, Walk, hop, more, Run, alone, on, spent, Longest, NoLoop, Within}
use Rattle.timing.specs.declared.OnLoop.{OnLoop}
use Rattle.timing.specs.Marks as marks
use Rattle.timing.proofs.Chase.{before}
use Rattle.std.specs.Result.{MatchResult, IsErrAnd}
use Rattle.refusals.specs.declared.Refusal.{Refusal}
use Rattle.refusals.specs.declared.Refusal.TheVariants.{Loop}
use Rattle.graph.specs.declared.graph.ends.Ends.{Ends}
use Rattle.graph.specs.Tables.{Inside}
use Rattle.graph.specs.Reads.{wire_by, circuit_of}
use Rattle.graph.specs.Measures.{LowestOnLoop, Timed, MeasuredAs, Measured, Free, Gathered}
use Rattle.graph.proofs.Rows.{live_in, in_live}

-- ---- a path with one more gate at its end
pub snoc : {c : Circuit} {u x v : ℕ} → Path c u x → Inner c v → Link c x v → Path c u v
snoc (gate i) iv l = step i l (gate iv)
snoc (step i k p) iv l = step i k (snoc p iv l)

pub snoc_weight : {c : Circuit} {u x v : ℕ} (p : Path c u x) (iv : Inner c v) (l : Link c x v) → weight (snoc p iv l) ≡ weight p + l.wire.registers
unfolding snoc
snoc_weight (gate i) iv l = omega arith
snoc_weight (step i k p) iv l = let h = snoc_weight p iv l in omega arith

pub snoc_delay : {c : Circuit} {u x v : ℕ} (p : Path c u x) (iv : Inner c v) (l : Link c x v) → delay (snoc p iv l) ≡ delay p + delay_of c v
unfolding snoc
snoc_delay (gate i) iv l = refl
snoc_delay (step i k p) iv l = let h = snoc_delay p iv l in omega arith

-- ---- a run with one more gate at its start
front : {ds : List ℕ} {arcs : List Arc} {u x v : ℕ} → 0 < u → u < length ds → Hop arcs u x → Run ds arcs x v → Run ds arcs u v
front o l h (alone i j) = on (alone o l) h
front o l h (on r k) = on (front o l h r) k

front_spent : {ds : List ℕ} {arcs : List Arc} {u x v : ℕ} (o : 0 < u) (l : u < length ds) (h : Hop arcs u x) (r : Run ds arcs x v) → spent (front o l h r) ≡ get_or ds u 0 + spent r
unfolding front
front_spent o l h (alone i j) = refl
front_spent o l h (on r k) = let e = front_spent o l h r in omega arith

-- one walk after another
follow : {arcs : List Arc} {u x v : ℕ} → Walk arcs u x → Walk arcs x v → Walk arcs u v
follow w (hop h) = more w h
follow w (more x h) = more (follow w x) h

module _ (ds : List ℕ) (es : List (Option Ends)) (rs : List ℕ) (even : length rs ≡ length es) (inside : Inside es (length ds)) (free : List Arc) (g : Gathered es rs (length es) free) where
  abbrev c : Circuit
  c = circuit_of ds es rs

  record Joined (u v : ℕ) : Type 0 where
    link : Link c u v
    empty : link.wire.registers ≡ 0
    first : Inner c u
    last : Inner c v

  hop_link : (u v : ℕ) → Hop free u v → Joined u v
  hop_link u v h =
      let (j, e, l, f, a) = g.each h.place h.there in
      let i = inside j e f.lives in
      let u_is : e.from ≡ u = sym a.leaves ∙ h.leaves in
      let v_is : e.to ≡ v = sym a.enters ∙ h.enters in
      record {
        link = record { wire = wire_by e (get_or rs j 0); lives = live_in es rs j e even f.lives; leaves = u_is; enters = v_is };
        empty = f.empty;
        first = record { apart = (let x = f.leaves in omega arith); there = (let x = i.0 in omega arith) };
        last = record { apart = (let x = f.enters in omega arith); there = (let x = i.1 in omega arith) };
      }

  link_hop : (u v : ℕ) (l : Link c u v) → l.wire.registers ≡ 0 → Inner c u → Inner c v → Hop free u v
  link_hop u v l z iu iv =
      let f = in_live es rs l.wire l.lives in
      let a : f.ends.from ≡ u = ap (λ (w : Wire). w.from) (sym f.is) ∙ l.leaves in
      let b : f.ends.to ≡ v = ap (λ (w : Wire). w.to) (sym f.is) ∙ l.enters in
      let empty : get_or rs f.at 0 ≡ 0 = ap (λ (w : Wire). w.registers) (sym f.is) ∙ z in
      let fr : Free es rs f.at f.ends = record { lives = f.lives; empty = empty; leaves = (let x = iu.apart in omega arith); enters = (let x = iv.apart in omega arith) } in
      let k = g.every f.at f.ends f.there fr in
      record { place = k.0; there = k.1; leaves = k.2.leaves ∙ a; enters = k.2.enters ∙ b }

  pub within : Within (length ds) free
  within k h =
      let i = hop_link _ _ (record { place = k; there = h; leaves = refl; enters = refl }) in
      record { leaves = i.first.apart; left = i.first.there; enters = i.last.apart; entered = i.last.there }

  -- ---- runs and paths of weight 0
  record OfRun (u v t : ℕ) : Type 0 where
    path : Path c u v
    light : weight path ≡ 0
    takes : delay path ≡ t

  run_path : (u v : ℕ) (run : Run ds free u v) → OfRun u v (spent run)
  run_path u v (alone o l) = record { path = gate (record { apart = o; there = l }); light = refl; takes = refl }
  run_path u v (on {x = x} run h) =
      let p = run_path u x run in
      let j = hop_link x v h in
      let sw = snoc_weight p.path j.last j.link in
      let sd = snoc_delay p.path j.last j.link in
      record {
        path = snoc p.path j.last j.link;
        light = (let a = p.light in let b = j.empty in omega arith);
        takes = (let a = p.takes in omega arith);
      }

  path_run : (u v : ℕ) (p : Path c u v) → weight p ≡ 0 → (run : Run ds free u v) × (spent run ≡ delay p)
  path_run u v (gate i) z = (alone i.apart i.there, refl)
  path_run u v (step {x = x} i l p) z =
      let q = path_run x v p (omega arith) in
      let h = link_hop u x l (omega arith) i (starts p) in
      (front i.apart i.there h q.0, (let a = front_spent i.apart i.there h q.0 in let b = q.1 in omega arith))

  -- ---- walks and register-free loops
  record OfWalk (u v : ℕ) : Type 0 where
    next : ℕ
    inner : Inner c u
    link : Link c u next
    back : Path c next v
    free_link : link.wire.registers ≡ 0
    free_back : weight back ≡ 0

  walk_path : (u v : ℕ) → Walk free u v → OfWalk u v
  walk_path u v (hop h) =
      let j = hop_link u v h in
      record { next = v; inner = j.first; link = j.link; back = gate j.last; free_link = j.empty; free_back = refl }
  walk_path u v (more {x = x} w h) =
      let o = walk_path u x w in
      let j = hop_link x v h in
      record {
        next = o.next;
        inner = o.inner;
        link = o.link;
        back = snoc o.back j.last j.link;
        free_link = o.free_link;
        free_back = (let a = snoc_weight o.back j.last j.link in let b = o.free_back in let d = j.empty in omega arith);
      }

  path_walk : (u v : ℕ) (p : Path c u v) → weight p ≡ 0 → (u ≡ v) ⊎ Walk free u v
  path_walk u v (gate i) z = inl refl
  path_walk u v (step {x = x} i l p) z =
      let h = link_hop u x l (omega arith) i (starts p) in
      elim (path_walk x v p (omega arith)) [
        | inl e ↦ inr (hop (subst (λ (y : ℕ). Hop free u y) e h))
        | inr w ↦ inr (before h w)
      ]

  loop_walk : (f : FreeLoop c) → Walk free f.start f.start
  loop_walk f =
      let z = f.free in
      let h = link_hop f.start f.next f.link (omega arith) f.inner (starts f.back) in
      elim (path_walk f.next f.start f.back (omega arith)) [
        | inl e ↦ hop (subst (λ (y : ℕ). Hop free f.start y) e h)
        | inr w ↦ before h w
      ]

  walk_loop : (v : ℕ) → Walk free v v → OnFreeLoop c v
  walk_loop v w =
      let o = walk_path v v w in
      record {
        loop = record { start = v; next = o.next; inner = o.inner; link = o.link; back = o.back; free = (let a = o.free_link in let b = o.free_back in omega arith) };
        passes = inl refl;
      }

  -- a gate on a path of weight 0: walks lead to it and on from it
  visited : (h u v : ℕ) (p : Path c u v) → weight p ≡ 0 → Visits p h → ((h ≡ u) ⊎ Walk free u h) × ((h ≡ v) ⊎ Walk free h v)
  visited h u v (gate i) z e = (inl e, inl e)
  visited h u v (step {x = x} i l p) z (inl e) =
      (inl e, elim (path_walk u v (step i l p) z) [ inl f ↦ inl (e ∙ f) | inr w ↦ inr (subst (λ (y : ℕ). Walk free y v) (sym e) w) ])
  visited h u v (step {x = x} i l p) z (inr m) =
      let q = visited h x v p (omega arith) m in
      let k = link_hop u x l (omega arith) i (starts p) in
      (elim q.0 [ inl e ↦ inr (hop (subst (λ (y : ℕ). Hop free u y) (sym e) k)) | inr w ↦ inr (before k w) ], q.1)

  -- the walk round the loop from any gate on it
  round_walk : (h : ℕ) → OnFreeLoop c h → Walk free h h
  round_walk h o =
      let f = o.loop in
      let s = f.start in
      let q = visited h s s (step f.inner f.link f.back) f.free o.passes in
      elim q.0 [
        | inl e ↦ subst (λ (y : ℕ). Walk free y y) (sym e) (loop_walk f)
        | inr w ↦ elim q.1 [
          | inl e ↦ subst (λ (y : ℕ). Walk free y y) (sym e) (loop_walk f)
          | inr x ↦ follow x w
        ]
      ]

  measured_ok : (p : ℕ) → NoLoop free × Longest ds free p → Timed c p
  measured_ok p m = record {
    free = λ f. m.0 f.start (loop_walk f);
    period = record {
      most = λ u v q z. let a = path_run u v q z in let b = m.1.most u v a.0 in let d = a.1 in omega arith;
      met = elim m.1.met [ inl z ↦ inl z | inr x ↦ (let o = run_path x.0 x.1 x.2 in inr (x.0, x.1, o.path, o.light, o.takes ∙ x.3)) ];
    };
  }

  measured_err : (v : ℕ) → marks.Lowest free v → LowestOnLoop c (Loop v)
  measured_err v m = record {
    gate = v;
    says = refl;
    on = walk_loop v m.loop;
    first = λ h l o. m.first h l (round_walk h o);
  }

  pub measured : (r : Result ℕ OnLoop) (q : Result ℕ Refusal) → marks.Measured ds free r → MatchResult r (λ p. q ≡ Ok p) (λ found. IsErrAnd q (λ e. e ≡ Loop found.gate)) → Measured c q
  measured (Ok p) q m h = record { outcome = subst (MeasuredAs c) (sym h) (measured_ok p m) }
  measured (Err found) (Err e) m h = record { outcome = subst (LowestOnLoop c) (sym h) (measured_err found.gate m) }
  measured (Err found) (Ok p) m h = absurd h
