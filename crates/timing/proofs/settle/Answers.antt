use Rattle.std.proofs.Common.{◌≡◌, ℕ, ◌+◌, ◌<◌, ◌≤◌, ◌∷◌, List, length, get_or, count_by, sym, refl, ap, ◌∙◌, subst, inl, arith}
use Rattle.timing.specs.declared.Arc.{Arc}
use Rattle.timing.specs.Arcs.{into}
use Rattle.timing.specs.Lowered.{Lowerable, Lowered, Raised}
use Rattle.timing.proofs.Blank.{blank_all}
use Rattle.timing.proofs.Counting.{also, host}
use Rattle.timing.proofs.Seeding.{seeded_front}
use Rattle.timing.proofs.Stages as lemma
use Rattle.timing.proofs.Stages.{Stage, at_front, done}
use Rattle.timing.proofs.settle.Goals as goal
use Rattle.timing.proofs.settle.Goals.{In-Some}

pub loop-gate-init : goal.loop-gate-init
loop-gate-init c =
    let ds = c.args.delays.now in
    let arcs = c.args.arcs.now in
    let counts = c.tally-counts.result in
    let ready = c.seed.new.ready.held in
    let tallied : (v : ℕ) → get_or counts v 0 ≡ count_by (into v) arcs = λ v. c.tally-counts.ensures v ∙ ap (count_by (into v)) c.new-fanout.ensures in
    let seeded = seeded_front counts (length ds) ready (omega arith) c.seed.ensures.seeded in
    record { room = omega arith; stage = (host, lemma.begun ds arcs c.requires.sizes.0 c.requires.within counts _ ready tallied seeded (λ k. blank_all 128 k 0)) }

-- the stage, with the gate that was taken in front
front : (c : In-Some) → Stage c.args.delays.now c.args.arcs.now c.loop-gate.counts c.loop-gate.times (c.in-Some.gate ∷ c.take.new.self.held) c.loop-gate.period c.loop-gate.left c.loop-gate.invariant.stage.0
front c = at_front c.in-Some.ensures.0 c.loop-gate.invariant.stage.1

inner : (c : In-Some) → c.in-Some.gate < length c.args.delays.now
inner c = ((front c).queued c.in-Some.gate (inl refl)).1

some_left : (c : In-Some) → 1 ≤ c.loop-gate.left
some_left c = lemma.some_left c.args.delays.now c.args.arcs.now c.requires.within c.loop-gate.counts c.loop-gate.times c.take.new.self.held c.loop-gate.period c.loop-gate.left c.in-Some.gate c.loop-gate.invariant.stage.0 (front c)

pub bounds-times-gate : goal.bounds-times-gate
bounds-times-gate c = let s = at_front c.in-Some.ensures.0 c.loop-gate.invariant.stage.1 in let i = (s.queued c.in-Some.gate (inl refl)).1 in omega arith

pub overflow_sub-left-in-Some : goal.overflow_sub-left-in-Some
overflow_sub-left-in-Some c = some_left (goal.at.overflow_sub-left-in-Some c).In-Some

pub lower-requires-clause-lowerable : goal.lower-requires-clause-lowerable
lower-requires-clause-lowerable c =
    let l = lemma.lowerable c.args.delays.now c.args.arcs.now c.requires.within c.loop-gate.counts c.loop-gate.times c.take.new.self.held c.loop-gate.period c.loop-gate.left c.in-Some.gate c.loop-gate.invariant.stage.0 (front (goal.at.lower-requires-clause-lowerable c).In-Some) 128 c.requires.sizes.1 in
    subst (λ (arcs : List Arc). Lowerable arcs 128 c.in-Some.gate c.loop-gate.counts c.take.new.self.held) (sym c.new-fanout.ensures) l

pub loop-gate-smaller : goal.loop-gate-smaller
loop-gate-smaller c = let l = some_left (goal.at.loop-gate-smaller c).In-Some in omega arith

pub loop-gate-preserved : goal.loop-gate-preserved
loop-gate-preserved c =
    let s = front (goal.at.loop-gate-preserved c).In-Some in
    let ds = c.args.delays.now in
    let arcs = c.args.arcs.now in
    let counts = c.loop-gate.counts in
    let times = c.loop-gate.times in
    let later = c.raise.new.times in
    let lowered = c.lower.new.counts in
    let rest = c.take.new.self.held in
    let ready = c.lower.new.ready.held in
    let u = c.in-Some.gate in
    let d = c.type_inv.delays u in
    let e : c.from.result ≡ get_or ds u 0 = c.from.ensures in
    let rise : Raised arcs u (get_or times u 0 + c.from.result) times later = subst (λ (xs : List Arc). Raised xs u (get_or times u 0 + c.from.result) times later) c.new-fanout.ensures c.raise.ensures in
    let low : Lowered arcs 128 u counts lowered rest ready = subst (λ (xs : List Arc). Lowered xs 128 u counts lowered rest ready) c.new-fanout.ensures c.lower.ensures.lowered in
    record {
      room = (let a = c.lower.ensures.room in let b = c.in-Some.ensures.1 in let e = c.loop-gate.invariant.room in omega arith);
      stage = (also u c.loop-gate.invariant.stage.0, lemma.advanced ds arcs c.requires.within counts times rest c.loop-gate.period c.loop-gate.left u c.loop-gate.invariant.stage.0 s (omega arith) _ (omega arith) later (rw e at rise) 128 c.requires.sizes.1 lowered ready low);
    }

pub returns : goal.returns
returns c = rw c.then_some.ensures (lemma.settled c.args.delays.now c.args.arcs.now c.requires.within c.loop-gate.counts c.loop-gate.times c.loop-gate.ready.held c.loop-gate.period c.loop-gate.left c.loop-gate.invariant.stage.0 c.loop-gate.invariant.stage.1 c.in_default.ensures.0)
