use Rattle.std.proofs.Common.{◌≡◌, ◌+◌, ◌<◌, length, get_or, length-append, sym, ◌∙◌, arith}
use Rattle.std.proofs.lemmas.Iterator.{YieldsList-from_slice}
use Rattle.std.proofs.lemmas.Iterator.Adapters.{YieldsList-from_skip}
use Rattle.std.proofs.lemmas.Iterator.Consumers.{YieldsList-from_enumerate, YieldsList-turn}
use Rattle.timing.proofs.Seeding as lemma
use Rattle.timing.proofs.Members.{pushed}
use Rattle.timing.proofs.seed.Goals as goal
use Rattle.timing.proofs.seed.Goals.{In-Some}

-- the gate that is looked at, and its count
here : (c : In-Some) → (c.in-Some.gate ≡ length c.loop-gate.yielded + 1) × (length c.loop-gate.yielded + 1 < length c.args.counts.now) × (c.in-Some.count.now ≡ get_or c.args.counts.now (length c.loop-gate.yielded + 1) 0)
here c =
    let t = YieldsList-turn (YieldsList-from_skip 1 (YieldsList-from_enumerate (YieldsList-from_slice c.args.counts.now cc) cc) cc) c.loop-gate.yielded _ c.loop-gate.yielded_by _ _ (c.in-Some.gate, c.in-Some.count) c.in-Some.is c.next.ensures.steps in
    lemma.place c.args.counts.now (length c.loop-gate.yielded) (c.in-Some.gate, c.in-Some.count.now) t.0 t.1

pub loop-gate-preserved-then-count-eq0 : goal.loop-gate-preserved-then-count-eq0
loop-gate-preserved-then-count-eq0 c =
    let counts = c.args.counts.now in
    let g = length c.loop-gate.yielded + 1 in
    let ready = c.loop-gate.ready in
    let inv = c.loop-gate.invariant in
    let h = here (goal.at.loop-gate-preserved-then-count-eq0 c).In-Some in
    let fits : length ready.held < ready.room = let a = lemma.seeded_room counts g ready.held inv.seeded in let b = inv.room in let d = c.requires.empty_with_room.0 in omega arith in
    let p = pushed ready c.push.new.self c.in-Some.gate c.push.result c.push.ensures fits in
    record {
      room = p.1 ∙ inv.room;
      seeded = rw (p.0, h.0, length-append) (lemma.seeded_ready counts g ready.held inv.seeded (omega arith) (sym h.2 ∙ c.if-count-eq0.true));
    }

pub loop-gate-preserved : goal.loop-gate-preserved
loop-gate-preserved c =
    let h = here (goal.at.loop-gate-preserved c).In-Some in
    record {
      room = c.loop-gate.invariant.room;
      seeded = rw length-append (lemma.seeded_other c.args.counts.now (length c.loop-gate.yielded + 1) c.loop-gate.ready.held c.loop-gate.invariant.seeded (λ z. c.if-count-eq0.false (h.2 ∙ z)));
    }
