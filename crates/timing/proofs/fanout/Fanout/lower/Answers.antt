use Rattle.std.proofs.Common.{◌<◌, length-set, ◌∙◌, arith}
use Rattle.timing.proofs.Grouping as groups
use Rattle.timing.proofs.Lowering as lemma
use Rattle.timing.proofs.Members.{pushed}
use Rattle.timing.proofs.fanout.Fanout.lower.Goals as goal
use Rattle.timing.proofs.fanout.Fanout.lower.Goals.{In-Some}

inner : (c : In-Some) → c.in-Some.head < 128
inner c = (groups.inner c.args.self.now c.args.gate c.loop-head.yielded _ c.loop-head.invariant.all c.in-Some.head _ c.in-Some.ensures.steps 128 c.heads-head-items.ensures.within).1

pub bounds-counts-at : goal.bounds-counts-at
bounds-counts-at c = inner (goal.at.bounds-counts-at c).In-Some

pub bounds-counts-at-in-loop-head : goal.bounds-counts-at-in-loop-head
bounds-counts-at-in-loop-head c = inner (goal.at.bounds-counts-at-in-loop-head c).In-Some

pub bounds-counts-at-in-loop-head-2 : goal.bounds-counts-at-in-loop-head-2
bounds-counts-at-in-loop-head-2 c = inner (goal.at.bounds-counts-at-in-loop-head-2 c).In-Some

pub overflow_sub-counts : goal.overflow_sub-counts
overflow_sub-counts c =
    lemma.counted c.args.self.now 128 c.args.gate c.heads-head-items.ensures.within c.args.counts.now _ c.requires.lowerable c.loop-head.yielded _ c.loop-head.invariant.all c.in-Some.head _ c.in-Some.ensures.steps c.loop-head.counts _ c.loop-head.invariant.lowered

pub loop-head-preserved-then-counts-at-eq0 : goal.loop-head-preserved-then-counts-at-eq0
loop-head-preserved-then-counts-at-eq0 c =
    let arcs = c.args.self.now in
    let x = c.in-Some.head in
    let new = c.loop-head.counts in
    let inv = c.loop-head.invariant in
    let steps = c.in-Some.ensures.steps in
    let within = c.heads-head-items.ensures.within in
    let r = lemma.room_for arcs 128 c.args.gate within c.args.counts.now _ c.requires.lowerable c.loop-head.yielded _ inv.all x _ steps new _ inv.lowered (omega arith) in
    let p = pushed c.loop-head.ready c.push.new.self x c.push.result c.push.ensures (omega arith) in
    record {
      all = groups.heads_more arcs c.args.gate c.loop-head.yielded _ inv.all x _ steps;
      room = p.1 ∙ inv.room;
      long = length-set new x _ ∙ inv.long;
      lowered = rw p.0 (lemma.ready_now arcs 128 c.args.gate within c.args.counts.now _ c.requires.lowerable c.loop-head.yielded _ inv.all x _ steps new _ inv.lowered (omega arith) c.if-counts-at-eq0.true);
    }

pub loop-head-preserved : goal.loop-head-preserved
loop-head-preserved c =
    let arcs = c.args.self.now in
    let x = c.in-Some.head in
    let inv = c.loop-head.invariant in
    let steps = c.in-Some.ensures.steps in
    record {
      all = groups.heads_more arcs c.args.gate c.loop-head.yielded _ inv.all x _ steps;
      room = inv.room;
      long = length-set c.loop-head.counts x _ ∙ inv.long;
      lowered = lemma.still arcs 128 c.args.gate c.heads-head-items.ensures.within c.args.counts.now _ c.requires.lowerable c.loop-head.yielded _ inv.all x _ steps c.loop-head.counts _ inv.lowered (omega arith) c.if-counts-at-eq0.false;
    }

pub returns-clause-lowered : goal.returns-clause-lowered
returns-clause-lowered c =
    lemma.lowered_as _ _ 128 c.args.counts.now c.loop-head.counts c.args.ready.now.held c.loop-head.ready.held
    (groups.entered_end c.args.self.now c.args.gate c.loop-head.yielded _ c.loop-head.invariant.all c.in-None.ensures.steps.0) c.loop-head.invariant.lowered
