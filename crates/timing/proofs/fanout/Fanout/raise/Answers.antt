use Rattle.std.proofs.Common.{length-set, ◌∙◌, arith}
use Rattle.timing.proofs.Grouping as groups
use Rattle.timing.proofs.Raising as lemma
use Rattle.timing.proofs.fanout.Fanout.raise.Goals as goal

pub bounds-times-head : goal.bounds-times-head
bounds-times-head c = (groups.inner c.args.self.now c.args.gate c.loop-head.yielded _ c.loop-head.invariant.all c.in-Some.head _ c.in-Some.ensures.steps 128 c.heads-head-items.ensures.within).1

pub loop-head-preserved : goal.loop-head-preserved
loop-head-preserved c =
    let x = c.in-Some.head in
    let inv = c.loop-head.invariant in
    let i = groups.inner c.args.self.now c.args.gate c.loop-head.yielded _ inv.all x _ c.in-Some.ensures.steps 128 c.heads-head-items.ensures.within in
    record {
      all = groups.heads_more c.args.self.now c.args.gate c.loop-head.yielded _ inv.all x _ c.in-Some.ensures.steps;
      long = length-set c.loop-head.times x c.max.result ∙ inv.long;
      raised = rw c.max.ensures (lemma.raised_more c.loop-head.yielded x c.args.time c.args.times.now c.loop-head.times (omega arith) inv.raised);
    }

pub returns : goal.returns
returns c =
    lemma.raised_as _ _ c.args.time c.args.times.now c.loop-head.times
    (groups.entered_end c.args.self.now c.args.gate c.loop-head.yielded _ c.loop-head.invariant.all c.in-None.ensures.steps.0) c.loop-head.invariant.raised
