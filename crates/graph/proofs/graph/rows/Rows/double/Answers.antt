use Rattle.std.proofs.Common.{arith, ap, ◌∙◌}
use Rattle.std.proofs.lemmas.Iterator.Consumers.{YieldsList-end}
use Rattle.std.specs.List.{flat_map}
use Rattle.graph.proofs.Present.{road, within}
use Rattle.graph.proofs.Ways.{pair, pairs_both}
use Rattle.graph.proofs.graph.rows.Rows.double.Goals as goal

pub push-requires : goal.push-requires
push-requires c =
    let w = within c.into_iter-e-iterator.result c.args.self.now.wires.now (cc) (cc) (cc) (cc) c.loop-e.yielded c.loop-e.e-iterator c.next.new.self c.loop-e.yielded_by c.next.result c.in-Some.e c.in-Some.is c.next.ensures.steps in
    (omega arith, omega arith)

pub push-requires-in-loop-e : goal.push-requires-in-loop-e
push-requires-in-loop-e c =
    let w = within c.into_iter-e-iterator.result c.args.self.now.wires.now (cc) (cc) (cc) (cc) c.loop-e.yielded c.loop-e.e-iterator c.next.new.self c.loop-e.yielded_by c.next.result c.in-Some.e c.in-Some.is c.next.ensures.steps in
    (omega arith, omega arith)

pub returns : goal.returns
returns c =
    let all = YieldsList-end (road c.into_iter-e-iterator.result c.args.self.now.wires.now (cc) (cc) (cc) (cc)) c.loop-e.yielded c.loop-e.e-iterator c.loop-e.yielded_by c.next.result c.next.new.self c.in-None.is c.next.ensures.steps in
    c.loop-e.invariant.3 ∙ ap (flat_map pair) all.0 ∙ pairs_both c.args.self.now.wires.now
