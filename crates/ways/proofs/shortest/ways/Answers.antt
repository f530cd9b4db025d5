use Rattle.std.proofs.Common.{◌≡◌, length, arith}
use Rattle.ways.proofs.Turns.{after_start, settled, round_next}
use Rattle.ways.proofs.shortest.ways.Goals as goal

pub loop-init : goal.loop-init
loop-init g c = (after_start g.met.N.Length.Distance.distances _ _ c.begin.new.found c.begin.ensures, omega arith)

pub returns-then-not-branch : goal.returns-then-not-branch
returns-then-not-branch g c =
    let e : length c.args.found.now ≡ length c.loop.found = omega arith in
    settled g.met.N.Length.Distance.distances _ _ _ _ (rw e at c.requires.sound) _ c.loop.invariant.0 _ c.in_ok-round.field-0 c.in_ok-round.ensures c.if-not-branch.true (omega arith)

pub loop-preserved : goal.loop-preserved
loop-preserved g c =
    let e : length c.args.found.now ≡ length c.loop.found = omega arith in
    round_next g.met.N.Length.Distance.distances _ _ _ _ (rw e at c.requires.sound) _ c.loop.invariant.0 _ c.in_ok-round.field-0 c.in_ok-round.ensures c.if-not-branch.false (omega arith)
