use Rattle.std.proofs.Common.{Bool, false, length, subst, arith}
use Rattle.timing.specs.Marks.{Spread}
use Rattle.timing.proofs.Marking as lemma
use Rattle.timing.proofs.marks.reached.Goals as goal

pub loop-init : goal.loop-init
loop-init c = record { long = omega arith; led = lemma.led_first c.args.arcs.now c.args.gate _ c.next-marks.ensures }

pub loop-preserved : goal.loop-preserved
loop-preserved c = record { long = c.spread.array_long; led = lemma.led_more c.args.arcs.now c.args.gate _ c.loop.marks c.spread.new.marks c.spread.result c.loop.invariant.led c.spread.ensures }

pub returns : goal.returns
returns c =
    let arcs = c.args.arcs.now in
    let s : Spread arcs (length arcs) c.loop.marks c.spread.new.marks false = subst (λ (b : Bool). Spread arcs (length arcs) c.loop.marks c.spread.new.marks b) c.loop-test.false c.spread.ensures in
    lemma.reached_all arcs c.args.gate c.loop.marks c.spread.new.marks c.loop.invariant.led s
