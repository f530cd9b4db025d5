use Rattle.std.proofs.Common.{arith}
use Rattle.ways.proofs.Turns.{round_more}
use Rattle.ways.proofs.shortest.round.Goals as goal

pub loop-i-preserved : goal.loop-i-preserved
loop-i-preserved g c =
    round_more g.met.N.Length.Distance.distances _ _ _ _ _ c.loop-i.invariant.0 (omega arith) _ c.loop-i.changed c.in_ok-changed.field-0 c.loop-i.invariant.1 c.in_ok-changed.ensures
