use Rattle.timing.specs.Groups.{Grouped}
use Rattle.timing.proofs.fanout.Fanout.new.Given as goal

abbrev pub invariant-loop-i : goal.invariant-loop-i
invariant-loop-i l = Grouped l.arcs l.i l.last l.earlier
