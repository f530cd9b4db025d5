use Rattle.timing.specs.Marks.{Spread}
use Rattle.timing.proofs.marks.spread.Given as goal

abbrev pub invariant-loop-arc : goal.invariant-loop-arc
invariant-loop-arc l = Spread l.arcs l.arc-index l.initial.marks l.marks l.changed
