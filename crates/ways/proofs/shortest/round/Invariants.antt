use Rattle.ways.specs.Keeps.{Tried, Changed}
use Rattle.ways.proofs.shortest.round.Given as goal

abbrev pub invariant-loop-i : goal.invariant-loop-i
invariant-loop-i g l = Tried g.N.Length.Distance.kind (g.N.Net.arcs l.net) l.start l.i l.initial.found l.found
    × Changed g.N.Length.Distance.kind (g.N.Net.arcs l.net) l.start l.initial.found l.found l.changed
