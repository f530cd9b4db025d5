use Rattle.std.proofs.Common.{◌<◌, length}
use Rattle.ways.specs.Keeps.{After}
use Rattle.ways.proofs.shortest.ways.Given as goal

abbrev pub invariant-loop : goal.invariant-loop
invariant-loop g l = After g.N.Length.Distance.kind (g.N.Net.arcs l.net) l.start l.counter l.found × (l.counter < length l.found)
