use Rattle.std.proofs.Common.{◌≡◌, ◌+◌, length, reverse, take}
use Rattle.paths.specs.Slowest.{stations}
use Rattle.paths.proofs.net.Paths.stations.Given as goal

abbrev pub invariant-loop-a : goal.invariant-loop-a
invariant-loop-a l = (length l.gates.items ≡ l.a-index + 1) × (l.gates.items ≡ stations l.self.wires.now l.u (reverse (take l.a-index l.arcs)))
