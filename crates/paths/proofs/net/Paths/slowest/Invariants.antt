use Rattle.paths.specs.Arcs.{circuit}
use Rattle.paths.proofs.Slow.{SoFar}
use Rattle.paths.proofs.net.Paths.slowest.Given as goal

abbrev pub invariant-loop-u : goal.invariant-loop-u
invariant-loop-u l = SoFar (circuit l.self.delays.now l.self.wires.now) l.u l.best l.gates.items
