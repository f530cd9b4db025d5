use Rattle.std.proofs.Common.{◌*◌, length}
use Rattle.paths.specs.Arcs.{circuit}
use Rattle.paths.specs.Rows.{Rows, Beyond}
use Rattle.paths.proofs.net.Paths.fill_tables.Given as goal

abbrev pub invariant-loop-u : goal.invariant-loop-u
invariant-loop-u l = Rows (circuit l.self.delays.now l.self.wires.now) l.u l.least l.most
    × Beyond (length l.self.delays.now * length l.self.delays.now) l.fn.least l.least × Beyond (length l.self.delays.now * length l.self.delays.now) l.fn.most l.most
