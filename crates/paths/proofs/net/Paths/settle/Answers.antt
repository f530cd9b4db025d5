use Rattle.std.proofs.Common.{length, arith}
use Rattle.paths.proofs.Wired.{net_sound}
use Rattle.paths.proofs.Routes.{none_looped}
use Rattle.paths.proofs.net.Paths.settle.Goals as goal

pub ways-requires-clause-sound : goal.ways-requires-clause-sound
ways-requires-clause-sound c =
    let p = c.args.self.now in
    let few = p.gates.1 in
    net_sound p.delays.now p.wires.now (length c.args.found.now) (omega arith) (omega arith) p.few c.fit.ensures p.deep

pub unwrap-requires : goal.unwrap-requires
unwrap-requires c = let p = c.args.self.now in (none_looped p.delays.now p.wires.now p.free c.args.u c.ways.new.found c.ways.result c.ways.ensures).0

pub returns : goal.returns
returns c = let p = c.args.self.now in (none_looped p.delays.now p.wires.now p.free c.args.u c.ways.new.found c.ways.result c.ways.ensures).1
