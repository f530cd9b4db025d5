use Rattle.std.proofs.Common.{rules}
use Rattle.graph.proofs.Ways.{all_joined, one_apart}
use Rattle.graph.proofs.graph.rows.Rows.joined.Goals as goal

pub returns-in-None : goal.returns-in-None
returns-in-None c =
    let s = c.args.self.now in
    record { outcome = all_joined s.delays.now s.wires.now s.registers.now s.paired (rw (c.as_slice.ensures.value, c.double.ensures) at c.in-None.ensures) }

pub returns-in-Some : goal.returns-in-Some
returns-in-Some c =
    let s = c.args.self.now in
    let apart = one_apart s.delays.now s.wires.now s.registers.now s.paired c.in-Some.gate (rw (c.as_slice.ensures.value, c.double.ensures) at c.in-Some.ensures) in
    record { outcome = search rules }
