use Rattle.std.proofs.Common.{rules}
use Rattle.graph.proofs.Paths as lemma
use Rattle.graph.proofs.graph.rows.Rows.measure.Goals as goal

pub period-requires-clause-within : goal.period-requires-clause-within
period-requires-clause-within c =
    let s = c.args.self.now in
    rw c.as_slice.ensures.value (lemma.within s.delays.now s.wires.now s.registers.now s.paired s.inside c.gather.result.items c.gather.ensures)

pub returns : goal.returns
returns c =
    let s = c.args.self.now in
    lemma.measured s.delays.now s.wires.now s.registers.now s.paired s.inside c.gather.result.items c.gather.ensures c.period.result c.map_err.result (rw c.as_slice.ensures.value at c.period.ensures) (search rules)
