use Rattle.writer.proofs.Putting as lemma
use Rattle.writer.proofs.put_gates.Goals as goal

pub loop-i-preserved : goal.loop-i-preserved
loop-i-preserved c =
    lemma.gated_more c.args.delays.now c.loop-i.i c.args.out.now c.loop-i.out c.gate_word.result c.loop-i.invariant c.loop-i-test.true c.requires c.gate_word.ensures
