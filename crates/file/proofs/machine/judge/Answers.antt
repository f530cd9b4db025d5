use Rattle.file.proofs.Turns.{turn}
use Rattle.file.proofs.machine.judge.Goals as goal

pub loop-word-preserved : goal.loop-word-preserved
loop-word-preserved c = turn _ _ c.loop-word.seen c.loop-word-test.true c.loop-word.invariant _ c.in_ok-seen.ensures.wrong c.in_ok-seen.ensures.more
