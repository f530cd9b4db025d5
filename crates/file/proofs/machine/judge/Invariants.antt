use Rattle.file.proofs.Turns.{Come}
use Rattle.file.proofs.machine.judge.Given as goal

abbrev pub invariant-loop-word : goal.invariant-loop-word
invariant-loop-word l = Come l.file l.word-index l.seen
