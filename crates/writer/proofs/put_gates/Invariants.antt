use Rattle.std.proofs.Common.{map, take}
use Rattle.words.specs.Layout.{gate_word}
use Rattle.writer.specs.Writing.{Puts}
use Rattle.writer.proofs.put_gates.Given as goal

abbrev pub invariant-loop-i : goal.invariant-loop-i
invariant-loop-i l = Puts l.initial.out (map gate_word (take l.i l.delays)) l.out
