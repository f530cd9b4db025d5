use Rattle.std.proofs.Common.{◌≡◌}
use Rattle.words.specs.Records.{read, reached}
use Rattle.graph.specs.Reads.{circuit}
use Rattle.graph.proofs.Fills.{Filling}
use Rattle.graph.proofs.graph.loading.read.Given as goal

abbrev pub invariant-loop-item : goal.invariant-loop-item
invariant-loop-item l = (read l.item-iterator ≡ l.words) × Filling l.words (reached l.item-iterator) (circuit l.graph) l.graph.clock
