use Rattle.graph.proofs.Writing.{again}
use Rattle.graph.proofs.graph.writing.written_again.Goals as goal

pub returns : goal.returns
returns c = again
