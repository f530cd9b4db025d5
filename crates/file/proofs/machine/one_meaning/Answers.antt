use Rattle.file.proofs.Single as lemma
use Rattle.file.proofs.machine.one_meaning.Goals as goal

pub returns : goal.returns
returns c = lemma.one_meaning
