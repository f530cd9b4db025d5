use Rattle.word_bytes.proofs.Fours as lemma
use Rattle.word_bytes.proofs.read_back.Goals as goal

pub returns : goal.returns
returns c = record { words = lemma.words_back; bytes = lemma.all_bytes_back }
