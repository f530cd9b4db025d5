use Rattle.std.proofs.Common.{rules}
use Rattle.std.proofs.lemmas.Option.{gets}
use Rattle.word_bytes.proofs.Fours as lemma
use Rattle.word_bytes.proofs.word_at.Goals as goal

pub returns : goal.returns
returns c = let e = lemma.word_at c.args.i c.args.bytes.now in search (rules, gets)

pub returns-in_err-a : goal.returns-in_err-a
returns-in_err-a c = let e = lemma.word_at c.args.i c.args.bytes.now in search (rules, gets)
