use Rattle.std.proofs.Common.{◌∙◌, arith}
use Rattle.word_bytes.proofs.Fours as lemma
use Rattle.word_bytes.proofs.put_word.Goals as goal

pub returns : goal.returns
returns c = record {
  outcome = lemma.put c.args.i _ _ c.args.bytes.now c.copy_from_slice.new.self c.args.word (c.copy_from_slice.ensures.after ∙ c.to_le_bytes.ensures) (omega arith) (omega arith) (omega arith) (omega arith);
}
