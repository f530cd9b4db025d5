use Rattle.std.proofs.Common.{ℕ, ◌<◌, sym, ◌∙◌, arith, rules}
use Rattle.std.proofs.ByRecursion.{All-from_get_or}
use Rattle.std.proofs.lemmas.Option.{same_Some}
use Rattle.words.proofs.Both.{made}
use Rattle.writer.proofs.Written as lemma
use Rattle.writer.proofs.put_file.Goals as goal

pub overflow_cast-at : goal.overflow_cast-at
overflow_cast-at c = let s = lemma.small c.args.delays.now c.args.wires.now c.args.clock c.requires.fits in omega arith

pub unwrap-requires-2 : goal.unwrap-requires-2
unwrap-requires-2 c = let s = lemma.small c.args.delays.now c.args.wires.now c.args.clock c.requires.fits in search rules

pub returns : goal.returns
returns c =
    let s = lemma.small c.args.delays.now c.args.wires.now c.args.clock c.requires.fits in
    let one = made c.clock_word.result c.requires.fits.limit c.clock_word.ensures in
    let two = made c.end_word.result (omega arith) c.end_word.ensures in
    let count = same_Some _ _ (sym c.unwrap-2.ensures ∙ two) in
    lemma.put c.args.delays.now c.args.wires.now c.args.clock c.requires.fits c.args.out.now c.put_gates.new.out c.put_wires.new.out _ _ _ _
    c.requires.room (All-from_get_or (λ (d : ℕ). d < 0x1_0000) c.args.delays.now 0 (λ i h. let f = c.type_inv.delays i in omega arith)) c.put_gates.ensures c.put_wires.ensures.words (omega arith) (omega arith) (cc) (omega arith)
