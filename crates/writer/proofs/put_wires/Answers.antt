use Rattle.std.proofs.Common.{◌∙◌, arith, length, List, subst, sym}
use Rattle.std.proofs.ByRecursion.{All-get_or}
use Rattle.std.proofs.lemmas.List.{take_all, length_push}
use Rattle.words.specs.Netlist.{Joins, Wire}
use Rattle.model.specs.Circuit.{kept}
use Rattle.writer.specs.Writing.{body_of, Puts}
use Rattle.writer.proofs.Kept.{turn, end}
use Rattle.writer.proofs.Putting as lemma
use Rattle.writer.proofs.put_wires.Goals as goal

pub overflow_mul-at : goal.overflow_mul-at
overflow_mul-at c = let t = turn c.into_iter-i-iterator.result c.args.wires.now (cc) (cc) (cc) (cc) (cc) c.loop-i.yielded _ _ c.loop-i.yielded_by c.in-Some.i c.in-Some.wire c.in-Some.is c.next.ensures.steps in omega arith

pub overflow_add-at : goal.overflow_add-at
overflow_add-at c = let t = turn c.into_iter-i-iterator.result c.args.wires.now (cc) (cc) (cc) (cc) (cc) c.loop-i.yielded _ _ c.loop-i.yielded_by c.in-Some.i c.in-Some.wire c.in-Some.is c.next.ensures.steps in omega arith

pub offset_bounds-out-at : goal.offset_bounds-out-at
offset_bounds-out-at c = let t = turn c.into_iter-i-iterator.result c.args.wires.now (cc) (cc) (cc) (cc) (cc) c.loop-i.yielded _ _ c.loop-i.yielded_by c.in-Some.i c.in-Some.wire c.in-Some.is c.next.ensures.steps in omega arith

pub slice_bounds-copy_from_slice-end : goal.slice_bounds-copy_from_slice-end
slice_bounds-copy_from_slice-end c = let t = turn c.into_iter-i-iterator.result c.args.wires.now (cc) (cc) (cc) (cc) (cc) c.loop-i.yielded _ _ c.loop-i.yielded_by c.in-Some.i c.in-Some.wire c.in-Some.is c.next.ensures.steps in omega arith

pub words_of-requires : goal.words_of-requires
words_of-requires c =
    let t = turn c.into_iter-i-iterator.result c.args.wires.now (cc) (cc) (cc) (cc) (cc) c.loop-i.yielded _ _ c.loop-i.yielded_by c.in-Some.i c.in-Some.wire c.in-Some.is c.next.ensures.steps in
    subst (Joins 127) (sym t.2) (All-get_or (Joins 127) (kept c.args.wires.now) _ _ t.0 c.requires.joins)

pub loop-i-preserved : goal.loop-i-preserved
loop-i-preserved c =
    let t = turn c.into_iter-i-iterator.result c.args.wires.now (cc) (cc) (cc) (cc) (cc) c.loop-i.yielded _ _ c.loop-i.yielded_by c.in-Some.i c.in-Some.wire c.in-Some.is c.next.ensures.steps in
    let more = length_push c.loop-i.yielded _ in
    (lemma.wired_more (kept c.args.wires.now) (length c.loop-i.yielded) c.in-Some.i c.in-Some.wire.now c.args.out.now c.loop-i.out c.copy_from_slice.new.self _ _ _ c.loop-i.invariant.0 t (c.copy_from_slice.ensures.after ∙ c.words_of.ensures) (omega arith) (omega arith) more, omega (arith, t.1, more))

pub returns-clause-words : goal.returns-clause-words
returns-clause-words c =
    let t = end c.into_iter-i-iterator.result c.args.wires.now (cc) (cc) (cc) (cc) (cc) c.loop-i.yielded _ _ c.loop-i.yielded_by c.in-None.is c.next.ensures.steps in
    subst (λ (vs : List Wire). Puts c.args.out.now (body_of vs) c.loop-i.out) (take_all _ (kept c.args.wires.now) (omega arith)) c.loop-i.invariant.0

pub returns-clause-count : goal.returns-clause-count
returns-clause-count c =
    let t = end c.into_iter-i-iterator.result c.args.wires.now (cc) (cc) (cc) (cc) (cc) c.loop-i.yielded _ _ c.loop-i.yielded_by c.in-None.is c.next.ensures.steps in
    omega (arith, t, c.loop-i.invariant.1)
