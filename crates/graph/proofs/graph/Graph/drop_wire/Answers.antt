use Rattle.std.proofs.Common.{length, sym, ap, ◌∙◌}
use Rattle.std.proofs.lemmas.List.{length-set}
use Rattle.graph.proofs.Rows.{written, at_drop}
use Rattle.graph.proofs.graph.Graph.drop_wire.Goals as goal

pub invariant_of-self-clause-paired : goal.invariant_of-self-clause-paired
invariant_of-self-clause-paired c =
    let s = c.args.self.now in
    s.paired ∙ sym (ap length (written s.wires c.deref_mut.result.now _ _ c.deref_mut.ensures.value) ∙ length-set s.wires.items _ _)

pub invariant_of-self-clause-short : goal.invariant_of-self-clause-short
invariant_of-self-clause-short c =
    let s = c.args.self.now in
    let l = s.short in
    rw (written s.wires c.deref_mut.result.now _ _ c.deref_mut.ensures.value, length-set) l

pub invariant_of-self-clause-inside : goal.invariant_of-self-clause-inside
invariant_of-self-clause-inside c =
    let s = c.args.self.now in
    rw (written s.wires c.deref_mut.result.now _ _ c.deref_mut.ensures.value) (λ k e h. s.inside k e (at_drop s.wires.items _ k e h))

pub invariant_of-self-clause-capped : goal.invariant_of-self-clause-capped
invariant_of-self-clause-capped c =
    let s = c.args.self.now in
    rw (written s.wires c.deref_mut.result.now _ _ c.deref_mut.ensures.value) (λ k e h. s.capped k e (at_drop s.wires.items _ k e h))
