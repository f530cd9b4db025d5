use Rattle.std.proofs.Common.{◌≡◌, set, Ok, refl, ap, arith}
use Rattle.std.proofs.lemmas.Grind.{common_steps}
use Rattle.std.proofs.lemmas.List.{set-set}
use Rattle.arrayvec.specs.ArrayVec.{with_items}
use Rattle.graph.specs.Reads.{circuit, wires_of}
use Rattle.graph.specs.Calls.{set_answer, with_set}
use Rattle.graph.proofs.Rows.{written, wires_set}
use Rattle.graph.proofs.Whole.{same_graph}
use Rattle.graph.proofs.graph.Graph.trial.Goals as goal

pub returns-clause-answer : goal.returns-clause-answer
returns-clause-answer c =
    let s = c.args.self.now in
    let n = c.args.registers in
    let e : set_answer (circuit s) c.args.wire n ≡ Ok tt = grind (arith, common_steps) in
    let w : wires_of s.wires.items (with_items s.registers (set c.deref_mut.result.now c.in_ok-at.at c.in_ok-registers.registers)).items ≡ (with_set (circuit s) c.args.wire n).wires = grind (arith, common_steps, written, wires_set) in
    record { outcome = rw e (rw (c.as_slice.ensures.value, c.as_slice-2.ensures.value, c.as_slice-3.ensures.value, w) at c.measure.ensures) }

pub returns-clause-same : goal.returns-clause-same
returns-clause-same c =
    let s = c.args.self.now in
    let back : c.drop-held.new.self.0.items ≡ s.registers.items = grind (arith, common_steps, written, set-set) in
    let same : c.drop-held.new.self.0 ≡ s.registers = ap (λ xs. record { items = xs }) back in
    same_graph _ s refl refl same refl
