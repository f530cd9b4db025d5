use Rattle.std.proofs.Common.{ℕ, map, ap, ◌∙◌, Option, arith}
use Rattle.std.proofs.lemmas.Iterator.{YieldsList-from_slice, YieldsList-from_zip}
use Rattle.std.proofs.lemmas.Iterator.Consumers.{YieldsList-end}
use Rattle.graph.specs.declared.graph.ends.Ends.{Ends}
use Rattle.graph.specs.Reads.{wire_of}
use Rattle.graph.proofs.Rows.{wires_zip}
use Rattle.graph.proofs.graph.listing.listed.Goals as goal

pub returns-clause-wires : goal.returns-clause-wires
returns-clause-wires c =
    let es = c.args.slots.now in
    let rs = c.args.registers.now in
    let road = YieldsList-from_zip (YieldsList-from_slice es (cc)) (YieldsList-from_slice rs (cc)) in
    let all = YieldsList-end road c.loop-slot.yielded c.loop-slot.slot-iterator c.loop-slot.yielded_by c.next.result c.next.new.self c.in-None.is c.next.ensures.steps in
    c.loop-slot.invariant.2 ∙ ap (map (λ (p : Option Ends × ℕ). wire_of p.0 p.1)) all.0 ∙ wires_zip es rs

pub returns-clause-bytes : goal.returns-clause-bytes
returns-clause-bytes c = λ k. let t = c.type_inv.registers k in omega arith
