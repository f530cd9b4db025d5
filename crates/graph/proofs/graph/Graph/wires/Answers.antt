use Rattle.std.proofs.Common.{◌<◌, length, count_by, is_some, None, sym, ap, ◌∙◌, arith}
use Rattle.std.proofs.lemmas.List.{take_all}
use Rattle.std.proofs.lemmas.List.Sums.{count_by_more_yes, count_by_more_no}
use Rattle.graph.proofs.Present.{present_few, present_count}
use Rattle.graph.proofs.Holds.{live_held}
use Rattle.graph.proofs.graph.Graph.wires.Goals as goal
use Rattle.graph.proofs.graph.Graph.wires.Goals.{then-is_some, else-is_some}

pub loop-slot-preserved : goal.loop-slot-preserved
loop-slot-preserved c =
    let slots = c.as_slice-slots.result.now in
    let i = c.loop-slot.slot-index in
    let lt : i < length slots = omega arith in
    elim c.if-is_some.branch [
      | then-is_some w ↦ (let e = count_by_more_yes is_some slots i None lt (sym c.is_some.ensures ∙ w.if-is_some.true) in omega (arith, w.n-is, e), omega (arith, w.n-is))
      | else-is_some w ↦ (let e = count_by_more_no is_some slots i None lt (sym c.is_some.ensures ∙ w.if-is_some.false) in omega (arith, w.n-is, e), omega (arith, w.n-is))
    ]

pub returns : goal.returns
returns c =
    let es = c.args.self.now.wires.items in
    let slots = c.as_slice-slots.result.now in
    let n = c.loop-slot.invariant.0 ∙ ap (count_by is_some) (take_all c.loop-slot.slot-index slots (omega arith) ∙ c.as_slice-slots.ensures.value) in
    let l = c.as_slice-slots.ensures.fits in
    record { count = omega (arith, n, present_count es, live_held c.args.self.now); few = omega (arith, n, present_count es, present_few es, ap length c.as_slice-slots.ensures.value) }
