use Rattle.std.proofs.Common.{length, ap, ◌∙◌}
use Rattle.graph.proofs.Holds.{beyond_front}
use Rattle.graph.proofs.graph.Graph.wiring.Goals as goal

pub returns-clause-beyond : goal.returns-clause-beyond
returns-clause-beyond c =
    let w = c.listing-list.ensures.wires in
    beyond_front _ _ _ 512 (c.copy_from_slice.ensures.after ∙ c.as_slice.ensures.value ∙ w) (c.len.ensures.value ∙ ap length w)
