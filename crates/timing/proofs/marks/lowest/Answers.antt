use Rattle.std.proofs.Common.{rules}
use Rattle.std.proofs.lemmas.Iterator.{first_from_Range}
use Rattle.timing.specs.Arcs.{Walk}
use Rattle.timing.proofs.Marking.{lowest_first}
use Rattle.timing.proofs.marks.lowest.Goals as goal
use borrow.Author.Tests.{tests}

pub returns : goal.returns
returns c some =
    let arcs = c.args.arcs.now in
    let f = first_from_Range _ _ _ c.find.result (λ h. Walk arcs h h) (λ h. Walk arcs h h → ⊥) c.find.ensures.ran (λ x q k. search (rules, tests)) (λ x q k. search (rules, tests)) in
    rw c.unwrap_or-gate.ensures (lowest_first c.args.gates arcs c.requires.within c.find.result f some)
