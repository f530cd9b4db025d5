use Rattle.std.proofs.Common.{ℕ, rules, tests}
use Rattle.std.proofs.lemmas.Iterator.{YieldsList-from_slice, IsFirst-from_position}
use Rattle.ways.specs.Keeps.{Leaves}
use Rattle.ways.proofs.Walks.{first_clear}
use Rattle.ways.proofs.walk.leaving.Goals as goal

pub returns : goal.returns
returns g c =
    let yes = λ (a : ℕ). Leaves (g.N.Net.arcs c.args.net.now) c.args.to a in
    first_clear (g.N.Net.arcs c.args.net.now) c.args.to c.args.arcs.now c.position.result
    (IsFirst-from_position _ _ _ yes (λ a. yes a → ⊥) c.position.ensures.ran (YieldsList-from_slice c.args.arcs.now c.iter.ensures.rest) (λ x q k. search (rules, tests)) (λ x q k. search (rules, tests)))
