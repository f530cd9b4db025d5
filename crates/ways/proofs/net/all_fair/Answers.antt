use Rattle.std.proofs.Common.{ℕ, ◌<◌, Decides, refl, subst, rules, tests, arith}
use Rattle.std.proofs.lemmas.Iterator.{YieldsList-from_range, cases_from_all}
use Rattle.ways.specs.Walks.{Fair}
use Rattle.ways.proofs.Below.{decides_below}
use Rattle.ways.proofs.net.all_fair.Goals as goal

pub returns : goal.returns
returns g c =
    let fair = λ (a : ℕ). Fair g.N.Length.Distance.kind c.args.n (g.N.Net.arcs c.args.net.now a) in
    let n = c.count.result in
    subst (λ m. Decides c.all.result ((a : ℕ) → a < m → Fair g.N.Length.Distance.kind c.args.n (g.N.Net.arcs c.args.net.now a))) c.count.ensures
    (decides_below fair n c.all.result
    (cases_from_all _ _ _ fair (λ a. fair a → ⊥) c.all.ensures.ran (YieldsList-from_range 0 n n refl (omega arith)) (λ x q k. search (rules, tests)) (λ x q k. search (rules, tests))))
