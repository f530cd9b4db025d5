use Rattle.std.proofs.Common.{◌≡◌, List, ◌∷◌, None, length, get_or, take, sym, ap, subst, rules}
use Rattle.timing.specs.declared.Arc.{Arc}
use Rattle.timing.specs.Arcs.{nowhere}
use Rattle.timing.specs.Groups.{heads, past, Leaves}
use Rattle.timing.proofs.Grouping.{heads_next}
use Rattle.timing.proofs.fanout.HeadsIterator.next.Goals as goal

pub returns-clause-steps : goal.returns-clause-steps
returns-clause-steps c =
    let h = c.self.inside in
    let f = c.fanout.inside in
    let i = c.in_ok-at.field-0 in
    let here : Leaves f.arcs.now h.gate h.at = subst (λ (arcs : List Arc). Leaves arcs h.gate h.at) (sym c.fanout.view_is) c.self.invariant in
    let P : List Arc → Type 0 = λ arcs. heads (take (past h.at) arcs) h.gate ≡ (get_or f.arcs.now i nowhere).to ∷ heads (take (past (get_or f.earlier i None)) arcs) h.gate in
    let e = subst P c.fanout.view_is (heads_next f.arcs.now f.last f.earlier c.fanout.invariant.grouped h.gate i h.at c.in_ok-at.was here) in
    cc

pub returns-clause-goes : goal.returns-clause-goes
returns-clause-goes c = let e = ap length (returns-clause-steps c) in search rules
