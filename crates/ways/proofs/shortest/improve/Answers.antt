use Rattle.std.proofs.Common.{◌++◌, ◌∷◌, [], refl, sym, ap, ◌∙◌}
use Rattle.std.proofs.lemmas.List.{get_or_default}
use Rattle.ways.specs.Walks.{known, led}
use Rattle.ways.proofs.Steps.{closes, lowered}
use Rattle.ways.proofs.shortest.improve.Goals as goal

pub returns-in-Some : goal.returns-in-Some
returns-in-Some g c =
    closes g.met.N.Length.Distance.distances _ _ _ _ c.requires.sound c.requires.kept c.args.i c.args.arc c.args.sum c.requires.better _ _ c.as_slice-arcs.ensures.value
    c.in-Some.p c.closed.result c.in-Some.ensures c.closed.ensures

pub returns : goal.returns
returns g c =
    let e = c.in_default.ensures in
    let read = c.as_slice-arcs.ensures.value in
    let row = read ∙ ap (λ w. w.arcs.items) (get_or_default c.args.found.now c.args.arc.tail _ _ c.requires.within.0) in
    rw c.lead.ensures (lowered g.met.N.Length.Distance.distances _ _ _ _ c.requires.sound c.requires.kept c.args.i c.args.arc c.args.sum c.requires.better _ _ read
    e.0 e.1 (led (known c.args.found.now c.args.arc.tail).arcs.items c.args.i c.args.sum) refl (ap (λ ps. ps ++ c.args.i ∷ []) (sym row)))
