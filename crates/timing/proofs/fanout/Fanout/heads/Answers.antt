use Rattle.std.proofs.Common.{arith, ◌≡◌, List, None, get_or, take, subst}
use Rattle.timing.specs.declared.Arc.{Arc}
use Rattle.timing.specs.Groups.{heads, past}
use Rattle.timing.proofs.Grouping.{heads_first}
use Rattle.timing.proofs.fanout.Fanout.heads.Goals as goal

pub returns-clause-heads : goal.returns-clause-heads
returns-clause-heads c =
    let f = c.self.inside in
    let at = get_or f.last c.args.gate None in
    subst (λ (arcs : List Arc). heads (take (past at) arcs) c.args.gate ≡ heads arcs c.args.gate) c.self.view_is (heads_first f.arcs.now f.last f.earlier c.self.invariant.grouped c.args.gate (omega arith))
