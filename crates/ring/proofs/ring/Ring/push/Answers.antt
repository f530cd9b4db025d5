use Rattle.std.proofs.Common.{arith, length-set}
use Rattle.ring.proofs.Rings.{ringed_push, length_ringed}
use Rattle.ring.proofs.ring.Ring.push.Goals as goal

pub returns : goal.returns
returns g c =
    let q = c.self.inside in
    let l = length_ringed q.slots.now q.first q.count in
    let e = ringed_push q.slots.now q.first (omega arith) q.count c.args.x (omega arith) in
    rw (← c.self.view_is) (omega arith, (cc), grind (arith, length-set))
