use Rattle.std.proofs.Common.{◌≡◌, ℕ, ◌+◌, length, get_or, sym, ap, subst, arith}
use Rattle.std.proofs.lemmas.List.{get_or_default}
use Rattle.ways.specs.Walks.{known}
use Rattle.ways.specs.declared.walk.Way.{Way}
use Rattle.paths.specs.Arcs.{circuit}
use Rattle.paths.proofs.Slow.{SoFar, Reached, start_zero, reached, so_far_none, so_far_new, so_far_same, so_far_all}
use Rattle.paths.proofs.net.Paths.slowest.Goals as goal
use Rattle.paths.proofs.net.Paths.slowest.Goals.{then-best-d, else-best-d}

pub loop-u-init : goal.loop-u-init
loop-u-init c = let p = c.args.self.now in subst (SoFar (circuit p.delays.now p.wires.now) 1 0) (sym c.new-gates.ensures) (so_far_none p.delays.now p.wires.now)

pub farthest-v-requires : goal.farthest-v-requires
farthest-v-requires c = let p = c.args.self.now in (omega arith, start_zero p.delays.now p.wires.now c.loop-u.u c.settle.new.found (omega arith) c.settle.ensures)

pub overflow_add-d : goal.overflow_add-d
overflow_add-d c =
    let top = c.farthest-v.ensures in
    let small = c.args.self.now.gates.1 in
    let far = c.settle.ensures.fits c.farthest-v.result.0 (0, c.farthest-v.result.1) top.there top.is in
    let few = c.settle.ensures.few c.farthest-v.result.0 (0, c.farthest-v.result.1) top.there top.is in
    omega arith

pub stations-gates-requires : goal.stations-gates-requires
stations-gates-requires c =
    let found = c.settle.new.found in
    let v = c.farthest-v.result.0 in
    let top = c.farthest-v.ensures in
    let small = c.args.self.now.gates.1 in
    let few = c.settle.ensures.few v _ top.there top.is in
    let same : length (get_or found v c.index-found-v.result).arcs.items ≡ length (known found v).arcs.items = ap (λ (w : Way (ℕ × ℕ)). length w.arcs.items) (get_or_default found v _ _ top.there) in
    let read = ap length c.deref.ensures.0 in
    omega arith

pub loop-u-preserved : goal.loop-u-preserved
loop-u-preserved c =
    let p = c.args.self.now in
    let r = subst (λ own. Reached p.delays.now p.wires.now c.loop-u.u c.settle.new.found c.farthest-v.result.0 (c.farthest-v.result.1 + own)) (sym c.from.ensures)
    (reached p.delays.now p.wires.now c.loop-u.u c.farthest-v.result.0 c.farthest-v.result.1 c.settle.new.found p.gates.1 (omega arith) c.settle.ensures c.farthest-v.ensures) in
    elim c.if-best-d.branch [
      | then-best-d w ↦
          let new = so_far_new p.delays.now p.wires.now c.loop-u.u c.farthest-v.result.0 (c.farthest-v.result.1 + c.from.result) c.loop-u.best c.settle.new.found _ w.stations-gates.result.items w.deref.result.now _
          (record { apart = omega arith; there = omega arith }) (omega (arith, w.if-best-d.true)) r w.deref.ensures.0 w.stations-gates.ensures c.loop-u.invariant in
          rw (w.best-is, w.gates-is) new
      | else-best-d w ↦
          let same = so_far_same p.delays.now p.wires.now c.loop-u.u c.farthest-v.result.0 (c.farthest-v.result.1 + c.from.result) c.loop-u.best c.settle.new.found c.loop-u.gates.items
          (omega (arith, w.if-best-d.false)) r c.loop-u.invariant in
          rw (w.best-is, w.gates-is) same
    ]

pub returns : goal.returns
returns c = let p = c.args.self.now in so_far_all p.delays.now p.wires.now c.loop-u.u c.loop-u.best _ (omega arith) c.loop-u.invariant
