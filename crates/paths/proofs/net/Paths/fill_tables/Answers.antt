use Rattle.std.proofs.Common.{length, refl, arith, rules}
use Rattle.paths.specs.Arcs.{circuit}
use Rattle.paths.proofs.Routes.{host_row, row_is}
use Rattle.paths.proofs.Filling.{row_in, rows_more, beyond_more, beyond_square, front_filled}
use Rattle.paths.proofs.net.Paths.fill_tables.Goals as goal

pub loop-u-init : goal.loop-u-init
loop-u-init c =
    let p = c.args.self.now in
    let n = length p.delays.now in
    let some = p.gates.0 in
    let k = row_in 0 n n some in
    let w = front_filled n 4294967295 c.args.least.now c.fill.new.self (omega arith) (c.fill.ensures.after (λ y e. search rules)) in
    let d = front_filled n 0 c.args.most.now c.fill-2.new.self (omega arith) (c.fill-2.ensures.after (λ y e. search rules)) in (
      host_row p.delays.now p.wires.now _ _ (λ v lt. (w.0 v lt, d.0 v lt)),
      beyond_square n _ _ some w.1,
      beyond_square n _ _ some d.1,
    )

pub write_row-requires-clause-exact : goal.write_row-requires-clause-exact
write_row-requires-clause-exact c v x lt e =
    let few = c.args.self.now.gates.1 in
    let f = c.settle.ensures.fits v x lt e in
    let n = c.settle.ensures.few v x lt e in
    omega arith

pub loop-u-preserved : goal.loop-u-preserved
loop-u-preserved c =
    let p = c.args.self.now in
    let n = length p.delays.now in
    let r = row_is p.delays.now p.wires.now c.loop-u.u c.from.result (length c.settle.new.found) c.settle.new.found c.loop-u.least c.loop-u.most c.write_row.new.least c.write_row.new.most
    (record { apart = omega arith; there = omega arith }) c.from.ensures refl c.settle.ensures (omega arith) c.write_row.ensures.told c.write_row.ensures.least c.write_row.ensures.most in (
      rows_more (circuit p.delays.now p.wires.now) c.loop-u.u c.loop-u.least c.loop-u.most c.write_row.new.least c.write_row.new.most c.loop-u.invariant.0 r,
      beyond_more c.loop-u.u n _ c.loop-u.least c.write_row.new.least (omega arith) c.loop-u.invariant.1 r.least,
      beyond_more c.loop-u.u n _ c.loop-u.most c.write_row.new.most (omega arith) c.loop-u.invariant.2 r.most,
    )
