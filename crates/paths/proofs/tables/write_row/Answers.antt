use Rattle.std.proofs.Common.{ℕ, ◌<◌, length, ap, sym, ◌∙◌, arith}
use Rattle.std.proofs.lemmas.List.{get_or_read}
use Rattle.ways.specs.declared.walk.Way.{Way}
use Rattle.paths.proofs.tables.write_row.Goals as goal

pub cell-requires : goal.cell-requires
cell-requires c x e =
    let lt : c.loop-v.v < length c.args.found.now = omega arith in
    c.requires.exact c.loop-v.v x lt (sym (ap (λ (w : Way (ℕ × ℕ)). w.distance) (get_or_read c.args.found.now c.loop-v.v _ lt c.index-found-v.is _)) ∙ e)
