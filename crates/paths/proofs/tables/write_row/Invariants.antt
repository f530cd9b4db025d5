use Rattle.std.proofs.Common.{◌*◌, length}
use Rattle.paths.specs.Rows.{Told, Outside}
use Rattle.paths.proofs.tables.write_row.Given as goal

abbrev pub invariant-loop-v : goal.invariant-loop-v
invariant-loop-v l = let n = length l.found in Told (l.u * n) l.own l.found l.v l.least l.most × Outside (l.u * n) n l.initial.least l.least × Outside (l.u * n) n l.initial.most l.most
