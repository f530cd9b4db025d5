use Rattle.std.proofs.Common.{◌≡◌, min, vec_len}
use Rattle.bench.proofs.input.read_input.Given as goal

abbrev pub invariant-loop : goal.invariant-loop
invariant-loop l = vec_len l.head ≡ min l.bytes 4616
