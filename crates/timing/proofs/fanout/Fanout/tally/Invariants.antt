use Rattle.std.proofs.Common.{◌≡◌, ℕ, length, get_or, take, count_by}
use Rattle.timing.specs.Arcs.{into}
use Rattle.timing.proofs.fanout.Fanout.tally.Given as goal

abbrev pub invariant-loop-arc : goal.invariant-loop-arc
invariant-loop-arc l = record { long : length l.counts ≡ 128; counted : (v : ℕ) → get_or l.counts v 0 ≡ count_by (into v) (take l.arc-index l.arc-items) }
