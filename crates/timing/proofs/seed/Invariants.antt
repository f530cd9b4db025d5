use Rattle.std.proofs.Common.{◌≡◌, ◌+◌, length}
use Rattle.timing.specs.Lowered.{Seeded}
use Rattle.timing.proofs.seed.Given as goal

abbrev pub invariant-loop-gate : goal.invariant-loop-gate
invariant-loop-gate l = record { room : l.ready.room ≡ l.initial.ready.room; seeded : Seeded l.counts (length l.yielded + 1) l.ready.held }
