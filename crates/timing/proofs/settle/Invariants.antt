use Rattle.std.proofs.Common.{◌≡◌, ℕ, Bool}
use Rattle.timing.proofs.Stages.{Stage}
use Rattle.timing.proofs.settle.Given as goal

abbrev pub invariant-loop-gate : goal.invariant-loop-gate
invariant-loop-gate l = record {
  room : l.ready.room ≡ 128;
  stage : (taken : ℕ → Bool) × Stage l.delays l.arcs l.counts l.times l.ready.held l.period l.left taken;
}

abbrev pub decreases-loop-gate : goal.decreases-loop-gate
decreases-loop-gate l = l.left
