use Rattle.std.proofs.Common.{◌≡◌, ◌++◌, length}
use Rattle.timing.specs.Groups.{heads, entered}
use Rattle.timing.specs.Lowered.{LoweredBy}
use Rattle.timing.proofs.fanout.Fanout.lower.Given as goal

abbrev pub invariant-loop-head : goal.invariant-loop-head
invariant-loop-head l = record {
  all : l.yielded ++ l.head-iterator ≡ heads l.self l.gate;
  room : l.ready.room ≡ l.initial.ready.room;
  long : length l.counts ≡ 128;
  lowered : LoweredBy (entered l.yielded) 128 l.initial.counts l.counts l.initial.ready.held l.ready.held;
}
