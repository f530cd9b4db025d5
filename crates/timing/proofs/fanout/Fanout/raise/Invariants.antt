use Rattle.std.proofs.Common.{◌≡◌, ◌++◌, length}
use Rattle.timing.specs.Groups.{heads, entered}
use Rattle.timing.specs.Lowered.{RaisedBy}
use Rattle.timing.proofs.fanout.Fanout.raise.Given as goal

abbrev pub invariant-loop-head : goal.invariant-loop-head
invariant-loop-head l = record {
  all : l.yielded ++ l.head-iterator ≡ heads l.self l.gate;
  long : length l.times ≡ 128;
  raised : RaisedBy (entered l.yielded) l.time l.initial.times l.times;
}
