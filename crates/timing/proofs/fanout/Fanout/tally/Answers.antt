use Rattle.std.proofs.Common.{refl}
use Rattle.timing.proofs.Blank.{blank_all}
use Rattle.timing.proofs.fanout.Fanout.tally.Goals as goal

pub loop-arc-init : goal.loop-arc-init
loop-arc-init c = record { long = refl; counted = λ v. blank_all 128 v 0 }
