use Rattle.std.proofs.Common.{refl}
use Rattle.timing.proofs.Grouping as lemma
use Rattle.timing.proofs.fanout.Fanout.new.Goals as goal

pub loop-i-init : goal.loop-i-init
loop-i-init c = lemma.grouped_none c.args.arcs.now 256 512 refl refl
