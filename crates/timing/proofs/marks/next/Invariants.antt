use Rattle.std.proofs.Common.{◌≡◌, length}
use Rattle.timing.specs.Marks.{Next}
use Rattle.timing.proofs.marks.next.Given as goal

abbrev pub invariant-loop-arc : goal.invariant-loop-arc
invariant-loop-arc l = record { long : length l.marks ≡ 256; marked : Next l.arcs l.arc-index l.gate l.marks }
