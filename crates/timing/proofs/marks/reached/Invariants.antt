use Rattle.std.proofs.Common.{◌≡◌, length}
use Rattle.timing.specs.Marks.{undone, marked}
use Rattle.timing.proofs.Marking.{Led}
use Rattle.timing.proofs.marks.reached.Given as goal

abbrev pub invariant-loop : goal.invariant-loop
invariant-loop l = record { long : length l.marks ≡ 256; led : Led l.arcs l.gate l.marks }

abbrev pub decreases-loop : goal.decreases-loop
decreases-loop l = undone (marked l.marks) (length l.marks)
