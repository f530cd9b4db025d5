use Rattle.std.proofs.Common.{◌≡◌, ◌*◌, length, take}
use Rattle.model.specs.Circuit.{kept}
use Rattle.writer.specs.Writing.{Puts, body_of}
use Rattle.writer.proofs.put_wires.Given as goal

abbrev pub invariant-loop-i : goal.invariant-loop-i
invariant-loop-i l = Puts l.initial.out (body_of (take (length l.yielded) (kept l.wires))) l.out × (l.long ≡ 2 * length l.yielded)
