use Rattle.std.proofs.Common.{arith}
use Rattle.ways.proofs.Parts.{led_high, led_low}
use Rattle.ways.proofs.walk.lead.Goals as goal

pub returns-then-from-to : goal.returns-then-from-to
returns-then-from-to g c =
    let q = c.split_at_mut-low.ensures in
    rw q.value (led_high _ _ _ _ _ _ _ c.follow.ensures _ _ q.front_len (omega arith) c.as_slice.ensures.value)

pub returns-else-from-to : goal.returns-else-from-to
returns-else-from-to g c =
    let q = c.split_at_mut-low-else-from-to.ensures in
    rw q.value (led_low _ _ _ _ _ _ _ c.follow-else-from-to.ensures _ _ q.front_len (omega arith) (omega arith) c.as_slice-else-from-to.ensures.value)
