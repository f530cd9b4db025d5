use Rattle.std.proofs.Common.{◌≡◌, ◌+◌, Bool, true, false, List, length, get_or, sym, refl, ◌∙◌, subst, arith, length-set}
use Rattle.std.proofs.lemmas.Bool.{both_ways}
use Rattle.timing.specs.Arcs.{nowhere}
use Rattle.timing.specs.Marks.{Next}
use Rattle.timing.proofs.Blank.{blank_all}
use Rattle.timing.proofs.Marking as lemma
use Rattle.timing.proofs.marks.next.Goals as goal
use Rattle.timing.proofs.marks.next.Goals.{then-arc-gate, else-arc-gate}

pub loop-arc-init : goal.loop-arc-init
loop-arc-init c = record { long = refl; marked = record { each = λ k h. absurd (omega arith); only = λ v e. absurd (both_ways _ (blank_all 256 v false) e) } }

pub loop-arc-preserved : goal.loop-arc-preserved
loop-arc-preserved c =
    let arcs = c.args.arcs.now in
    let i = c.loop-arc.arc-index in
    let ms = c.loop-arc.marks in
    let to = (get_or arcs i nowhere).to in
    let u = c.args.gate in
    let at = c.loop-arc-test.true in
    let inv = c.loop-arc.invariant in
    let P : List Bool → Type 0 = λ xs. record { long : length xs ≡ 256; marked : Next arcs (i + 1) u xs } in
    elim c.if-arc-gate.branch [
      | then-arc-gate w ↦ subst P (sym w.marks-is) record { long = length-set ms to true ∙ inv.long; marked = lemma.next_mark arcs u ms i at inv.marked w.if-arc-gate.true (omega arith) }
      | else-arc-gate w ↦ subst P (sym w.marks-is) record { long = inv.long; marked = lemma.next_skip arcs u ms i at inv.marked w.if-arc-gate.false }
    ]
