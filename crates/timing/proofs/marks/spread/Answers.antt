use Rattle.std.proofs.Common.{◌≡◌, ◌+◌, ◌<◌, Bool, true, List, length, get_or, sym, subst, arith}
use Rattle.std.proofs.lemmas.Bool.{both_ways}
use Rattle.timing.specs.Arcs.{nowhere}
use Rattle.timing.specs.Marks.{marked, Spread}
use Rattle.timing.proofs.Marking as lemma
use Rattle.timing.proofs.marks.spread.Goals as goal
use Rattle.timing.proofs.marks.spread.Goals.{then-marks-from+then-not-marks-to, else-marks-from, else-marks-from-via-then-marks-from+else-not-marks-to, else-marks-from-via-else-marks-from}

pub loop-arc-preserved : goal.loop-arc-preserved
loop-arc-preserved c =
    let arcs = c.args.arcs.now in
    let i = c.loop-arc.arc-index in
    let old = c.args.marks.now in
    let ms = c.loop-arc.marks in
    let r = c.loop-arc.changed in
    let at = c.loop-arc-test.true in
    let from = (get_or arcs i nowhere).from in
    let to = (get_or arcs i nowhere).to in
    let inv = c.loop-arc.invariant in
    elim c.if-marks-from.branch [
      | then-marks-from+then-not-marks-to w ↦
          let n : length ms ≡ length old = omega arith in
          let l : to < length ms = omega arith in
          let s = lemma.spread_mark arcs old ms r i at inv w.if-marks-from.true w.if-not-marks-to.true n l in
          subst (λ (b : Bool). Spread arcs (i + 1) old c.if-marks-from.marks b) (sym w.changed-is) (subst (λ (xs : List Bool). Spread arcs (i + 1) old xs true) (sym w.marks-is) s)
      | else-marks-from w ↦
          let f : marked ms from ≡ true → marked ms to ≡ true = elim w.else-marks-from.branch [
            | else-marks-from-via-then-marks-from+else-not-marks-to x ↦ (λ e. x.if-not-marks-to.false)
            | else-marks-from-via-else-marks-from x ↦ (λ e. absurd (both_ways _ x.if-marks-from.false e))
          ] in
          let s = lemma.spread_skip arcs old ms r i at inv f in
          subst (λ (b : Bool). Spread arcs (i + 1) old c.if-marks-from.marks b) (sym w.changed-is) (subst (λ (xs : List Bool). Spread arcs (i + 1) old xs r) (sym w.marks-is) s)
    ]
