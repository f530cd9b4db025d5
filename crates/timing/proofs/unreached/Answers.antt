use Rattle.std.proofs.Common.{◌≡◌, true, false, rules}
use Rattle.std.proofs.lemmas.Iterator.{first_from_Range}
use Rattle.timing.specs.Marks.{marked, Reached}
use Rattle.timing.proofs.Marking.{spanned_first}
use Rattle.timing.proofs.unreached.Goals as goal
use borrow.Author.Tests.{tests}

pub returns : goal.returns
returns c =
    let marks = c.reached-marks.result in
    let r : Reached c.args.arcs.now 0 marks = search rules in
    let f = first_from_Range _ _ _ c.find.result (λ h. marked marks h ≡ false) (λ h. marked marks h ≡ true) c.find.ensures.ran (λ x q k. search (rules, tests)) (λ x q k. search (rules, tests)) in
    spanned_first c.args.gates c.args.arcs.now marks r c.find.result f
