use Rattle.std.proofs.Common.{◌≡◌, length, None, sym, ap, ◌∙◌, refl, arith}
use Rattle.std.proofs.lemmas.List.{length_push}
use Rattle.std.proofs.lemmas.Slice.Zip.{zip_turn}
use Rattle.graph.specs.declared.graph.ends.Ends.{Ends}
use Rattle.graph.specs.Measures.{Free}
use Rattle.graph.proofs.Gathering as lemma
use Rattle.graph.proofs.graph.rows.Rows.gather.Goals as goal
use Rattle.graph.proofs.graph.rows.Rows.gather.Goals.{in_default-via-in-None-1, in_default-via-in-Some-wire+else-held-eq0, in_default-via-in-Some-wire+then-held-eq0+else-e-ne0, in_default-via-in-Some-wire+then-held-eq0+then-e-ne0+else-e-ne0-2}

pub loop-wire-preserved-in-loop-wire : goal.loop-wire-preserved-in-loop-wire
loop-wire-preserved-in-loop-wire c =
    let es = c.args.self.now.wires.now in
    let rs = c.args.self.now.registers.now in
    let n = length c.loop-wire.yielded in
    let turn = zip_turn es rs c.loop-wire.yielded c.into_iter-wire-iterator.result c.loop-wire.wire-iterator c.next.new.self c.next.result (cc) (cc) c.loop-wire.yielded_by (c.in-Some.wire, c.in-Some.held) c.in-Some.is c.next.ensures.steps in
    let e = c.in-Some-wire.e in
    let free : Free es rs n e = record { lives = sym (turn.2 None) ∙ c.in-Some-wire.is; empty = sym (turn.3 0) ∙ c.if-held-eq0.true; leaves = omega (arith, c.if-e-ne0.true); enters = omega (arith, c.if-e-ne0-2.true) } in
    let more = lemma.one_more es rs n c.loop-wire.arcs.items c.loop-wire.invariant.2 e free (record { from = e.from; to = e.to }) (record { leaves = refl; enters = refl }) in
    ((tt, tt), tt, rw (length_push, c.push.ensures.items) more)

pub loop-wire-preserved : goal.loop-wire-preserved
loop-wire-preserved c =
    let es = c.args.self.now.wires.now in
    let rs = c.args.self.now.registers.now in
    let n = length c.loop-wire.yielded in
    let turn = zip_turn es rs c.loop-wire.yielded c.into_iter-wire-iterator.result c.loop-wire.wire-iterator c.next.new.self c.next.result (cc) (cc) c.loop-wire.yielded_by (c.in-Some.wire, c.in-Some.held) c.in-Some.is c.next.ensures.steps in
    let held = turn.3 0 in
    let none : (e : Ends) → Free es rs n e → ⊥ = λ e f.
    let lives = turn.2 None ∙ f.lives in
    elim c.in_default.branch [
      | in_default-via-in-None-1 w ↦ absurd (cc)
      | in_default-via-in-Some-wire+else-held-eq0 w ↦ w.if-held-eq0.false (held ∙ f.empty)
      | in_default-via-in-Some-wire+then-held-eq0+else-e-ne0 w ↦ let same : w.in-Some-wire.e ≡ e = cc in omega (arith, ap (λ (x : Ends). x.from) same, f.leaves, w.if-e-ne0.false)
      | in_default-via-in-Some-wire+then-held-eq0+then-e-ne0+else-e-ne0-2 w ↦ let same : w.in-Some-wire.e ≡ e = cc in omega (arith, ap (λ (x : Ends). x.to) same, f.enters, w.if-e-ne0-2.false)
    ] in
    ((tt, tt), tt, rw length_push (lemma.passed_over es rs n c.loop-wire.arcs.items c.loop-wire.invariant.2 none))
