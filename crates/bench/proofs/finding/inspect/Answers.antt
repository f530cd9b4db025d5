use Rattle.std.proofs.Common.{length, sym, ap, ◌∙◌, subst, arith}
use Rattle.std.proofs.lemmas.Option.{same_Some}
use Rattle.model.specs.Circuit.{Circuit, gates, live}
use Rattle.file.proofs.Single.{file_long}
use Rattle.graph.specs.Measures.{Measured}
use Rattle.graph.specs.Critical.{Critical}
use Rattle.bench.proofs.Findings.{kept_all}
use Rattle.bench.proofs.finding.inspect.Goals as goal

pub overflow_cast-words : goal.overflow_cast-words
overflow_cast-words c =
    let l = c.in_ok-load.ensures.outcome in
    let s = file_long c.args.words.now l.netlist l.spelled in
    record { fits = omega arith }

pub returns : goal.returns
returns c =
    let l = c.in_ok-load.ensures.outcome in
    let n = l.netlist in
    let is = l.held.graph in
    record {
      outcome = (
        c.if-spare.false,
        record {
          netlist = n;
          spelled = l.spelled;
          gates = c.gates.ensures.count ∙ ap gates is;
          wires = c.wires.ensures.count ∙ ap (λ (d : Circuit). length (live d)) is ∙ ap length (kept_all n.wires);
          clock = same_Some c.unwrap.result n.clock (sym c.unwrap.ensures ∙ c.ticks.ensures ∙ l.held.clock);
          slowest = subst (λ (d : Circuit). Critical d c.critical.result) is c.critical.ensures;
          period = subst (λ (d : Circuit). Measured d c.measure.result) is c.measure.ensures;
        },
      );
    }
