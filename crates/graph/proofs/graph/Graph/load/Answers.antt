use Rattle.std.proofs.Common.{◌≡◌, Err, rules, refl}
use Rattle.file.proofs.Single.{one_meaning}
use Rattle.graph.proofs.graph.Graph.load.Goals as goal

pub returns-in_err-judge : goal.returns-in_err-judge
returns-in_err-judge c =
    let f = c.in_err-judge.field-0.0 in
    let e : c.from_residual.result ≡ Err f = search rules in
    let fault = c.in_err-judge.ensures.outcome in
    rw e (record { outcome = record { fault = fault; none = λ n s. one_meaning.no_fault c.args.words.now f n fault s; same = refl } })
