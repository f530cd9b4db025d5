use Rattle.std.proofs.lemmas.Result.{err_from_is_err_and}
use Rattle.file.specs.Stepping.{shown}
use Rattle.file.proofs.Rights.{barred_wrong}
use Rattle.file.proofs.machine.Seen.step.Goals as goal

pub returns-in_err-state-clause-wrong : goal.returns-in_err-state-clause-wrong
returns-in_err-state-clause-wrong c =
    let p = err_from_is_err_and c.from_residual.result c.from_residual.ensures.1 in
    rw (p.1, p.2) (barred_wrong (shown c.args.self) c.args.word _ _ c.kind_of-kind.ensures c.in_err-state.ensures.barred)
