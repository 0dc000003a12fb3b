use Rattle.std.proofs.Common.{Ok, refl}
use Rattle.std.proofs.lemmas.Result.{err_from_is_err_and}
use Rattle.ttd_commands.proofs.Checking.{JudgesText-refused}
use Rattle.ttd_commands.proofs.check.judge.Goals as goal

pub returns-in_err-verdict_on-clause-judged : goal.returns-in_err-verdict_on-clause-judged
returns-in_err-verdict_on-clause-judged c =
    let read = c.args.read.now in
    let claim = c.in_ok-claim.claim in
    let certificate = c.in_ok-claim.certificate in
    let found = c.in_ok-claim.ensures.found in
    let p = err_from_is_err_and c.from_residual-in_err-verdict_on.result c.from_residual-in_err-verdict_on.ensures.1 in
    JudgesText-refused read.spans.items read.faulty c.args.text.now (Ok (claim, certificate)) c.in_ok-claim.ensures.only claim certificate found.0 found.1 refl c.in_err-verdict_on.field-0.0 p.0 c.from_residual-in_err-verdict_on.result c.in_err-verdict_on.ensures p.1 p.2
