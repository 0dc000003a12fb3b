use Rattle.std.proofs.Common.{List, subst}
use Rattle.tt_span.specs.Interval.{Interval}
use Rattle.tt_cert.specs.Valid.{IsVerdict}
use Rattle.ttd_commands.proofs.Checking.{IsVerdict-from}
use Rattle.ttd_commands.proofs.check.verdict_on.Goals as goal

pub returns : goal.returns
returns c =
    let f = c.args.read.now.faulty in
    let claim = c.args.claim.now in
    let certificate = c.args.certificate.now in
    subst (λ (spans : List Interval). IsVerdict spans f claim certificate c.check.result) c.as_slice.ensures.value
    (IsVerdict-from c.as_slice.result.now f claim certificate c.check.result c.check.ensures.valid c.check.ensures.first)
