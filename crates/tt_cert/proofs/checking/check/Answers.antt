use Rattle.tt_cert.proofs.Verdicts.{valid-IsVerdict, first-IsVerdict, fused-IsVerdict}
use Rattle.tt_cert.proofs.checking.check.Goals as goal

pub returns-clause-valid : goal.returns-clause-valid
returns-clause-valid c = valid-IsVerdict c.args.spans.now c.args.faulty c.args.claim.now c.args.certificate.now c.verdict.result c.verdict.ensures

pub returns-clause-first : goal.returns-clause-first
returns-clause-first c = first-IsVerdict c.args.spans.now c.args.faulty c.args.claim.now c.args.certificate.now c.verdict.result c.verdict.ensures

pub returns-clause-fused : goal.returns-clause-fused
returns-clause-fused c =
    fused-IsVerdict c.args.spans.now c.args.faulty c.args.claim.now c.args.certificate.now c.verdict.result
    (c.certificate_laws.ensures.proves c.args.spans.now c.args.faulty c.args.claim.now c.args.certificate.now c.lo-lower_end.ensures.valid) c.verdict.ensures
