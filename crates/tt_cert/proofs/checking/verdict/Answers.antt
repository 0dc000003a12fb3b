use Rattle.std.proofs.Common.{refl, rules}
use Rattle.tt_cert.specs.Valid.{HasLeftSet, HasRightSet, Covers}
use Rattle.tt_cert.proofs.Verdicts.{IsVerdict-from_depths}
use Rattle.tt_cert.proofs.checking.verdict.Goals as goal

pub returns : goal.returns
returns c =
    let spans = c.args.spans.now in
    let left : HasLeftSet spans c.args.faulty c.args.claim.now c.args.certificate.now = search rules in
    let right : HasRightSet spans c.args.faulty c.args.claim.now c.args.certificate.now = search rules in
    let covers : Covers c.args.claim.now c.args.certificate.now = c.covers.ensures.0 c.if-not-covers.false in
    IsVerdict-from_depths spans c.args.faulty c.args.claim.now c.args.certificate.now (c.in_ok-check_counts.ensures.taken.0 refl) left right covers c.depth_verdict.result c.depth_verdict.ensures
