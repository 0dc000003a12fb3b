use Rattle.tt_cert.proofs.Canonicals.{IsCertificate-from_canonical}
use Rattle.tt_cert.proofs.certifying.certify_by.Goals as goal

pub returns-clause-valid : goal.returns-clause-valid
returns-clause-valid c =
    let spans = c.args.spans.now in
    IsCertificate-from_canonical spans c.args.faulty c.args.claim.now c.fill.new.self (c.fusion_laws.ensures.possible spans c.args.faulty) (c.fusion_laws.ensures.ends_possible spans c.args.faulty c.args.claim.now c.requires.fused) c.requires.fusible c.requires.fused c.fill.ensures
