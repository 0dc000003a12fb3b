use Rattle.tt_cert.proofs.Proving.{IsFusion-from_certificate, Meets-from_meets}
use Rattle.tt_cert.proofs.Single.{same-IsCanonical}
use Rattle.tt_cert.proofs.checking.certificate_laws.Goals as goal

pub returns-clause-proves : goal.returns-clause-proves
returns-clause-proves c spans f claim proof = IsFusion-from_certificate spans f claim proof (c.fusion_laws.ensures.possible spans f)

pub returns-clause-met : goal.returns-clause-met
returns-clause-met c = Meets-from_meets

pub returns-clause-one_canonical : goal.returns-clause-one_canonical
returns-clause-one_canonical c = same-IsCanonical
