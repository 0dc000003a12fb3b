-- What a machine publishes when it has fused what its sources say.
use Rattle.std.specs.Prelude.{ℕ, ◌<◌, ◌^◌, List, length, All}
use Rattle.tt_span.specs.Interval.{Interval, IsInterval}
use Rattle.tt_fuse.specs.Fusion.{IsFusion, CanBeFused}
use Rattle.tt_cert.specs.Proof.{Proof}
use Rattle.tt_cert.specs.Valid.{IsCertificate}
use Rattle.tt_cert.specs.Canonical.{IsCanonical}

-- a fusion with all that it was made of: the clock reading at which it was made, the fused interval, the intervals of the sources,
-- how many of these may be wrong, and a certificate of the fused interval
pub record Publication : Type 0 where
  pub clock : ℕ
  pub span : Interval
  pub spans : List Interval
  pub faulty : ℕ
  pub certificate : Proof

-- the fused interval is the fusion of the sources' intervals, and the certificate is the canonical one of it, which is valid
pub record IsPublication (p : Publication) : Type 0 where
  pub clock_fits : p.clock < 2 ^ 64
  pub fusible : CanBeFused (length p.spans) p.faulty
  pub intervals : All IsInterval p.spans
  pub fused : IsFusion p.spans p.faulty p.span
  pub canonical : IsCanonical p.spans p.faulty p.span p.certificate
  pub valid : IsCertificate p.spans p.faulty p.span p.certificate
