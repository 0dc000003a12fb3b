-- What a certificate holds.
use Rattle.std.specs.Prelude.{ℕ, List}
use Rattle.tt_cert.specs.declared.certificate.Stretch.{Stretch}

-- the numbers of some sources for each end of a claim, and stretches of time on each side of it
pub record Proof : Type 0 where
  pub left : List ℕ
  pub right : List ℕ
  pub below : List Stretch
  pub above : List Stretch
