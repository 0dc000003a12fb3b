use Rattle.std.proofs.Common.{ℕ, Ok, ap}
use Rattle.tt_stamp.proofs.steps.release_step.Goals as goal

pub returns : goal.returns
returns g c = (
  Ok c.in_ok-reading.reading,
  c.in_ok-reading.ensures.looks,
  (ap (λ (n : ℕ). Ok n) c.release.ensures.count, c.release.ensures.receipts),
)
