-- Faults that have a cause: a device's fault is answered only where its count of failures rose.
use Rattle.std.specs.Prelude.{◌≡◌, ℕ, Result, IsErrOf}
use Rattle.tt_stream.specs.Counts.{HasFailed}
use Rattle.tt_rounds.specs.declared.faults.NodeFault.{NodeFault}

-- this fault is answered exactly by a failure of the device, whose count went from the one to the other
pub record FailsBy {A : Type 0} (answer : Result A NodeFault) (fault : NodeFault) (before after : ℕ) : Type 0 where
  pub cause : IsErrOf answer fault → HasFailed before after
  pub sound : ¬ IsErrOf answer fault → after ≡ before
