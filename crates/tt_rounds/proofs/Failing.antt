-- Which device's fault is answered.
use Rattle.std.proofs.Common.{◌≡◌, ℕ, Result, Ok, subst, rules}
use Rattle.tt_rounds.specs.Counting.{FailsBy}
use Rattle.tt_rounds.specs.declared.faults.NodeFault.{NodeFault}

-- after a step that went well the device has not failed
pub not_failed : {A : Type 0} (value : A) (fault : NodeFault) (before after : ℕ) → FailsBy (Ok value) fault before after → after ≡ before
not_failed {A} value fault before after step = step.sound (λ e. search (rules, e))

-- a step after others in which the device did not fail
pub fails_after : {A : Type 0} (answer : Result A NodeFault) (fault : NodeFault) (first before after : ℕ) → before ≡ first → FailsBy answer fault before after → FailsBy answer fault first after
fails_after answer fault first before after same step = subst (λ n. FailsBy answer fault n after) same step
