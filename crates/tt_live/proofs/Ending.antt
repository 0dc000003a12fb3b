-- Which faults end a run.
use Rattle.std.proofs.Common.{◌≡◌, Ok, Err, Result, IfErr, IsErrOf, ap, refl}
use Rattle.tt_publish.specs.declared.faults.PublishFault.TheVariants as publishes
use Rattle.tt_rounds.specs.Fault.{IsRunFault}
use Rattle.tt_rounds.specs.declared.faults.NodeFault.{NodeFault}
use Rattle.tt_rounds.specs.declared.faults.NodeFault.TheVariants as node
use Rattle.tt_live.specs.Fault.{EndsRun}

-- the fault of a node whose limits are good ends a run
pub fault_ends : (fault : NodeFault) → IsRunFault fault → (fault ≡ node.BadLimits → ⊥) → EndsRun fault
fault_ends node.LinkFailed is good = tt
fault_ends node.ClockFailed is good = tt
fault_ends node.Memory is good = tt
fault_ends node.BadLimits is good = absurd (good refl)
fault_ends (node.Publish publishes.ClockBack) is good = tt
fault_ends (node.Publish publishes.Places) is good = tt
fault_ends (node.Publish publishes.Memory) is good = tt
fault_ends _ is good = absurd is

pub result_ends : {A : Type 0} (result : Result A NodeFault) → IfErr result IsRunFault → (IsErrOf result node.BadLimits → ⊥) → IfErr result EndsRun
result_ends (Ok value) is good = tt
result_ends (Err fault) is good = fault_ends fault is (λ same. good (ap Err same))
