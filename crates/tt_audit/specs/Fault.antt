-- The numbers of the refusals.
use Rattle.std.specs.Prelude.{ℕ}
use Rattle.tt_audit.specs.declared.faults.AuditFault.{AuditFault}
use Rattle.tt_audit.specs.declared.faults.AuditFault.TheVariants.{Memory}

-- the number of each refusal
abbrev pub number_of : AuditFault → ℕ
number_of Memory = 1
