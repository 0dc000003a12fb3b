-- The numbers of the refusals.
use Rattle.std.specs.Prelude.{ℕ}
use Rattle.tt_top.specs.declared.faults.ViewFault.{ViewFault}
use Rattle.tt_top.specs.declared.faults.ViewFault.TheVariants.{NotStatus, NotEvidence, Memory}

-- the number of each refusal
abbrev pub number_of : ViewFault → ℕ
number_of NotStatus = 2601
number_of NotEvidence = 2602
number_of Memory = 1
