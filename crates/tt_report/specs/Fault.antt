-- The numbers of the refusals.
use Rattle.std.specs.Prelude.{ℕ}
use Rattle.tt_report.specs.declared.faults.ReporterFault.{ReporterFault}
use Rattle.tt_report.specs.declared.faults.ReporterFault.TheVariants.{NoThread, Memory}

-- the number of each refusal
abbrev pub number_of : ReporterFault → ℕ
number_of NoThread = 1816
number_of Memory = 1
