-- Why there is no twin.
use Rattle.std.specs.Prelude.{ℕ}
use Rattle.tt_twin.specs.declared.twin_faults.TwinFault.{TwinFault}
use Rattle.tt_twin.specs.declared.twin_faults.TwinFault.TheVariants.{Machines, NotAReading, Cut, Memory}

-- the number of each refusal
abbrev pub number_of : TwinFault → ℕ
number_of Machines = 1207
number_of NotAReading = 1401
number_of Cut = 1402
number_of Memory = 1
