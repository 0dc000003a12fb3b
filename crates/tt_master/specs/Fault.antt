-- The numbers of the refusals.
use Rattle.std.specs.Prelude.{ℕ}
use Rattle.tt_master.specs.declared.faults.RefFault.{RefFault}
use Rattle.tt_master.specs.declared.faults.RefFault.TheVariants as reads
use Rattle.tt_master.specs.declared.faults.MasterFault.{MasterFault}
use Rattle.tt_master.specs.declared.faults.MasterFault.TheVariants as answers

-- the number of each reason why a reference gave no time
abbrev pub reference_number_of : RefFault → ℕ
reference_number_of reads.Failed = 304

-- the number of each reason why a packet is not answered
abbrev pub number_of : MasterFault → ℕ
number_of answers.BadMessage = 301
number_of answers.OtherSource = 302
number_of answers.NotRequest = 303
number_of answers.Reference = 304
