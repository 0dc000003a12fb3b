-- The numbers of the refusals.
use Rattle.std.specs.Prelude.{ℕ}
use Rattle.tt_publish.specs.declared.faults.ClockFault.{ClockFault}
use Rattle.tt_publish.specs.declared.faults.ClockFault.TheVariants as clock
use Rattle.tt_publish.specs.declared.faults.ReadFault.{ReadFault}
use Rattle.tt_publish.specs.declared.faults.ReadFault.TheVariants as reads
use Rattle.tt_publish.specs.declared.faults.PublishFault.{PublishFault}
use Rattle.tt_publish.specs.declared.faults.PublishFault.TheVariants as publishes

-- the number of each reason why a clock gave no reading
abbrev pub clock_number_of : ClockFault → ℕ
clock_number_of clock.Failed = 803

-- the number of each reason why there is no reading
abbrev pub read_number_of : ReadFault → ℕ
read_number_of reads.Nothing = 801
read_number_of reads.ClockBack = 802
read_number_of reads.ClockFailed = 803

-- the number of each reason why nothing was opened or published
abbrev pub publish_number_of : PublishFault → ℕ
publish_number_of publishes.ClockBack = 802
publish_number_of publishes.Places = 804
publish_number_of publishes.UsedUp = 805
publish_number_of publishes.Memory = 1
