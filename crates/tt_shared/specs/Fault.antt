-- The numbers of the refusals.
use Rattle.std.specs.Prelude.{ℕ}
use Rattle.tt_shared.specs.declared.faults.SharedFault.{SharedFault}
use Rattle.tt_shared.specs.declared.faults.SharedFault.TheVariants as shared
use Rattle.tt_shared.specs.declared.faults.WriteFault.{WriteFault}
use Rattle.tt_shared.specs.declared.faults.WriteFault.TheVariants as writes
use Rattle.tt_shared.specs.declared.faults.PlaceFault.{PlaceFault}
use Rattle.tt_shared.specs.declared.faults.PlaceFault.TheVariants as place

-- the number of each reason why there is no reading
abbrev pub shared_number_of : SharedFault → ℕ
shared_number_of shared.Nothing = 801
shared_number_of shared.ClockBack = 802
shared_number_of shared.ClockFailed = 803
shared_number_of shared.CannotOpen = 1701
shared_number_of shared.BadFile = 1702
shared_number_of shared.BadSlot = 1703
shared_number_of shared.Contended = 1704
shared_number_of shared.TooWide = 1708
shared_number_of shared.NoSlewed = 1710

-- the number of each reason why nothing was written
abbrev pub write_number_of : WriteFault → ℕ
write_number_of writes.ClockBack = 802
write_number_of writes.UsedUp = 805
write_number_of writes.CannotOpen = 1701
write_number_of writes.Failed = 1705
write_number_of writes.Broken = 1706
write_number_of writes.Locked = 1707
write_number_of writes.OtherClock = shared_number_of shared.BadFile

-- the number of each reason why a place was not written
abbrev pub place_number_of : PlaceFault → ℕ
place_number_of place.Failed = 1705
