-- The numbers of the refusals.
use Rattle.std.specs.Prelude.{ℕ}
use Rattle.tt_epoch.specs.declared.faults.EpochFault.{EpochFault}
use Rattle.tt_epoch.specs.declared.faults.EpochFault.TheVariants.{ReadFailed, FolderFailed, LockFailed, WriteFailed, NotAnEpochFile, UsedUp, Locked, Memory}

-- the number of a fault
abbrev pub number_of : EpochFault → ℕ
number_of (ReadFailed reason) = 1811
number_of (FolderFailed reason) = 1812
number_of (LockFailed reason) = 1812
number_of (WriteFailed reason) = 1812
number_of NotAnEpochFile = 1813
number_of UsedUp = 1814
number_of Locked = 1815
number_of Memory = 1
