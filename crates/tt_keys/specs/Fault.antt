-- The numbers of the refusals.
use Rattle.std.specs.Prelude.{ℕ}
use Rattle.tt_keys.specs.declared.faults.KeysFault.{KeysFault}
use Rattle.tt_keys.specs.declared.faults.KeysFault.TheVariants.{CannotRead, UnknownUser, Mode, Owner, TooLong, BadLine, SameNumber, Memory}

-- the number of each reason why a file gives no keys
abbrev pub number_of : KeysFault → ℕ
number_of (CannotRead reason) = 2211
number_of (UnknownUser reason) = 2211
number_of Mode = 2212
number_of Owner = 2213
number_of TooLong = 2214
number_of (BadLine line) = 2215
number_of (SameNumber line) = 2216
number_of Memory = 1
