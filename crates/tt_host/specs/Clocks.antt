-- The clocks by which a machine measures.
use Rattle.std.specs.Prelude.{ℕ, ◌+◌, ◌*◌, ℤ, negsuc, nat_lt, if◌then◌else◌, Option, Some, None}
use Rattle.tt_host.specs.declared.clocks.HostClock.{HostClock}
use Rattle.tt_host.specs.declared.clocks.HostClock.TheVariants.{Monotonic, Raw}

-- the number of a clock in Linux
abbrev pub number_of : HostClock → ℕ
number_of Monotonic = 1
number_of Raw = 4

-- the number of the clock of a device, by the number of its open file: that with all bits turned round, behind the bits 011; so
-- 1 less than 8 times the file and 4, below 0
abbrev pub device_number_of : ℕ → Option ℤ
device_number_of file = if nat_lt (8 * file + 4) 2147483648 then Some (negsuc (8 * file + 4)) else None
