-- How the input is read.
use Rattle.std.specs.Prelude.{◌≡◌, ◌⊎◌, ℕ}
use Rattle.tt_stream.specs.declared.fault.ReadFault.{ReadFault}
use Rattle.tt_stream.specs.declared.fault.ReadFault.TheVariants.{Failed, TooLong, UsedUp, Memory as NoMemory}
use Rattle.ttd_commands.specs.declared.faults.Fault.{Fault}
use Rattle.ttd_commands.specs.declared.faults.Fault.TheVariants.{BadInput, ReadFailed, Memory}

-- The bytes of input that are allowed at most.
abbrev pub most_input : ℕ
most_input = 1048576

-- The bytes of a history that are allowed at most: 1 GiB.
abbrev pub most_history : ℕ
most_history = 1073741824

-- What the program says of an input that could not be read whole.
abbrev pub input_fault_of : ReadFault → Fault
input_fault_of Failed = ReadFailed
input_fault_of TooLong = BadInput
input_fault_of UsedUp = ReadFailed
input_fault_of NoMemory = Memory

-- The fault is one of those that reading the input can give.
abbrev pub IsInputFault : Fault → Type 0
IsInputFault fault = (fault ≡ ReadFailed) ⊎ ((fault ≡ BadInput) ⊎ (fault ≡ Memory))
