-- The numbers of the refusals.
use Rattle.std.specs.Prelude.{ℕ}
use Rattle.tt_keys.specs.Fault.{number_of as keys_number}
use Rattle.tt_rounds.specs.Fault.{link_number_of}
use Rattle.tt_rounds.specs.declared.faults.LinkFault.TheVariants as links
use Rattle.tt_upstream.specs.KeyFile.{key_fault_number}
use Rattle.ttd_masters.specs.declared.faults.StartFault.{StartFault}
use Rattle.ttd_masters.specs.declared.faults.StartFault.TheVariants.{BadPlan, BadFile, ReadFailed, CannotListen, CannotServePages, CannotAsk, Keys, NtpKeys, NoRandom, NoThread, Memory}

-- the number of each refusal
abbrev pub number_of : StartFault → ℕ
number_of BadPlan = 1601
number_of BadFile = 1603
number_of (ReadFailed reason) = 1604
number_of (CannotListen address reason) = link_number_of links.Failed
number_of (CannotServePages address reason) = 1830
number_of (CannotAsk address reason) = link_number_of links.Failed
number_of (Keys fault) = keys_number fault
number_of (NtpKeys fault) = key_fault_number fault
number_of NoRandom = 1829
number_of NoThread = 1816
number_of Memory = 1
