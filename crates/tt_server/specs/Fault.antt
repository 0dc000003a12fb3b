-- The numbers of the refusals.
use Rattle.std.specs.Prelude.{ℕ}
use Rattle.tt_epoch.specs.Fault.{number_of as epoch_number_of}
use Rattle.tt_keys.specs.Fault.{number_of as keys_number_of}
use Rattle.tt_publish.specs.Fault.{publish_number_of}
use Rattle.tt_report.specs.Fault.{number_of as reporter_number_of}
use Rattle.tt_report.specs.declared.faults.ReporterFault.TheVariants as reporter
use Rattle.tt_server.specs.declared.faults.ServerFault.{ServerFault}
use Rattle.tt_server.specs.declared.faults.ServerFault.TheVariants.{CannotListen, CannotServePages, CannotPoll, CannotListenSocket, NotSocket, Epoch, Publish, NoThread, Keys, NoKey, MixedFamilies, NoRandom, Memory}

-- the number of each refusal
abbrev pub number_of : ServerFault → ℕ
number_of (CannotListen reason) = 1807
number_of (CannotServePages reason) = 1830
number_of (CannotPoll reason) = 1808
number_of (CannotListenSocket reason) = 1809
number_of NotSocket = 1819
number_of (Epoch fault) = epoch_number_of fault
number_of (Publish fault) = publish_number_of fault
number_of NoThread = reporter_number_of reporter.NoThread
number_of (Keys fault) = keys_number_of fault
number_of (NoKey number) = 1827
number_of MixedFamilies = 1828
number_of NoRandom = 1829
number_of Memory = 1
