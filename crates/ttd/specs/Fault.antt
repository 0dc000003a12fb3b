-- The numbers of the refusals, and how the program ends.
use Rattle.std.specs.Prelude.{ℕ}
use Rattle.tt_rounds.specs.Fault.{link_number_of}
use Rattle.tt_rounds.specs.declared.faults.LinkFault.TheVariants as links
use Rattle.tt_settings.specs.Fault.{number_of as settings_number}
use Rattle.tt_shared.specs.Fault.{shared_number_of}
use Rattle.tt_server.specs.Fault.{number_of as server_number}
use Rattle.tt_keys.specs.declared.faults.KeysFault.{KeysFault}
use Rattle.tt_keys.specs.declared.faults.KeysFault.TheVariants as keys
use Rattle.tt_epoch.specs.declared.faults.EpochFault.{EpochFault}
use Rattle.tt_epoch.specs.declared.faults.EpochFault.TheVariants as epoch
use Rattle.tt_publish.specs.declared.faults.PublishFault.{PublishFault}
use Rattle.tt_publish.specs.declared.faults.PublishFault.TheVariants as publish
use Rattle.tt_server.specs.declared.faults.ServerFault.{ServerFault}
use Rattle.tt_server.specs.declared.faults.ServerFault.TheVariants as server
use Rattle.tt_shared.specs.declared.faults.SharedFault.{SharedFault}
use Rattle.tt_shared.specs.declared.faults.SharedFault.TheVariants as shared
use Rattle.tt_top.specs.Fault.{number_of as view_number}
use Rattle.tt_top.specs.declared.faults.ViewFault.{ViewFault}
use Rattle.tt_top.specs.declared.faults.ViewFault.TheVariants as view
use Rattle.tt_settings.specs.declared.faults.SettingsFault.{SettingsFault}
use Rattle.tt_settings.specs.declared.faults.SettingsFault.TheVariants as settings
use Rattle.ttd.specs.declared.faults.ServiceFault.{ServiceFault}
use Rattle.ttd.specs.declared.faults.ServiceFault.TheVariants.{Words, BadFile, ReadFailed, LinkFailed, Master, NoRandom, SmallStack, Settings, Shared, Server, View, Memory}
use Rattle.ttd_commands.specs.Fault.{number_of as command_number}
use Rattle.ttd_commands.specs.declared.faults.Fault.TheVariants as command
use Rattle.ttd_masters.specs.Fault.{number_of as master_number}
use Rattle.ttd_masters.specs.declared.faults.StartFault.{StartFault}
use Rattle.ttd_masters.specs.declared.faults.StartFault.TheVariants as master
use Rattle.ttd_words.specs.Fault.{number_of as words_number}
use Rattle.ttd_words.specs.declared.ending.Status.{Status}
use Rattle.ttd_words.specs.declared.ending.Status.TheVariants.{Memory as NoMemory, Bad, Device}
use Rattle.ttd_words.specs.declared.faults.WordsFault.{WordsFault}
use Rattle.ttd_words.specs.declared.faults.WordsFault.TheVariants as words

-- The number of each refusal.
abbrev pub number_of : ServiceFault → ℕ
number_of (Words fault) = words_number fault
number_of BadFile = command_number command.BadInput
number_of ReadFailed = command_number command.ReadFailed
number_of LinkFailed = link_number_of links.Failed
number_of (Master fault) = master_number fault
number_of NoRandom = 1829
number_of SmallStack = 1831
number_of (Settings fault) = settings_number fault
number_of (Shared fault) = shared_number_of fault
number_of (Server fault) = server_number fault
number_of (View fault) = view_number fault
number_of Memory = 1

-- How the program ends where a shared file gives no reading: as at a failed device where the file or the clock can't be read.
abbrev pub status_of_shared : SharedFault → Status
status_of_shared shared.CannotOpen = Device
status_of_shared shared.ClockFailed = Device
status_of_shared _ = Bad

-- How the program ends where a file of keys gives none: as at a failed device where it can't be read.
abbrev pub status_of_keys : KeysFault → Status
status_of_keys (keys.CannotRead reason) = Device
status_of_keys (keys.UnknownUser reason) = Device
status_of_keys keys.Memory = NoMemory
status_of_keys _ = Bad

-- How the program ends where a master does not serve: as at a failed device where it has not its sockets, its file or random bytes.
abbrev pub status_of_master : StartFault → Status
status_of_master (master.ReadFailed reason) = Device
status_of_master (master.CannotListen address reason) = Device
status_of_master (master.CannotServePages address reason) = Device
status_of_master (master.CannotAsk address reason) = Device
status_of_master master.NoRandom = Device
status_of_master (master.Keys fault) = status_of_keys fault
status_of_master master.Memory = NoMemory
status_of_master _ = Bad

-- What the program refuses with where a master does not serve.
abbrev pub master_refused : StartFault → ServiceFault
master_refused master.BadFile = BadFile
master_refused (master.ReadFailed reason) = ReadFailed
master_refused master.Memory = Memory
master_refused fault = Master fault

-- How the program ends where a configuration is refused.
abbrev pub status_of_settings : SettingsFault → Status
status_of_settings settings.Memory = NoMemory
status_of_settings _ = Bad

-- How the program ends where what is read shows no machine.
abbrev pub status_of_view : ViewFault → Status
status_of_view view.Memory = NoMemory
status_of_view _ = Bad

-- How the program ends where a machine has no epoch: as at a failed device where its file can't be read or written (1811, 1812).
abbrev pub status_of_epoch : EpochFault → Status
status_of_epoch (epoch.ReadFailed reason) = Device
status_of_epoch (epoch.FolderFailed reason) = Device
status_of_epoch (epoch.LockFailed reason) = Device
status_of_epoch (epoch.WriteFailed reason) = Device
status_of_epoch epoch.Memory = NoMemory
status_of_epoch _ = Bad

-- How the program ends where nothing can be published.
abbrev pub status_of_publish : PublishFault → Status
status_of_publish publish.Memory = NoMemory
status_of_publish _ = Bad

-- How the program ends where a machine does not serve: as at a failed device where it has not its sockets (1807 to 1809, 1830) or no random
-- bytes (1829), and by what is wrong with its keys, its epoch and its publications.
abbrev pub status_of_server : ServerFault → Status
status_of_server (server.CannotListen reason) = Device
status_of_server (server.CannotServePages reason) = Device
status_of_server (server.CannotPoll reason) = Device
status_of_server (server.CannotListenSocket reason) = Device
status_of_server server.NoRandom = Device
status_of_server (server.Keys fault) = status_of_keys fault
status_of_server (server.Epoch fault) = status_of_epoch fault
status_of_server (server.Publish fault) = status_of_publish fault
status_of_server server.Memory = NoMemory
status_of_server _ = Bad

-- How the program ends where words are rejected.
abbrev pub status_of_words : WordsFault → Status
status_of_words words.Memory = NoMemory
status_of_words _ = Bad

-- How the program ends after each refusal.
abbrev pub status_of : ServiceFault → Status
status_of (Words fault) = status_of_words fault
status_of ReadFailed = Device
status_of LinkFailed = Device
status_of (Master fault) = status_of_master fault
status_of NoRandom = Device
status_of (Settings fault) = status_of_settings fault
status_of (Shared fault) = status_of_shared fault
status_of (Server fault) = status_of_server fault
status_of (View fault) = status_of_view fault
status_of Memory = NoMemory
status_of _ = Bad
