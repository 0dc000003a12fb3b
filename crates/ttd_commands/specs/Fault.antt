-- The numbers of the refusals, and how the program ends.
use Rattle.std.specs.Prelude.{ℕ, nat_eq, ◌||◌, if◌then◌else◌}
use Rattle.tt_poll.specs.Fault.{number_of as poll_number}
use Rattle.tt_source.specs.Fault.{number_of as source_number}
use Rattle.tt_fuse.specs.Fault.{number_of as fusion_number}
use Rattle.tt_cert.specs.Fault.{number_of as certificate_number}
use Rattle.tt_judge.specs.Fault.{number_of as history_number}
use Rattle.tt_script.specs.Fault.{number_of as script_number}
use Rattle.tt_twin.specs.TwinFault.{number_of as twin_number}
use Rattle.tt_world.specs.Fault.{number_of as world_number}
use Rattle.tt_rounds.specs.Fault.{number_of as node_number}
use Rattle.tt_rounds.specs.declared.faults.NodeFault.TheVariants as node
use Rattle.tt_live.specs.Fault.{number_of as live_number}
use Rattle.ttd_words.specs.declared.ending.Status.{Status}
use Rattle.ttd_words.specs.declared.ending.Status.TheVariants.{Memory as NoMemory, Bad, Device}
use Rattle.ttd_commands.specs.declared.faults.Fault.{Fault}
use Rattle.ttd_commands.specs.declared.faults.Fault.TheVariants.{BadWords, BadHex, BadInput, ReadFailed, Poll, Source, Fusion, Certificate, History, Script, Twin, World, Live, Memory}

-- The number of each refusal.
abbrev pub number_of : Fault → ℕ
number_of BadWords = 1601
number_of BadHex = 1602
number_of BadInput = 1603
number_of ReadFailed = 1604
number_of (Poll fault) = poll_number fault
number_of (Source fault) = source_number fault
number_of (Fusion fault) = fusion_number fault
number_of (Certificate fault) = certificate_number fault
number_of (History fault) = history_number fault
number_of (Script fault) = script_number fault
number_of (Twin fault) = twin_number fault
number_of (World fault) = world_number fault
number_of (Live fault) = live_number fault
number_of Memory = 1

-- How the program ends after a run in threads that was refused with this number: as out of memory, as at a failed device (a link, a clock or a
-- reference), and else as at what was rejected.
abbrev pub status_at : ℕ → Status
status_at number =
    if nat_eq number 1 then NoMemory
    else (if nat_eq number (node_number node.LinkFailed) || (nat_eq number (node_number node.ClockFailed) || nat_eq number (node_number node.ReferenceFailed)) then Device else Bad)

-- How the program ends after each refusal: as at a device fault where reading failed, as out of memory, as a run in threads ended, and else as
-- at what was rejected.
abbrev pub status_of : Fault → Status
status_of ReadFailed = Device
status_of Memory = NoMemory
status_of (Live fault) = status_at (live_number fault)
status_of _ = Bad
