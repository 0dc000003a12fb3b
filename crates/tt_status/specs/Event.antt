-- The lines of a log, as text or as JSON.
use Rattle.std.specs.Prelude.{codes, ℕ, Bool, nat_lt, if◌then◌else◌, List, [], ◌++◌, Option, Some, None}
use Rattle.std.specs.Fmt.{decimal}
use Rattle.std.specs.Net.Text.{socket_text}
use Rattle.std.specs.declared.net.socket_addr.SocketAddr.{SocketAddr}
use Rattle.jiff_core.specs.declared.civil.date.Date.{Date}
use Rattle.tt_daemon.specs.Fault.{number_of as daemon_number_of}
use Rattle.tt_daemon.specs.declared.faults.DaemonFault.TheVariants as daemon
use Rattle.tt_status.specs.Moment.{moment_text}
use Rattle.tt_status.specs.Digits.{rate_text}
use Rattle.tt_status.specs.declared.digits.Difference.{Difference}
use Rattle.tt_status.specs.declared.lines.LogFormat.{LogFormat}
use Rattle.tt_status.specs.declared.lines.LogFormat.TheVariants.{Text, Json}
use Rattle.tt_status.specs.Journal.{priority_of}
use Rattle.tt_status.specs.Told.{words_text, place_text}
use Rattle.tt_status.specs.declared.priorities.LogStyle.{LogStyle}
use Rattle.tt_status.specs.declared.lines.LogLine.{LogLine}
use Rattle.tt_status.specs.declared.lines.LogEvent.{LogEvent}
use Rattle.tt_status.specs.declared.lines.LogEvent.TheVariants.{Started, FirstPublication, SourceSilent, SourceSuspect, FusionRefused, ClockBack, AnswersRefused, RoundFailed, SharingEnded, SharingResumed, StatusUnwritten, NotAccepted, StateLoose, EpochLoose, SharedLoose, Ended, MasterStarted, MasterFailed, SocketRenewed, PublicationSlow, SourceUnsent, AssumptionBroken, HostSlept, GuestDisrupted, SleepUnseen, Descriptors, SourcesStale, StartPaused, EvidenceUnwritten, Stranger, SourceUnresolved, SourceResolved, KeysRead, KeysRefused, PollsUnopened, AddressAwaited, MasterSilent, MasterAnswers, WidthAbove, ClockStepped, ServerRefused, ServerSilent, SlewTooFast, SlewInBounds, SourceAnswers, StatusWritten, EvidenceWritten, WidthInBounds, StoodStill, SourceAgrees, FusionPublished, RoundsResumed, MasterResumed, SleepSeen, SourcesFresh, ServerAnswers}
use Rattle.tt_status.specs.declared.lines.RefusedFusion.{RefusedFusion}
use Rattle.tt_status.specs.declared.lines.RefusedFusion.TheVariants.{NoPoint, TooFewKnown}

-- the number of each refusal of a fusion
abbrev pub refusal_number_of : RefusedFusion → ℕ
refusal_number_of NoPoint = daemon_number_of daemon.NoPoint
refusal_number_of TooFewKnown = daemon_number_of daemon.Unknown

-- a name and the decimal digits of its number
abbrev pub field : LogFormat → List ℕ → ℕ → List ℕ
field Text name value = codes " " ++ name ++ codes "=" ++ decimal value
field Json name value = codes ",\"" ++ name ++ codes "\":" ++ decimal value

-- a name and its rate in parts per million
abbrev pub rate_field : LogFormat → List ℕ → Difference → List ℕ
rate_field Text name rate = codes " " ++ name ++ codes "=" ++ rate_text rate
rate_field Json name rate = codes ",\"" ++ name ++ codes "\":" ++ rate_text rate

-- the name `address`, and the address as the standard library prints it
abbrev pub address_field : LogFormat → SocketAddr → List ℕ
address_field Text address = codes " address=" ++ socket_text address
address_field Json address = codes ",\"address\":\"" ++ socket_text address ++ codes "\""

-- how grave an event is
abbrev pub level_of : LogEvent → List ℕ
level_of (Started machine epoch port) = codes "info"
level_of (FirstPublication width) = codes "info"
level_of (SourceAnswers source) = codes "info"
level_of (SourceAgrees source) = codes "info"
level_of FusionPublished = codes "info"
level_of RoundsResumed = codes "info"
level_of MasterResumed = codes "info"
level_of SleepSeen = codes "info"
level_of SourcesFresh = codes "info"
level_of (ServerAnswers server) = codes "info"
level_of SharingResumed = codes "info"
level_of StatusWritten = codes "info"
level_of EvidenceWritten = codes "info"
level_of WidthInBounds = codes "info"
level_of Ended = codes "info"
level_of (Descriptors limit needed sessions) = codes "info"
level_of (MasterStarted source port) = codes "info"
level_of (SourceResolved source address) = codes "info"
level_of (KeysRead keys) = codes "info"
level_of MasterAnswers = codes "info"
level_of SlewInBounds = codes "info"
level_of ClockStepped = codes "error"
level_of (AssumptionBroken clock lower upper last_lower last_upper) = codes "error"
level_of (HostSlept slept) = codes "error"
level_of GuestDisrupted = codes "error"
level_of _ = codes "warn"

-- how an event is called
abbrev pub name_of : LogEvent → List ℕ
name_of (Started machine epoch port) = codes "started"
name_of (FirstPublication width) = codes "first_publication"
name_of (SourceSilent source) = codes "source_silent"
name_of (SourceAnswers source) = codes "source_answers"
name_of (SourceSuspect source) = codes "source_suspect"
name_of (SourceAgrees source) = codes "source_agrees"
name_of (FusionRefused reason) = codes "fusion_refused"
name_of FusionPublished = codes "fusion_published"
name_of ClockBack = codes "clock_back"
name_of (AnswersRefused count) = codes "answers_refused"
name_of (RoundFailed number) = codes "round_failed"
name_of RoundsResumed = codes "rounds_resumed"
name_of (SharingEnded number) = codes "sharing_ended"
name_of SharingResumed = codes "sharing_resumed"
name_of (StatusUnwritten errno) = codes "status_unwritten"
name_of StatusWritten = codes "status_written"
name_of (NotAccepted errno) = codes "not_accepted"
name_of StateLoose = codes "state_loose"
name_of EpochLoose = codes "epoch_loose"
name_of SharedLoose = codes "shared_loose"
name_of Ended = codes "ended"
name_of (MasterStarted source port) = codes "master_started"
name_of (MasterFailed number) = codes "master_failed"
name_of MasterResumed = codes "master_resumed"
name_of (SocketRenewed number pause) = codes "socket_renewed"
name_of (PublicationSlow lasted) = codes "publication_slow"
name_of (SourceUnsent source) = codes "source_unsent"
name_of (AssumptionBroken clock lower upper last_lower last_upper) = codes "assumption_broken"
name_of (HostSlept slept) = codes "host_slept"
name_of GuestDisrupted = codes "guest_disrupted"
name_of SleepUnseen = codes "sleep_unseen"
name_of SleepSeen = codes "sleep_seen"
name_of (Descriptors limit needed sessions) = codes "descriptors"
name_of (SourcesStale answered needed) = codes "sources_stale"
name_of SourcesFresh = codes "sources_fresh"
name_of (StartPaused pause breaks) = codes "start_paused"
name_of (EvidenceUnwritten errno) = codes "evidence_unwritten"
name_of EvidenceWritten = codes "evidence_written"
name_of (Stranger address) = codes "stranger"
name_of (SourceUnresolved source) = codes "source_unresolved"
name_of (SourceResolved source address) = codes "source_resolved"
name_of (KeysRead keys) = codes "keys_read"
name_of (KeysRefused number line) = codes "keys_refused"
name_of (PollsUnopened count) = codes "polls_unopened"
name_of (AddressAwaited pause) = codes "address_awaited"
name_of (MasterSilent number) = codes "master_silent"
name_of MasterAnswers = codes "master_answers"
name_of (WidthAbove width limit) = codes "width_above"
name_of WidthInBounds = codes "width_in_bounds"
name_of (StoodStill lasted) = codes "stood_still"
name_of ClockStepped = codes "clock_stepped"
name_of (ServerRefused server number) = codes "server_refused"
name_of (ServerSilent server) = codes "server_silent"
name_of (ServerAnswers server) = codes "server_answers"
name_of (SlewTooFast rate slew) = codes "slew_too_fast"
name_of SlewInBounds = codes "slew_in_bounds"

-- its numbers, each behind its name, and its address; the name of a time in nanoseconds ends in `_ns`, that of parts per million in `_ppm`
abbrev pub fields_of : LogFormat → LogEvent → List ℕ
fields_of f (Started machine epoch port) = field f (codes "machine") machine ++ field f (codes "epoch") epoch ++ field f (codes "port") port
fields_of f (FirstPublication width) = field f (codes "width_ns") width
fields_of f (SourceSilent source) = field f (codes "source") source
fields_of f (SourceSuspect source) = field f (codes "source") source
fields_of f (SourceAgrees source) = field f (codes "source") source
fields_of f (FusionRefused reason) = field f (codes "number") (refusal_number_of reason)
fields_of f (AnswersRefused count) = field f (codes "count") count
fields_of f (RoundFailed number) = field f (codes "number") number
fields_of f (SharingEnded number) = field f (codes "number") number
fields_of f (MasterStarted source port) = field f (codes "source") source ++ field f (codes "port") port
fields_of f (MasterFailed number) = field f (codes "number") number
fields_of f (SocketRenewed number pause) = field f (codes "number") number ++ field f (codes "pause_ns") pause
fields_of f (PublicationSlow lasted) = field f (codes "lasted_ns") lasted
fields_of f (SourceUnsent source) = field f (codes "source") source
fields_of f (SourceAnswers source) = field f (codes "source") source
fields_of f (StoodStill lasted) = field f (codes "lasted_ns") lasted
fields_of f (AssumptionBroken clock lower upper last_lower last_upper) =
    field f (codes "clock_ns") clock ++ field f (codes "lower_ns") lower ++ field f (codes "upper_ns") upper
    ++ field f (codes "last_lower_ns") last_lower ++ field f (codes "last_upper_ns") last_upper
fields_of f (HostSlept slept) = field f (codes "slept_ns") slept
fields_of f (Descriptors limit needed sessions) = field f (codes "limit") limit ++ field f (codes "needed") needed ++ field f (codes "sessions") sessions
fields_of f (SourcesStale answered needed) = field f (codes "answered") answered ++ field f (codes "needed") needed
fields_of f (StartPaused pause breaks) = field f (codes "pause_ns") pause ++ field f (codes "breaks") breaks
fields_of f (StatusUnwritten errno) = field f (codes "errno") errno
fields_of f (NotAccepted errno) = field f (codes "errno") errno
fields_of f (EvidenceUnwritten errno) = field f (codes "errno") errno
fields_of f (Stranger address) = address_field f address
fields_of f (SourceUnresolved source) = field f (codes "source") source
fields_of f (SourceResolved source address) = field f (codes "source") source ++ address_field f address
fields_of f (KeysRead keys) = field f (codes "keys") keys
fields_of f (KeysRefused number line) = field f (codes "number") number ++ field f (codes "line") line
fields_of f (PollsUnopened count) = field f (codes "count") count
fields_of f (AddressAwaited pause) = field f (codes "pause_ns") pause
fields_of f (MasterSilent number) = field f (codes "number") number
fields_of f (WidthAbove width limit) = field f (codes "width_ns") width ++ field f (codes "limit_ns") limit
fields_of f (ServerRefused server number) = field f (codes "server") server ++ field f (codes "number") number
fields_of f (ServerSilent server) = field f (codes "server") server
fields_of f (ServerAnswers server) = field f (codes "server") server
fields_of f (SlewTooFast rate slew) = rate_field f (codes "rate_ppm") rate ++ field f (codes "slew_ppm") slew
fields_of f _ = []

-- the time, the level and the name of an event
abbrev pub head_text : LogFormat → Date → ℕ → LogEvent → List ℕ
head_text Text date time event =
    codes "time=" ++ moment_text date time ++ codes " level=" ++ level_of event ++ codes " event=" ++ name_of event
head_text Json date time event =
    codes "{\"time\":\"" ++ moment_text date time ++ codes "\",\"level\":\"" ++ level_of event ++ codes "\",\"event\":\"" ++ name_of event ++ codes "\""

-- how many of its kind were left out before it, where some were
abbrev pub left_out_text : LogFormat → ℕ → List ℕ
left_out_text f n = if nat_lt 0 n then field f (codes "left_out") n else []

-- the end of a line
abbrev pub end_text : LogFormat → List ℕ
end_text Text = codes "\n"
end_text Json = codes "}\n"

-- the number of a refusal among the fields of an event
abbrev pub number_told : LogEvent → Option ℕ
number_told (FusionRefused reason) = Some (refusal_number_of reason)
number_told (RoundFailed number) = Some number
number_told (SharingEnded number) = Some number
number_told (MasterFailed number) = Some number
number_told (MasterSilent number) = Some number
number_told (SocketRenewed number pause) = Some number
number_told (KeysRefused number line) = Some number
number_told (ServerRefused server number) = Some number
number_told _ = None

-- the place of a source or of a server of which an event tells without an address
abbrev pub place_told : LogEvent → Option ℕ
place_told (SourceSilent source) = Some source
place_told (SourceAnswers source) = Some source
place_told (SourceSuspect source) = Some source
place_told (SourceAgrees source) = Some source
place_told (SourceUnsent source) = Some source
place_told (SourceUnresolved source) = Some source
place_told (ServerRefused server number) = Some server
place_told (ServerSilent server) = Some server
place_told (ServerAnswers server) = Some server
place_told _ = None

-- what a journal reads before a line
abbrev pub priority_text : Bool → LogEvent → List ℕ
priority_text is_journal event = if is_journal then priority_of (level_of event) else []

-- the line of an event, the date of whose time is given, with these words and this address
abbrev pub event_line : LogStyle → Date → LogLine → List ℕ → List ℕ → List ℕ
event_line style date line words address =
    priority_text style.is_journal line.event
    ++ head_text style.format date line.time line.event
    ++ fields_of style.format line.event
    ++ words_text style.format words
    ++ place_text style.format address
    ++ left_out_text style.format line.left_out
    ++ end_text style.format
