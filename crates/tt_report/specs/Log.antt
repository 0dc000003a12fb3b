-- Which lines of the log are of one kind.
use Rattle.std.specs.Prelude.{ℕ, ◌+◌, min, false, Option, Some, None}
use Rattle.tt_status.specs.declared.lines.LogEvent.{LogEvent}
use Rattle.tt_status.specs.declared.lines.LogEvent.TheVariants.{Started, FirstPublication, SourceSilent, SourceSuspect, FusionRefused, ClockBack, AnswersRefused, RoundFailed, SharingEnded, SharingResumed, StatusUnwritten, NotAccepted, StateLoose, EpochLoose, SharedLoose, Ended, MasterStarted, MasterFailed, SocketRenewed, PublicationSlow, SourceUnsent, AssumptionBroken, HostSlept, GuestDisrupted, SleepUnseen, Descriptors, SourcesStale, StartPaused, EvidenceUnwritten, Stranger, SourceUnresolved, SourceResolved, KeysRead, KeysRefused, PollsUnopened, AddressAwaited, MasterSilent, MasterAnswers, WidthAbove, ClockStepped, ServerRefused, ServerSilent, SlewTooFast, SlewInBounds, SourceAnswers, StatusWritten, EvidenceWritten, WidthInBounds, StoodStill, SourceAgrees, FusionPublished, RoundsResumed, MasterResumed, SleepSeen, SourcesFresh, ServerAnswers}
use Rattle.tt_report.specs.declared.limits.Turned.{Turned}
use Rattle.tt_status.specs.declared.lines.RefusedFusion.TheVariants.{NoPoint, TooFewKnown}

-- the kind of an event, of which one line is said, and the next one after a pause: each reason of a refused fusion is a kind of its own, and so is each source and each server
abbrev pub kind_of : LogEvent → ℕ
kind_of (Started machine epoch port) = 0
kind_of (FirstPublication width) = 1
kind_of Ended = 2
kind_of ClockBack = 3
kind_of (FusionRefused NoPoint) = 4
kind_of (FusionRefused TooFewKnown) = 5
kind_of (AnswersRefused count) = 6
kind_of (RoundFailed number) = 7
kind_of (SharingEnded number) = 8
kind_of (StatusUnwritten errno) = 9
kind_of (NotAccepted errno) = 10
kind_of (MasterStarted source port) = 11
kind_of (MasterFailed number) = 12
kind_of StateLoose = 13
kind_of EpochLoose = 14
kind_of SharedLoose = 15
kind_of (SocketRenewed number pause) = 16
kind_of SharingResumed = 17
kind_of (PublicationSlow lasted) = 18
kind_of (AssumptionBroken clock lower upper last_lower last_upper) = 19
kind_of (HostSlept slept) = 20
kind_of GuestDisrupted = 21
kind_of SleepUnseen = 22
kind_of (SourcesStale answered needed) = 23
kind_of (StartPaused pause breaks) = 24
kind_of (EvidenceUnwritten errno) = 25
kind_of (Stranger address) = 26
kind_of (KeysRead keys) = 27
kind_of (KeysRefused number line) = 28
kind_of (AddressAwaited pause) = 29
kind_of (MasterSilent number) = 30
kind_of MasterAnswers = 31
kind_of (WidthAbove width limit) = 32
kind_of ClockStepped = 33
kind_of (PollsUnopened count) = 34
kind_of (SlewTooFast rate slew) = 35
kind_of SlewInBounds = 36
kind_of StatusWritten = 37
kind_of EvidenceWritten = 38
kind_of WidthInBounds = 39
kind_of (Descriptors limit needed sessions) = 40
kind_of (StoodStill lasted) = 41
kind_of FusionPublished = 42
kind_of SourcesFresh = 43
kind_of RoundsResumed = 44
kind_of SleepSeen = 45
kind_of MasterResumed = 46
kind_of (SourceSilent source) = 48 + min source 15
kind_of (SourceSuspect source) = 64 + min source 15
kind_of (SourceUnsent source) = 80 + min source 15
kind_of (SourceUnresolved source) = 96 + min source 15
kind_of (SourceResolved source address) = 112 + min source 15
kind_of (ServerRefused server number) = 128 + min server 15
kind_of (ServerSilent server) = 144 + min server 15
kind_of (SourceAnswers source) = 160 + min source 15
kind_of (SourceAgrees source) = 176 + min source 15
kind_of (ServerAnswers server) = 192 + min server 15

-- one kind of lines
abbrev pub one_kind : ℕ → Turned
one_kind kind = record { first = Some kind; second = None; third = None }

-- two kinds
abbrev pub two_kinds : ℕ → ℕ → Turned
two_kinds kind other = record { first = Some kind; second = Some other; third = None }

-- three kinds
abbrev pub three_kinds : ℕ → ℕ → ℕ → Turned
three_kinds kind other last = record { first = Some kind; second = Some other; third = Some last }

-- the kinds of the lines that tell of the contrary of an event: that a trouble is over, or that it has begun
abbrev pub turned_by : LogEvent → Turned
turned_by (SharingEnded number) = one_kind (kind_of SharingResumed)
turned_by SharingResumed = one_kind (kind_of (SharingEnded 0))
turned_by (KeysRead keys) = one_kind (kind_of (KeysRefused 0 0))
turned_by (KeysRefused number line) = one_kind (kind_of (KeysRead 0))
turned_by (MasterSilent number) = one_kind (kind_of MasterAnswers)
turned_by MasterAnswers = one_kind (kind_of (MasterSilent 0))
turned_by (MasterFailed number) = one_kind (kind_of MasterResumed)
turned_by MasterResumed = one_kind (kind_of (MasterFailed 0))
turned_by (SlewTooFast rate slew) = one_kind (kind_of SlewInBounds)
turned_by SlewInBounds = one_kind (kind_of (SlewTooFast (record { below = false; size = 0 }) 0))
turned_by (SourceUnresolved source) = one_kind (112 + min source 15)
turned_by (SourceResolved source address) = one_kind (kind_of (SourceUnresolved source))
turned_by (SourceSilent source) = one_kind (kind_of (SourceAnswers source))
turned_by (SourceUnsent source) = one_kind (kind_of (SourceAnswers source))
turned_by (SourceAnswers source) = two_kinds (kind_of (SourceSilent source)) (kind_of (SourceUnsent source))
turned_by (SourceSuspect source) = one_kind (kind_of (SourceAgrees source))
turned_by (SourceAgrees source) = one_kind (kind_of (SourceSuspect source))
turned_by (FusionRefused reason) = one_kind (kind_of FusionPublished)
turned_by FusionPublished = two_kinds (kind_of (FusionRefused NoPoint)) (kind_of (FusionRefused TooFewKnown))
turned_by (RoundFailed number) = one_kind (kind_of RoundsResumed)
turned_by (SocketRenewed number pause) = one_kind (kind_of RoundsResumed)
turned_by ClockBack = one_kind (kind_of RoundsResumed)
turned_by RoundsResumed = three_kinds (kind_of (RoundFailed 0)) (kind_of (SocketRenewed 0 0)) (kind_of ClockBack)
turned_by (SourcesStale answered needed) = one_kind (kind_of SourcesFresh)
turned_by SourcesFresh = one_kind (kind_of (SourcesStale 0 0))
turned_by SleepUnseen = one_kind (kind_of SleepSeen)
turned_by SleepSeen = one_kind (kind_of SleepUnseen)
turned_by (ServerRefused server number) = one_kind (kind_of (ServerAnswers server))
turned_by (ServerSilent server) = one_kind (kind_of (ServerAnswers server))
turned_by (ServerAnswers server) = two_kinds (kind_of (ServerRefused server 0)) (kind_of (ServerSilent server))
turned_by (StatusUnwritten errno) = one_kind (kind_of StatusWritten)
turned_by StatusWritten = one_kind (kind_of (StatusUnwritten 0))
turned_by (EvidenceUnwritten errno) = one_kind (kind_of EvidenceWritten)
turned_by EvidenceWritten = one_kind (kind_of (EvidenceUnwritten 0))
turned_by (WidthAbove width limit) = one_kind (kind_of WidthInBounds)
turned_by WidthInBounds = one_kind (kind_of (WidthAbove 0 0))
turned_by _ = record { first = None; second = None; third = None }
