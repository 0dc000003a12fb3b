-- The status of a machine.
use Rattle.std.specs.Prelude.{ℕ, ◌-◌, nat_eq, nat_lt, ◌||◌, if◌then◌else◌, not, Bool, false, List, map, slice_index_or, take, Option, Some, None, replicate}
use Rattle.std.specs.List.{list_any, range_with_len}
use Rattle.tt_span.specs.Time.{max_time}
use Rattle.tt_publish.specs.Reading.{reading_at}
use Rattle.tt_publish.specs.declared.readings.FusedSpan.{FusedSpan}
use Rattle.tt_host.specs.declared.slews.SlewRate.{SlewRate}
use Rattle.tt_host.specs.declared.slews.Slewing.{Slewing as Slewed}
use Rattle.tt_health.specs.Answers.{nth_newest}
use Rattle.tt_health.specs.Rate.{new_track, rate_of}
use Rattle.tt_health.specs.declared.answers.Answer.{Answer}
use Rattle.tt_health.specs.declared.pauses.BreakMoment.{BreakMoment}
use Rattle.tt_health.specs.declared.rates.Rate.{Rate}
use Rattle.tt_rounds.specs.Awaiting.{unsent_at}
use Rattle.tt_rounds.specs.Hearing.{opening_at}
use Rattle.tt_rounds.specs.declared.openings.Opening.{Opening}
use Rattle.tt_status.specs.Reason.{reason_of}
use Rattle.tt_status.specs.declared.breaks.LastBreak.{LastBreak}
use Rattle.tt_status.specs.declared.digits.Difference.{Difference}
use Rattle.tt_status.specs.declared.slewings.Slewing.{Slewing}
use Rattle.tt_status.specs.declared.statuses.SourceStatus.{SourceStatus}
use Rattle.tt_status.specs.declared.statuses.Status.{Status}
use Rattle.tt_telemetry.specs.Notice.{needed_by}
use Rattle.tt_telemetry.specs.Records.{suspects_in, tally_at}
use Rattle.tt_telemetry.specs.declared.notices.Notices.{Notices}
use Rattle.tt_telemetry.specs.declared.records.Ends.{Ends}
use Rattle.tt_telemetry.specs.declared.records.Shown.{Shown}
use Rattle.tt_telemetry.specs.declared.records.SourceTally.{SourceTally}
use Rattle.tt_telemetry.specs.declared.records.Totals.{Totals}
use Rattle.tt_telemetry.specs.declared.statuses.Machine.{Machine}
use Rattle.tt_telemetry.specs.declared.statuses.SourceNotice.{SourceNotice}
use Rattle.tt_telemetry.specs.declared.statuses.SourceSeals.{SourceSeals}
use Rattle.tt_telemetry.specs.declared.statuses.Work.{Work}

-- a number is among these
abbrev pub is_among : ℕ → List ℕ → Bool
is_among k numbers = list_any (λ n. nat_eq n k) numbers

-- how long ago a clock showed this
abbrev pub age_from : Option ℕ → ℕ → Option ℕ
age_from (Some clock) now = Some (now - clock)
age_from None now = None

-- how long ago an answer was received
abbrev pub answered_in : Option Answer → ℕ → Option ℕ
answered_in (Some answer) now = Some (now - answer.received)
answered_in None now = None

-- the round trip of an answer
abbrev pub trip_in : Option Answer → Option ℕ
trip_in (Some answer) = Some (answer.received - answer.polled)
trip_in None = None

-- how far the ends of the span of source k lie from those of the fused span
abbrev pub ends_in : Option Shown → ℕ → Option Ends
ends_in (Some shown) k = slice_index_or shown.ends k None
ends_in None k = None

-- how far the lower end does, where the source has answered
abbrev pub lower_in : Option Ends → Option Answer → Option Difference
lower_in (Some ends) (Some answer) = Some ends.lower
lower_in _ _ = None

-- how far the upper end does, where the source has answered
abbrev pub upper_in : Option Ends → Option Answer → Option Difference
upper_in (Some ends) (Some answer) = Some ends.upper
upper_in _ _ = None

-- what the clock gains against a source: what the source loses against the clock
abbrev pub difference_in : Option Rate → Option Difference
difference_in (Some rate) = Some (record { below = not rate.below; size = rate.size })
difference_in None = None

-- what the slewed clock gained, in parts of what the machine's went on
abbrev pub gain_in : Option SlewRate → Option Difference
gain_in None = None
gain_in (Some rate) = Some (record { below = rate.below; size = rate.size })

-- what is shown of how the slewed clock goes: its readers are told nothing as long as it is too fast
abbrev pub slewing_in : Slewed → Slewing
slewing_in slewing = record { rate = gain_in slewing.rate; is_withdrawn = slewing.is_too_fast; withdrawals = slewing.begun }

-- what is shown of a break that is recorded
abbrev pub last_break_in : Option BreakMoment → Option LastBreak
last_break_in None = None
last_break_in (Some moment) = Some (record { time = moment.time; reason = reason_of moment.reason })

-- the error of a rate
abbrev pub error_in : Option Rate → Option ℕ
error_in (Some rate) = Some rate.error
error_in None = None

-- how wide a reading of a fused span is when the clock shows this, where it can be read
abbrev pub width_at : ℕ → FusedSpan → ℕ → Option ℕ
width_at ppm fused now =
    if nat_lt now fused.clock || nat_lt max_time now then None
    else Some ((reading_at ppm fused now).hi - (reading_at ppm fused now).lo)

-- how wide a reading of what is shown is
abbrev pub width_in : Option Shown → ℕ → ℕ → Option ℕ
width_in (Some shown) ppm now = width_at ppm shown.fused now
width_in None ppm now = None

-- how long ago it was fused
abbrev pub age_in : Option Shown → ℕ → Option ℕ
age_in (Some shown) now = Some (now - shown.fused.clock)
age_in None now = None

-- nothing came from a source
abbrev pub no_seals : SourceSeals
no_seals = record { unopened = replicate 3 0; key = None }

-- how many packets to each source a link could not send
unfoldable pub unsent_of : List ℕ → List ℕ
unsent_of unsent = map (unsent_at unsent) (range_with_len 0 16)

-- what a link keeps of the packets from source k
abbrev pub seals_at : List Opening → ℕ → SourceSeals
seals_at openings k = record { unopened = (opening_at openings k).unopened; key = (opening_at openings k).number }

-- what it keeps of those from each source
unfoldable pub seals_of : List Opening → List SourceSeals
seals_of openings = map (seals_at openings) (range_with_len 0 16)

-- what is known of the answers of source k
abbrev pub notice_at : Notices → List ℕ → List SourceSeals → ℕ → SourceNotice
notice_at notices unsent seals k = record { answer = slice_index_or notices.answers k None; rate = rate_of (slice_index_or notices.tracks k new_track); unsent = slice_index_or unsent k 0; seals = slice_index_or seals k no_seals }

-- what became of source k
abbrev pub source_status : Option Shown → SourceTally → SourceNotice → ℕ → ℕ → SourceStatus
source_status shown t notice k now = record {
  suspect = is_among k (suspects_in shown);
  accepted = t.accepted;
  refused = t.refused;
  silent = t.silent;
  unsent = notice.unsent;
  answered = answered_in notice.answer now;
  round_trip = trip_in notice.answer;
  lower = lower_in (ends_in shown k) notice.answer;
  upper = upper_in (ends_in shown k) notice.answer;
  refusals = t.refusals;
  rate = difference_in notice.rate;
  rate_error = error_in notice.rate;
  unopened = notice.seals.unopened;
  key = notice.seals.key;
}

-- nothing became of a source
abbrev pub no_source_status : SourceStatus
no_source_status = record {
  suspect = false;
  accepted = 0;
  refused = 0;
  silent = 0;
  unsent = 0;
  answered = None;
  round_trip = None;
  lower = None;
  upper = None;
  refusals = replicate 7 0;
  rate = None;
  rate_error = None;
  unopened = replicate 3 0;
  key = None;
}

-- what became of each source
unfoldable pub each_status : Option Shown → List SourceTally → Notices → List ℕ → List SourceSeals → ℕ → List SourceStatus
each_status shown each notices unsent seals now = map (λ k. source_status shown (tally_at each k) (notice_at notices unsent seals k) k now) (range_with_len 0 16)

-- the status of a machine when its clock shows this
abbrev pub status_of : Machine → Totals → Option Shown → Notices → List ℕ → List SourceSeals → ℕ → Work → ℕ → Status
status_of machine t shown notices unsent seals strangers work now = record {
  machine = machine.number;
  epoch = machine.epoch;
  width = width_in shown machine.config.drift now;
  age = age_in shown now;
  newest = age_from (nth_newest (take machine.config.sources notices.answers) 1) now;
  needed = age_from (needed_by notices.answers machine.config) now;
  known = machine.known;
  sources = machine.config.sources;
  each = each_status shown t.each notices unsent seals now;
  rounds = t.rounds;
  stale_rounds = notices.stale_rounds;
  published = t.published;
  refused_answers = t.refused_answers;
  no_point = t.no_point;
  too_few = t.too_few;
  round_trips = notices.trips;
  reading_widths = notices.widths;
  strangers = strangers;
  breaks = notices.breaks;
  broken_lives = machine.broken_lives;
  last_break = last_break_in machine.last_break;
  slept = notices.slept;
  sleep_unseen = notices.sleep_unseen;
  slewing = slewing_in notices.slewing;
  sharing = machine.sharing;
  sessions = work.sessions;
  lines = work.lines;
  refused_lines = work.refused_lines;
  waiting = work.waiting;
  unserved = work.unserved;
  workers = machine.config.workers;
  busy = work.busy;
  open_sessions = work.open_sessions;
  commits_waiting = work.commits_waiting;
  commit_waits = work.commit_waits;
  left_out = work.left_out;
}
