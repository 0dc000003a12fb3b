-- The text of a status: its metrics in order.
use Rattle.std.specs.Prelude.{codes, ℕ, false, min, map, slice_index_or, Option, Some, None, List, [], ◌∷◌, ◌++◌}
use Rattle.std.specs.List.{flat_map, range_with_len}
use Rattle.tt_seal.specs.declared.faults.SealFault.{SealFault}
use Rattle.tt_seal.specs.declared.faults.SealFault.TheVariants.{Length, UnknownKey, WrongTag}
use Rattle.tt_source.specs.declared.faults.SourceFault.{SourceFault}
use Rattle.tt_source.specs.declared.faults.SourceFault.TheVariants.{NoSource, ClockBack, NoncesUsedUp, BadMessage, NotMine, OtherEpoch, NotOutstanding}
use Rattle.tt_status.specs.Metric.{Sample, Metric, single, metric_text}
use Rattle.tt_status.specs.Histogram.{histogram_metric}
use Rattle.tt_status.specs.Info.{source_infos_text}
use Rattle.tt_status.specs.Slewing.{slewing_metrics}
use Rattle.tt_status.specs.declared.breaks.BreakReason.{BreakReason}
use Rattle.tt_status.specs.declared.breaks.LastBreak.{LastBreak}
use Rattle.tt_status.specs.declared.lines.RefusedFusion.TheVariants.{NoPoint, TooFewKnown}
use Rattle.tt_status.specs.declared.metrics.Kind.{Kind}
use Rattle.tt_status.specs.declared.metrics.Kind.TheVariants.{Gauge, Counter}
use Rattle.tt_status.specs.declared.metrics.Value.{Value}
use Rattle.tt_status.specs.declared.metrics.Value.TheVariants.{Whole, Flag, Nanos, Signed}
use Rattle.tt_status.specs.declared.metrics.Value.TheVariants as Number
use Rattle.tt_status.specs.declared.metrics.Outcome.TheVariants.{Accepted, Refused, Silent}
use Rattle.tt_status.specs.declared.metrics.Subject.{Subject}
use Rattle.tt_status.specs.declared.metrics.Subject.TheVariants.{Version, Refusal, Break, Source, OutcomeOf, RefusedOf, UnopenedOf}
use Rattle.tt_status.specs.declared.statuses.Aspect.{Aspect}
use Rattle.tt_status.specs.declared.statuses.Aspect.TheVariants.{Suspicion, Rounds, Refusals, Unsent, Answered, RoundTrip, Lower, Upper, Rate, RateError, Unopened, Key}
use Rattle.tt_status.specs.declared.statuses.SourceStatus.{SourceStatus}
use Rattle.tt_status.specs.declared.statuses.Status.{Status}

-- a whole number of something
abbrev pub count : Subject → ℕ → Sample
count subject n = record { subject = subject; value = Whole n }

-- the metric that names the version
abbrev pub build_metric : Metric
build_metric = record {
  name = codes "truetime_build_info";
  help = codes "The version of the program; the value is always 1.";
  kind = Gauge;
  samples = count Version 1 ∷ [];
}

-- the epoch, and what the last publication shows
abbrev pub publication_metrics : Status → List Metric
publication_metrics s =
    single (codes "truetime_epoch") (codes "The epoch of this life of the machine.") Gauge (Whole s.epoch) ∷
    single (codes "truetime_width_seconds") (codes "The width of a reading now; NaN before the first publication.") Gauge (Nanos s.width) ∷
    single (codes "truetime_fusion_age_seconds") (codes "How long ago the last fusion was made that was published; NaN before the first.") Gauge (Nanos s.age) ∷
    []

-- how many sources there are, and how old what they have answered is
abbrev pub known_metrics : Status → List Metric
known_metrics s =
    single (codes "truetime_sources") (codes "The sources that are asked.") Gauge (Whole s.sources) ∷
    single (codes "truetime_sources_known") (codes "The sources that have made a statement in this life.") Gauge (Whole s.known) ∷
    single (codes "truetime_newest_answer_age_seconds") (codes "How long ago the newest accepted answer came; NaN before the first.") Gauge (Nanos s.newest) ∷
    single (codes "truetime_needed_answer_age_seconds") (codes "Within what time n - f sources have answered last; NaN before they have.") Gauge (Nanos s.needed) ∷
    []

-- a source of which nothing is known
abbrev pub no_source : SourceStatus
no_source = record {
  suspect = false;
  accepted = 0;
  refused = 0;
  silent = 0;
  unsent = 0;
  answered = None;
  round_trip = None;
  lower = None;
  upper = None;
  refusals = [];
  rate = None;
  rate_error = None;
  unopened = [];
  key = None;
}

-- where the refusals of a source for each reason are counted
abbrev pub refusal_place : SourceFault → ℕ
refusal_place NoSource = 0
refusal_place ClockBack = 1
refusal_place NoncesUsedUp = 2
refusal_place BadMessage = 3
refusal_place NotMine = 4
refusal_place OtherEpoch = 5
refusal_place NotOutstanding = 6

-- where the packets that did not open for each reason are counted
abbrev pub unopened_place : SealFault → ℕ
unopened_place Length = 0
unopened_place UnknownKey = 1
unopened_place WrongTag = 2

-- what a number of a source is of
abbrev pub subject_of : Aspect → ℕ → Subject
subject_of (Rounds outcome) i = OutcomeOf i outcome
subject_of (Refusals reason) i = RefusedOf i reason
subject_of (Unopened reason) i = UnopenedOf i reason
subject_of _ i = Source i

-- a number of a source
abbrev pub value_of : Aspect → SourceStatus → Value
value_of Suspicion s = Flag s.suspect
value_of (Rounds Accepted) s = Whole s.accepted
value_of (Rounds Refused) s = Whole s.refused
value_of (Rounds Silent) s = Whole s.silent
value_of (Refusals reason) s = Whole (slice_index_or s.refusals (refusal_place reason) 0)
value_of Unsent s = Whole s.unsent
value_of Answered s = Nanos s.answered
value_of RoundTrip s = Nanos s.round_trip
value_of Lower s = Signed s.lower
value_of Upper s = Signed s.upper
value_of Rate s = Signed s.rate
value_of RateError s = Nanos s.rate_error
value_of (Unopened reason) s = Whole (slice_index_or s.unopened (unopened_place reason) 0)
value_of Key s = Number.Key s.key

-- a number of a source, and what it is of
abbrev pub sample_of : ℕ → SourceStatus → Aspect → Sample
sample_of i s aspect = record { subject = subject_of aspect i; value = value_of aspect s }

-- a metric of these numbers of each source that is asked, in order
unfoldable pub source_metric : List Aspect → List ℕ → List ℕ → Kind → Status → Metric
source_metric aspects name help kind s = record {
  name = name;
  help = help;
  kind = kind;
  samples = flat_map (λ i. map (sample_of i (slice_index_or s.each i no_source)) aspects) (range_with_len 0 (min s.sources 16));
}

-- what became of the sources in the rounds
abbrev pub source_round_metrics : Status → List Metric
source_round_metrics s =
    source_metric (Suspicion ∷ []) (codes "truetime_source_suspect") (codes "1 if the source is a suspect of the last fusion, else 0.") Gauge s ∷
    source_metric (Rounds Accepted ∷ Rounds Refused ∷ Rounds Silent ∷ []) (codes "truetime_source_rounds_total") (codes "Rounds by what became of the source.") Counter s ∷
    source_metric (Refusals ClockBack ∷ Refusals NoncesUsedUp ∷ Refusals BadMessage ∷ Refusals NotMine ∷ Refusals OtherEpoch ∷ Refusals NotOutstanding ∷ [])
    (codes "truetime_source_rounds_refused_total") (codes "Rounds in which all answers of the source were refused, by the number of the last refusal.") Counter s ∷
    source_metric (Unsent ∷ []) (codes "truetime_source_packets_unsent_total") (codes "Packets to the source that could not be sent.") Counter s ∷
    []

-- what the last accepted answers of the sources say
abbrev pub source_answer_metrics : Status → List Metric
source_answer_metrics s =
    source_metric (Answered ∷ []) (codes "truetime_source_answer_age_seconds") (codes "How long ago the last accepted answer of the source came; NaN before the first.") Gauge s ∷
    source_metric (RoundTrip ∷ []) (codes "truetime_source_round_trip_seconds") (codes "The round trip of that answer; NaN before the first.") Gauge s ∷
    source_metric (Lower ∷ []) (codes "truetime_source_lower_seconds") (codes "The lower end of the source's span minus that of the fused one, at the last publication; NaN where there is none.") Gauge s ∷
    source_metric (Upper ∷ []) (codes "truetime_source_upper_seconds") (codes "The upper end of the source's span minus that of the fused one, at the last publication; NaN where there is none.") Gauge s ∷
    []

-- how the machine's clock goes against the sources
abbrev pub source_rate_metrics : Status → List Metric
source_rate_metrics s =
    source_metric (Rate ∷ []) (codes "truetime_source_clock_rate_ratio") (codes "What the machine's clock gains against the source, as a part of its own time; NaN where it is not known.") Gauge s ∷
    source_metric (RateError ∷ []) (codes "truetime_source_clock_rate_error_ratio") (codes "By how much that part may be wrong; NaN where it is not known.") Gauge s ∷
    []

-- which packets of the sources did not open, and under which keys the others did
abbrev pub source_seal_metrics : Status → List Metric
source_seal_metrics s =
    source_metric (Unopened Length ∷ Unopened UnknownKey ∷ Unopened WrongTag ∷ []) (codes "truetime_source_packets_unopened_total") (codes "Packets from the source that did not open, by the number of the reason.") Counter s ∷
    source_metric (Key ∷ []) (codes "truetime_source_key") (codes "The number of the key under which the last packet of the source opened; NaN where there is none.") Gauge s ∷
    []

-- the numbers of the sources
abbrev pub source_metrics : Status → List Metric
source_metrics s = source_round_metrics s ++ source_answer_metrics s ++ source_rate_metrics s ++ source_seal_metrics s

-- what became of the rounds
abbrev pub round_metrics : Status → List Metric
round_metrics s =
    single (codes "truetime_rounds_total") (codes "Rounds that were made.") Counter (Whole s.rounds) ∷
    single (codes "truetime_publications_total") (codes "Rounds that published.") Counter (Whole s.published) ∷
    single (codes "truetime_answers_refused_total") (codes "Answers of sources that were refused.") Counter (Whole s.refused_answers) ∷
    single (codes "truetime_rounds_stale_total") (codes "Rounds after which fewer than n - f sources had answered within three periods.") Counter (Whole s.stale_rounds) ∷
    []

-- how many fusions were refused, for each reason
abbrev pub refusals_metric : Status → Metric
refusals_metric s = record {
  name = codes "truetime_fusions_refused_total";
  help = codes "Refused fusions: 504 if more than f sources are faulty, 701 if too few are known.";
  kind = Counter;
  samples = count (Refusal NoPoint) s.no_point ∷ count (Refusal TooFewKnown) s.too_few ∷ [];
}

-- what came of strangers, and what was seen of broken assumptions
abbrev pub break_metrics : Status → List Metric
break_metrics s =
    single (codes "truetime_strangers_total") (codes "Packets from addresses that are no source's.") Counter (Whole s.strangers) ∷
    single (codes "truetime_assumption_breaks_total") (codes "Signs that an assumption of the service is broken.") Counter (Whole s.breaks) ∷
    single (codes "truetime_broken_lives_total") (codes "Lives before this one that ended since an assumption was broken.") Counter (Whole s.broken_lives) ∷
    single (codes "truetime_slept_seconds_total") (codes "For how long the host has slept in this life.") Counter (Nanos (Some s.slept)) ∷
    single (codes "truetime_sleep_unseen") (codes "1 as long as it would not be seen that the host sleeps, else 0.") Gauge (Flag s.sleep_unseen) ∷
    []

-- when the last life broke
abbrev pub break_time_metric : ℕ → Metric
break_time_metric time =
    single (codes "truetime_last_break_timestamp_seconds") (codes "When the last life that broke noticed it, since 1970; not there where none is recorded.") Gauge (Nanos (Some time))

-- why it broke
abbrev pub reason_metric : BreakReason → Metric
reason_metric reason = record {
  name = codes "truetime_last_break_info";
  help = codes "The event by which that life broke; the value is always 1.";
  kind = Gauge;
  samples = count (Break reason) 1 ∷ [];
}

-- the same, where that is one of the reasons of this version
abbrev pub reason_metrics : Option BreakReason → List Metric
reason_metrics None = []
reason_metrics (Some reason) = reason_metric reason ∷ []

-- when a life broke, and why
abbrev pub metrics_of_break : LastBreak → List Metric
metrics_of_break last = (break_time_metric last.time ∷ []) ++ reason_metrics last.reason

-- the same of the last life that broke, where it is known
abbrev pub last_break_metrics : Option LastBreak → List Metric
last_break_metrics None = []
last_break_metrics (Some last) = metrics_of_break last

-- what was done for clients, and who waits
abbrev pub client_metrics : Status → List Metric
client_metrics s =
    single (codes "truetime_sessions_total") (codes "Sessions that have ended.") Counter (Whole s.sessions) ∷
    single (codes "truetime_lines_total") (codes "Lines of clients that were answered.") Counter (Whole s.lines) ∷
    single (codes "truetime_lines_refused_total") (codes "Lines of clients that were refused.") Counter (Whole s.refused_lines) ∷
    single (codes "truetime_connections_waiting") (codes "Connections that wait for a worker.") Gauge (Whole s.waiting) ∷
    single (codes "truetime_connections_unserved_total") (codes "Connections that were closed before their session began.") Counter (Whole s.unserved) ∷
    []

-- who serves clients, and what they wait for
abbrev pub worker_metrics : Status → List Metric
worker_metrics s =
    single (codes "truetime_workers") (codes "Workers, each of which serves its sessions by turns.") Gauge (Whole s.workers) ∷
    single (codes "truetime_workers_busy") (codes "Workers that have a session.") Gauge (Whole s.busy) ∷
    single (codes "truetime_sessions_open") (codes "Sessions that are open.") Gauge (Whole s.open_sessions) ∷
    single (codes "truetime_commits_waiting") (codes "Commits that wait.") Gauge (Whole s.commits_waiting) ∷
    []

-- how long commits have waited
abbrev pub commit_waits_metric : Status → Metric
commit_waits_metric s = histogram_metric (codes "truetime_commit_wait_seconds") (codes "How long commits have waited.") s.commit_waits

-- how long answers were on their way
abbrev pub round_trips_metric : Status → Metric
round_trips_metric s = histogram_metric (codes "truetime_round_trip_seconds") (codes "The round trips of accepted answers.") s.round_trips

-- how wide the publications were
abbrev pub reading_widths_metric : Status → Metric
reading_widths_metric s = histogram_metric (codes "truetime_reading_width_seconds") (codes "The widths of the publications.") s.reading_widths

-- the histograms
abbrev pub histogram_metrics : Status → List Metric
histogram_metrics s = commit_waits_metric s ∷ round_trips_metric s ∷ reading_widths_metric s ∷ []

-- what is written for others
abbrev pub written_metrics : Status → List Metric
written_metrics s =
    single (codes "truetime_sharing") (codes "1 as long as a shared file is written, else 0.") Gauge (Flag s.sharing) ∷
    single (codes "truetime_records_left_out_total") (codes "Lines of the log, statuses and texts of evidence for which no place was free.") Counter (Whole s.left_out) ∷
    []

-- the metrics of a status, but for the addresses
abbrev pub metrics_of : Status → List Metric
metrics_of s =
    (build_metric ∷ []) ++ publication_metrics s ++ known_metrics s ++ source_metrics s ++ round_metrics s ++ (refusals_metric s ∷ [])
    ++ break_metrics s ++ last_break_metrics s.last_break ++ slewing_metrics s.slewing ++ client_metrics s ++ worker_metrics s ++ histogram_metrics s ++ written_metrics s

-- the text of a status: each metric, with the number of the machine at each sample, and that of the addresses of the sources behind them
abbrev pub status_text : Status → List (List ℕ) → List ℕ
status_text s addresses = flat_map (metric_text s.machine) (metrics_of s) ++ source_infos_text s.machine addresses
