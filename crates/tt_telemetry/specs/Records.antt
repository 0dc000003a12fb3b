-- The records of a round: what is counted, logged, shown and shared of it. And the status.
use Rattle.std.specs.Prelude.{◌≡◌, ℕ, ◌-◌, ◌+◌, ◌^◌, ◌++◌, ◌∷◌, [], nat_eq, nat_lt, min, map, ◌&&◌, if◌then◌else◌, Bool, true, false, List, slice_get, slice_index_or, slice_set, Option, Some, None, Result, Ok, Err, option_map, replicate, take}
use Rattle.std.specs.List.{filter, range_with_len}
use Rattle.tt_source.specs.declared.faults.SourceFault.{SourceFault}
use Rattle.tt_span.specs.Interval.{Interval}
use Rattle.tt_fuse.specs.Suspect.{AreSuspects}
use Rattle.tt_daemon.specs.declared.faults.DaemonFault.{DaemonFault}
use Rattle.tt_daemon.specs.declared.faults.DaemonFault.TheVariants as daemon
use Rattle.tt_daemon.specs.Publication.{Publication}
use Rattle.tt_publish.specs.Reading.{fused_span_of}
use Rattle.tt_publish.specs.declared.faults.PublishFault.TheVariants as publishing
use Rattle.tt_rounds.specs.Fault.{number_of as node_number_of}
use Rattle.tt_rounds.specs.Tallies.{packets_in}
use Rattle.tt_rounds.specs.declared.faults.NodeFault.{NodeFault}
use Rattle.tt_rounds.specs.declared.faults.NodeFault.TheVariants as node
use Rattle.tt_rounds.specs.declared.reports.SourceOutcome.{SourceOutcome}
use Rattle.tt_rounds.specs.declared.reports.SourceOutcome.TheVariants as source
use Rattle.tt_rounds.specs.declared.reports.SourceReport.{SourceReport}
use Rattle.tt_rounds.specs.declared.rounds.Rounds.{Rounds}
use Rattle.tt_rounds.specs.Reports.{silent as silent_report}
use Rattle.tt_shared.specs.declared.slots.SharedSpan.{SharedSpan}
use Rattle.tt_status.specs.declared.lines.LogEvent.{LogEvent}
use Rattle.tt_status.specs.declared.lines.LogEvent.TheVariants.{AnswersRefused, FirstPublication, ClockBack, FusionRefused, RoundFailed, SourceAnswers, SourceSilent, SourceSuspect, SourceUnsent}
use Rattle.tt_status.specs.declared.lines.RefusedFusion.TheVariants as refusal
use Rattle.tt_status.specs.Status.{refusal_place}
use Rattle.tt_status.specs.declared.digits.Difference.{Difference}
use Rattle.tt_sharing.specs.Share.{shared_of}
use Rattle.tt_telemetry.specs.declared.records.About.{About}
use Rattle.tt_telemetry.specs.declared.records.About.TheVariants.{Answers, Silent, Suspect, Unsent}
use Rattle.tt_telemetry.specs.declared.records.Events.{Events}
use Rattle.tt_telemetry.specs.declared.records.Ends.{Ends}
use Rattle.tt_telemetry.specs.declared.records.Outcome.{Outcome}
use Rattle.tt_telemetry.specs.declared.records.Outcome.TheVariants.{Published, Refused, Failed, Nothing}
use Rattle.tt_sharing.specs.declared.shares.RoundTerms.{RoundTerms}
use Rattle.tt_telemetry.specs.declared.records.Shown.{Shown}
use Rattle.tt_telemetry.specs.declared.records.SourceTally.{SourceTally}
use Rattle.tt_telemetry.specs.declared.records.Totals.{Totals}
use Rattle.tt_telemetry.specs.declared.records.UnsentPackets.{UnsentPackets}

-- one more, up to the greatest number of 64 bits
abbrev pub one_more : ℕ → ℕ
one_more n = min (n + 1) (2 ^ 64 - 1)

-- ---- what a round came to

-- the publication of a round, if it made one: what it fused is published where no fault ended it
abbrev pub published_in : Result Rounds NodeFault → Option (Result Publication DaemonFault) → Option Publication
published_in (Ok did) (Some (Ok p)) = Some p
published_in did fusion = None

-- the width of a publication
abbrev pub width_of : Publication → ℕ
width_of p = p.span.hi - p.span.lo

-- what a round came to
abbrev pub outcome_of : Result Rounds NodeFault → Option (Result Publication DaemonFault) → Outcome
outcome_of (Err fault) fusion = Failed fault
outcome_of (Ok did) (Some (Ok p)) = Published (width_of p)
outcome_of (Ok did) (Some (Err fault)) = Refused fault
outcome_of (Ok did) None = Nothing

-- how many packets a round refused, where no fault ended it
abbrev pub refused_answers : Result Rounds NodeFault → ℕ
refused_answers (Ok did) = min (packets_in did.tally.packets) (2 ^ 64 - 1)
refused_answers (Err fault) = 0

-- the round ended because its link failed
abbrev pub has_link_failed : Outcome → Bool
has_link_failed (Failed node.LinkFailed) = true
has_link_failed outcome = false

-- ---- what is counted

-- nothing is counted of a source
abbrev pub no_source_tally : SourceTally
no_source_tally = record { accepted = 0; refused = 0; silent = 0; refusals = replicate 7 0; unheard = false }

-- one more refusal for a reason is counted
abbrev pub refusals_after : List ℕ → SourceFault → List ℕ
refusals_after refusals fault = slice_set refusals (refusal_place fault) (one_more (slice_index_or refusals (refusal_place fault) 0))

-- what came of a source in one more round is counted
abbrev pub counted_source : SourceOutcome → SourceTally → SourceTally
counted_source source.Silent t = record t { silent = one_more t.silent; unheard = true }
counted_source (source.Accepted received) t = record t { accepted = one_more t.accepted; unheard = false }
counted_source (source.Refused received fault) t = record t { refused = one_more t.refused; refusals = refusals_after t.refusals fault; unheard = true }

-- what is reported of a source
abbrev pub report_at : List SourceReport → ℕ → SourceReport
report_at sources k = slice_index_or sources k silent_report

-- what is counted of a source
abbrev pub tally_at : List SourceTally → ℕ → SourceTally
tally_at each k = slice_index_or each k no_source_tally

-- what is counted of each source after one more round
unfoldable pub each_after : List SourceTally → List SourceReport → List SourceTally
each_after each sources = map (λ k. counted_source (report_at sources k).outcome (tally_at each k)) (range_with_len 0 16)

-- a round, and the answers that were refused in it
abbrev pub with_round : Totals → ℕ → List SourceReport → Totals
with_round t refused sources = record t { rounds = one_more t.rounds; refused_answers = min (t.refused_answers + refused) (2 ^ 64 - 1); each = each_after t.each sources }

-- what the round came to is counted
abbrev pub counted : Totals → Outcome → Totals
counted t (Published width) = record t { published = one_more t.published }
counted t (Refused daemon.NoPoint) = record t { no_point = one_more t.no_point }
counted t (Refused daemon.Unknown) = record t { too_few = one_more t.too_few }
counted t (Refused daemon.ClockBack) = t
counted t (Failed fault) = t
counted t Nothing = t

-- what is counted after one more round
abbrev pub totals_after : Totals → Outcome → ℕ → List SourceReport → Totals
totals_after t outcome refused sources = counted (with_round t refused sources) outcome

-- ---- what is shown and shared

-- how far a time lies from another one
abbrev pub difference_of : ℕ → ℕ → Difference
difference_of time from = if nat_lt time from then record { below = true; size = from - time } else record { below = false; size = time - from }

-- how far the ends of a span lie from those of the fused span
abbrev pub ends_from : Interval → Interval → Ends
ends_from fused span = record { lower = difference_of span.lo fused.lo; upper = difference_of span.hi fused.hi }

-- how far those of source k do, if there is such a source
abbrev pub ends_at : List Interval → Interval → ℕ → Option Ends
ends_at spans fused k = option_map (ends_from fused) (slice_get spans k)

-- how far those of each source do
unfoldable pub ends_of : List Interval → Interval → List (Option Ends)
ends_of spans fused = map (ends_at spans fused) (range_with_len 0 16)

-- what is shown of a publication: what its readers see, its suspects, and the ends of its sources' spans; and nothing where there is none
abbrev pub Shows : Option Publication → Option Shown → Type 0
Shows None shown = shown ≡ None
Shows (Some p) None = ⊥
Shows (Some p) (Some shown) = (shown.fused ≡ fused_span_of p) × AreSuspects p.spans p.span shown.suspects.items × (shown.ends ≡ ends_of p.spans p.span)

-- the suspects of what is shown
abbrev pub suspects_in : Option Shown → List ℕ
suspects_in (Some shown) = shown.suspects.items
suspects_in None = []

-- what other processes read of the publication of a round, which rests on answers as new as this clock reading: it has the number after those before it
abbrev pub span_of : Option Publication → Totals → RoundTerms → ℕ → Option SharedSpan
span_of published t terms needed =
    option_map (λ p. shared_of p terms.epoch (one_more t.published) needed terms.pauses terms.config.drift terms.max_width) published

-- ---- what is logged

-- the events in a list of them
abbrev pub events_in : Events → List LogEvent
events_in events = take events.count events.all

-- the numbers below n for which a test holds, ascending
abbrev pub numbers_where : (ℕ → Bool) → ℕ → List ℕ
numbers_where test n = filter test (range_with_len 0 n)

-- no packet came from it
abbrev pub is_silent : SourceOutcome → Bool
is_silent source.Silent = true
is_silent outcome = false

-- an answer of it was accepted
abbrev pub is_accepted : SourceOutcome → Bool
is_accepted (source.Accepted received) = true
is_accepted outcome = false

-- an answer of a source was accepted, and none was in the round before
abbrev pub has_answered : SourceTally → SourceReport → Bool
has_answered t report = t.unheard && is_accepted report.outcome

abbrev pub answers_again : List SourceTally → List SourceReport → ℕ → Bool
answers_again each sources k = has_answered (tally_at each k) (report_at sources k)

-- a packet to a source could not be sent since the last round
abbrev pub has_unsent : UnsentPackets → ℕ → Bool
has_unsent unsent k = nat_lt (slice_index_or unsent.before k 0) (slice_index_or unsent.after k 0)

-- what is logged of a source
abbrev pub event_about : About → ℕ → LogEvent
event_about Suspect k = SourceSuspect k
event_about Silent k = SourceSilent k
event_about Unsent k = SourceUnsent k
event_about Answers k = SourceAnswers k

-- what is logged of a fusion that was refused
abbrev pub refusal_event : DaemonFault → LogEvent
refusal_event daemon.ClockBack = ClockBack
refusal_event daemon.NoPoint = FusionRefused refusal.NoPoint
refusal_event daemon.Unknown = FusionRefused refusal.TooFewKnown

-- what is logged of what a round came to, after so many publications
abbrev pub event_of : Outcome → ℕ → Option LogEvent
event_of (Published width) published = if nat_eq published 0 then Some (FirstPublication width) else None
event_of (Refused fault) published = Some (refusal_event fault)
event_of (Failed node.ClockFailed) published = Some ClockBack
event_of (Failed (node.Publish publishing.ClockBack)) published = Some ClockBack
event_of (Failed fault) published = Some (RoundFailed (node_number_of fault))
event_of Nothing published = None

-- the answers that were refused are logged, if there are any
abbrev pub refused_event : ℕ → Option LogEvent
refused_event refused = if nat_lt 0 refused then Some (AnswersRefused refused) else None

-- an event, if there is one
abbrev pub some_event : Option LogEvent → List LogEvent
some_event (Some event) = event ∷ []
some_event None = []

-- what is logged of a round, in this order: the suspects of its fusion, what it came to, the answers that were refused, the sources that were silent, those to which a packet could not be sent, and those that answer again
abbrev pub events_of : List ℕ → Option LogEvent → Option LogEvent → List ℕ → List ℕ → List ℕ → List LogEvent
events_of suspects outcome refused silent unsent answering =
    map (event_about Suspect) suspects ++ some_event outcome ++ some_event refused ++ map (event_about Silent) silent ++ map (event_about Unsent) unsent
    ++ map (event_about Answers) answering
