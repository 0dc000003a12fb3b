-- What a call of a daemon's rounds reports of its last round: computed from the course of the rounds. Each list of events has the newest first.
use Rattle.std.specs.Prelude.{◌≡◌, ℕ, zero, suc, nat_lt, if◌then◌else◌, Bool, List, [], ◌∷◌, ◌++◌, replicate, slice_index_or, slice_set, Option, Some, None, Result, Ok, Err}
use Rattle.tt_span.specs.Sources.{max_sources}
use Rattle.tt_source.specs.Table.{TableState, poll_of, take_of}
use Rattle.tt_source.specs.declared.faults.SourceFault.{SourceFault}
use Rattle.tt_daemon.specs.Publication.{Publication}
use Rattle.tt_daemon.specs.declared.faults.DaemonFault.{DaemonFault}
use Rattle.tt_publish.specs.Known.{last_of}
use Rattle.tt_rounds.specs.Link.{Packet, Call, Gift, Exchange, gifts_in, ClockGives, LinkDoes}
use Rattle.tt_rounds.specs.Fusing.{Fusion, fusion_in, fusion_at}
use Rattle.tt_rounds.specs.Course.{Given, Stand, Outcome, GoesOn, Ends, Lacks, Part, each_below, next_reading, poll_at, poll_all, receive, turn, round_of}
use Rattle.tt_rounds.specs.Making.{before_rest, Leads}
use Rattle.tt_rounds.specs.declared.faults.NodeFault.{NodeFault}
use Rattle.tt_rounds.specs.declared.reports.SourceOutcome.{SourceOutcome}
use Rattle.tt_rounds.specs.declared.reports.SourceOutcome.TheVariants.{Silent, Accepted, Refused}
use Rattle.tt_rounds.specs.declared.reports.SourceReport.{SourceReport}
use Rattle.tt_rounds.specs.declared.reports.RoundReport.{RoundReport}

-- what happens in a round that is reported: the round begins; the daemon polls a source at a clock reading; it takes a packet from a source, or refuses it, at a clock reading; it fuses what it knows, or refuses to
pub data Event : Type 0 where
  Begins : Event
  Polls : ℕ → ℕ → Event
  Accepts : ℕ → ℕ → Event
  Refuses : ℕ → ℕ → SourceFault → Event
  Fuses : Result Fusion DaemonFault → Event

-- ---- what is reported of events

-- what is reported: what was fused, or why it was refused, where the round came to it; and what was done with each source
pub record Report : Type 0 where
  pub fusion : Option (Result Fusion DaemonFault)
  pub sources : List SourceReport

-- a source that was not polled, and of which nothing came
abbrev pub silent : SourceReport
silent = record { polled = None; outcome = Silent }

-- the report of no round
abbrev pub no_report : Report
no_report = record { fusion = None; sources = replicate 16 silent }

-- what came of a source by a packet that was refused: a packet that was taken stays reported
abbrev pub refused_after : SourceOutcome → ℕ → SourceFault → SourceOutcome
refused_after (Accepted received) clock fault = Accepted received
refused_after _ clock fault = Refused clock fault

-- the report in which that of a source is changed; a peer that no machine has as a source has none
abbrev pub with_source : ℕ → (SourceReport → SourceReport) → Report → Report
with_source source change report =
    if nat_lt source max_sources then record report { sources = slice_set report.sources source (change (slice_index_or report.sources source silent)) }
    else report

-- the report after an event: each round is reported anew
abbrev pub after_event : Event → Report → Report
after_event Begins report = no_report
after_event (Polls source clock) report = with_source source (λ s. record s { polled = Some clock }) report
after_event (Accepts source clock) report = with_source source (λ s. record s { outcome = Accepted clock }) report
after_event (Refuses source clock fault) report = with_source source (λ s. record s { outcome = refused_after s.outcome clock fault }) report
after_event (Fuses fusion) report = record report { fusion = Some fusion }

-- the report after events, the last of the list first
abbrev pub after_events : List Event → Report → Report
after_events [] report = report
after_events (event ∷ events) report = after_event event (after_events events report)

-- the fusion of a publication, or the refusal
abbrev pub fusion_of : Result Publication DaemonFault → Result Fusion DaemonFault
fusion_of (Ok p) = Ok (fusion_in p)
fusion_of (Err fault) = Err fault

-- the same, where there is one
abbrev pub fusion_told : Option (Result Publication DaemonFault) → Option (Result Fusion DaemonFault)
fusion_told None = None
fusion_told (Some fusion) = Some (fusion_of fusion)

-- what a report says, but for the certificate, which the rest determines
abbrev pub told_by : RoundReport → Report
told_by report = record { fusion = fusion_told report.fusion; sources = report.sources }

-- a fusion that a report has is what was published last
abbrev pub TellsLast : RoundReport → List Publication → Type 0
TellsLast report published = (p : Publication) → report.fusion ≡ Some (Ok p) → last_of published ≡ Some p

-- ---- the events of the course

-- the events of a part of a course, by where it begins and what it is given
abbrev pub PartEvents : Type 0
PartEvents = Stand → Given → List Event

-- none
unfoldable pub no_events : PartEvents
no_events stand given = []

-- the events of the next part, where the one before it goes on
abbrev pub events_after : {A : Type 0} → Outcome A → (A → PartEvents) → List Event
events_after (GoesOn value stand given) next = next value stand given
events_after (Ends fault stand given) next = []
events_after Lacks next = []

-- the events of a part, and then those of the next
unfoldable pub events_then : {A : Type 0} → Part A → PartEvents → (A → PartEvents) → PartEvents
events_then part events next stand given = events_after (part stand given) next ++ events stand given

-- the events of a part for each number below this one
unfoldable pub events_below : ℕ → (ℕ → Part (Unit {0})) → (ℕ → PartEvents) → PartEvents
events_below zero part events = no_events
events_below (suc n) part events = events_then (each_below n part) (events_below n part events) (λ _. events n)

-- a poll is told of unless the table refused it
abbrev pub polled_events : ℕ → ℕ → Result TableState SourceFault → List Event
polled_events clock source (Ok table) = Polls source clock ∷ []
polled_events clock source (Err fault) = []

-- the poll of a source
unfoldable pub poll_events : ℕ → ℕ → PartEvents
poll_events clock source stand given = polled_events clock source (poll_of stand.daemon.table source clock)

-- the polls of all sources
unfoldable pub polls_events : ℕ → PartEvents
polls_events clock stand = events_below stand.daemon.config.sources (poll_at clock) (poll_events clock) stand

-- a packet was taken, or refused
abbrev pub taken_events : ℕ → ℕ → Result TableState SourceFault → List Event
taken_events clock source (Ok table) = Accepts source clock ∷ []
taken_events clock source (Err fault) = Refuses source clock fault ∷ []

-- a packet that came at a clock reading
unfoldable pub take_events : ℕ → Packet → PartEvents
take_events clock packet stand given = taken_events clock packet.peer (take_of stand.daemon.table packet.peer clock packet.bytes)

-- what came, if something did, at the next reading
unfoldable pub next_events : Option Packet → PartEvents
next_events None = no_events
next_events (Some packet) = events_then next_reading no_events (λ clock. take_events clock packet)

-- one turn
unfoldable pub turn_events : PartEvents
turn_events = events_then receive no_events next_events

-- what is fused at a clock reading, also where it is then not published
unfoldable pub fuse_events : ℕ → PartEvents
fuse_events clock stand given = Fuses (fusion_at stand.daemon clock) ∷ []

-- what follows the polls: the turns, and a fusion
unfoldable pub turns_events : ℕ → PartEvents
turns_events turns =
    events_then (each_below turns (λ _. turn)) (events_below turns (λ _. turn) (λ _. turn_events)) (λ _.
    events_then next_reading no_events fuse_events)

-- one round: it begins, polls each source at one reading, takes what comes, and fuses
unfoldable pub round_events : ℕ → PartEvents
round_events turns stand given =
    events_then next_reading no_events (λ sent. events_then (poll_all sent) (polls_events sent) (λ _. turns_events turns)) stand given ++ Begins ∷ []

-- all rounds
unfoldable pub rounds_events : ℕ → ℕ → PartEvents
rounds_events rounds turns = events_below rounds (λ _. round_of turns) (λ _. round_events turns)

-- ---- what a call reports

-- by what was given, a part has these events: whatever exchanges were before, and whatever is given after
pub record Tells (events : PartEvents) (given : Given) (from : List Exchange → Stand) (told : List Event) : Type 0 where
  pub tells : (past : List Exchange) (rest : Given) → events (from past) (before_rest given rest) ≡ told

-- a part made the one clock and link of the other, leads from the one stand to the other, and its events make the one report of the other, by just what these gave
pub record Reports {A C L : Type 0} (gives : C → Option ℕ → C → Type 0) (does : L → Call → Gift → L → Type 0) (part : Part A) (events : PartEvents) (clock clock' : C) (link link' : L) (from to : List Exchange → Stand) (answer : Result A NodeFault) (old new : Report) : Type 0 where
  pub readings : List (Option ℕ)
  pub exchanges : List Exchange
  pub grants : List Bool
  pub told : List Event
  pub gave : ClockGives gives clock readings clock'
  pub did : LinkDoes does link exchanges link'
  pub course : Leads part (record { readings = readings; gifts = gifts_in exchanges; grants = grants }) exchanges from to answer
  pub tells : Tells events (record { readings = readings; gifts = gifts_in exchanges; grants = grants }) from told
  pub reports : new ≡ after_events told old

-- the same of a part that asks the link alone
pub record ReportsByLink {A L : Type 0} (does : L → Call → Gift → L → Type 0) (part : Part A) (events : PartEvents) (link link' : L) (from to : List Exchange → Stand) (answer : Result A NodeFault) (old new : Report) : Type 0 where
  pub exchanges : List Exchange
  pub told : List Event
  pub did : LinkDoes does link exchanges link'
  pub course : Leads part (record { readings = []; gifts = gifts_in exchanges; grants = [] }) exchanges from to answer
  pub tells : Tells events (record { readings = []; gifts = gifts_in exchanges; grants = [] }) from told
  pub reports : new ≡ after_events told old

-- the same of a part that asks for memory alone
pub record ReportsByMemory {A : Type 0} (part : Part A) (events : PartEvents) (from to : List Exchange → Stand) (answer : Result A NodeFault) (old new : Report) : Type 0 where
  pub grants : List Bool
  pub told : List Event
  pub course : Leads part (record { readings = []; gifts = []; grants = grants }) [] from to answer
  pub tells : Tells events (record { readings = []; gifts = []; grants = grants }) from told
  pub reports : new ≡ after_events told old
