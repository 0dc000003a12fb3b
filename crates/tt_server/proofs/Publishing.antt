-- What a round published, by what it answered and what it reports: its fusion, where no fault ended it.
use Rattle.std.proofs.Common.{◌≡◌, ℕ, suc, zero, Bool, true, false, cond, List, [], ◌∷◌, ◌++◌, map, Option, Some, None, Result, Ok, Err, refl, sym, ap, subst, ◌∙◌}
use Rattle.std.specs.Prelude.{nat_lt, option_map, slice_index_or, slice_set}
use Rattle.tt_span.specs.Sources.{max_sources}
use Rattle.tt_source.specs.Table.{TableState, poll_of, take_of}
use Rattle.tt_source.specs.declared.faults.SourceFault.{SourceFault}
use Rattle.tt_daemon.specs.Daemon.{DaemonState}
use Rattle.tt_daemon.specs.Publication.{Publication}
use Rattle.tt_daemon.specs.declared.faults.DaemonFault.{DaemonFault}
use Rattle.tt_publish.specs.Reading.{fused_span_of}
use Rattle.tt_publish.specs.declared.faults.PublishFault.TheVariants as publishes
use Rattle.tt_publish.specs.declared.readings.FusedSpan.{FusedSpan}
use Rattle.tt_rounds.specs.Link.{Packet, Call, Gift, Went, Came, NothingCame, Broke, Send, Receive, Exchange, gifts_in}
use Rattle.tt_rounds.specs.Fusing.{Fusion, fusion_at, fusion_in, fusions_in, goes_back}
use Rattle.tt_rounds.specs.Course.{Given, Stand, Outcome, GoesOn, Ends, Lacks, Part, ◌>>=◌, after_outcome, nothing_done, each_below, poll_at, poll_all, take_at, take_next, fuse_at, send_polled, put_table, send, send_part, receive, packet_part, next_gift, gift_from, count_refusal, put_taken, publish_fused, publish, publish_granted, request_of, next_reading, reading_from, turn, round_of, rounds_of}
use Rattle.tt_rounds.specs.Making.{answer_of, before_rest, part_with, stand_of}
use Rattle.tt_rounds.specs.Reports.{Event, Begins, Report, Reports, PartEvents, after_event, after_events, events_after, events_below, events_then, fuse_events, fusion_of, fusion_told, next_events, no_events, no_report, poll_events, polled_events, polls_events, refused_after, round_events, rounds_events, silent, take_events, taken_events, told_by, turn_events, turns_events, with_source}
use Rattle.tt_rounds.specs.Tallies.{no_tally, one_poll}
use Rattle.tt_rounds.specs.declared.faults.NodeFault.{NodeFault}
use Rattle.tt_rounds.specs.declared.faults.NodeFault.TheVariants as node
use Rattle.tt_rounds.specs.declared.reports.RoundReport.{RoundReport}
use Rattle.tt_rounds.specs.declared.reports.SourceOutcome.TheVariants.{Accepted}
use Rattle.tt_rounds.specs.declared.reports.SourceReport.{SourceReport}
use Rattle.tt_rounds.specs.declared.rounds.Rounds.{Rounds}
use Rattle.tt_rounds.specs.declared.tallies.Tally.{Tally}
use Rattle.tt_consistency.specs.Steps.{fused_span}
use Rattle.tt_telemetry.specs.Records.{published_in}
use Rattle.tt_server.specs.Break.{came_in, with_came}
use Rattle.tt_server.proofs.Calls.{spans-of}

-- ---- parts that publish and fuse nothing

-- after a part these fusions are published
abbrev HasPublished : {A : Type 0} → List Fusion → Outcome A → Type 0
HasPublished fusions (GoesOn value stand given) = stand.published ≡ fusions
HasPublished fusions (Ends fault stand given) = stand.published ≡ fusions
HasPublished fusions Lacks = Unit {0}

-- events of which none tells of a fusion
abbrev Hush : List Event → Type 0
Hush events = (report : Report) → (after_events events report).fusion ≡ report.fusion

-- a part publishes nothing and fuses nothing
abbrev IsQuiet : {A : Type 0} → Part A → PartEvents → Type 0
IsQuiet part events = (stand : Stand) (given : Given) → HasPublished stand.published (part stand given) × Hush (events stand given)

after-both : (events earlier : List Event) (report : Report) → after_events (events ++ earlier) report ≡ after_events events (after_events earlier report)
after-both [] earlier report = refl
after-both (event ∷ events) earlier report = ap (after_event event) (after-both events earlier report)

hush-both : (events earlier : List Event) → Hush events → Hush earlier → Hush (events ++ earlier)
hush-both events earlier later first report =
    ap (λ (r : Report). r.fusion) (after-both events earlier report) ∙ later (after_events earlier report) ∙ first report

then-quiet : {A B : Type 0} (fusions : List Fusion) (outcome : Outcome A) (next : A → Part B) (events : List Event) (rest : A → PartEvents)
    → HasPublished fusions outcome → Hush events → ((value : A) → IsQuiet (next value) (rest value))
    → HasPublished fusions (after_outcome outcome next) × Hush (events_after outcome rest ++ events)
then-quiet fusions (GoesOn value stand given) next events rest same hush quiet =
    let later = quiet value stand given in
    (subst (λ (f : List Fusion). HasPublished f (next value stand given)) same later.0, hush-both (rest value stand given) events later.1 hush)
then-quiet fusions (Ends fault stand given) next events rest same hush quiet = (same, hush)
then-quiet fusions Lacks next events rest same hush quiet = (tt, hush)

quiet-then : {A B : Type 0} (part : Part A) (next : A → Part B) (events : PartEvents) (rest : A → PartEvents) → IsQuiet part events → ((value : A) → IsQuiet (next value) (rest value)) → IsQuiet (part >>= next) (events_then part events rest)
unfolding ◌>>=◌ events_then
quiet-then part next events rest first later stand given =
    let is = first stand given in
    then-quiet stand.published (part stand given) next (events stand given) rest is.0 is.1 later

quiet-below : (n : ℕ) (part : ℕ → Part (Unit {0})) (events : ℕ → PartEvents) → ((k : ℕ) → IsQuiet (part k) (events k)) → IsQuiet (each_below n part) (events_below n part events)
unfolding each_below events_below no_events
quiet-below zero part events each stand given = (refl, λ report. refl)
quiet-below (suc n) part events each stand given =
    quiet-then (each_below n part) (λ _. part n) (events_below n part events) (λ _. events n) (quiet-below n part events each) (λ _. each n) stand given

quiet-read : IsQuiet next_reading no_events
unfolding next_reading no_events
quiet-read stand given = (by_readings given.readings, λ report. refl)
  where
    by_readings : (readings : List (Option ℕ)) → HasPublished stand.published (reading_from readings stand given)
    by_readings [] = tt
    by_readings (None ∷ readings) = refl
    by_readings (Some clock ∷ readings) = refl

-- what is told of a source tells of no fusion
with-source : (source : ℕ) (change : SourceReport → SourceReport) (report : Report) → (with_source source change report).fusion ≡ report.fusion
with-source source change report = by_place (nat_lt source max_sources)
  where
    by_place : (is : Bool) → (cond is (record report { sources = slice_set report.sources source (change (slice_index_or report.sources source silent)) }) report).fusion ≡ report.fusion
    by_place true = refl
    by_place false = refl

-- ---- a poll
polled-hush : (clock source : ℕ) (made : Result TableState SourceFault) → Hush (polled_events clock source made)
polled-hush clock source (Ok table) report = with-source source (λ s. record s { polled = Some clock }) report
polled-hush clock source (Err fault) report = refl

polled-quiet : (source : ℕ) (stand : Stand) (made : Result TableState SourceFault) (given : Given) → HasPublished stand.published (send_polled source made stand given)
unfolding send_polled put_table send next_gift ◌>>=◌
polled-quiet source stand (Err fault) given = refl
polled-quiet source stand (Ok table) given = by_gifts given.gifts
  where
    by_gifts : (gifts : List Gift)
        → HasPublished stand.published (after_outcome (gift_from gifts (Send (record { peer = source; bytes = request_of table source })) (record stand { daemon = record stand.daemon { table = table }; tally = one_poll stand.tally }) given) send_part)
    by_gifts [] = tt
    by_gifts (Went ∷ gifts) = refl
    by_gifts (Broke ∷ gifts) = refl
    by_gifts (NothingCame ∷ gifts) = tt
    by_gifts (Came packet ∷ gifts) = tt

quiet-poll : (clock source : ℕ) → IsQuiet (poll_at clock source) (poll_events clock source)
unfolding poll_at poll_events
quiet-poll clock source stand given =
    (polled-quiet source stand (poll_of stand.daemon.table source clock) given, polled-hush clock source (poll_of stand.daemon.table source clock))

quiet-polls : (clock : ℕ) → IsQuiet (poll_all clock) (polls_events clock)
unfolding poll_all polls_events
quiet-polls clock stand given = quiet-below stand.daemon.config.sources (poll_at clock) (poll_events clock) (λ source. quiet-poll clock source) stand given

-- ---- a packet
quiet-receive : IsQuiet receive no_events
unfolding receive next_gift ◌>>=◌ no_events
quiet-receive stand given = (by_gifts given.gifts, λ report. refl)
  where
    by_gifts : (gifts : List Gift) → HasPublished stand.published (after_outcome (gift_from gifts Receive stand given) packet_part)
    by_gifts [] = tt
    by_gifts (Went ∷ gifts) = tt
    by_gifts (Came packet ∷ gifts) = refl
    by_gifts (NothingCame ∷ gifts) = refl
    by_gifts (Broke ∷ gifts) = refl

taken-quiet : (stand : Stand) (made : Result TableState SourceFault) (given : Given) → HasPublished stand.published (put_taken made stand given)
unfolding put_taken put_table count_refusal
taken-quiet stand (Ok table) given = refl
taken-quiet stand (Err fault) given = refl

taken-hush : (clock source : ℕ) (made : Result TableState SourceFault) → Hush (taken_events clock source made)
taken-hush clock source (Ok table) report = with-source source (λ s. record s { outcome = Accepted clock }) report
taken-hush clock source (Err fault) report = with-source source (λ s. record s { outcome = refused_after s.outcome clock fault }) report

quiet-take : (clock : ℕ) (packet : Packet) → IsQuiet (take_at clock packet) (take_events clock packet)
unfolding take_at take_events
quiet-take clock packet stand given =
    (taken-quiet stand (take_of stand.daemon.table packet.peer clock packet.bytes) given, taken-hush clock packet.peer (take_of stand.daemon.table packet.peer clock packet.bytes))

quiet-next : (came : Option Packet) → IsQuiet (take_next came) (next_events came)
unfolding take_next next_events no_events
quiet-next None stand given = (refl, λ report. refl)
quiet-next (Some packet) stand given =
    quiet-then next_reading (λ clock. take_at clock packet) no_events (λ clock. take_events clock packet) quiet-read (λ clock. quiet-take clock packet) stand given

quiet-turn : IsQuiet turn turn_events
unfolding turn turn_events
quiet-turn stand given = quiet-then receive take_next no_events next_events quiet-receive quiet-next stand given

-- ---- a part that fuses at its end

-- the fusions with one behind, if there is one
abbrev with_fused : List Fusion → Option (Result Fusion DaemonFault) → List Fusion
with_fused fusions None = fusions
with_fused fusions (Some (Ok fusion)) = fusions ++ fusion ∷ []
with_fused fusions (Some (Err fault)) = fusions

-- after a part what is told as fused is published, unless a fault ended it
abbrev HasFused : {A : Type 0} → List Fusion → Option (Result Fusion DaemonFault) → Outcome A → Type 0
HasFused fusions told (GoesOn value stand given) = stand.published ≡ with_fused fusions told
HasFused fusions told (Ends fault stand given) = stand.published ≡ fusions
HasFused fusions told Lacks = Unit {0}

abbrev Fuses : {A : Type 0} → Part A → PartEvents → Type 0
Fuses part events = (stand : Stand) (given : Given) (report : Report) → HasFused stand.published (after_events (events stand given) report).fusion (part stand given)

then-fused : {A B : Type 0} (fusions : List Fusion) (outcome : Outcome A) (next : A → Part B) (events : List Event) (rest : A → PartEvents) (report : Report)
    → HasPublished fusions outcome → ((value : A) → Fuses (next value) (rest value))
    → HasFused fusions (after_events (events_after outcome rest ++ events) report).fusion (after_outcome outcome next)
then-fused fusions (GoesOn value stand given) next events rest report same fuses =
    subst (λ (f : List Fusion). HasFused f (after_events (rest value stand given ++ events) report).fusion (next value stand given)) same
    (subst (λ (r : Report). HasFused stand.published r.fusion (next value stand given)) (sym (after-both (rest value stand given) events report))
    (fuses value stand given (after_events events report)))
then-fused fusions (Ends fault stand given) next events rest report same fuses = same
then-fused fusions Lacks next events rest report same fuses = tt

fuses-then : {A B : Type 0} (part : Part A) (next : A → Part B) (events : PartEvents) (rest : A → PartEvents) → IsQuiet part events → ((value : A) → Fuses (next value) (rest value)) → Fuses (part >>= next) (events_then part events rest)
unfolding ◌>>=◌ events_then
fuses-then part next events rest first later stand given report =
    then-fused stand.published (part stand given) next (events stand given) rest report (first stand given).0 later

published-fused : (stand : Stand) (given : Given) (fusion : Fusion) (back used : Bool) (grants : List Bool)
    → HasFused stand.published (Some (Ok fusion)) (cond back (Ends (node.Publish publishes.ClockBack) stand given) (cond used (Ends (node.Publish publishes.UsedUp) stand given) (publish_granted grants fusion stand given)))
published-fused stand given fusion true used grants = refl
published-fused stand given fusion false true grants = refl
published-fused stand given fusion false false [] = tt
published-fused stand given fusion false false (true ∷ grants) = refl
published-fused stand given fusion false false (false ∷ grants) = refl

fused-fused : (stand : Stand) (given : Given) (made : Result Fusion DaemonFault) → HasFused stand.published (Some made) (publish_fused made stand given)
unfolding publish_fused publish count_refusal
fused-fused stand given (Ok fusion) = published-fused stand given fusion _ _ given.grants
fused-fused stand given (Err fault) = refl

fuses-fuse : (clock : ℕ) → Fuses (fuse_at clock) (fuse_events clock)
unfolding fuse_at fuse_events
fuses-fuse clock stand given report = fused-fused stand given (fusion_at stand.daemon clock)

fuses-turns : (turns : ℕ) → Fuses (each_below turns (λ _. turn) >>= (λ _. next_reading >>= fuse_at)) (turns_events turns)
unfolding turns_events
fuses-turns turns stand given report =
    fuses-then (each_below turns (λ _. turn)) (λ _. next_reading >>= fuse_at) (events_below turns (λ _. turn) (λ _. turn_events)) (λ _. events_then next_reading no_events fuse_events)
    (quiet-below turns (λ _. turn) (λ _. turn_events) (λ _. quiet-turn))
    (λ _. fuses-then next_reading fuse_at no_events fuse_events quiet-read fuses-fuse) stand given report

fuses-round : (turns : ℕ) → Fuses (round_of turns) (round_events turns)
unfolding round_of round_events
fuses-round turns stand given report =
    let polled : Fuses (next_reading >>= (λ sent. poll_all sent >>= (λ _. each_below turns (λ _. turn) >>= (λ _. next_reading >>= fuse_at)))) (events_then next_reading no_events (λ sent. events_then (poll_all sent) (polls_events sent) (λ _. turns_events turns))) =
    fuses-then next_reading (λ sent. poll_all sent >>= (λ _. each_below turns (λ _. turn) >>= (λ _. next_reading >>= fuse_at))) no_events (λ sent. events_then (poll_all sent) (polls_events sent) (λ _. turns_events turns))
    quiet-read
    (λ sent. fuses-then (poll_all sent) (λ _. each_below turns (λ _. turn) >>= (λ _. next_reading >>= fuse_at)) (polls_events sent) (λ _. turns_events turns) (quiet-polls sent) (λ _. fuses-turns turns)) in
    let all : List Event = events_then next_reading no_events (λ sent. events_then (poll_all sent) (polls_events sent) (λ _. turns_events turns)) stand given in
    subst (λ (r : Report). HasFused stand.published r.fusion (round_of turns stand given)) (sym (after-both all (Begins ∷ []) report)) (polled stand given (after_events (Begins ∷ []) report))

fuses-rounds : (turns : ℕ) → Fuses (rounds_of 1 turns) (rounds_events 1 turns)
unfolding rounds_of rounds_events each_below events_below no_events
fuses-rounds turns stand given report =
    fuses-then nothing_done (λ _. round_of turns) no_events (λ _. round_events turns) (λ stand given. (refl, λ report. refl)) (λ _. fuses-round turns) stand given report

-- ---- a call of one round

-- what was published by an answer and what is told
abbrev fused_by : List Fusion → Option (Result Fusion DaemonFault) → Result (Unit {0}) NodeFault → List Fusion
fused_by fusions told (Ok done) = with_fused fusions told
fused_by fusions told (Err fault) = fusions

answered-fused : (fusions : List Fusion) (told : Option (Result Fusion DaemonFault)) (answer : Result (Unit {0}) NodeFault) (stand : Stand) (given : Given) → HasFused fusions told (part_with answer stand given) → stand.published ≡ fused_by fusions told answer
answered-fused fusions told (Ok done) stand given has = has
answered-fused fusions told (Err fault) stand given has = has

-- what a call of one round published
pub reported-fused : {C L : Type 0} (gives : C → Option ℕ → C → Type 0) (does : L → Call → Gift → L → Type 0) (turns : ℕ) (clock clock' : C) (link link' : L)
    (daemon daemon' : DaemonState) (fusions fusions' : List Fusion) (tally tally' : Tally) (answer : Result (Unit {0}) NodeFault) (new : Report)
    → Reports gives does (rounds_of 1 turns) (rounds_events 1 turns) clock clock' link link' (stand_of daemon fusions tally) (stand_of daemon' fusions' tally') answer no_report new
    → fusions' ≡ fused_by fusions new.fusion answer
reported-fused gives does turns clock clock' link link' daemon daemon' fusions fusions' tally tally' answer new made =
    let given : Given = record { readings = made.readings; gifts = gifts_in made.exchanges; grants = made.grants } in
    let rest : Given = record { readings = []; gifts = []; grants = [] } in
    let from : Stand = stand_of daemon fusions tally [] in
    let to : Stand = stand_of daemon' fusions' tally' ([] ++ made.exchanges) in
    let fused : HasFused fusions (after_events (rounds_events 1 turns from (before_rest given rest)) no_report).fusion (rounds_of 1 turns from (before_rest given rest)) = fuses-rounds turns from (before_rest given rest) no_report in
    let led : HasFused fusions (after_events (rounds_events 1 turns from (before_rest given rest)) no_report).fusion (part_with answer to rest) =
    subst (HasFused fusions (after_events (rounds_events 1 turns from (before_rest given rest)) no_report).fusion) (made.course.leads [] rest) fused in
    let told : HasFused fusions (after_events made.told no_report).fusion (part_with answer to rest) =
    subst (λ (events : List Event). HasFused fusions (after_events events no_report).fusion (part_with answer to rest)) (made.tells.tells [] rest) led in
    answered-fused fusions new.fusion answer to rest (subst (λ (r : Report). HasFused fusions r.fusion (part_with answer to rest)) (sym made.reports) told)

map-behind : (fusions : List Fusion) (fusion : Fusion) → map fused_span (fusions ++ fusion ∷ []) ≡ map fused_span fusions ++ fused_span fusion ∷ []
map-behind [] fusion = refl
map-behind (first ∷ fusions) fusion = ap (λ (spans : List FusedSpan). fused_span first ∷ spans) (map-behind fusions fusion)

spans-fused : (fusions : List Fusion) (did : Result Rounds NodeFault) (fusion : Option (Result Publication DaemonFault))
    → map fused_span (fused_by fusions (fusion_told fusion) (answer_of did)) ≡ with_came (map fused_span fusions) (came_in did fusion)
spans-fused fusions (Err fault) fusion = refl
spans-fused fusions (Ok did) None = refl
spans-fused fusions (Ok did) (Some (Ok p)) = map-behind fusions (fusion_in p)
spans-fused fusions (Ok did) (Some (Err fault)) = refl

-- what readers see of what a call of one round published
pub reported-spans : {C L : Type 0} (gives : C → Option ℕ → C → Type 0) (does : L → Call → Gift → L → Type 0) (turns : ℕ) (clock clock' : C) (link link' : L)
    (daemon daemon' : DaemonState) (items items' : List Publication) (tally tally' : Tally) (did : Result Rounds NodeFault) (report : RoundReport)
    → Reports gives does (rounds_of 1 turns) (rounds_events 1 turns) clock clock' link link' (stand_of daemon (fusions_in items) tally) (stand_of daemon' (fusions_in items') tally') (answer_of did) no_report (told_by report)
    → map fused_span_of items' ≡ with_came (map fused_span_of items) (came_in did report.fusion)
reported-spans gives does turns clock clock' link link' daemon daemon' items items' tally tally' did report made =
    sym (spans-of items')
    ∙ ap (map fused_span) (reported-fused gives does turns clock clock' link link' daemon daemon' (fusions_in items) (fusions_in items') tally tally' (answer_of did) (told_by report) made)
    ∙ spans-fused (fusions_in items) did report.fusion
    ∙ ap (λ (spans : List FusedSpan). with_came spans (came_in did report.fusion)) (spans-of items)
