-- The clock readings of the steps of calls do not fall, since those that the clock gave do not.
use Rattle.std.proofs.Common.{◌≡◌, ℕ, ◌≤◌, suc, zero, Bool, true, false, cond, List, [], ◌∷◌, ◌++◌, Option, Some, None, Result, Ok, Err, refl, sym, ◌∙◌, subst, arith}
use Rattle.std.specs.List.{AllByRecursion}
use Rattle.tt_source.specs.Table.{TableState, is_back, poll_of, take_of}
use Rattle.tt_source.specs.declared.faults.SourceFault.{SourceFault}
use Rattle.tt_daemon.specs.declared.faults.DaemonFault.{DaemonFault}
use Rattle.tt_publish.specs.declared.faults.PublishFault.TheVariants as publishes
use Rattle.tt_rounds.specs.Link.{Packet, Gift, Went, Came, NothingCame, Broke, Send, Receive}
use Rattle.tt_rounds.specs.Fusing.{Fusion, fusion_at}
use Rattle.tt_rounds.specs.Course.{Given, Stand, Outcome, GoesOn, Ends, Lacks, Part, ◌>>=◌, after_outcome, each_below, poll_at, poll_all, take_at, take_next, fuse_at, send_polled, put_table, send, send_part, receive, packet_part, next_gift, gift_from, count_refusal, put_taken, publish_fused, publish, publish_granted, request_of, next_reading, reading_from, turn, round_of, rounds_of}
use Rattle.tt_rounds.specs.Tallies.{one_poll}
use Rattle.tt_rounds.specs.declared.faults.NodeFault.TheVariants as node
use Rattle.tt_consistency.specs.Calls.{RoundsCall, calls_steps, Rise, RiseIn}
use Rattle.tt_consistency.specs.CourseSteps.{PartSteps, no_steps, steps_after, steps_then, steps_below, polled_steps, poll_steps, is_looked_at, take_steps, next_steps, turn_steps, step_if_goes_on, fuse_steps, round_steps, rounds_steps}
use Rattle.tt_consistency.specs.Rising.{StepsRise, BeginFrom, IsInTime, TimesRise}
use Rattle.tt_consistency.specs.Steps.{Step, Polls, Takes, Fuses}
use Rattle.tt_consistency.specs.Timeline.{Timed, Happening, Does, Answers, IsTimeline, IsForward, clock_of_step, last_shown, shows_after, step_of, steps_told}

-- ---- readings and steps that rise
rise-le : (from to : ℕ) (readings : List (Option ℕ)) → Rise from readings to → from ≤ to
rise-le from to [] rise = omega (arith, rise)
rise-le from to (None ∷ readings) rise = rise-le from to readings rise
rise-le from to (Some clock ∷ readings) rise = let later = rise-le clock to readings rise.1 in omega (arith, rise.0, later)

steps-to : (from mid to : ℕ) (steps : List Step) → StepsRise from steps mid → mid ≤ to → StepsRise from steps to
steps-to from mid to [] rise more = omega (arith, rise, more)
steps-to from mid to (step ∷ steps) rise more = (omega (arith, rise.0, more), rise.1)

steps-both : (from mid to : ℕ) (steps more : List Step) → StepsRise from steps mid → StepsRise mid more to → StepsRise from (more ++ steps) to
steps-both from mid to steps [] first later = steps-to from mid to steps first later
steps-both from mid to steps (step ∷ more) first later = (later.0, steps-both from mid (clock_of_step step) steps more first later.1)

-- ---- what comes of a part: from the one reading up to where it goes on its steps rise, and from there on the readings that are left rise
abbrev Climbs : {A : Type 0} → ℕ → ℕ → List Step → Outcome A → Type 0
Climbs from to steps (GoesOn value stand given) = (mid : ℕ) × StepsRise from steps mid × Rise mid given.readings to
Climbs from to steps (Ends fault stand given) = StepsRise from steps to
Climbs from to steps Lacks = StepsRise from steps to

-- all steps of a part are made at one reading, and it takes none
abbrev Stays : {A : Type 0} → ℕ → List (Option ℕ) → List Step → Outcome A → Type 0
Stays clock readings steps (GoesOn value stand given) = StepsRise clock steps clock × (given.readings ≡ readings)
Stays clock readings steps (Ends fault stand given) = StepsRise clock steps clock
Stays clock readings steps Lacks = StepsRise clock steps clock

-- wherever a part begins, the readings rise from this one on, and then it climbs
abbrev ClimbsFrom : {A : Type 0} → ℕ → ℕ → Part A → PartSteps → Type 0
ClimbsFrom from to part steps = (stand : Stand) (given : Given) → Rise from given.readings to → Climbs from to (steps stand given) (part stand given)

-- from each reading on
abbrev ClimbsAll : {A : Type 0} → ℕ → Part A → PartSteps → Type 0
ClimbsAll to part steps = (from : ℕ) → ClimbsFrom from to part steps

abbrev StaysAt : {A : Type 0} → ℕ → Part A → PartSteps → Type 0
StaysAt clock part steps = (stand : Stand) (given : Given) → Stays clock given.readings (steps stand given) (part stand given)

-- ---- one part, and then the next
extended : {B : Type 0} (from mid to : ℕ) (steps more : List Step) (outcome : Outcome B) → StepsRise from steps mid → Climbs mid to more outcome → Climbs from to (more ++ steps) outcome
extended from mid to steps more (GoesOn value stand given) first later = (later.0, steps-both from mid later.0 steps more first later.1, later.2)
extended from mid to steps more (Ends fault stand given) first later = steps-both from mid to steps more first later
extended from mid to steps more Lacks first later = steps-both from mid to steps more first later

then_outcome : {A B : Type 0} (from to : ℕ) (steps : List Step) (outcome : Outcome A) (next : A → Part B) (rest : A → PartSteps) → Climbs from to steps outcome → ((value : A) → ClimbsAll to (next value) (rest value))
    → Climbs from to (steps_after outcome rest ++ steps) (after_outcome outcome next)
then_outcome from to steps (GoesOn value stand given) next rest first later =
    extended from first.0 to steps (rest value stand given) (next value stand given) first.1 (later value first.0 stand given first.2)
then_outcome from to steps (Ends fault stand given) next rest first later = first
then_outcome from to steps Lacks next rest first later = first

climbs-then : {A B : Type 0} (to : ℕ) (part : Part A) (next : A → Part B) (steps : PartSteps) (rest : A → PartSteps) → ClimbsAll to part steps → ((value : A) → ClimbsAll to (next value) (rest value)) → ClimbsAll to (part >>= next) (steps_then part steps rest)
unfolding ◌>>=◌
climbs-then to part next steps rest first later from stand given rise =
    then_outcome from to (steps stand given) (part stand given) next rest (first from stand given rise) later

-- a part for each number
climbs-below : (to n : ℕ) (part : ℕ → Part (Unit {0})) (steps : ℕ → PartSteps) → ((k : ℕ) → ClimbsAll to (part k) (steps k)) → ClimbsAll to (each_below n part) (steps_below n part steps)
unfolding each_below steps_below
climbs-below to zero part steps each from stand given rise = (from, omega arith, rise)
climbs-below to (suc n) part steps each from stand given rise =
    climbs-then to (each_below n part) (λ _. part n) (steps_below n part steps) (λ _. steps n) (climbs-below to n part steps each) (λ _. each n) from stand given rise

-- the next reading, and then a part that begins at it
climbs-read : {B : Type 0} (to : ℕ) (next : ℕ → Part B) (rest : ℕ → PartSteps) → ((clock : ℕ) → ClimbsFrom clock to (next clock) (rest clock)) → ClimbsAll to (next_reading >>= next) (steps_then next_reading no_steps rest)
unfolding ◌>>=◌ next_reading
climbs-read to next rest later from stand given rise = by_readings given.readings rise
  where
    by_readings : (readings : List (Option ℕ)) → Rise from readings to → Climbs from to (steps_after (reading_from readings stand given) rest ++ []) (after_outcome (reading_from readings stand given) next)
    by_readings [] rises = rise-le from to [] rises
    by_readings (None ∷ readings) rises = rise-le from to readings rises
    by_readings (Some clock ∷ readings) rises =
        extended from clock to [] (rest clock stand (record given { readings = readings })) (next clock stand (record given { readings = readings })) rises.0
        (later clock stand (record given { readings = readings }) rises.1)

-- ---- parts that stay at one reading
stays-extended : {B : Type 0} (clock : ℕ) (readings left : List (Option ℕ)) (steps more : List Step) (outcome : Outcome B) → StepsRise clock steps clock → left ≡ readings → Stays clock left more outcome → Stays clock readings (more ++ steps) outcome
stays-extended clock readings left steps more (GoesOn value stand given) rise same later = (steps-both clock clock clock steps more rise later.0, later.1 ∙ same)
stays-extended clock readings left steps more (Ends fault stand given) rise same later = steps-both clock clock clock steps more rise later
stays-extended clock readings left steps more Lacks rise same later = steps-both clock clock clock steps more rise later

stays-then_outcome : {A B : Type 0} (clock : ℕ) (readings : List (Option ℕ)) (steps : List Step) (outcome : Outcome A) (next : A → Part B) (rest : A → PartSteps) → Stays clock readings steps outcome → ((value : A) → StaysAt clock (next value) (rest value))
    → Stays clock readings (steps_after outcome rest ++ steps) (after_outcome outcome next)
stays-then_outcome clock readings steps (GoesOn value stand given) next rest first later =
    stays-extended clock readings given.readings steps (rest value stand given) (next value stand given) first.0 first.1 (later value stand given)
stays-then_outcome clock readings steps (Ends fault stand given) next rest first later = first
stays-then_outcome clock readings steps Lacks next rest first later = first

stays-below : (clock n : ℕ) (part : ℕ → Part (Unit {0})) (steps : ℕ → PartSteps) → ((k : ℕ) → StaysAt clock (part k) (steps k)) → StaysAt clock (each_below n part) (steps_below n part steps)
unfolding each_below steps_below ◌>>=◌
stays-below clock zero part steps each stand given = (omega arith, refl)
stays-below clock (suc n) part steps each stand given =
    stays-then_outcome clock given.readings (steps_below n part steps stand given) (each_below n part stand given) (λ _. part n) (λ _. steps n) (stays-below clock n part steps each stand given) (λ _. each n)

climbs-stayed : {A : Type 0} (clock to : ℕ) (readings : List (Option ℕ)) (steps : List Step) (outcome : Outcome A) → Stays clock readings steps outcome → Rise clock readings to → Climbs clock to steps outcome
climbs-stayed clock to readings steps (GoesOn value stand given) is rise = (clock, is.0, subst (λ (left : List (Option ℕ)). Rise clock left to) (sym is.1) rise)
climbs-stayed clock to readings steps (Ends fault stand given) is rise = steps-to clock clock to steps is (rise-le clock to readings rise)
climbs-stayed clock to readings steps Lacks is rise = steps-to clock clock to steps is (rise-le clock to readings rise)

climbs-stays : {A : Type 0} (clock to : ℕ) (part : Part A) (steps : PartSteps) → StaysAt clock part steps → ClimbsFrom clock to part steps
climbs-stays clock to part steps stays stand given rise = climbs-stayed clock to given.readings (steps stand given) (part stand given) (stays stand given) rise

-- one part that stays at the reading with which it begins, and then the next
climbs-after : {A B : Type 0} (clock to : ℕ) (part : Part A) (next : A → Part B) (steps : PartSteps) (rest : A → PartSteps) → StaysAt clock part steps → ((value : A) → ClimbsAll to (next value) (rest value)) → ClimbsFrom clock to (part >>= next) (steps_then part steps rest)
unfolding ◌>>=◌
climbs-after clock to part next steps rest stays later stand given rise =
    then_outcome clock to (steps stand given) (part stand given) next rest (climbs-stays clock to part steps stays stand given rise) later

-- ---- a poll
module _ (clock source : ℕ) where
  polled-stays : (stand : Stand) (made : Result TableState SourceFault) (given : Given) → Stays clock given.readings (polled_steps clock source made) (send_polled source made stand given)
  unfolding send_polled put_table send next_gift ◌>>=◌
  polled-stays stand (Err fault) given = (omega arith, refl)
  polled-stays stand (Ok table) given = by_gifts given.gifts
    where
      by_gifts : (gifts : List Gift) → Stays clock given.readings (Polls source clock ∷ []) (after_outcome (gift_from gifts (Send (record { peer = source; bytes = request_of table source })) (record stand { daemon = record stand.daemon { table = table }; tally = one_poll stand.tally }) given) send_part)
      by_gifts [] = (omega arith, omega arith)
      by_gifts (Went ∷ gifts) = ((omega arith, omega arith), refl)
      by_gifts (Broke ∷ gifts) = (omega arith, omega arith)
      by_gifts (NothingCame ∷ gifts) = (omega arith, omega arith)
      by_gifts (Came packet ∷ gifts) = (omega arith, omega arith)

  stays-poll : StaysAt clock (poll_at clock source) (poll_steps clock source)
  unfolding poll_at
  stays-poll stand given = polled-stays stand (poll_of stand.daemon.table source clock) given

stays-polls : (clock : ℕ) → StaysAt clock (poll_all clock) (λ stand. steps_below stand.daemon.config.sources (poll_at clock) (poll_steps clock) stand)
unfolding poll_all
stays-polls clock stand given = stays-below clock stand.daemon.config.sources (poll_at clock) (poll_steps clock) (λ source. stays-poll clock source) stand given

-- ---- a packet
one_or_none : (clock : ℕ) (looks : Bool) (step : Step) → clock_of_step step ≡ clock → StepsRise clock (cond looks (step ∷ []) []) clock
one_or_none clock true step is = (omega (arith, is), omega (arith, is))
one_or_none clock false step is = omega arith

taken-stays : (clock : ℕ) (steps : List Step) (stand : Stand) (made : Result TableState SourceFault) (given : Given) → StepsRise clock steps clock → Stays clock given.readings steps (put_taken made stand given)
unfolding put_taken put_table count_refusal
taken-stays clock steps stand (Ok table) given rise = (rise, refl)
taken-stays clock steps stand (Err fault) given rise = (rise, refl)

stays-take : (clock : ℕ) (packet : Packet) → StaysAt clock (take_at clock packet) (take_steps clock packet)
unfolding take_at
stays-take clock packet stand given =
    taken-stays clock (take_steps clock packet stand given) stand (take_of stand.daemon.table packet.peer clock packet.bytes) given
    (one_or_none clock (is_looked_at stand.daemon.table packet.peer clock) (Takes packet.peer packet.bytes clock) refl)

climbs-receive : (to : ℕ) → ClimbsAll to receive no_steps
unfolding receive next_gift ◌>>=◌
climbs-receive to from stand given rise = by_gifts given.gifts
  where
    by_gifts : (gifts : List Gift) → Climbs from to [] (after_outcome (gift_from gifts Receive stand given) packet_part)
    by_gifts [] = rise-le from to given.readings rise
    by_gifts (Went ∷ gifts) = rise-le from to given.readings rise
    by_gifts (Came packet ∷ gifts) = (from, omega arith, rise)
    by_gifts (NothingCame ∷ gifts) = (from, omega arith, rise)
    by_gifts (Broke ∷ gifts) = rise-le from to given.readings rise

climbs-next : (to : ℕ) (came : Option Packet) → ClimbsAll to (take_next came) (next_steps came)
unfolding take_next
climbs-next to None from stand given rise = (from, omega arith, rise)
climbs-next to (Some packet) from stand given rise =
    climbs-read to (λ clock. take_at clock packet) (λ clock. take_steps clock packet) (λ clock. climbs-stays clock to (take_at clock packet) (take_steps clock packet) (stays-take clock packet)) from stand given rise

climbs-turn : (to : ℕ) → ClimbsAll to turn turn_steps
unfolding turn
climbs-turn to from stand given rise = climbs-then to receive take_next no_steps next_steps (climbs-receive to) (climbs-next to) from stand given rise

-- ---- a fusion
published-stays : (clock : ℕ) (steps : List Step) (stand : Stand) (given : Given) (fusion : Fusion) (back used : Bool) (grants : List Bool) → StepsRise clock steps clock
    → Stays clock given.readings steps (cond back (Ends (node.Publish publishes.ClockBack) stand given) (cond used (Ends (node.Publish publishes.UsedUp) stand given) (publish_granted grants fusion stand given)))
published-stays clock steps stand given fusion true used grants rise = rise
published-stays clock steps stand given fusion false true grants rise = rise
published-stays clock steps stand given fusion false false [] rise = rise
published-stays clock steps stand given fusion false false (true ∷ grants) rise = (rise, refl)
published-stays clock steps stand given fusion false false (false ∷ grants) rise = rise

fused-stays : (clock : ℕ) (steps : List Step) (stand : Stand) (given : Given) (made : Result Fusion DaemonFault) → StepsRise clock steps clock → Stays clock given.readings steps (publish_fused made stand given)
unfolding publish_fused publish count_refusal
fused-stays clock steps stand given (Ok fusion) rise = published-stays clock steps stand given fusion _ _ given.grants rise
fused-stays clock steps stand given (Err fault) rise = (rise, refl)

fused-rise : (clock : ℕ) (back : Bool) (outcome : Outcome (Unit {0})) → StepsRise clock (cond back [] (step_if_goes_on outcome (Fuses clock))) clock
fused-rise clock true outcome = omega arith
fused-rise clock false (GoesOn value stand given) = (omega arith, omega arith)
fused-rise clock false (Ends fault stand given) = omega arith
fused-rise clock false Lacks = omega arith

stays-fuse : (clock : ℕ) → StaysAt clock (fuse_at clock) (fuse_steps clock)
unfolding fuse_at
stays-fuse clock stand given =
    fused-stays clock (fuse_steps clock stand given) stand given (fusion_at stand.daemon clock) (fused-rise clock (is_back stand.daemon.table clock) (fuse_at clock stand given))

-- ---- rounds, and calls
climbs-round : (to turns : ℕ) → ClimbsAll to (round_of turns) (round_steps turns)
unfolding round_of
climbs-round to turns from stand given rise =
    climbs-read to _ _
    (λ sent. climbs-after sent to (poll_all sent) _ (λ stand. steps_below stand.daemon.config.sources (poll_at sent) (poll_steps sent) stand) _ (stays-polls sent)
    (λ _. climbs-then to (each_below turns (λ _. turn)) _ (steps_below turns (λ _. turn) (λ _. turn_steps)) _ (climbs-below to turns (λ _. turn) (λ _. turn_steps) (λ _. climbs-turn to))
    (λ _. climbs-read to fuse_at fuse_steps (λ clock. climbs-stays clock to (fuse_at clock) (fuse_steps clock) (stays-fuse clock))))) from stand given rise

climbs-rounds : (to rounds turns : ℕ) → ClimbsAll to (rounds_of rounds turns) (rounds_steps rounds turns)
unfolding rounds_of
climbs-rounds to rounds turns from stand given rise = climbs-below to rounds (λ _. round_of turns) (λ _. round_steps turns) (λ _. climbs-round to turns) from stand given rise

pub rounds-rise : (from to rounds turns : ℕ) (stand : Stand) (given : Given) → Rise from given.readings to → StepsRise from (rounds_steps rounds turns stand given) to
rounds-rise from to rounds turns stand given rise = by_outcome (rounds_of rounds turns stand given) (climbs-rounds to rounds turns from stand given rise)
  where
    by_outcome : (outcome : Outcome (Unit {0})) → Climbs from to (rounds_steps rounds turns stand given) outcome → StepsRise from (rounds_steps rounds turns stand given) to
    by_outcome (GoesOn value after left) is = steps-to from is.0 to (rounds_steps rounds turns stand given) is.1 (rise-le is.0 to left.readings is.2)
    by_outcome (Ends fault after left) is = is
    by_outcome Lacks is = is

pub calls-rise : (from to : ℕ) (calls : List RoundsCall) → RiseIn from calls to → StepsRise from (calls_steps calls) to
calls-rise from to [] rise = rise
calls-rise from to (call ∷ calls) (before, after, earlier, rises, last) =
    let steps = rounds_steps call.rounds call.turns (call.from []) call.given in
    steps-both from before to (calls_steps calls) steps (calls-rise from before calls earlier)
    (steps-to before after to steps (rounds-rise before after call.rounds call.turns (call.from []) call.given rises) last)

-- ---- timelines of such steps
begin-before : (shown : ℕ) (step : Step) (steps : List Step) → BeginFrom shown (step ∷ steps) → BeginFrom shown steps
begin-before shown step [] begin = tt
begin-before shown step (other ∷ steps) begin = begin

shown-after : (shown from : ℕ) (timeline : List Timed) (step : Step) (happening : Happening) → StepsRise from (step_of happening ++ steps_told timeline) (clock_of_step step) → BeginFrom shown (step ∷ step_of happening ++ steps_told timeline)
    → (StepsRise from (steps_told timeline) (clock_of_step step) → BeginFrom shown (step ∷ steps_told timeline) → last_shown shown timeline ≤ clock_of_step step) → shows_after happening (last_shown shown timeline) ≤ clock_of_step step
shown-after shown from timeline step (Does other) rise begin before = rise.0
shown-after shown from timeline step (Answers source nonce span) rise begin before = before rise begin

shown-le : (shown from : ℕ) (timeline : List Timed) (step : Step) → StepsRise from (steps_told timeline) (clock_of_step step) → BeginFrom shown (step ∷ steps_told timeline) → last_shown shown timeline ≤ clock_of_step step
shown-le shown from [] step rise begin = begin
shown-le shown from (timed ∷ timeline) step rise begin = shown-after shown from timeline step timed.happening rise begin (shown-le shown from timeline step)

timeline-after : (begun shown from to : ℕ) (timeline : List Timed) (happening : Happening) → StepsRise from (step_of happening ++ steps_told timeline) to → BeginFrom shown (step_of happening ++ steps_told timeline) → AllByRecursion IsInTime (step_of happening ++ steps_told timeline)
    → ((top : ℕ) → StepsRise from (steps_told timeline) top → BeginFrom shown (steps_told timeline) → AllByRecursion IsInTime (steps_told timeline) → IsTimeline begun shown timeline) → IsForward (last_shown shown timeline) happening × IsTimeline begun shown timeline
timeline-after begun shown from to timeline (Does step) rise begin in_time before =
    ((shown-le shown from timeline step rise.1 begin, in_time.0), before (clock_of_step step) rise.1 (begin-before shown step (steps_told timeline) begin) in_time.1)
timeline-after begun shown from to timeline (Answers source nonce span) rise begin in_time before = (tt, before to rise begin in_time)

-- a timeline whose true times do not fall, and whose clock readings do not
pub timeline-rises : (begun shown from : ℕ) (timeline : List Timed) (to : ℕ) → TimesRise begun timeline → StepsRise from (steps_told timeline) to → BeginFrom shown (steps_told timeline) → AllByRecursion IsInTime (steps_told timeline) → IsTimeline begun shown timeline
timeline-rises begun shown from [] to times rise begin in_time = tt
timeline-rises begun shown from (timed ∷ timeline) to times rise begin in_time =
    let rest = timeline-after begun shown from to timeline timed.happening rise begin in_time (λ top. timeline-rises begun shown from timeline top times.2) in
    (times.0, times.1, rest.0, rest.1)
