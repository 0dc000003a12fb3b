-- What a course leaves is what its steps make.
use Rattle.std.proofs.Common.{◌≡◌, ℕ, suc, zero, Bool, true, false, cond, ltb, ◌-◌, ◌&&◌, not, List, [], ◌∷◌, ◌++◌, Option, Some, None, Result, Ok, Err, refl, sym, ap, subst, ◌∙◌, append-nil}
use Rattle.std.proofs.lemmas.List.{map-append}
use Rattle.tt_source.specs.Table.{TableState, has_source, is_back, poll_of, take_of, known_of}
use Rattle.tt_fuse.specs.Depth.{slow_fusion}
use Rattle.tt_daemon.specs.Daemon.{spans_of}
use Rattle.tt_source.specs.declared.faults.SourceFault.{SourceFault}
use Rattle.tt_source.specs.declared.faults.SourceFault.TheVariants.{NoSource, ClockBack}
use Rattle.tt_daemon.specs.declared.faults.DaemonFault.{DaemonFault}
use Rattle.tt_daemon.specs.declared.faults.DaemonFault.TheVariants as daemon
use Rattle.tt_publish.specs.declared.readings.FusedSpan.{FusedSpan}
use Rattle.tt_rounds.specs.Link.{Packet, Gift, Went, Came, NothingCame, Broke, Send, Receive, Exchange}
use Rattle.tt_rounds.specs.Fusing.{Fusion, fusion_at, fusion_found}
use Rattle.tt_rounds.specs.Course.{Given, Stand, Outcome, GoesOn, Ends, Lacks, Part, ◌>>=◌, after_outcome, each_below, poll_at, poll_all, take_at, take_next, fuse_at, send_polled, put_table, send, send_part, receive, packet_part, next_gift, gift_from, count_refusal, put_taken, publish_fused, publish, publish_granted, request_of, next_reading, reading_from, turn, round_of, rounds_of}
use Rattle.tt_rounds.specs.Tallies.{one_poll}
use Rattle.tt_rounds.specs.Making.{before_rest, part_with, Leads}
use Rattle.tt_rounds.specs.declared.faults.NodeFault.{NodeFault}
use Rattle.tt_rounds.specs.declared.faults.NodeFault.TheVariants as node
use Rattle.tt_publish.specs.declared.faults.PublishFault.TheVariants as publishes
use Rattle.tt_consistency.specs.Steps.{Kept, Step, Polls, Takes, Fuses, fused_span, with_table, with_fusion, after_step, after_steps}
use Rattle.tt_consistency.specs.CourseSteps.{PartSteps, no_steps, steps_after, steps_then, steps_below, polled_steps, poll_steps, is_looked_at, take_steps, next_steps, turn_steps, step_if_goes_on, fuse_steps, round_steps, rounds_steps, kept_in, IsMadeBy}
use Rattle.tt_consistency.proofs.LivingRounds.{after_steps-append}

-- a part makes these steps, wherever it begins and whatever it is given
abbrev pub Tells : {A : Type 0} → Part A → PartSteps → Type 0
Tells part steps = (stand : Stand) (given : Given) → IsMadeBy (kept_in stand) (steps stand given) (part stand given)

joined : (from mid to : Kept) (steps more : List Step) → mid ≡ after_steps from steps → to ≡ after_steps mid more
    → to ≡ after_steps from (more ++ steps)
joined from mid to steps more first second =
    second
    ∙ ap (λ (k : Kept). after_steps k more) first
    ∙ sym (after_steps-append from more steps)

extended : {B : Type 0} (from mid : Kept) (steps more : List Step) (outcome : Outcome B) → mid ≡ after_steps from steps
    → IsMadeBy mid more outcome → IsMadeBy from (more ++ steps) outcome
extended from mid steps more (GoesOn value stand given) first second = joined from mid (kept_in stand) steps more first second
extended from mid steps more (Ends fault stand given) first second = joined from mid (kept_in stand) steps more first second
extended from mid steps more Lacks first second = tt

then_outcome : {A B : Type 0} (from : Kept) (steps : List Step) (outcome : Outcome A) (next : A → Part B) (rest : A → PartSteps)
    → IsMadeBy from steps outcome → ((value : A) → Tells (next value) (rest value))
    → IsMadeBy from (steps_after outcome rest ++ steps) (after_outcome outcome next)
then_outcome from steps (GoesOn value stand given) next rest first later =
    extended from (kept_in stand) steps (rest value stand given) (next value stand given) first (later value stand given)
then_outcome from steps (Ends fault stand given) next rest first later = first
then_outcome from steps Lacks next rest first later = tt

-- one part, and then the next
pub tells-then : {A B : Type 0} (part : Part A) (next : A → Part B) (steps : PartSteps) (rest : A → PartSteps) → Tells part steps → ((value : A) → Tells (next value) (rest value))
    → Tells (part >>= next) (steps_then part steps rest)
unfolding ◌>>=◌
tells-then part next steps rest first later stand given =
    then_outcome (kept_in stand) (steps stand given) (part stand given) next rest (first stand given) later

-- a part for each number
pub tells-below : (n : ℕ) (part : ℕ → Part (Unit {0})) (steps : ℕ → PartSteps) → ((k : ℕ) → Tells (part k) (steps k)) → Tells (each_below n part) (steps_below n part steps)
unfolding each_below steps_below
tells-below zero part steps each stand given = refl
tells-below (suc n) part steps each stand given =
    tells-then (each_below n part) (λ _. part n) (steps_below n part steps) (λ _. steps n) (tells-below n part steps each) (λ _. each n) stand given

-- ---- the devices

pub tells-reading : Tells next_reading no_steps
unfolding next_reading
tells-reading stand given = by_readings given.readings
  where
    by_readings : (readings : List (Option ℕ)) → IsMadeBy (kept_in stand) [] (reading_from readings stand given)
    by_readings [] = tt
    by_readings (None ∷ readings) = refl
    by_readings (Some clock ∷ readings) = refl

pub tells-receive : Tells receive no_steps
unfolding receive next_gift ◌>>=◌
tells-receive stand given = by_gifts given.gifts
  where
    by_gifts : (gifts : List Gift) → IsMadeBy (kept_in stand) [] (after_outcome (gift_from gifts Receive stand given) packet_part)
    by_gifts [] = tt
    by_gifts (Went ∷ gifts) = tt
    by_gifts (Came packet ∷ gifts) = refl
    by_gifts (NothingCame ∷ gifts) = refl
    by_gifts (Broke ∷ gifts) = refl

-- ---- a poll

module _ (clock source : ℕ) where
  polled : (stand : Stand) (made : Result TableState SourceFault) (given : Given) → poll_of stand.daemon.table source clock ≡ made
      → IsMadeBy (kept_in stand) (polled_steps clock source made) (send_polled source made stand given)
  unfolding send_polled put_table send next_gift ◌>>=◌
  polled stand (Err fault) given is = refl
  polled stand (Ok table) given is = by_gifts given.gifts
    where
      step_is : ◌≡◌ {A = Kept} (record (kept_in stand) { daemon = record stand.daemon { table = table } }) (after_step (kept_in stand) (Polls source clock))
      step_is = ap (with_table (kept_in stand)) (sym is)

      by_gifts : (gifts : List Gift) → IsMadeBy (kept_in stand) (Polls source clock ∷ []) (after_outcome (gift_from gifts (Send (record { peer = source; bytes = request_of table source })) (record stand { daemon = record stand.daemon { table = table }; tally = one_poll stand.tally }) given) send_part)
      by_gifts [] = tt
      by_gifts (Went ∷ gifts) = step_is
      by_gifts (Broke ∷ gifts) = step_is
      by_gifts (NothingCame ∷ gifts) = tt
      by_gifts (Came packet ∷ gifts) = tt

  pub tells-poll : Tells (poll_at clock source) (poll_steps clock source)
  unfolding poll_at
  tells-poll stand given = polled stand (poll_of stand.daemon.table source clock) given refl

pub tells-poll_all : (clock : ℕ) → Tells (poll_all clock) (λ stand. steps_below stand.daemon.config.sources (poll_at clock) (poll_steps clock) stand)
unfolding poll_all
tells-poll_all clock stand given = tells-below stand.daemon.config.sources (poll_at clock) (poll_steps clock) (λ source. tells-poll clock source) stand given

-- ---- a packet

taken : (stand : Stand) (made : Result TableState SourceFault) (given : Given) (steps : List Step) → with_table (kept_in stand) made ≡ after_steps (kept_in stand) steps
    → IsMadeBy (kept_in stand) steps (put_taken made stand given)
unfolding put_taken put_table count_refusal
taken stand (Ok table) given steps is = is
taken stand (Err fault) given steps is = is

not_looked_at : (kept : Kept) (there back : Bool) (made : Result TableState SourceFault) → (there && not back) ≡ false
    → with_table kept (cond (not there) (Err NoSource) (cond back (Err ClockBack) made)) ≡ kept
not_looked_at kept false back made h = refl
not_looked_at kept true true made h = refl
not_looked_at kept true false made h = absurd cc

take-made : (stand : Stand) (clock : ℕ) (packet : Packet) (given : Given) (looks : Bool) → is_looked_at stand.daemon.table packet.peer clock ≡ looks
    → with_table (kept_in stand) (take_of stand.daemon.table packet.peer clock packet.bytes)
    ≡ after_steps (kept_in stand) (cond looks (Takes packet.peer packet.bytes clock ∷ []) [])
take-made stand clock packet given true is = refl
take-made stand clock packet given false is =
    not_looked_at (kept_in stand) (has_source stand.daemon.table packet.peer) (is_back stand.daemon.table clock) _ is

tells-take : (clock : ℕ) (packet : Packet) → Tells (take_at clock packet) (take_steps clock packet)
unfolding take_at
tells-take clock packet stand given =
    taken stand (take_of stand.daemon.table packet.peer clock packet.bytes) given (take_steps clock packet stand given)
    (take-made stand clock packet given (is_looked_at stand.daemon.table packet.peer clock) refl)

tells-next : (came : Option Packet) → Tells (take_next came) (next_steps came)
unfolding take_next
tells-next None stand given = refl
tells-next (Some packet) stand given =
    tells-then next_reading (λ clock. take_at clock packet) no_steps (λ clock. take_steps clock packet) tells-reading (λ clock. tells-take clock packet) stand given

pub tells-turn : Tells turn turn_steps
unfolding turn
tells-turn stand given = tells-then receive take_next no_steps next_steps tells-receive tells-next stand given

-- ---- a fusion

module _ (clock : ℕ) (stand : Stand) (given : Given) where
  -- the step, where a part goes on
  abbrev step_if : Outcome (Unit {0}) → List Step
  step_if outcome = step_if_goes_on outcome (Fuses clock)

  published : (fusion : Fusion) (back used : Bool) (grants : List Bool) → fusion_at stand.daemon clock ≡ Ok fusion
      → let outcome = cond back (Ends (node.Publish publishes.ClockBack) stand given) (cond used (Ends (node.Publish publishes.UsedUp) stand given) (publish_granted grants fusion stand given)) in
      IsMadeBy (kept_in stand) (step_if outcome) outcome
  published fusion true used grants is = refl
  published fusion false true grants is = refl
  published fusion false false [] is = tt
  published fusion false false (true ∷ grants) is =
      ap (λ (spans : List FusedSpan). record { daemon = stand.daemon; published = spans }) (map-append fused_span stand.published (fusion ∷ []))
      ∙ ap (with_fusion (kept_in stand)) (sym is)
  published fusion false false (false ∷ grants) is = refl

  -- the fusion, by whether the reading goes back
  abbrev fusion_by : Bool → Result Fusion DaemonFault
  fusion_by back =
      cond back (Err daemon.ClockBack) (cond (ltb (known_of stand.daemon.table) (stand.daemon.config.sources - stand.daemon.config.faulty)) (Err daemon.Unknown)
      (fusion_found clock (spans_of stand.daemon clock) stand.daemon.config.faulty (slow_fusion (spans_of stand.daemon clock) stand.daemon.config.faulty)))

  fused : (back : Bool) (made : Result Fusion DaemonFault) → is_back stand.daemon.table clock ≡ back → fusion_at stand.daemon clock ≡ made
      → IsMadeBy (kept_in stand) (cond back [] (step_if_goes_on (publish_fused made stand given) (Fuses clock))) (publish_fused made stand given)
  unfolding publish_fused publish count_refusal
  fused true (Ok fusion) back is = let no : fusion_by true ≡ Ok fusion = ap fusion_by (sym back) ∙ is in absurd cc
  fused true (Err fault) back is = refl
  fused false (Ok fusion) back is = published fusion _ _ given.grants is
  fused false (Err fault) back is = ap (with_fusion (kept_in stand)) (sym is)

tells-fuse : (clock : ℕ) → Tells (fuse_at clock) (fuse_steps clock)
unfolding fuse_at
tells-fuse clock stand given = fused clock stand given (is_back stand.daemon.table clock) (fusion_at stand.daemon clock) refl refl

-- ---- rounds

pub tells-round : (turns : ℕ) → Tells (round_of turns) (round_steps turns)
unfolding round_of
tells-round turns stand given =
    tells-then next_reading _ no_steps _ tells-reading
    (λ sent. tells-then (poll_all sent) _ (λ stand. steps_below stand.daemon.config.sources (poll_at sent) (poll_steps sent) stand) _ (tells-poll_all sent)
    (λ _. tells-then (each_below turns (λ _. turn)) _ (steps_below turns (λ _. turn) (λ _. turn_steps)) _ (tells-below turns (λ _. turn) (λ _. turn_steps) (λ _. tells-turn))
    (λ _. tells-then next_reading fuse_at no_steps fuse_steps tells-reading tells-fuse))) stand given

pub tells-rounds : (rounds turns : ℕ) → Tells (rounds_of rounds turns) (rounds_steps rounds turns)
unfolding rounds_of
tells-rounds rounds turns stand given = tells-below rounds (λ _. round_of turns) (λ _. round_steps turns) (λ _. tells-round turns) stand given

-- ---- one call

answered : (from : Kept) (steps : List Step) (answer : Result (Unit {0}) NodeFault) (stand : Stand) (given : Given) → IsMadeBy from steps (part_with answer stand given) → kept_in stand ≡ after_steps from steps
answered from steps (Ok value) stand given is = is
answered from steps (Err fault) stand given is = is

-- nothing more is given
abbrev nothing_more : Given
nothing_more = record { readings = []; gifts = []; grants = [] }

all_given : (given : Given) → before_rest given nothing_more ≡ given
all_given given = rw (append-nil given.readings, append-nil given.gifts, append-nil given.grants) refl

pub rounds-made : (rounds turns : ℕ) (given : Given) (exchanges : List Exchange) (from to : List Exchange → Stand) (answer : Result (Unit {0}) NodeFault)
    → Leads (rounds_of rounds turns) given exchanges from to answer
    → kept_in (to exchanges) ≡ after_steps (kept_in (from [])) (rounds_steps rounds turns (from []) given)
rounds-made rounds turns given exchanges from to answer course =
    let ran : rounds_of rounds turns (from []) given ≡ part_with answer (to exchanges) nothing_more =
    ap (rounds_of rounds turns (from [])) (sym (all_given given)) ∙ course.leads [] nothing_more in
    answered (kept_in (from [])) (rounds_steps rounds turns (from []) given) answer (to exchanges) nothing_more
    (subst (IsMadeBy (kept_in (from [])) (rounds_steps rounds turns (from []) given)) ran (tells-rounds rounds turns (from []) given))
