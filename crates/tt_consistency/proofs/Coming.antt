-- The steps of rounds take nothing but packets that the link gave.
use Rattle.std.proofs.Common.{refl, ℕ, suc, zero, Bool, true, false, cond, List, [], ◌∷◌, ◌++◌, Option, Some, None, Result, Ok, Err, Contains}
use Rattle.std.specs.List.{AllByRecursion}
use Rattle.tt_source.specs.Table.{TableState, is_back, poll_of, take_of}
use Rattle.tt_source.specs.declared.faults.SourceFault.{SourceFault}
use Rattle.tt_daemon.specs.declared.faults.DaemonFault.{DaemonFault}
use Rattle.tt_publish.specs.declared.faults.PublishFault.TheVariants as publishes
use Rattle.tt_stamp.proofs.Ids.{Contains-here, Contains-there}
use Rattle.tt_rounds.specs.Link.{Packet, Gift, Went, Came, NothingCame, Broke, Send, Receive}
use Rattle.tt_rounds.specs.Fusing.{Fusion, fusion_at}
use Rattle.tt_rounds.specs.Course.{Given, Stand, Outcome, GoesOn, Ends, Lacks, Part, ◌>>=◌, after_outcome, each_below, poll_at, poll_all, take_at, take_next, fuse_at, send_polled, put_table, send, send_part, receive, packet_part, next_gift, gift_from, count_refusal, put_taken, publish_fused, publish, publish_granted, request_of, next_reading, reading_from, turn, round_of, rounds_of}
use Rattle.tt_rounds.specs.Tallies.{one_poll}
use Rattle.tt_rounds.specs.declared.faults.NodeFault.TheVariants as node
use Rattle.tt_world.proofs.Histories.Places.{all_append}
use Rattle.tt_wire.specs.Wire.{Wiring, IsWiring, incoming_of}
use Rattle.tt_rounds.specs.RoundLinks.{HandsUp}
use Rattle.tt_rounds.proofs.Hearing.{heard-came_sealed}
use Rattle.tt_consistency.specs.Calls.{RoundsCall, calls_steps}
use Rattle.tt_consistency.specs.Coming.{AreHeard, CameAmong, CameUnder}
use Rattle.tt_consistency.specs.CourseSteps.{PartSteps, no_steps, steps_after, steps_then, steps_below, polled_steps, poll_steps, is_looked_at, take_steps, next_steps, turn_steps, step_if_goes_on, fuse_steps, round_steps, rounds_steps}
use Rattle.tt_consistency.specs.Steps.{Step, Polls, Takes, Fuses}

module _ (Q : Packet → Type 0) where
  -- each packet that is still to come is so
  abbrev AllCome : List Gift → Type 0
  AllCome [] = Unit {0}
  AllCome (Came packet ∷ gifts) = Q packet × AllCome gifts
  AllCome (Went ∷ gifts) = AllCome gifts
  AllCome (NothingCame ∷ gifts) = AllCome gifts
  AllCome (Broke ∷ gifts) = AllCome gifts

  -- each packet that a step takes is so
  abbrev IsTaken : Step → Type 0
  IsTaken (Takes source bytes clock) = Q (record { peer = source; bytes = bytes })
  IsTaken (Polls source clock) = Unit {0}
  IsTaken (Fuses clock) = Unit {0}

  abbrev AreTaken : List Step → Type 0
  AreTaken steps = AllByRecursion IsTaken steps

  -- where a part goes on, its value is so, and so is what is still to come
  abbrev Leaves : {A : Type 0} → (A → Type 0) → Outcome A → Type 0
  Leaves R (GoesOn value stand given) = R value × AllCome given.gifts
  Leaves R (Ends fault stand given) = Unit {0}
  Leaves R Lacks = Unit {0}

  abbrev Keeps : {A : Type 0} → (A → Type 0) → Part A → PartSteps → Type 0
  Keeps R part steps = (stand : Stand) (given : Given) → AllCome given.gifts → AreTaken (steps stand given) × Leaves R (part stand given)

  abbrev any : {A : Type 0} → A → Type 0
  any value = Unit {0}

  then-outcome : {A B : Type 0} (R : A → Type 0) (S : B → Type 0) (steps : List Step) (outcome : Outcome A) (next : A → Part B) (rest : A → PartSteps) → AreTaken steps → Leaves R outcome → ((value : A) → R value → Keeps S (next value) (rest value))
      → AreTaken (steps_after outcome rest ++ steps) × Leaves S (after_outcome outcome next)
  then-outcome R S steps (GoesOn value stand given) next rest taken left keeps =
      let later = keeps value left.0 stand given left.1 in
      (all_append IsTaken (rest value stand given) steps later.0 taken, later.1)
  then-outcome R S steps (Ends fault stand given) next rest taken left keeps = (taken, tt)
  then-outcome R S steps Lacks next rest taken left keeps = (taken, tt)

  keeps-then : {A B : Type 0} (R : A → Type 0) (S : B → Type 0) (part : Part A) (next : A → Part B) (steps : PartSteps) (rest : A → PartSteps) → Keeps R part steps → ((value : A) → R value → Keeps S (next value) (rest value)) → Keeps S (part >>= next) (steps_then part steps rest)
  unfolding ◌>>=◌
  keeps-then R S part next steps rest first later stand given come =
      let is = first stand given come in
      then-outcome R S (steps stand given) (part stand given) next rest is.0 is.1 later

  keeps-below : (n : ℕ) (part : ℕ → Part (Unit {0})) (steps : ℕ → PartSteps) → ((k : ℕ) → Keeps any (part k) (steps k)) → Keeps any (each_below n part) (steps_below n part steps)
  unfolding each_below steps_below
  keeps-below zero part steps each stand given come = (tt, (tt, come))
  keeps-below (suc n) part steps each stand given come =
      keeps-then any any (each_below n part) (λ _. part n) (steps_below n part steps) (λ _. steps n) (keeps-below n part steps each) (λ _ _. each n) stand given come

  keeps-read : Keeps any next_reading no_steps
  unfolding next_reading
  keeps-read stand given come = (tt, by_readings given.readings)
    where
      by_readings : (readings : List (Option ℕ)) → Leaves any (reading_from readings stand given)
      by_readings [] = tt
      by_readings (None ∷ readings) = tt
      by_readings (Some clock ∷ readings) = (tt, come)

  -- ---- a poll
  polled-keeps : (clock source : ℕ) (stand : Stand) (made : Result TableState SourceFault) (given : Given) → AllCome given.gifts → AreTaken (polled_steps clock source made) × Leaves any (send_polled source made stand given)
  unfolding send_polled put_table send next_gift ◌>>=◌
  polled-keeps clock source stand (Err fault) given come = (tt, (tt, come))
  polled-keeps clock source stand (Ok table) given come = ((tt, tt), by_gifts given.gifts come)
    where
      by_gifts : (gifts : List Gift) → AllCome gifts
          → Leaves any (after_outcome (gift_from gifts (Send (record { peer = source; bytes = request_of table source })) (record stand { daemon = record stand.daemon { table = table }; tally = one_poll stand.tally }) given) send_part)
      by_gifts [] is = tt
      by_gifts (Went ∷ gifts) is = (tt, is)
      by_gifts (Broke ∷ gifts) is = tt
      by_gifts (NothingCame ∷ gifts) is = tt
      by_gifts (Came packet ∷ gifts) is = tt

  keeps-poll : (clock source : ℕ) → Keeps any (poll_at clock source) (poll_steps clock source)
  unfolding poll_at
  keeps-poll clock source stand given come = polled-keeps clock source stand (poll_of stand.daemon.table source clock) given come

  keeps-polls : (clock : ℕ) → Keeps any (poll_all clock) (λ stand. steps_below stand.daemon.config.sources (poll_at clock) (poll_steps clock) stand)
  unfolding poll_all
  keeps-polls clock stand given come = keeps-below stand.daemon.config.sources (poll_at clock) (poll_steps clock) (λ source. keeps-poll clock source) stand given come

  -- ---- a packet
  abbrev IsGiven : Option Packet → Type 0
  IsGiven None = Unit {0}
  IsGiven (Some packet) = Q packet

  keeps-receive : Keeps IsGiven receive no_steps
  unfolding receive next_gift ◌>>=◌
  keeps-receive stand given come = (tt, by_gifts given.gifts come)
    where
      by_gifts : (gifts : List Gift) → AllCome gifts → Leaves IsGiven (after_outcome (gift_from gifts Receive stand given) packet_part)
      by_gifts [] is = tt
      by_gifts (Went ∷ gifts) is = tt
      by_gifts (Came packet ∷ gifts) is = is
      by_gifts (NothingCame ∷ gifts) is = (tt, is)
      by_gifts (Broke ∷ gifts) is = tt

  put-keeps : (stand : Stand) (made : Result TableState SourceFault) (given : Given) → AllCome given.gifts → Leaves any (put_taken made stand given)
  unfolding put_taken put_table count_refusal
  put-keeps stand (Ok table) given come = (tt, come)
  put-keeps stand (Err fault) given come = (tt, come)

  looked-taken : (looks : Bool) (packet : Packet) (clock : ℕ) → Q packet → AreTaken (cond looks (Takes packet.peer packet.bytes clock ∷ []) [])
  looked-taken true packet clock is = (is, tt)
  looked-taken false packet clock is = tt

  keeps-take : (clock : ℕ) (packet : Packet) → Q packet → Keeps any (take_at clock packet) (take_steps clock packet)
  unfolding take_at
  keeps-take clock packet is stand given come =
      (looked-taken (is_looked_at stand.daemon.table packet.peer clock) packet clock is, put-keeps stand (take_of stand.daemon.table packet.peer clock packet.bytes) given come)

  keeps-next : (came : Option Packet) → IsGiven came → Keeps any (take_next came) (next_steps came)
  unfolding take_next
  keeps-next None is stand given come = (tt, (tt, come))
  keeps-next (Some packet) is stand given come =
      keeps-then any any next_reading (λ clock. take_at clock packet) no_steps (λ clock. take_steps clock packet) keeps-read (λ clock _. keeps-take clock packet is) stand given come

  keeps-turn : Keeps any turn turn_steps
  unfolding turn
  keeps-turn stand given come = keeps-then IsGiven any receive take_next no_steps next_steps keeps-receive keeps-next stand given come

  -- ---- a fusion
  published-keeps : (stand : Stand) (given : Given) (fusion : Fusion) (back used : Bool) (grants : List Bool) → AllCome given.gifts
      → Leaves any (cond back (Ends (node.Publish publishes.ClockBack) stand given) (cond used (Ends (node.Publish publishes.UsedUp) stand given) (publish_granted grants fusion stand given)))
  published-keeps stand given fusion true used grants come = tt
  published-keeps stand given fusion false true grants come = tt
  published-keeps stand given fusion false false [] come = tt
  published-keeps stand given fusion false false (true ∷ grants) come = (tt, come)
  published-keeps stand given fusion false false (false ∷ grants) come = tt

  fused-keeps : (stand : Stand) (given : Given) (made : Result Fusion DaemonFault) → AllCome given.gifts → Leaves any (publish_fused made stand given)
  unfolding publish_fused publish count_refusal
  fused-keeps stand given (Ok fusion) come = published-keeps stand given fusion _ _ given.grants come
  fused-keeps stand given (Err fault) come = (tt, come)

  fused-taken : (clock : ℕ) (back : Bool) (outcome : Outcome (Unit {0})) → AreTaken (cond back [] (step_if_goes_on outcome (Fuses clock)))
  fused-taken clock true outcome = tt
  fused-taken clock false (GoesOn value stand given) = (tt, tt)
  fused-taken clock false (Ends fault stand given) = tt
  fused-taken clock false Lacks = tt

  keeps-fuse : (clock : ℕ) → Keeps any (fuse_at clock) (fuse_steps clock)
  unfolding fuse_at
  keeps-fuse clock stand given come = (fused-taken clock (is_back stand.daemon.table clock) (fuse_at clock stand given), fused-keeps stand given (fusion_at stand.daemon clock) come)

  -- ---- rounds
  keeps-round : (turns : ℕ) → Keeps any (round_of turns) (round_steps turns)
  unfolding round_of
  keeps-round turns stand given come =
      keeps-then any any next_reading _ no_steps _ keeps-read
      (λ sent _. keeps-then any any (poll_all sent) _ (λ stand. steps_below stand.daemon.config.sources (poll_at sent) (poll_steps sent) stand) _ (keeps-polls sent)
      (λ _ _. keeps-then any any (each_below turns (λ _. turn)) _ (steps_below turns (λ _. turn) (λ _. turn_steps)) _ (keeps-below turns (λ _. turn) (λ _. turn_steps) (λ _. keeps-turn))
      (λ _ _. keeps-then any any next_reading fuse_at no_steps fuse_steps keeps-read (λ clock _. keeps-fuse clock)))) stand given come

  keeps-rounds : (rounds turns : ℕ) → Keeps any (rounds_of rounds turns) (rounds_steps rounds turns)
  unfolding rounds_of
  keeps-rounds rounds turns stand given come = keeps-below rounds (λ _. round_of turns) (λ _. round_steps turns) (λ _. keeps-round turns) stand given come

-- ---- the packets that were given
module _ (all : List Gift) where
  abbrev IsAmongAll : Packet → Type 0
  IsAmongAll packet = Contains all (Came packet)

  all-come : (gifts : List Gift) → ((packet : Packet) → Contains gifts (Came packet) → Contains all (Came packet)) → AllCome IsAmongAll gifts
  all-come [] inside = tt
  all-come (Came packet ∷ gifts) inside = (inside packet (Contains-here (Came packet) gifts), all-come gifts (λ other there. inside other (Contains-there (Came packet) gifts (Came other) there)))
  all-come (Went ∷ gifts) inside = all-come gifts (λ other there. inside other (Contains-there Went gifts (Came other) there))
  all-come (NothingCame ∷ gifts) inside = all-come gifts (λ other there. inside other (Contains-there NothingCame gifts (Came other) there))
  all-come (Broke ∷ gifts) inside = all-come gifts (λ other there. inside other (Contains-there Broke gifts (Came other) there))

  among : (steps : List Step) → AreTaken IsAmongAll steps → AllByRecursion (CameAmong all) steps
  among [] taken = tt
  among (Takes source bytes clock ∷ steps) taken = (taken.0, among steps taken.1)
  among (Polls source clock ∷ steps) taken = (tt, among steps taken.1)
  among (Fuses clock ∷ steps) taken = (tt, among steps taken.1)

pub takes-came : (rounds turns : ℕ) (stand : Stand) (given : Given) → AllByRecursion (CameAmong given.gifts) (rounds_steps rounds turns stand given)
takes-came rounds turns stand given =
    among given.gifts (rounds_steps rounds turns stand given)
    (keeps-rounds (IsAmongAll given.gifts) rounds turns stand given (all-come given.gifts given.gifts (λ packet there. there))).0

-- ---- what was handed up over a wire
module _ (wire : Wiring) (valid : IsWiring wire) where
  step-sealed : (gifts : List Gift) → ((packet : Packet) → Contains gifts (Came packet) → HandsUp wire (Came packet)) → (step : Step) → CameAmong gifts step → CameUnder wire step
  step-sealed gifts heard (Takes source message clock) came = λ first others keys.
      let packet : Packet = record { peer = source; bytes = message } in
      let up : HandsUp wire (Came packet) = heard packet came in
      (up.0, heard-came_sealed wire up.2 source first others up.0 packet (incoming_of wire source up.0) valid up.1 keys refl up.3)
  step-sealed gifts heard (Polls source clock) came = tt
  step-sealed gifts heard (Fuses clock) came = tt

  steps-sealed : (gifts : List Gift) → ((packet : Packet) → Contains gifts (Came packet) → HandsUp wire (Came packet)) → (steps : List Step) → AllByRecursion (CameAmong gifts) steps → AllByRecursion (CameUnder wire) steps
  steps-sealed gifts heard [] came = tt
  steps-sealed gifts heard (step ∷ steps) came = (step-sealed gifts heard step came.0, steps-sealed gifts heard steps came.1)

  calls-sealed : (calls : List RoundsCall) → AreHeard wire calls → AllByRecursion (CameUnder wire) (calls_steps calls)
  calls-sealed [] heard = tt
  calls-sealed (call ∷ calls) heard =
      let steps : List Step = rounds_steps call.rounds call.turns (call.from []) call.given in
      all_append (CameUnder wire) steps (calls_steps calls)
      (steps-sealed call.given.gifts heard.0 steps (takes-came call.rounds call.turns (call.from []) call.given))
      (calls-sealed calls heard.1)

pub takes-sealed : (wire : Wiring) (calls : List RoundsCall) → IsWiring wire → AreHeard wire calls → AllByRecursion (CameUnder wire) (calls_steps calls)
takes-sealed wire calls valid heard = calls-sealed wire valid calls heard
