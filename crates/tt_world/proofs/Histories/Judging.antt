-- What is known of an event that is not bad.
use Rattle.std.proofs.Common.{◌≡◌, ◌≤◌, Bool, true, false, cond, List, [], ◌∷◌, Option, Some, None, refl, ap}
use Rattle.std.specs.Prelude.{is_some}
use Rattle.std.specs.List.{AllByRecursion}
use Rattle.std.proofs.lemmas.Bool.{or_parts, ltb-false}
use Rattle.tt_span.specs.Time.{max_time}
use Rattle.tt_world.specs.declared.faults.WorldFault.{WorldFault}
use Rattle.tt_world.specs.declared.faults.WorldFault.TheVariants as bad
use Rattle.tt_world.specs.declared.events.Event.{Event}
use Rattle.tt_daemon.specs.Config.{Configuration}
use Rattle.tt_world.specs.Past.{time_of, packets_of, clock_reading, clock_of}
use Rattle.tt_world.specs.Bad.{names_unknown, lacks_packet, goes_back, lacks_publication, lacks_its_thing, uses_up_lives, breaks_time, first_bad, accepted}

-- what is known of an event that is not bad after what has happened
pub record IsGood (configs : List Configuration) (past : List Event) (event : Event) : Type 0 where
  pub not_before : time_of past ≤ event.at
  pub in_time : event.at ≤ max_time
  pub named : names_unknown configs event.action ≡ false
  pub packet_there : lacks_packet (packets_of past) event.action ≡ false
  pub clock_on : goes_back (clock_of past) (clock_reading past event.action) ≡ false
  pub publication_there : lacks_publication configs past event.action ≡ false
  pub thing_there : lacks_its_thing configs past event.action ≡ false
  pub life_left : uses_up_lives past event.action ≡ false

-- a reason that does not apply, and the reasons after it
pub passed : (b : Bool) (fault : WorldFault) (rest : Option WorldFault) → cond b (Some fault) rest ≡ None → (b ≡ false) × (rest ≡ None)
passed true fault rest h = absurd cc
passed false fault rest h = (refl, h)

pub good_of : (configs : List Configuration) (past : List Event) (event : Event) → first_bad configs past event ≡ None → IsGood configs past event
good_of configs past event h =
    let time = passed (breaks_time past event) bad.TimeBack _ h in
    let named = passed (names_unknown configs event.action) bad.UnknownNumber _ time.1 in
    let packet = passed (lacks_packet (packets_of past) event.action) bad.NoPacket _ named.1 in
    let clock = passed (goes_back (clock_of past) (clock_reading past event.action)) bad.ClockBack _ packet.1 in
    let publication = passed (lacks_publication configs past event.action) bad.NoPublication _ clock.1 in
    let thing = passed (lacks_its_thing configs past event.action) bad.NothingThere _ publication.1 in
    let life = passed (uses_up_lives past event.action) bad.LivesUsedUp _ thing.1 in
    let times = or_parts _ _ time.0 in
    record {
      not_before = ltb-false event.at (time_of past) times.0;
      in_time = ltb-false max_time event.at times.1;
      named = named.0;
      packet_there = packet.0;
      clock_on = clock.0;
      publication_there = publication.0;
      thing_there = thing.0;
      life_left = life.0;
    }

-- each of the events was not bad after those before it
abbrev pub AreGood : List Configuration → List Event → Type 0
AreGood configs [] = Unit {0}
AreGood configs (event ∷ past) = IsGood configs past event × AreGood configs past

good_if_kept : (configs : List Configuration) (past : List Event) (event : Event) (reason : Option WorldFault) → first_bad configs past event ≡ reason → AreGood configs past → AreGood configs (cond (is_some reason) past (event ∷ past))
good_if_kept configs past event None h good = (good_of configs past event h, good)
good_if_kept configs past event (Some number) h good = good

pub good_accepted : (configs : List Configuration) (past : List Event) → AreGood configs (accepted configs past)
good_accepted configs [] = tt
good_accepted configs (event ∷ past) = good_if_kept configs (accepted configs past) event (first_bad configs (accepted configs past) event) refl (good_accepted configs past)

all_if_kept : (P : Event → Type 0) (past : List Event) (event : Event) (reason : Option WorldFault) → P event → AllByRecursion P past → AllByRecursion P (cond (is_some reason) past (event ∷ past))
all_if_kept P past event None here rest = (here, rest)
all_if_kept P past event (Some number) here rest = rest

-- what holds of each event holds of those that were not bad
pub all_accepted : (P : Event → Type 0) (configs : List Configuration) (past : List Event) → AllByRecursion P past → AllByRecursion P (accepted configs past)
all_accepted P configs [] h = tt
all_accepted P configs (event ∷ past) h = all_if_kept P (accepted configs past) event (first_bad configs (accepted configs past) event) h.0 (all_accepted P configs past h.1)

-- an event that is not bad is kept
pub accepted-good : (configs : List Configuration) (past : List Event) (event : Event) → first_bad configs (accepted configs past) event ≡ None → accepted configs (event ∷ past) ≡ event ∷ accepted configs past
accepted-good configs past event h = ap (λ (reason : Option WorldFault). cond (is_some reason) (accepted configs past) (event ∷ accepted configs past)) h
