-- Events that are good are accepted, all of them.
use Rattle.std.proofs.Common.{◌≡◌, false, ltb, List, [], ◌∷◌, None, refl, ap, ◌∙◌}
use Rattle.std.proofs.lemmas.Bool.{le-ltb}
use Rattle.tt_span.specs.Time.{max_time}
use Rattle.tt_world.specs.declared.events.Event.{Event}
use Rattle.tt_daemon.specs.Config.{Configuration}
use Rattle.tt_world.specs.Past.{time_of, packets_of, clock_reading, clock_of}
use Rattle.tt_world.specs.Bad.{names_unknown, lacks_packet, goes_back, lacks_publication, lacks_its_thing, uses_up_lives, first_bad, accepted}
use Rattle.tt_world.proofs.Histories.Judging.{IsGood, AreGood, accepted-good}

-- a good event is not bad for any reason
pub first_bad-good : (configs : List Configuration) (past : List Event) (event : Event) → IsGood configs past event → first_bad configs past event ≡ None
first_bad-good configs past event good =
    let falls : ltb event.at (time_of past) ≡ false = le-ltb event.at (time_of past) good.not_before in
    let late : ltb max_time event.at ≡ false = le-ltb max_time event.at good.in_time in
    let named : names_unknown configs event.action ≡ false = good.named in
    let packet : lacks_packet (packets_of past) event.action ≡ false = good.packet_there in
    let clock : goes_back (clock_of past) (clock_reading past event.action) ≡ false = good.clock_on in
    let publication : lacks_publication configs past event.action ≡ false = good.publication_there in
    let thing : lacks_its_thing configs past event.action ≡ false = good.thing_there in
    let life : uses_up_lives past event.action ≡ false = good.life_left in
    rw (falls, late, named, packet, clock, publication, thing, life) refl

-- good events are all accepted
pub accepted-all : (configs : List Configuration) (past : List Event) → AreGood configs past → accepted configs past ≡ past
accepted-all configs [] good = refl
accepted-all configs (event ∷ past) good =
    let before : accepted configs past ≡ past = accepted-all configs past good.1 in
    accepted-good configs past event (ap (λ (p : List Event). first_bad configs p event) before ∙ first_bad-good configs past event good.0) ∙ ap (λ (p : List Event). event ∷ p) before
