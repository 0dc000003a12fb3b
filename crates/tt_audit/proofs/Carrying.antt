-- What is kept of packets is what is defined of them.
use Rattle.std.proofs.Common.{◌≡◌, ℕ, ◌+◌, ◌-◌, Bool, false, not, List, [], ◌∷◌, ◌++◌, length, map, slice_get, Option, Some, None, inl, inr, refl, ap, ap₂, ◌∙◌, sym, arith, length-append, append-nil}
use Rattle.std.specs.Option.{option_map}
use Rattle.std.proofs.lemmas.Bool.{cases_lt}
use Rattle.std.proofs.lemmas.Option.{slice_get-map, slice_get_within}
use Rattle.std.proofs.lemmas.List.{length-map}
use Rattle.tt_span.specs.Interval.{Interval}
use Rattle.tt_world.specs.declared.events.Event.{Event}
use Rattle.tt_world.specs.declared.events.Action.{Action}
use Rattle.tt_world.specs.declared.events.Action.TheVariants.{Send, Answer, Forge}
use Rattle.tt_world.specs.declared.packets.Packet.{Packet}
use Rattle.tt_world.specs.declared.packets.Packet.TheVariants.{Asked, Answered, Forged}
use Rattle.tt_world.specs.Packet.{answer_to}
use Rattle.tt_world.specs.Life.{life_of}
use Rattle.tt_world.specs.Past.{sends_now, put_by, packets_of}
use Rattle.tt_world.specs.Bad.{is_request, lacks_packet}
use Rattle.tt_world.specs.Assumptions.{origin_of, is_lie, is_lying}
use Rattle.tt_world.proofs.Histories.Places.{get_front, get_back}
use Rattle.tt_world.proofs.Histories.Origins.{put_place, origin-old, origin-new}
use Rattle.tt_audit.specs.declared.packets.Carried.{Carried}
use Rattle.tt_audit.specs.Watch.{packet_note, carried_of, carried_by, carried_after}

-- the packets that an event puts
abbrev put : List Event → Action → List Packet
put past action = put_by (life_of past) (sends_now past) (packets_of past) action

-- as many packets are kept as were put
pub length-carried_of : (past : List Event) → length (carried_of past) ≡ length (packets_of past)
length-carried_of [] = refl
length-carried_of (event ∷ past) =
    length-append (carried_of past) (map (packet_note (is_lie event.at event.action)) (put past event.action))
    ∙ ap₂ (λ (m n : ℕ). m + n) (length-carried_of past) (length-map (put past event.action) (packet_note (is_lie event.at event.action)))
    ∙ sym (length-append (packets_of past) (put past event.action))

-- what is kept of a packet that was put
pub carried-at : (past : List Event) (p : ℕ) (packet : Packet) → slice_get (packets_of past) p ≡ Some packet
    → slice_get (carried_of past) p ≡ Some (packet_note (is_lying (origin_of past p)) packet)
carried-at [] p packet e = absurd cc
carried-at (event ∷ past) p packet e =
    let lie : Bool = is_lie event.at event.action in
    let new : List Carried = map (packet_note lie) (put past event.action) in
    let long : length (carried_of past) ≡ length (packets_of past) = length-carried_of past in
    elim (cases_lt p (length (packets_of past))) [
      | inl lt ↦
          get_front (carried_of past) new p (omega arith)
          ∙ carried-at past p packet (sym (get_front (packets_of past) (put past event.action) p lt) ∙ e)
          ∙ ap (λ (o : Option Event). Some (packet_note (is_lying o) packet)) (sym (origin-old past event p lt))
      | inr ge ↦
          get_back (carried_of past) new p (p - length (packets_of past)) (omega arith)
          ∙ slice_get-map (packet_note lie) (put past event.action) (p - length (packets_of past))
          ∙ ap (λ (o : Option Packet). option_map (packet_note lie) o) (put_place past event p packet ge e)
          ∙ ap (λ (o : Option Event). Some (packet_note (is_lying o) packet)) (sym (origin-new past event p ge (slice_get_within (packets_of (event ∷ past)) p packet e)))
    ]

-- the answer to a request that was put
answered : (past : List Event) (p : ℕ) (lie : Bool) (span : Interval) (o : Option Packet) → slice_get (packets_of past) p ≡ o → not (is_request o) ≡ false
    → carried_after (carried_of past) (option_map (λ asked. record { machine = asked.machine; source = asked.source; is_lie = lie }) (slice_get (carried_of past) p))
    ≡ carried_of past ++ map (packet_note lie) (answer_to o span)
answered past p lie span None e there = absurd cc
answered past p lie span (Some (Answered answer)) e there = absurd cc
answered past p lie span (Some (Forged machine source payload)) e there = absurd cc
answered past p lie span (Some (Asked request)) e there =
    ap (λ (o : Option Carried). carried_after (carried_of past) (option_map (λ asked. record { machine = asked.machine; source = asked.source; is_lie = lie }) o)) (carried-at past p (Asked request) e)

-- what is kept after an event that lacks no packet
pub carried_of-more : (past : List Event) (at : ℕ) (action : Action) → lacks_packet (packets_of past) action ≡ false
    → carried_after (carried_of past) (carried_by (carried_of past) at action) ≡ carried_of (record { at = at; action = action } ∷ past)
carried_of-more past at (Send machine source clock) there = refl
carried_of-more past at (Answer p span) there = answered past p (is_lie at (Answer p span)) span (slice_get (packets_of past) p) refl there
carried_of-more past at (Forge machine source payload) there = refl
carried_of-more past at _ there = sym (append-nil (carried_of past))
