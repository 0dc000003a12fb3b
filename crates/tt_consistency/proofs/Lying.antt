-- Whether a statement is false after one more event.
use Rattle.std.proofs.Common.{◌≡◌, ℕ, ◌<◌, Bool, true, false, cond, List, [], ◌∷◌, length, slice_get, is_some, Option, Some, None, refl, ap, subst, ◌∙◌, arith, length-append}
use Rattle.std.specs.Option.{option_and_then}
use Rattle.std.proofs.lemmas.Option.{slice_get_within}
use Rattle.tt_source.specs.Table.{Sending}
use Rattle.tt_world.specs.Assumptions.{origin_of, delivered_by, packet_of_statement, is_lying, is_false_statement}
use Rattle.tt_world.specs.Life.{Life, life_of}
use Rattle.tt_world.specs.Past.{packets_of, put_by, sends_now}
use Rattle.tt_world.specs.Sources.{stated_in, stated_by, outstanding_poll}
use Rattle.tt_world.specs.declared.events.Event.{Event}
use Rattle.tt_world.specs.declared.events.Action.{Action}
use Rattle.tt_world.specs.declared.events.Action.TheVariants.{Deliver}
use Rattle.tt_world.specs.declared.packets.Packet.{Packet}
use Rattle.tt_world.proofs.Histories.Origins.{origin-old}

-- an event that states something delivers a packet that was put
delivered-within : (past : List Event) (life : Life) (i : ℕ) (waiting : Option Sending) (action : Action) (p : ℕ) → is_some (stated_by past life i waiting action) ≡ true → delivered_by action ≡ Some p → p < length (packets_of past)
delivered-within past life i waiting (Deliver q clock) p states is = by_packet (slice_get (packets_of past) q) refl states
  where
    by_packet : (o : Option Packet) → slice_get (packets_of past) q ≡ o → is_some (stated_in past life i waiting clock o) ≡ true → p < length (packets_of past)
    by_packet None e h = absurd cc
    by_packet (Some packet) e h = let same : q ≡ p = cc in subst (λ (k : ℕ). k < length (packets_of past)) same (slice_get_within (packets_of past) q packet e)
delivered-within past life i waiting _ p states is = absurd cc

packet_before-within : (past : List Event) (event : Event) (life : Life) (i p : ℕ) (b : Bool) → is_some (stated_by past life i (outstanding_poll past life i) event.action) ≡ b
    → (packet_of_statement past life i ≡ Some p → p < length (packets_of past)) → cond b (delivered_by event.action) (packet_of_statement past life i) ≡ Some p → p < length (packets_of past)
packet_before-within past event life i p true states old is = delivered-within past life i (outstanding_poll past life i) event.action p states is
packet_before-within past event life i p false states old is = old is

packet-within : (past : List Event) (life : Life) (i p : ℕ) → packet_of_statement past life i ≡ Some p → p < length (packets_of past)
packet-within [] life i p is = absurd cc
packet-within (event ∷ past) life i p is =
    let old : p < length (packets_of past) = packet_before-within past event life i p (is_some (stated_by past life i (outstanding_poll past life i) event.action)) refl (packet-within past life i p) is in
    omega (arith, old, length-append (packets_of past) (put_by (life_of past) (sends_now past) (packets_of past) event.action))

lying-old : (past : List Event) (event : Event) (o : Option ℕ) → ((p : ℕ) → o ≡ Some p → p < length (packets_of past))
    → is_lying (option_and_then (origin_of (event ∷ past)) o) ≡ is_lying (option_and_then (origin_of past) o)
lying-old past event None within = refl
lying-old past event (Some p) within = ap is_lying (origin-old past event p (within p refl))

-- whether a statement is false after an event: by the packet that the event delivers, if that makes the statement, and as before if not
pub is_false-more : (past : List Event) (event : Event) (life : Life) (i : ℕ) (b : Bool) → is_some (stated_by past life i (outstanding_poll past life i) event.action) ≡ b
    → is_false_statement (event ∷ past) life i ≡ cond b (is_lying (option_and_then (origin_of past) (delivered_by event.action))) (is_false_statement past life i)
is_false-more past event life i b is =
    lying-old past event (packet_of_statement (event ∷ past) life i) (λ p e. packet_before-within past event life i p (is_some (stated_by past life i (outstanding_poll past life i) event.action)) refl (packet-within past life i p) e)
    ∙ ap (λ (t : Bool). is_lying (option_and_then (origin_of past) (cond t (delivered_by event.action) (packet_of_statement past life i)))) is
    ∙ by_test b
  where
    by_test : (t : Bool) → is_lying (option_and_then (origin_of past) (cond t (delivered_by event.action) (packet_of_statement past life i)))
        ≡ cond t (is_lying (option_and_then (origin_of past) (delivered_by event.action))) (is_false_statement past life i)
    by_test true = refl
    by_test false = refl
