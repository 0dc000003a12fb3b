-- Commits out of order.
use Rattle.std.specs.Prelude.{ℕ, ◌+◌, ◌==◌, ◌&&◌, nat_le, Bool, false, if◌then◌else◌, List, [], ◌∷◌, ◌++◌, map, reverse, Option, Some, None}
use Rattle.std.specs.List.{list_any, zip}
use Rattle.tt_stamp.specs.declared.commits.Receipt.{Receipt}
use Rattle.tt_world.specs.declared.events.Event.{Event}
use Rattle.tt_world.specs.declared.events.Action.{Action}
use Rattle.tt_world.specs.declared.events.Action.TheVariants as does
use Rattle.tt_world.specs.declared.events.Reply.{Reply}
use Rattle.tt_world.specs.declared.events.Reply.TheVariants as replies
use Rattle.tt_audit.specs.declared.ordering.Position.{Position}
use Rattle.tt_audit.specs.declared.ordering.Stamping.{Stamping}

-- an event and the reply to it
pub record Answered : Type 0 where
  pub event : Event
  pub reply : Reply

-- the receipts of a reply
abbrev pub receipts_in : Reply → List Receipt
receipts_in (replies.Released receipts) = receipts
receipts_in _ = []

-- all receipts so far, of all machines
abbrev pub receipts_of : List Answered → List Receipt
receipts_of [] = []
receipts_of (answered ∷ past) = receipts_of past ++ receipts_in answered.reply

-- the worker that an event asks for a commit, if it does and was not refused
abbrev pub asked_by : Action → Reply → Option Position
asked_by (does.Arrive machine worker id floor) replies.Arrived = Some (record { machine = machine; worker = worker })
asked_by _ _ = None

-- whether this is worker w of machine m
abbrev pub is_worker : ℕ → ℕ → Option Position → Bool
is_worker m w None = false
is_worker m w (Some place) = place.machine == m && place.worker == w

-- the receipts from before worker w of machine m was last asked for a commit
abbrev pub receipts_before : List Answered → ℕ → ℕ → List Receipt
receipts_before [] m w = []
receipts_before (answered ∷ past) m w =
    if is_worker m w (asked_by answered.event.action answered.reply) then receipts_of past else receipts_before past m w

-- the stamp that an event gives, and to which worker, if it does
abbrev pub stamped_by : Action → Reply → Option Stamping
stamped_by (does.Stamp machine worker) (replies.Stamped stamp) = Some (record { place = record { machine = machine; worker = worker }; stamp = stamp })
stamped_by _ _ = None

-- whether a stamp is no greater than that of a commit that was released, on whatever machine, before its own commit arrived
abbrev pub is_late : List Answered → Option Stamping → Bool
is_late past None = false
is_late past (Some stamping) =
    list_any (λ receipt. nat_le stamping.stamp receipt.stamp) (receipts_before past stamping.place.machine stamping.place.worker)

-- how many stamps are out of order
abbrev pub violations_of : List Answered → ℕ
violations_of [] = 0
violations_of (answered ∷ past) =
    if is_late past (stamped_by answered.event.action answered.reply) then violations_of past + 1 else violations_of past

-- the events with their replies, the newest first
abbrev pub answered_of : List Event → List Reply → List Answered
answered_of events replies = reverse (map (λ p. record { event = p.0; reply = p.1 }) (zip events replies))
