-- The reply to each event.
use Rattle.std.specs.Prelude.{◌≡◌, ℕ, ◌+◌, ◌≤◌, List, [], ◌∷◌, length, slice_get, Option, Some, None, Result, Ok, Err}
use Rattle.tt_poll.specs.Reading.{read_of2}
use Rattle.tt_source.specs.Fault.{number_of}
use Rattle.tt_source.specs.Statement.{Statement}
use Rattle.tt_source.specs.Table.{statement_of_message}
use Rattle.tt_source.specs.declared.faults.SourceFault.{SourceFault}
use Rattle.tt_stamp.specs.declared.faults.StampFault.{StampFault}
use Rattle.tt_stamp.specs.declared.faults.BookFault.{BookFault}
use Rattle.tt_stamp.specs.Fault.{number_of as stamp_number_of, book_number_of}
use Rattle.tt_world.specs.Life.{Life, life_of, life_at}
use Rattle.tt_world.specs.declared.events.Event.{Event}
use Rattle.tt_world.specs.declared.events.Action.{Action}
use Rattle.tt_world.specs.declared.events.Action.TheVariants as does
use Rattle.tt_world.specs.declared.events.Reply.{Reply}
use Rattle.tt_world.specs.declared.events.Reply.TheVariants.{Sent, Put, Taken, Published, Read, Arrived, Stamped, Queued, Restarted, Leased, Released, Refused}
use Rattle.tt_world.specs.declared.packets.Packet.{Packet}
use Rattle.tt_publish.specs.declared.readings.FusedSpan.{FusedSpan}
use Rattle.tt_daemon.specs.Config.{Configuration}
use Rattle.tt_world.specs.Config.{config_at}
use Rattle.tt_world.specs.Packet.{machine_of_packet, source_of_packet, bytes_of}
use Rattle.tt_world.specs.Past.{packets_of}
use Rattle.tt_world.specs.Sources.{stated_by, outstanding_poll}
use Rattle.tt_world.specs.Publications.{fusion_of, publications_of, publication_at, reading_at}
use Rattle.tt_world.specs.Commits.{reading_of, stamping_of, queueing_of, book_of, released_with}
use Rattle.tt_world.specs.declared.faults.WorldFault.{WorldFault}
use Rattle.tt_world.specs.declared.faults.WorldFault.TheVariants as bad
use Rattle.tt_world.specs.Fault.{bad_reply}
use Rattle.tt_world.specs.Bad.{first_bad, accepted}

-- the reply to a delivery that made a statement, or was refused
abbrev pub delivery_reply : Result Statement SourceFault → Reply
delivery_reply (Ok statement) = Taken
delivery_reply (Err fault) = Refused (number_of fault)

-- the reply to the delivery of a packet at a clock reading, to which no packet is lacking
abbrev pub reply_to_packet : List Event → ℕ → Option Packet → Reply
reply_to_packet past clock None = bad_reply bad.NoPacket
reply_to_packet past clock (Some packet) =
    let m = machine_of_packet packet in
    let i = source_of_packet packet in
    delivery_reply (statement_of_message m (life_of past m) i (outstanding_poll past (life_at past m) i) clock (read_of2 (bytes_of packet)))

-- the reply to a fusion, after so many publications
abbrev pub fusion_reply : ℕ → Result FusedSpan ℕ → Reply
fusion_reply count (Ok publication) = Published (count + 1) publication.span
fusion_reply count (Err number) = Refused number

-- the reply to a stamping, if there is a commit and a reading
abbrev pub stamping_reply : Option (Result ℕ StampFault) → Reply
stamping_reply None = bad_reply bad.NothingThere
stamping_reply (Some (Ok stamp)) = Stamped stamp
stamping_reply (Some (Err fault)) = Refused (stamp_number_of fault)

-- the reply to a queueing, by what refuses it
abbrev pub queueing_reply : Option BookFault → Reply
queueing_reply None = Queued
queueing_reply (Some fault) = Refused (book_number_of fault)

-- the reply to an event that is not bad
abbrev pub reply_to : List Configuration → List Event → Action → Reply
reply_to configs past (does.Send machine source clock) = Sent (length (packets_of past))
reply_to configs past (does.Answer packet span) = Put (length (packets_of past))
reply_to configs past (does.Forge machine source payload) = Put (length (packets_of past))
reply_to configs past (does.Deliver packet clock) = reply_to_packet past clock (slice_get (packets_of past) packet)
reply_to configs past (does.Fuse machine clock) =
    fusion_reply (length (publications_of (config_at configs machine) past (life_at past machine))) (fusion_of (config_at configs machine) past (life_at past machine) clock)
reply_to configs past (does.Read machine worker clock publication) =
    Read (reading_at (config_at configs machine).drift (publication_at (publications_of (config_at configs machine) past (life_at past machine)) publication) clock)
reply_to configs past (does.Arrive machine worker id floor) = Arrived
reply_to configs past (does.Stamp machine worker) = stamping_reply (stamping_of (config_at configs machine) past (life_at past machine) worker)
reply_to configs past (does.Queue machine worker) = queueing_reply (queueing_of (config_at configs machine) past (life_at past machine) worker)
reply_to configs past (does.Restart machine clock) = Restarted (life_of past machine + 1)
reply_to configs past (does.Lease machine lease) = Leased
reply_to configs past (does.Release machine worker) =
    Released (released_with (book_of (config_at configs machine) past (life_at past machine)) (reading_of (config_at configs machine) past (life_at past machine) worker))

-- the reply has the number of a reason why an event is bad
abbrev pub IsBadReply : Reply → Type 0
IsBadReply (Refused number) = (1201 ≤ number) × (number ≤ 1208)
IsBadReply _ = ⊥

-- the reply is one for which its call takes memory
abbrev pub TakesMemory : Reply → Type 0
TakesMemory (Sent number) = Unit {0}
TakesMemory (Put number) = Unit {0}
TakesMemory (Published number span) = Unit {0}
TakesMemory Queued = Unit {0}
TakesMemory (Released receipts) = Unit {0}
TakesMemory _ = ⊥

-- the reply to an event of which it is known whether it is bad
abbrev pub reply_unless_bad : Option WorldFault → Reply → Reply
reply_unless_bad None reply = reply
reply_unless_bad (Some fault) reply = bad_reply fault

-- the reply to an event after a list of events, bad ones among them, the newest first
abbrev pub reply_of : List Configuration → List Event → Event → Reply
reply_of configs past event =
    let before = accepted configs past in
    reply_unless_bad (first_bad configs before event) (reply_to configs before event.action)

-- the replies to a list of events, the oldest first, after a past, the newest first
abbrev pub replies_from : List Configuration → List Event → List Event → List Reply
replies_from configs past [] = []
replies_from configs past (event ∷ events) = reply_of configs past event ∷ replies_from configs (event ∷ past) events

-- the event is not bad, and makes a statement for a source of a machine
abbrev pub MakesStatement : List Configuration → List Event → Event → Type 0
MakesStatement configs past event =
    let before = accepted configs past in
    (first_bad configs before event ≡ None)
    × ((life : Life) × (i : ℕ) × (statement : Statement) × (stated_by before life i (outstanding_poll before life i) event.action ≡ Some statement))
