-- What each machine knows of its sources, searched back.
use Rattle.std.specs.Prelude.{ℕ, ◌+◌, ◌==◌, ◌&&◌, ◌||◌, Bool, false, if◌then◌else◌, List, [], ◌∷◌, slice_get, is_some, Option, Some, None}
use Rattle.std.specs.Option.{option_or}
use Rattle.std.specs.Result.{result_ok}
use Rattle.tt_poll.specs.Reading.{read_of2}
use Rattle.tt_source.specs.Statement.{Statement}
use Rattle.tt_source.specs.Table.{Sending, statement_of_message}
use Rattle.tt_world.specs.Life.{Life, is_of}
use Rattle.tt_world.specs.declared.events.Event.{Event}
use Rattle.tt_world.specs.declared.events.Action.{Action}
use Rattle.tt_world.specs.declared.events.Action.TheVariants.{Send, Deliver}
use Rattle.tt_world.specs.declared.packets.Packet.{Packet}
use Rattle.tt_world.specs.Packet.{machine_of_packet, source_of_packet, bytes_of}
use Rattle.tt_world.specs.Past.{sends_of, packets_of}

-- the poll of source i that an event sends in this life, if it does
abbrev pub sent_by : List Event → Life → ℕ → Action → Option Sending
sent_by past life i (Send machine source clock) = if is_of past life machine && source == i then Some (record { nonce = sends_of past life + 1; clock = clock }) else None
sent_by past life i _ = None

-- the last poll that this life sent to source i
abbrev pub last_send : List Event → Life → ℕ → Option Sending
last_send [] life i = None
last_send (event ∷ past) life i = option_or (sent_by past life i event.action) (last_send past life i)

-- what a packet that comes at this clock reading states for source i of this life, if this is the poll that waits
abbrev pub stated_in : List Event → Life → ℕ → Option Sending → ℕ → Option Packet → Option Statement
stated_in past life i waiting clock None = None
stated_in past life i waiting clock (Some packet) =
    if is_of past life (machine_of_packet packet) && source_of_packet packet == i
    then result_ok (statement_of_message life.machine life.number i waiting clock (read_of2 (bytes_of packet)))
    else None

-- what an event states for source i of this life, if this is the poll that waits
abbrev pub stated_by : List Event → Life → ℕ → Option Sending → Action → Option Statement
stated_by past life i waiting (Deliver packet clock) = stated_in past life i waiting clock (slice_get (packets_of past) packet)
stated_by past life i waiting _ = None

-- whether an answer to the last poll of source i of this life has come since that poll was sent
abbrev pub is_answered : List Event → Life → ℕ → Bool
is_answered [] life i = false
is_answered (event ∷ past) life i =
    if is_some (sent_by past life i event.action) then false
    else (is_some (stated_by past life i (last_send past life i) event.action) || is_answered past life i)

-- the poll of source i that still waits for its answer: the last one, unless an answer to it has come
abbrev pub outstanding_poll : List Event → Life → ℕ → Option Sending
outstanding_poll past life i = if is_answered past life i then None else last_send past life i

-- the statement of source i in this life: that of the last delivery of an answer with the nonce of the last poll before it, if no answer to that poll had come between the two
abbrev pub statement_of : List Event → Life → ℕ → Option Statement
statement_of [] life i = None
statement_of (event ∷ past) life i = option_or (stated_by past life i (outstanding_poll past life i) event.action) (statement_of past life i)
