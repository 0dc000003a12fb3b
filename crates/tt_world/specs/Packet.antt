-- The packets in transit between machines and sources.
use Rattle.std.specs.Prelude.{ℕ, Bool, true, false, List, [], ◌∷◌, Option, Some}
use Rattle.tt_span.specs.Interval.{Interval}
use Rattle.tt_poll.specs.declared.messages.Message2.TheVariants.{Request, Answer}
use Rattle.tt_poll.specs.Message.{answer_to2}
use Rattle.tt_poll.specs.Spelling.{spelling_of2}
use Rattle.tt_world.specs.declared.packets.Packet.{Packet}
use Rattle.tt_world.specs.declared.packets.Packet.TheVariants.{Asked, Answered, Forged}

-- the machine that a packet goes to or comes from
abbrev pub machine_of_packet : Packet → ℕ
machine_of_packet (Asked request) = request.machine
machine_of_packet (Answered answer) = answer.machine
machine_of_packet (Forged machine source payload) = machine

-- the source that a packet goes to or comes from
abbrev pub source_of_packet : Packet → ℕ
source_of_packet (Asked request) = request.source
source_of_packet (Answered answer) = answer.source
source_of_packet (Forged machine source payload) = source

-- the bytes of a packet
abbrev pub bytes_of : Packet → List ℕ
bytes_of (Asked request) = spelling_of2 (Request request)
bytes_of (Answered answer) = spelling_of2 (Answer answer)
bytes_of (Forged machine source payload) = payload

-- whether a packet is a request
abbrev pub is_asked : Packet → Bool
is_asked (Asked request) = true
is_asked _ = false

-- the answer of this span to a packet, if that is there and is a request
abbrev pub answer_to : Option Packet → Interval → List Packet
answer_to (Some (Asked request)) span = Answered (answer_to2 request span) ∷ []
answer_to _ span = []
