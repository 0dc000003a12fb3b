-- What a master makes of the packets that come, and what it sends.
use Rattle.std.specs.Prelude.{◌≡◌, ℕ, ◌==◌, if◌then◌else◌, List, replicate, Option, Some, None, Result, Ok, Err}
use Rattle.tt_span.specs.Interval.{Interval, Holds}
use Rattle.tt_poll.specs.declared.faults.PollFault.{PollFault}
use Rattle.tt_poll.specs.declared.messages.Message.{Message}
use Rattle.tt_poll.specs.declared.messages.Message.TheVariants as message
use Rattle.tt_poll.specs.declared.messages.Message2.{Message2}
use Rattle.tt_poll.specs.declared.messages.Message2.TheVariants as message2
use Rattle.tt_poll.specs.Message.{PollRequest, PollAnswer, IsAnswer, answer_to, PollRequest2, PollAnswer2, IsAnswer2, answer_to2}
use Rattle.tt_poll.specs.Spelling.{spelling_of, spelling_of2}
use Rattle.tt_poll.specs.Reading.{read_of, read_of2}
use Rattle.tt_master.specs.declared.faults.MasterFault.{MasterFault}
use Rattle.tt_master.specs.declared.faults.MasterFault.TheVariants.{BadMessage, OtherSource, NotRequest}
use Rattle.tt_master.specs.declared.hearing.Heard.{Heard}

-- a message as a master hears it: the source that it names, and the request where it is one
abbrev pub heard_as : Message → Heard PollRequest
heard_as (message.Request r) = record { source = r.source; request = Some r }
heard_as (message.Answer a) = record { source = a.source; request = None }

-- the same of a message with an epoch
abbrev pub heard_as2 : Message2 → Heard PollRequest2
heard_as2 (message2.Request r) = record { source = r.source; request = Some r }
heard_as2 (message2.Answer a) = record { source = a.source; request = None }

-- what a master hears in bytes that are read so, if they are a message
abbrev pub heard_in : {M Q : Type 0} → (M → Heard Q) → Result M PollFault → Option (Heard Q)
heard_in heard (Ok m) = Some (heard m)
heard_in heard (Err _) = None

-- the request, or the refusal of an answer
abbrev pub unless_answer : {Q : Type 0} → Option Q → Result Q MasterFault
unless_answer (Some request) = Ok request
unless_answer None = Err NotRequest

-- the request to this source that was heard, or the first refusal that applies: it is no message, or it names another
-- source, or it is no request
abbrev pub request_heard : {Q : Type 0} → ℕ → Option (Heard Q) → Result Q MasterFault
request_heard source None = Err BadMessage
request_heard source (Some heard) = if heard.source == source then unless_answer heard.request else Err OtherSource

-- the request to this source that the bytes spell, or the first refusal that applies
abbrev pub request_to : ℕ → List ℕ → Result PollRequest MasterFault
request_to source bytes = request_heard source (heard_in heard_as (read_of bytes))

-- the same of TTP2
abbrev pub request_to2 : ℕ → List ℕ → Result PollRequest2 MasterFault
request_to2 source bytes = request_heard source (heard_in heard_as2 (read_of2 bytes))

-- the answer to the request that the true time lies in the span, as a packet
abbrev pub packet_to : PollRequest → Interval → List ℕ
packet_to request span = spelling_of (message.Answer (answer_to request span))

-- the same of TTP2
abbrev pub packet_to2 : PollRequest2 → Interval → List ℕ
packet_to2 request span = spelling_of2 (message2.Answer (answer_to2 request span))

-- the packet is an answer that is true at this time: its span holds it
abbrev pub IsTrueAnswer : List ℕ → ℕ → Type 0
IsTrueAnswer packet time = (a : PollAnswer) × IsAnswer a × (packet ≡ spelling_of (message.Answer a)) × Holds a.span time

-- the same of TTP2
abbrev pub IsTrueAnswer2 : List ℕ → ℕ → Type 0
IsTrueAnswer2 packet time = (a : PollAnswer2) × IsAnswer2 a × (packet ≡ spelling_of2 (message2.Answer a)) × Holds a.span time

-- so many bytes that are no message
abbrev pub garbage : ℕ → List ℕ
garbage len = replicate len 255
