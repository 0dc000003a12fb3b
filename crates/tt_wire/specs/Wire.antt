-- What goes over the wire between a machine and a master.
use Rattle.std.specs.Prelude.{◌≡◌, ℕ, ◌<◌, ◌≤◌, ◌^◌, List, [], ◌∷◌, length, nat_lt, slice_get, unwrap_or, if◌then◌else◌, Option, Some, None, Result, Ok, Err}
use Rattle.tt_span.specs.Interval.{Interval}
use Rattle.tt_poll.specs.declared.messages.Message2.TheVariants.{Request, Answer}
use Rattle.tt_poll.specs.Message.{PollRequest2, answer_to2}
use Rattle.tt_poll.specs.Spelling.{spelling_of2}
use Rattle.tt_seal.specs.Sealing.{SealKey, max_message, sealing_of, key_with, opened_as, opened_of}
use Rattle.tt_seal.specs.declared.faults.SealFault.{SealFault}
use Rattle.tt_seal.specs.declared.sealing.Opened.{Opened}
use Rattle.tt_wire.specs.declared.rings.Ring.{Ring}
use Rattle.tt_wire.specs.declared.wires.Incoming.{Incoming}
use Rattle.tt_wire.specs.Moving.{moved, moved_back, moved_request}

-- the most bytes of a packet
abbrev pub max_packet : ℕ
max_packet = 64

-- the keys of a ring
abbrev pub keys_in : Ring → List SealKey
keys_in ring = ring.keys.items

-- a machine's wire: the keys that are shared with each peer, those of peer i at place i, and how far nonces are ahead
pub record Wiring : Type 0 where
  pub rings : List (List SealKey)
  pub ahead : ℕ

-- nonces are moved by less than 2^63
pub record IsWiring (wire : Wiring) : Type 0 where
  pub ahead_fits : wire.ahead < 2 ^ 63

-- no peer is sealed, and nonces stay
abbrev pub open_wire : Wiring
open_wire = record { rings = []; ahead = 0 }

-- the keys that are shared with a peer: none where there is no ring
abbrev pub keys_of : Wiring → ℕ → List SealKey
keys_of wire peer = unwrap_or (slice_get wire.rings peer) []

-- what is sent: the sealing under the first of the keys, and the bytes themselves where there is none; nothing where it would not fit
abbrev pub sent_under : List SealKey → List ℕ → Option (List ℕ)
sent_under [] bytes = if nat_lt max_packet (length bytes) then None else Some bytes
sent_under (first ∷ others) bytes = if nat_lt max_message (length bytes) then None else Some (sealing_of bytes first)

-- what is sent to a peer for a message of the daemon
unfoldable pub outgoing_of : Wiring → ℕ → List ℕ → Option (List ℕ)
outgoing_of wire peer message = sent_under (keys_of wire peer) (moved wire.ahead message)

-- what is handed up: a message, and the number of the key under which it came, if it was sealed
abbrev pub incoming_as : Option ℕ → List ℕ → Incoming
incoming_as number message = record { number = number; message = record { items = message } }

-- what is handed up of an envelope, by what it is under the keys of its peer
abbrev pub handed_up : ℕ → Result Opened SealFault → Result Incoming SealFault
handed_up ahead (Ok opened) = Ok (incoming_as (Some opened.number) (moved_back ahead opened.message.items))
handed_up ahead (Err fault) = Err fault

-- what is handed up of bytes that came from a peer with these keys
abbrev pub came_under : List SealKey → ℕ → List ℕ → Result Incoming SealFault
came_under [] ahead bytes = Ok (incoming_as None (moved_back ahead bytes))
came_under (first ∷ others) ahead bytes = handed_up ahead (opened_of bytes (first ∷ others))

-- what is handed up of bytes that came from a peer
unfoldable pub incoming_of : Wiring → ℕ → List ℕ → Result Incoming SealFault
incoming_of wire peer bytes = came_under (keys_of wire peer) wire.ahead bytes

-- the bytes came sealed under one of these keys, with what is handed up in them
pub record CameSealed (keys : List SealKey) (ahead : ℕ) (bytes : List ℕ) (incoming : Incoming) : Type 0 where
  pub key : SealKey
  pub known : key_with keys key.number ≡ Some key
  pub numbered : incoming.number ≡ Some key.number
  pub fits : length incoming.message.items ≤ max_message
  pub sealed : bytes ≡ sealing_of (moved ahead incoming.message.items) key

-- ---- a master's end

-- a master's requests: the keys of those that may ask, and the number of the key of the last request that opened
pub record Asking : Type 0 where
  pub keys : List SealKey
  pub asked : Option ℕ

-- the number of the key of the last request that opened, after these bytes
abbrev pub asked_after : Result Opened SealFault → Option ℕ → Option ℕ
asked_after (Ok opened) asked = Some opened.number
asked_after (Err fault) asked = asked

-- the sealing under the key that was found, if one was, and the message is not too long
abbrev pub sealed_with : Option SealKey → List ℕ → Option (List ℕ)
sealed_with None message = None
sealed_with (Some key) message = if nat_lt max_message (length message) then None else Some (sealing_of message key)

-- what is sent for an answer where the last request had the key with this number
abbrev pub answer_under : List SealKey → Option ℕ → List ℕ → Option (List ℕ)
answer_under keys None message = None
answer_under keys (Some number) message = sealed_with (key_with keys number) message

-- what is sent for an answer: its sealing under the key of the last request that opened, while it is there
unfoldable pub answer_of : Asking → List ℕ → Option (List ℕ)
answer_of requests message = answer_under requests.keys requests.asked message

-- a poll of a peer: the request opens at the master, whose answer under its key is handed up as the answer to the request
pub record IsPolled (wire : Wiring) (peer : ℕ) (requests : Asking) (key : SealKey) (request : PollRequest2) (span : Interval) : Type 0 where
  pub sent : List ℕ
  pub back : List ℕ
  pub goes : outgoing_of wire peer (spelling_of2 (Request request)) ≡ Some sent
  pub opens : opened_of sent requests.keys ≡ Ok (opened_as (spelling_of2 (Request (moved_request wire.ahead request))) key.number)
  pub answers : answer_of (record requests { asked = asked_after (opened_of sent requests.keys) requests.asked }) (spelling_of2 (Answer (answer_to2 (moved_request wire.ahead request) span))) ≡ Some back
  pub arrives : incoming_of wire peer back ≡ Ok (incoming_as (Some key.number) (spelling_of2 (Answer (answer_to2 request span))))
