-- A master's link that hands up only sealed requests, and answers each under its key.
use Rattle.std.specs.Prelude.{◌≡◌, ℕ, ◌+◌, min, List, [], ◌∷◌, map, ◌==◌, if◌then◌else◌, Option, Some, None, Result, Ok, Err}
use Rattle.tt_stream.specs.Counts.{count_after}
use Rattle.tt_seal.specs.Sealing.{SealKey, IsBytes, sealing_of, key_with, opened_of}
use Rattle.tt_seal.specs.declared.faults.SealFault.{SealFault}
use Rattle.tt_seal.specs.declared.sealing.Opened.{Opened}
use Rattle.tt_wire.specs.Wire.{Asking, answer_of, asked_after}
use Rattle.tt_rounds.specs.Link.{Packet, Call, Send, Receive, Gift, Went, Came, NothingCame, Broke}
use Rattle.tt_rounds.specs.Hearing.{counted_by}
use Rattle.tt_rounds.specs.declared.sealed_answers.KeyCount.{KeyCount}

-- how many answers were sent under the key with this number, 0 where no such key is there
abbrev pub answers_in : List KeyCount → ℕ → ℕ
answers_in [] number = 0
answers_in (count ∷ others) number = if count.number == number then count.answers else answers_in others number

-- the count of a key after one more was sent under the key with this number
abbrev pub count_with : ℕ → KeyCount → KeyCount
count_with number count = if count.number == number then record { number = number; answers = count_after count.answers 1 } else count

-- the counts after one more was sent under the key with this number
abbrev pub counted_in : List KeyCount → ℕ → List KeyCount
counted_in counts number = map (count_with number) counts

-- the counts of these keys, by those that there were
abbrev pub counts_for : List KeyCount → List SealKey → List KeyCount
counts_for counts keys = map (λ key. record { number = key.number; answers = answers_in counts key.number }) keys

-- what a master's link keeps: its keys with the number of that of the last request, how many packets it dropped by the three reasons, and how many answers it sent under each key
pub record Desk : Type 0 where
  pub asking : Asking
  pub dropped : List ℕ
  pub counts : List KeyCount

-- the bytes are sent as they are; where there are none, the link under it is not called
abbrev pub Sends : {L : Type 0} → (L → Call → Gift → L → Type 0) → Option (List ℕ) → ℕ → L → Gift → L → Type 0
Sends does (Some sealed) peer before gift after = does before (Send (record { peer = peer; bytes = sealed })) gift after
Sends does None peer before gift after = (gift ≡ Broke) × (after ≡ before)

-- one more answer was sent under the key of the last request
abbrev pub counted_for : Option ℕ → List KeyCount → List KeyCount
counted_for None counts = counts
counted_for (Some number) counts = counted_in counts number

-- what is kept after this was to be sent: an answer that went is counted
abbrev pub desk_sent : Gift → Desk → Desk
desk_sent Went desk = record { asking = desk.asking; dropped = desk.dropped; counts = counted_for desk.asking.asked desk.counts }
desk_sent gift desk = desk

-- what is handed up of bytes from a peer, by what they are under the keys: the message, or nothing
abbrev pub handed_as : ℕ → Result Opened SealFault → Gift
handed_as peer (Ok opened) = Came (record { peer = peer; bytes = opened.message.items })
handed_as peer (Err fault) = NothingCame

-- what is handed up of what the link under it gave
abbrev pub handed_on : List SealKey → Gift → Gift
handed_on keys (Came packet) = handed_as packet.peer (opened_of packet.bytes keys)
handed_on keys gift = gift

-- how many were dropped after these bytes
abbrev pub dropped_after : Result Opened SealFault → List ℕ → List ℕ
dropped_after (Ok opened) dropped = dropped
dropped_after (Err fault) dropped = counted_by fault dropped

-- what is kept after these bytes
abbrev pub desk_asked : Result Opened SealFault → Desk → Desk
desk_asked opened desk = record {
  asking = record { keys = desk.asking.keys; asked = asked_after opened desk.asking.asked };
  dropped = dropped_after opened desk.dropped;
  counts = desk.counts;
}

-- what is kept after what the link under it gave
abbrev pub desk_after : Gift → Desk → Desk
desk_after (Came packet) desk = desk_asked (opened_of packet.bytes desk.asking.keys) desk
desk_after gift desk = desk

-- what came is bytes
abbrev pub AreBytes : Gift → Type 0
AreBytes (Came packet) = IsBytes packet.bytes
AreBytes gift = Unit {0}

-- what is handed up where this came, and what is kept of it: a packet that opens is handed up as its message, and any other is dropped and counted, as if nothing had come
pub record HandsOn (before : Desk) (came gift : Gift) (after : Desk) : Type 0 where
  pub small : AreBytes came
  pub given : gift ≡ handed_on before.asking.keys came
  pub kept : after ≡ desk_after came before

-- what a master's link does over another one
abbrev pub AnswersSealed : {L : Type 0} → (L → Call → Gift → L → Type 0) → L → Desk → Call → Gift → L → Desk → Type 0
AnswersSealed does before desk (Send packet) gift after desk' =
    Sends does (answer_of desk.asking packet.bytes) packet.peer before gift after × (desk' ≡ desk_sent gift desk)
AnswersSealed does before desk Receive gift after desk' =
    (came : Gift) × does before Receive came after × HandsOn desk came gift desk'

-- the failures of the link under it and its own, up to 2^64 - 1
abbrev pub failed_in : ℕ → ℕ → ℕ
failed_in under own = min (under + own) 18446744073709551615

-- a packet that was handed up came sealed under one of these keys, which is that of the request from now on
pub record AskedSealed (keys : List SealKey) (came : Gift) (packet : Packet) (asked : Option ℕ) : Type 0 where
  pub key : SealKey
  pub known : key_with keys key.number ≡ Some key
  pub asks : asked ≡ Some key.number
  pub was : came ≡ Came (record { peer = packet.peer; bytes = sealing_of packet.bytes key })
