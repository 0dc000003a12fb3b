-- What a link keeps of its peers in a round: which poll each of them is to answer, and how many other packets of it are still handed up.
use Rattle.std.specs.Prelude.{◌≡◌, ℕ, ◌+◌, ◌-◌, nat_lt, ◌==◌, ℤ, pos, negsuc, Bool, true, false, ◌&&◌, ◌||◌, if◌then◌else◌, List, [], ◌∷◌, is_some, slice_index_or, slice_set, Option, Some, None, Result, Ok, Err}
use Rattle.tt_poll.specs.Message.{PollRequest2}
use Rattle.tt_poll.specs.Reading.{read_of2}
use Rattle.tt_poll.specs.declared.messages.Message2.{Message2}
use Rattle.tt_poll.specs.declared.messages.Message2.TheVariants.{Request, Answer}
use Rattle.tt_poll.specs.declared.faults.PollFault.{PollFault}
use Rattle.tt_source.specs.Table.{TableState, Sending}
use Rattle.tt_stream.specs.Counts.{count_after}
use Rattle.tt_rounds.specs.declared.awaiting.Fate.{Fate}
use Rattle.tt_rounds.specs.declared.awaiting.Fate.TheVariants.{Went, Lost, Broke}
use Rattle.tt_rounds.specs.declared.awaiting.PeerSlot.{PeerSlot}

-- a peer of a round that begins is not awaited, and may spare three packets
abbrev pub full_slot : PeerSlot
full_slot = record { poll = None; spare = 3 }

-- what is kept of this peer
abbrev pub slot_at : List PeerSlot → ℕ → PeerSlot
slot_at slots peer = slice_index_or slots peer full_slot

-- the poll that a message is, if it is one
abbrev pub poll_in : Result Message2 PollFault → Option PollRequest2
poll_in (Ok (Request request)) = Some request
poll_in (Ok (Answer _)) = None
poll_in (Err _) = None

-- what was read is an answer to the awaited poll: by the same source to the same machine, in the same life of it, with the same nonce
abbrev pub answers : Option PollRequest2 → Result Message2 PollFault → Bool
answers (Some poll) (Ok (Answer answer)) =
    answer.machine == poll.machine && answer.source == poll.source && answer.nonce == poll.nonce && answer.epoch == poll.epoch
answers (Some poll) (Ok (Request _)) = false
answers (Some poll) (Err _) = false
answers None read = false

-- a packet whose sending failed is lost, unless the descriptor is not open (9) or is no socket (88)
abbrev pub fate_of : Option ℤ → Fate
fate_of (Some (pos n)) = if n == 9 || n == 88 then Broke else Lost
fate_of (Some (negsuc n)) = Lost
fate_of None = Lost

-- a peer is awaited once a poll went to it, and not where the packet was lost
abbrev pub slot_sent : Fate → List ℕ → PeerSlot → PeerSlot
slot_sent Went bytes slot = record slot { poll = poll_in (read_of2 bytes) }
slot_sent Lost bytes slot = record slot { poll = None }
slot_sent Broke bytes slot = record slot { poll = None }

-- how many packets to a peer were lost so far
abbrev pub unsent_at : List ℕ → ℕ → ℕ
unsent_at unsent peer = slice_index_or unsent peer 0

-- a packet that was lost is counted
abbrev pub unsent_after : Fate → ℕ → ℕ
unsent_after Went unsent = unsent
unsent_after Lost unsent = count_after unsent 1
unsent_after Broke unsent = unsent

-- a packet of a peer is handed up where it answers the awaited poll, or the peer has turns to spare
abbrev pub is_handed : List ℕ → PeerSlot → Bool
is_handed bytes slot = answers slot.poll (read_of2 bytes) || nat_lt 0 slot.spare

-- the peer after a packet from it: its answer ends the wait, and any other packet costs a turn where one is to spare
abbrev pub slot_after : List ℕ → PeerSlot → PeerSlot
slot_after bytes slot =
    if answers slot.poll (read_of2 bytes) then record slot { poll = None }
    else record slot { spare = slot.spare - 1 }

-- what is kept of the peers after a packet from this one: where it is handed up, its peer is the one after it, and where it is dropped nothing has changed
abbrev pub slots_after : List PeerSlot → ℕ → List ℕ → List PeerSlot
slots_after slots peer bytes = if is_handed bytes (slot_at slots peer) then slice_set slots peer (slot_after bytes (slot_at slots peer)) else slots

-- one, where it is so
abbrev pub one_where : Bool → ℕ
one_where true = 1
one_where false = 0

-- the most packets of a peer that are still handed up: its answer, where one is awaited, and those that it may spare
abbrev pub turns_left : PeerSlot → ℕ
turns_left slot = one_where (is_some slot.poll) + slot.spare

-- how many of the packets that come from a peer, one after the other, are handed up
abbrev pub handed_in : List (List ℕ) → PeerSlot → ℕ
handed_in [] slot = 0
handed_in (bytes ∷ packets) slot = one_where (is_handed bytes slot) + handed_in packets (slot_after bytes slot)

-- the peer after these packets
abbrev pub slot_after_all : List (List ℕ) → PeerSlot → PeerSlot
slot_after_all [] slot = slot
slot_after_all (bytes ∷ packets) slot = slot_after_all packets (slot_after bytes slot)

-- none of these packets answers this poll
abbrev pub NoneAnswers : Option PollRequest2 → List (List ℕ) → Type 0
NoneAnswers poll [] = Unit {0}
NoneAnswers poll (bytes ∷ packets) = (answers poll (read_of2 bytes) ≡ false) × NoneAnswers poll packets

-- the poll that waits at a source of a table
abbrev pub poll_waiting : TableState → ℕ → Sending → PollRequest2
poll_waiting table i sending = record { machine = table.machine; source = i; nonce = sending.nonce; epoch = table.epoch }
