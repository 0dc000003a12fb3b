-- What becomes of the packets that a link reads: what does not open changes nothing but its count, and what opens is judged as the message that it is.
use Rattle.std.specs.Prelude.{◌≡◌, ℕ, List, [], ◌∷◌, replicate, slice_index, slice_index_or, slice_set, if◌then◌else◌, Option, Some, None, Result, Ok, Err}
use Rattle.tt_stream.specs.Counts.{count_after}
use Rattle.tt_seal.specs.declared.faults.SealFault.{SealFault}
use Rattle.tt_seal.specs.declared.faults.SealFault.TheVariants.{Length, UnknownKey, WrongTag}
use Rattle.tt_seal.specs.Sealing.{SealKey, sealing_of, key_with}
use Rattle.tt_wire.specs.Moving.{moved}
use Rattle.tt_wire.specs.declared.wires.Incoming.{Incoming}
use Rattle.tt_wire.specs.Wire.{Wiring, incoming_of}
use Rattle.tt_rounds.specs.Link.{Packet}
use Rattle.tt_rounds.specs.Awaiting.{slot_at, is_handed, slots_after}
use Rattle.tt_rounds.specs.declared.awaiting.PeerSlot.{PeerSlot}
use Rattle.tt_rounds.specs.declared.awaiting.PeerTable.{PeerTable}
use Rattle.tt_rounds.specs.declared.openings.Opening.{Opening}

-- nothing came from a peer so far
abbrev pub no_opening : Opening
no_opening = record { number = None; unopened = replicate 3 0 }

-- what is kept of the packets of this peer
abbrev pub opening_at : List Opening → ℕ → Opening
opening_at openings peer = slice_index_or openings peer no_opening

-- the place of a reason among the three
abbrev pub fault_place : SealFault → ℕ
fault_place Length = 0
fault_place UnknownKey = 1
fault_place WrongTag = 2

-- one more packet did not open for this reason
abbrev pub counted_by : SealFault → List ℕ → List ℕ
counted_by fault counts = slice_set counts (fault_place fault) (count_after (slice_index counts (fault_place fault)) 1)

-- a packet opened under the key with this number, or came from a peer that is not sealed
abbrev pub opening_with : Option ℕ → Opening → Opening
opening_with number opening = record { number = number; unopened = opening.unopened }

-- a packet did not open for this reason
abbrev pub opening_without : SealFault → Opening → Opening
opening_without fault opening = record { number = opening.number; unopened = counted_by fault opening.unopened }

-- bytes that came, from this peer or from a stranger
pub record Arrived : Type 0 where
  pub from : Option ℕ
  pub bytes : List ℕ

-- what came of a packet: what is handed up, and what is kept of all peers after it
pub record Heard : Type 0 where
  pub handed : Option Packet
  pub table : PeerTable

-- a message is handed up where it answers the awaited poll of its peer, or the peer has turns to spare
abbrev pub handed_of : List PeerSlot → ℕ → List ℕ → Option Packet
handed_of slots peer message = if is_handed message (slot_at slots peer) then Some (record { peer = peer; bytes = message }) else None

-- what comes of bytes from a peer, by what they are under its keys
abbrev pub heard_as : PeerTable → ℕ → Result Incoming SealFault → Heard
heard_as table peer (Ok incoming) = record {
  handed = handed_of table.slots peer incoming.message.items;
  table = record {
    slots = slots_after table.slots peer incoming.message.items;
    unsent = table.unsent;
    openings = slice_set table.openings peer (opening_with incoming.number (opening_at table.openings peer));
  };
}
heard_as table peer (Err fault) = record {
  handed = None;
  table = record {
    slots = table.slots;
    unsent = table.unsent;
    openings = slice_set table.openings peer (opening_without fault (opening_at table.openings peer));
  };
}

-- what comes of bytes from this peer, or from a stranger
abbrev pub heard_from : Wiring → PeerTable → Option ℕ → List ℕ → Heard
heard_from wire table None bytes = record { handed = None; table = table }
heard_from wire table (Some peer) bytes = heard_as table peer (incoming_of wire peer bytes)

-- what comes of a packet
abbrev pub heard_of : Wiring → PeerTable → Arrived → Heard
heard_of wire table came = heard_from wire table came.from came.bytes

-- these packets came, the newest first, and none of them was handed up
abbrev pub Drops : Wiring → List Arrived → PeerTable → PeerTable → Type 0
Drops wire [] before after = after ≡ before
Drops wire (came ∷ earlier) before after = (mid : PeerTable) × Drops wire earlier before mid × (heard_of wire mid came ≡ record { handed = None; table = after })

-- the packet is of this peer, and came sealed under one of these keys, with its nonce moved
pub record CameFrom (keys : List SealKey) (ahead peer : ℕ) (bytes : List ℕ) (packet : Packet) : Type 0 where
  pub sender : packet.peer ≡ peer
  pub key : SealKey
  pub known : key_with keys key.number ≡ Some key
  pub sealed : bytes ≡ sealing_of (moved ahead packet.bytes) key
