-- What a socket for packets is asked for, and what it gives.
use Rattle.std.specs.Prelude.{◌≡◌, ℕ, Bool, List, [], ◌∷◌, take, slice_index_or, Option, Some, None, Result, Ok, Err}
use Rattle.std.specs.declared.net.socket_addr.SocketAddr.{SocketAddr}
use Rattle.tt_wire.specs.Wire.{Wiring, outgoing_of}
use Rattle.tt_rounds.specs.Addresses.{end_of, IsPeerAt, IsReachedBy}
use Rattle.tt_rounds.specs.Link.{Packet}
use Rattle.tt_rounds.specs.declared.datagrams.Arrival.{Arrival}
use Rattle.tt_rounds.specs.declared.datagrams.Arrival.TheVariants as arrival

-- some bytes, with the address that they go to or come from
pub record Datagram : Type 0 where
  pub address : SocketAddr
  pub bytes : List ℕ

-- a call of a socket: this was to be sent, or it was asked for a packet and gave this
pub data SocketStep : Type 0 where
  Sent : Datagram → SocketStep
  Gave : Option Datagram → SocketStep

-- what a socket gave that was asked for a packet, by its answer and the buffer
abbrev pub gave_as : {E : Type 0} → Result (ℕ × SocketAddr) E → List ℕ → Option Datagram
gave_as (Ok came) buffer = Some (record { address = came.1; bytes = take came.0 buffer })
gave_as (Err _) buffer = None

-- a socket that does so was asked for packets and for nothing else, and gave these, the newest first
abbrev pub Looks : {S : Type 0} → (S → SocketStep → S → Type 0) → S → List (Option Datagram) → S → Type 0
Looks does before [] after = after ≡ before
Looks {S} does before (gave ∷ earlier) after = (mid : S) × Looks does before earlier mid × does mid (Gave gave) after

-- what a look found: the packet that the socket gave, with the peer that has its sender's address
abbrev pub LooksOnce : {S : Type 0} → (S → SocketStep → S → Type 0) → List (Option SocketAddr) → S → Arrival → List ℕ → S → Type 0
LooksOnce does addresses before (arrival.Came from length) buffer after =
    (address : SocketAddr) × does before (Gave (Some (record { address = address; bytes = take length buffer }))) after × IsPeerAt addresses (end_of address) from
LooksOnce does addresses before arrival.Again buffer after = does before (Gave None) after
LooksOnce does addresses before arrival.Nothing buffer after = does before (Gave None) after
LooksOnce does addresses before arrival.Failed buffer after = does before (Gave None) after

-- what is sent for a message: its packet to the address of its peer, where there are both, and else nothing
abbrev pub SendsOut : {S : Type 0} → (S → SocketStep → S → Type 0) → Bool → Option (List ℕ) → Option SocketAddr → S → S → Type 0
SendsOut does is_six (Some bytes) (Some address) before after = (to : SocketAddr) × IsReachedBy is_six address to × does before (Sent (record { address = to; bytes = bytes })) after
SendsOut does is_six (Some bytes) None before after = after ≡ before
SendsOut does is_six None address before after = after ≡ before

-- a message is sent over this wire, after the packets that are there were dropped, where a round begins with it: what goes to its peer's address is its packet of the wire, and nothing else is sent
abbrev pub SendsOver : {S : Type 0} → (S → SocketStep → S → Type 0) → Wiring → Bool → List (Option SocketAddr) → Packet → S → S → Type 0
SendsOver {S} does wire is_six addresses packet before after =
    (gave : List (Option Datagram)) × (mid : S) × Looks does before gave mid
    × SendsOut does is_six (outgoing_of wire packet.peer packet.bytes) (slice_index_or addresses packet.peer None) mid after
