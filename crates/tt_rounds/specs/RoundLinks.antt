-- What a round's reading of packets gives, and how long it goes on.
use Rattle.std.specs.Prelude.{◌≡◌, ◌≤◌, ℕ, ◌-◌, List, ◌∷◌, take, Bool, true, false, Option, Some, None, Result, Ok, Err}
use Rattle.std.specs.Duration.{as_nanos}
use Rattle.std.specs.declared.time.Duration.{Duration}
use Rattle.std.specs.declared.net.socket_addr.SocketAddr.{SocketAddr}
use Rattle.tt_seal.specs.Sealing.{IsBytes}
use Rattle.tt_wire.specs.Wire.{Wiring}
use Rattle.tt_rounds.specs.Addresses.{end_of, IsPeerAt}
use Rattle.tt_rounds.specs.Hearing.{Arrived, heard_from, heard_of, Drops}
use Rattle.tt_rounds.specs.Link.{Packet, Call, Send, Receive, Gift, Went, Came, NothingCame, Broke}
use Rattle.tt_rounds.specs.Sockets.{SocketStep, Datagram, Looks, SendsOver}
use Rattle.tt_rounds.specs.declared.awaiting.PeerTable.{PeerTable}
use Rattle.tt_rounds.specs.declared.round_links.Drained.{Drained}
use Rattle.tt_rounds.specs.declared.round_links.Drained.TheVariants.{Handed, Empty, More, Failed}

-- a packet that is handed up has no more bytes than are received
abbrev pub FitsDrained : Drained → Type 0
FitsDrained (Handed _ length) = length ≤ 64
FitsDrained _ = Unit {0}

-- a packet of this peer was the last thing that the socket gave, of all that it was asked for between the two: these are its bytes, and it came from the peer's address
pub record GaveLast {S : Type 0} (does : S → SocketStep → S → Type 0) (addresses : List (Option SocketAddr)) (before : S) (peer : ℕ) (bytes : List ℕ) (after : S) : Type 0 where
  pub earlier : List (Option Datagram)
  pub address : SocketAddr
  pub looks : Looks does before (Some (record { address = address; bytes = bytes }) ∷ earlier) after
  pub sender : IsPeerAt addresses (end_of address) (Some peer)

-- the last packet that was read, with the peers before and after it: where one is handed up, it is the message of bytes from its peer
abbrev pub ReadsLast : Wiring → PeerTable → Drained → List ℕ → List ℕ → PeerTable → Type 0
ReadsLast wire before (Handed peer length) bytes buffer after =
    IsBytes bytes × (heard_of wire before (record { from = Some peer; bytes = bytes }) ≡ record { handed = Some (record { peer = peer; bytes = take length buffer }); table = after })
ReadsLast wire before Empty bytes buffer after = after ≡ before
ReadsLast wire before More bytes buffer after = after ≡ before
ReadsLast wire before Failed bytes buffer after = after ≡ before

-- what the socket gave meanwhile: where a packet is handed up, its bytes came last
abbrev pub Gives : {S : Type 0} → (S → SocketStep → S → Type 0) → List (Option SocketAddr) → S → Drained → List ℕ → S → Type 0
Gives does addresses before (Handed peer length) bytes after = GaveLast does addresses before peer bytes after
Gives does addresses before Empty bytes after = (gave : List (Option Datagram)) × Looks does before gave after
Gives does addresses before More bytes after = (gave : List (Option Datagram)) × Looks does before gave after
Gives does addresses before Failed bytes after = (gave : List (Option Datagram)) × Looks does before gave after

-- what was read, with the peers and the socket before and after it: packets that were dropped, and then the one that is handed up, if one is
pub record Reads {S : Type 0} (does : S → SocketStep → S → Type 0) (addresses : List (Option SocketAddr)) (wire : Wiring) (before : PeerTable) (from : S) (drained : Drained) (buffer : List ℕ) (after : PeerTable) (to : S) : Type 0 where
  pub dropped : List Arrived
  pub table : PeerTable
  pub bytes : List ℕ
  pub drops : Drops wire dropped before table
  pub last : ReadsLast wire table drained bytes buffer after
  pub gives : Gives does addresses from drained bytes to

-- a reading after which the link goes on: it handed up nothing, and the socket did not fail
abbrev pub goes_on : Drained → Bool
goes_on (Handed _ _) = false
goes_on Empty = true
goes_on More = true
goes_on Failed = false

-- how many nanoseconds are left until an end, where both this and the clock's reading are known
abbrev pub nanos_left : {E : Type 0} → Option Duration → Result Duration E → ℕ
nanos_left (Some end) (Ok now) = as_nanos end - as_nanos now
nanos_left (Some end) (Err _) = 0
nanos_left None now = 0

-- a packet that is handed up over this wire is what is heard of some bytes, as from its peer
abbrev pub HandsUp : Wiring → Gift → Type 0
HandsUp wire (Came packet) = (bytes : List ℕ) × IsBytes bytes × (table : PeerTable) × ((heard_from wire table (Some packet.peer) bytes).handed ≡ Some packet)
HandsUp wire _ = Unit {0}

-- a packet that is handed up is what is heard, over this wire, of the bytes that the socket gave last, from the address of its peer
pub record HandsUpLast {S : Type 0} (does : S → SocketStep → S → Type 0) (wire : Wiring) (addresses : List (Option SocketAddr)) (before : S) (packet : Packet) (after : S) : Type 0 where
  pub bytes : List ℕ
  pub small : IsBytes bytes
  pub gave : GaveLast does addresses before packet.peer bytes after
  pub table : PeerTable
  pub heard : (heard_from wire table (Some packet.peer) bytes).handed ≡ Some packet

-- what a link gives that was asked for a packet: one that the socket gave last, or none; the socket was asked for packets alone
abbrev pub Receives : {S : Type 0} → (S → SocketStep → S → Type 0) → Wiring → List (Option SocketAddr) → S → Gift → S → Type 0
Receives does wire addresses before (Came packet) after = HandsUpLast does wire addresses before packet after
Receives does wire addresses before Went after = (gave : List (Option Datagram)) × Looks does before gave after
Receives does wire addresses before NothingCame after = (gave : List (Option Datagram)) × Looks does before gave after
Receives does wire addresses before Broke after = (gave : List (Option Datagram)) × Looks does before gave after

-- what a round's link keeps, as far as a call goes by it: its wire, the addresses of its peers, whether its socket is of IPv6, and the socket
pub record LinkEnd (S : Type 0) : Type 0 where
  pub wire : Wiring
  pub addresses : List (Option SocketAddr)
  pub is_six : Bool
  pub socket : S

-- what a round's link does: it sends what its wire says, hands up what came over it, and keeps all but its socket
abbrev pub Does : {S : Type 0} → (S → SocketStep → S → Type 0) → LinkEnd S → Call → Gift → S → Type 0
Does does before (Send packet) gift after = SendsOver does before.wire before.is_six before.addresses packet before.socket after
Does does before Receive gift after = Receives does before.wire before.addresses before.socket gift after

abbrev pub DoesOver : {S : Type 0} → (S → SocketStep → S → Type 0) → LinkEnd S → Call → Gift → LinkEnd S → Type 0
DoesOver does before call gift after = HandsUp before.wire gift × Does does before call gift after.socket × (after ≡ record before { socket = after.socket })
