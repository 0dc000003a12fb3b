-- What comes of packets that are read.
use Rattle.std.proofs.Common.{◌≡◌, ℕ, ℤ, pos, negsuc, slice_index_or, ◌<◌, ◌^◌, List, [], ◌∷◌, ◌++◌, take, Bool, true, false, if◌then◌else◌, Option, Some, None, Result, Ok, Err, refl, ap, ◌∙◌, sym, subst, arith}
use Rattle.std.specs.Prelude.{MatchOption, option_map}
use Rattle.tt_seal.specs.Sealing.{SealKey, IsBytes}
use Rattle.tt_seal.specs.declared.faults.SealFault.{SealFault}
use Rattle.tt_wire.specs.declared.wires.Incoming.{Incoming}
use Rattle.tt_wire.specs.Wire.{Wiring, IsWiring, keys_of, incoming_of, outgoing_of}
use Rattle.tt_wire.proofs.Sealing.{incoming_of-came_sealed}
use Rattle.tt_rounds.specs.Link.{Packet, Gift}
use Rattle.tt_rounds.specs.Link as link
use Rattle.tt_rounds.specs.Datagrams.{is_empty, is_passing, look_of}
use Rattle.tt_rounds.specs.Awaiting.{slot_at, is_handed}
use Rattle.tt_rounds.specs.Hearing.{Arrived, Heard, heard_as, heard_from, heard_of, Drops, CameFrom}
use Rattle.tt_rounds.specs.Addresses.{end_of, IsPeerAt}
use Rattle.tt_rounds.specs.Sockets.{SocketStep, Gave, Datagram, Looks, LooksOnce, SendsOut, SendsOver}
use Rattle.tt_rounds.specs.RoundLinks.{GaveLast, Gives, Reads, Receives, HandsUp, LinkEnd, DoesOver, goes_on}
use Rattle.tt_rounds.specs.declared.datagrams.Arrival.{Arrival}
use Rattle.tt_rounds.specs.declared.datagrams.Arrival.TheVariants as arrival
use Rattle.std.specs.declared.net.socket_addr.SocketAddr.{SocketAddr}
use Rattle.tt_rounds.specs.declared.round_links.Drained.{Drained}
use Rattle.tt_rounds.specs.declared.round_links.Drained.TheVariants.{Handed, Empty, More, Failed}
use Rattle.tt_rounds.specs.declared.awaiting.PeerSlot.{PeerSlot}
use Rattle.tt_rounds.specs.declared.awaiting.PeerTable.{PeerTable}

-- ---- packets that are dropped

-- one packet after the others
pub Drops-append : (wire : Wiring) (later earlier : List Arrived) (before mid after : PeerTable) → Drops wire earlier before mid → Drops wire later mid after → Drops wire (later ++ earlier) before after
Drops-append wire [] earlier before mid after first same = subst (Drops wire earlier before) (sym same) first
Drops-append wire (came ∷ later) earlier before mid after first (there, rest, last) = (there, Drops-append wire later earlier before mid there first rest, last)

-- what is not handed up leaves the peers as they were
dropped_slots : (handed : Bool) (packet : Packet) (other slots : List PeerSlot) → (if handed then Some packet else None) ≡ None → (if handed then other else slots) ≡ slots
dropped_slots true packet other slots none = cc
dropped_slots false packet other slots none = refl

heard_as-slots : (table : PeerTable) (peer : ℕ) (r : Result Incoming SealFault) → (heard_as table peer r).handed ≡ None → (heard_as table peer r).table.slots ≡ table.slots
heard_as-slots table peer (Err fault) none = refl
heard_as-slots table peer (Ok incoming) none =
    dropped_slots (is_handed incoming.message.items (slot_at table.slots peer)) (record { peer = peer; bytes = incoming.message.items }) _ table.slots none

heard_from-slots : (wire : Wiring) (table : PeerTable) (from : Option ℕ) (bytes : List ℕ) → (heard_from wire table from bytes).handed ≡ None → (heard_from wire table from bytes).table.slots ≡ table.slots
heard_from-slots wire table None bytes none = refl
heard_from-slots wire table (Some peer) bytes none = heard_as-slots table peer (incoming_of wire peer bytes) none

pub Drops-slots : (wire : Wiring) (packets : List Arrived) (before after : PeerTable) → Drops wire packets before after → after.slots ≡ before.slots
Drops-slots wire [] before after same = ap (λ (t : PeerTable). t.slots) same
Drops-slots wire (came ∷ earlier) before after (mid, rest, last) =
    let none : (heard_of wire mid came).handed ≡ None = ap (λ (h : Heard). h.handed) last in
    ap (λ (h : Heard). h.table.slots) (sym last) ∙ heard_from-slots wire mid came.from came.bytes none ∙ Drops-slots wire earlier before mid rest

-- ---- what is handed up came sealed

handed_message : (handed : Bool) (packet other : Packet) → (if handed then Some packet else None) ≡ Some other → packet ≡ other
handed_message true packet other is = cc
handed_message false packet other is = cc

pub heard-came_sealed : (wire : Wiring) (table : PeerTable) (peer : ℕ) (first : SealKey) (others : List SealKey) (bytes : List ℕ) (packet : Packet) (r : Result Incoming SealFault) → IsWiring wire → IsBytes bytes
    → keys_of wire peer ≡ first ∷ others → r ≡ incoming_of wire peer bytes → (heard_as table peer r).handed ≡ Some packet → CameFrom (first ∷ others) wire.ahead peer bytes packet
heard-came_sealed wire table peer first others bytes packet (Err fault) valid small keys is handed = cc
heard-came_sealed wire table peer first others bytes packet (Ok incoming) valid small keys is handed =
    let fits : wire.ahead < 2 ^ 64 = omega (arith, valid.ahead_fits) in
    let sealed = incoming_of-came_sealed wire peer first others bytes incoming fits small keys (sym is) in
    let same = handed_message (is_handed incoming.message.items (slot_at table.slots peer)) (record { peer = peer; bytes = incoming.message.items }) packet handed in
    subst (CameFrom (first ∷ others) wire.ahead peer bytes) same (record { sender = refl; key = sealed.key; known = sealed.known; sealed = sealed.sealed })

-- ---- what does not open

pub heard-unopened : (wire : Wiring) (table : PeerTable) (peer : ℕ) (bytes : List ℕ) (r : Result Incoming SealFault) (fault : SealFault) → r ≡ Err fault
    → (heard_as table peer r).handed ≡ None × ((heard_as table peer r).table.slots ≡ table.slots)
heard-unopened wire table peer bytes (Ok incoming) fault is = cc
heard-unopened wire table peer bytes (Err other) fault is = (refl, refl)

-- ---- what a link reads

-- what is heard with these
abbrev heard_with : Option Packet → PeerTable → Heard
heard_with handed table = record { handed = handed; table = table }

heard_eq : (a b : Option Packet) (t u : PeerTable) → a ≡ b → u ≡ t → heard_with a t ≡ heard_with b u
heard_eq a b t u first second = cc

-- a packet that is not handed up is dropped
pub heard-none : {X : Type 0} (h : Heard) (Q : X → Type 0) (result : Option X) (after : PeerTable) → MatchOption result (h.handed ≡ None) Q → result ≡ None → after ≡ h.table → h ≡ record { handed = None; table = after }
heard-none h Q (Some x) after handed is same = cc
heard-none h Q None after handed is same = heard_eq h.handed None h.table after handed same

-- ---- what the socket gave

-- one look after the others
pub Looks-append : {S : Type 0} (does : S → SocketStep → S → Type 0) (later earlier : List (Option Datagram)) (before mid after : S) → Looks does before earlier mid → Looks does mid later after → Looks does before (later ++ earlier) after
Looks-append does [] earlier before mid after first same = subst (Looks does before earlier) (sym same) first
Looks-append does (gave ∷ later) earlier before mid after first (there, rest, last) = (there, Looks-append does later earlier before mid there first rest, last)

-- one more look
pub Looks-once : {S : Type 0} (does : S → SocketStep → S → Type 0) (addresses : List (Option SocketAddr)) (before mid after : S) (arrival : Arrival) (buffer : List ℕ) → ((gave : List (Option Datagram)) × Looks does before gave mid)
    → LooksOnce does addresses mid arrival buffer after → (gave : List (Option Datagram)) × Looks does before gave after
Looks-once does addresses before mid after (arrival.Came from length) buffer (gave, looks) (address, did, peer) = (Some (record { address = address; bytes = take length buffer }) ∷ gave, (mid, looks, did))
Looks-once does addresses before mid after arrival.Again buffer (gave, looks) did = (None ∷ gave, (mid, looks, did))
Looks-once does addresses before mid after arrival.Nothing buffer (gave, looks) did = (None ∷ gave, (mid, looks, did))
Looks-once does addresses before mid after arrival.Failed buffer (gave, looks) did = (None ∷ gave, (mid, looks, did))

-- a look that found a packet of this peer gave its bytes last
gave-came : {S : Type 0} (does : S → SocketStep → S → Type 0) (addresses : List (Option SocketAddr)) (before mid after : S) (from : Option ℕ) (length peer : ℕ) (buffer : List ℕ) → ((gave : List (Option Datagram)) × Looks does before gave mid)
    → LooksOnce does addresses mid (arrival.Came from length) buffer after → from ≡ Some peer → GaveLast does addresses before peer (take length buffer) after
gave-came does addresses before mid after from length peer buffer (gave, looks) (address, did, sender) is = record {
  earlier = gave;
  address = address;
  looks = (mid, looks, did);
  sender = subst (IsPeerAt addresses (end_of address)) is sender;
}

pub gave-last : {S : Type 0} (does : S → SocketStep → S → Type 0) (addresses addresses' : List (Option SocketAddr)) (before mid after : S) (found : Arrival) (from : Option ℕ) (length peer : ℕ) (buffer : List ℕ)
    → ((gave : List (Option Datagram)) × Looks does before gave mid) → LooksOnce does addresses' mid found buffer after → found ≡ arrival.Came from length → addresses' ≡ addresses → from ≡ Some peer
    → GaveLast does addresses before peer (take length buffer) after
gave-last does addresses addresses' before mid after found from length peer buffer looked once is same sender =
    gave-came does addresses before mid after from length peer buffer looked
    (subst (λ (a : List (Option SocketAddr)). LooksOnce does a mid (arrival.Came from length) buffer after) same (subst (λ (f : Arrival). LooksOnce does addresses' mid f buffer after) is once)) sender

-- what the socket gave before counts too
gives-later : {S : Type 0} (does : S → SocketStep → S → Type 0) (before mid after : S) → ((gave : List (Option Datagram)) × Looks does before gave mid) → ((gave : List (Option Datagram)) × Looks does mid gave after)
    → (gave : List (Option Datagram)) × Looks does before gave after
gives-later does before mid after (earlier, first) (later, rest) = (later ++ earlier, Looks-append does later earlier before mid after first rest)

Gives-after : {S : Type 0} (does : S → SocketStep → S → Type 0) (addresses : List (Option SocketAddr)) (before mid after : S) (drained : Drained) (bytes : List ℕ) → ((gave : List (Option Datagram)) × Looks does before gave mid)
    → Gives does addresses mid drained bytes after → Gives does addresses before drained bytes after
Gives-after does addresses before mid after (Handed peer length) bytes (earlier, first) last = record {
  earlier = last.earlier ++ earlier;
  address = last.address;
  looks = Looks-append does (Some (record { address = last.address; bytes = bytes }) ∷ last.earlier) earlier before mid after first last.looks;
  sender = last.sender;
}
Gives-after does addresses before mid after Empty bytes first rest = gives-later does before mid after first rest
Gives-after does addresses before mid after More bytes first rest = gives-later does before mid after first rest
Gives-after does addresses before mid after Failed bytes first rest = gives-later does before mid after first rest

-- ---- what was read

-- what was read after packets that were dropped
pub Reads-after : {S : Type 0} (does : S → SocketStep → S → Type 0) (addresses : List (Option SocketAddr)) (wire : Wiring) (before mid after : PeerTable) (from there to : S) (drained : Drained) (buffer : List ℕ) (dropped : List Arrived)
    → Drops wire dropped before mid → ((gave : List (Option Datagram)) × Looks does from gave there)
    → Reads does addresses wire mid there drained buffer after to → Reads does addresses wire before from drained buffer after to
Reads-after does addresses wire before mid after from there to drained buffer dropped first looked rest = record {
  dropped = rest.dropped ++ dropped;
  table = rest.table;
  bytes = rest.bytes;
  drops = Drops-append wire rest.dropped dropped before mid rest.table first rest.drops;
  last = rest.last;
  gives = Gives-after does addresses from there to drained rest.bytes looked rest.gives;
}

-- where none is handed up, all were dropped
pub Drops-read : {S : Type 0} (does : S → SocketStep → S → Type 0) (addresses : List (Option SocketAddr)) (wire : Wiring) (before after : PeerTable) (from to : S) (drained : Drained) (buffer : List ℕ)
    → Reads does addresses wire before from drained buffer after to → goes_on drained ≡ true → (dropped : List Arrived) × Drops wire dropped before after
Drops-read does addresses wire before after from to (Handed peer length) buffer reads on = cc
Drops-read does addresses wire before after from to Empty buffer reads on = (reads.dropped, subst (Drops wire reads.dropped before) (sym reads.last) reads.drops)
Drops-read does addresses wire before after from to More buffer reads on = (reads.dropped, subst (Drops wire reads.dropped before) (sym reads.last) reads.drops)
Drops-read does addresses wire before after from to Failed buffer reads on = cc

-- and the socket was looked at alone
pub Looks-read : {S : Type 0} (does : S → SocketStep → S → Type 0) (addresses : List (Option SocketAddr)) (from to : S) (drained : Drained) (bytes : List ℕ) → Gives does addresses from drained bytes to → goes_on drained ≡ true
    → (gave : List (Option Datagram)) × Looks does from gave to
Looks-read does addresses from to (Handed peer length) bytes gives on = cc
Looks-read does addresses from to Empty bytes gives on = gives
Looks-read does addresses from to More bytes gives on = gives
Looks-read does addresses from to Failed bytes gives on = cc

pub Looks-more : {S : Type 0} (does : S → SocketStep → S → Type 0) (addresses : List (Option SocketAddr)) (from there to : S) (drained : Drained) (bytes : List ℕ) → ((gave : List (Option Datagram)) × Looks does from gave there)
    → Gives does addresses there drained bytes to → goes_on drained ≡ true → (gave : List (Option Datagram)) × Looks does from gave to
Looks-more does addresses from there to drained bytes first gives on = gives-later does from there to first (Looks-read does addresses there to drained bytes gives on)

-- where all were dropped, nothing is handed up, whatever is said
pub Reads-empty : {S : Type 0} (does : S → SocketStep → S → Type 0) (addresses : List (Option SocketAddr)) (wire : Wiring) (before after : PeerTable) (from to : S) (buffer : List ℕ) (dropped : List Arrived) → Drops wire dropped before after
    → ((gave : List (Option Datagram)) × Looks does from gave to) → Reads does addresses wire before from Empty buffer after to
Reads-empty does addresses wire before after from to buffer dropped drops looked = record { dropped = dropped; table = after; bytes = []; drops = drops; last = refl; gives = looked }

pub Reads-more : {S : Type 0} (does : S → SocketStep → S → Type 0) (addresses : List (Option SocketAddr)) (wire : Wiring) (before after : PeerTable) (from to : S) (buffer : List ℕ) (dropped : List Arrived) → Drops wire dropped before after
    → ((gave : List (Option Datagram)) × Looks does from gave to) → Reads does addresses wire before from More buffer after to
Reads-more does addresses wire before after from to buffer dropped drops looked = record { dropped = dropped; table = after; bytes = []; drops = drops; last = refl; gives = looked }

pub Reads-failed : {S : Type 0} (does : S → SocketStep → S → Type 0) (addresses : List (Option SocketAddr)) (wire : Wiring) (before after : PeerTable) (from to : S) (buffer : List ℕ) (dropped : List Arrived) → Drops wire dropped before after
    → ((gave : List (Option Datagram)) × Looks does from gave to) → Reads does addresses wire before from Failed buffer after to
Reads-failed does addresses wire before after from to buffer dropped drops looked = record { dropped = dropped; table = after; bytes = []; drops = drops; last = refl; gives = looked }

-- more packets were dropped
pub Drops-more : {S : Type 0} (does : S → SocketStep → S → Type 0) (addresses : List (Option SocketAddr)) (wire : Wiring) (before mid after : PeerTable) (there to : S) (drained : Drained) (buffer : List ℕ) → ((dropped : List Arrived) × Drops wire dropped before mid)
    → Reads does addresses wire mid there drained buffer after to → goes_on drained ≡ true → (dropped : List Arrived) × Drops wire dropped before after
Drops-more does addresses wire before mid after there to drained buffer (dropped, first) reads on =
    let (later, rest) = Drops-read does addresses wire mid after there to drained buffer reads on in
    (later ++ dropped, Drops-append wire later dropped before mid after first rest)

-- what was read under another name of the wire and of the addresses
pub Reads-same : {S : Type 0} (does : S → SocketStep → S → Type 0) (addresses addresses' : List (Option SocketAddr)) (wire wire' : Wiring) (before after : PeerTable) (from to : S) (drained : Drained) (buffer : List ℕ)
    → addresses' ≡ addresses → wire' ≡ wire → Reads does addresses' wire' before from drained buffer after to → Reads does addresses wire before from drained buffer after to
Reads-same does addresses addresses' wire wire' before after from to drained buffer same same' reads =
    subst (λ (w : Wiring). Reads does addresses w before from drained buffer after to) same'
    (subst (λ (a : List (Option SocketAddr)). Reads does a wire' before from drained buffer after to) same reads)

-- ---- what a link gives

-- what is given by a reading of packets
abbrev pub gift_of : Drained → List ℕ → Gift
gift_of (Handed peer length) buffer = link.Came (record { peer = peer; bytes = take length buffer })
gift_of Empty buffer = link.NothingCame
gift_of More buffer = link.NothingCame
gift_of Failed buffer = link.Broke

receives-drained : {S : Type 0} (does : S → SocketStep → S → Type 0) (addresses : List (Option SocketAddr)) (wire : Wiring) (before after : PeerTable) (from to : S) (drained : Drained) (buffer : List ℕ)
    → Reads does addresses wire before from drained buffer after to → Receives does wire addresses from (gift_of drained buffer) to
receives-drained does addresses wire before after from to (Handed peer length) buffer reads = record {
  bytes = reads.bytes;
  small = reads.last.0;
  gave = reads.gives;
  table = reads.table;
  heard = ap (λ (h : Heard). h.handed) reads.last.1;
}
receives-drained does addresses wire before after from to Empty buffer reads = reads.gives
receives-drained does addresses wire before after from to More buffer reads = reads.gives
receives-drained does addresses wire before after from to Failed buffer reads = reads.gives

pub receives : {S : Type 0} (does : S → SocketStep → S → Type 0) (addresses : List (Option SocketAddr)) (wire : Wiring) (before after : PeerTable) (from to : S) (drained known : Drained) (buffer : List ℕ)
    → drained ≡ known → Reads does addresses wire before from drained buffer after to → Receives does wire addresses from (gift_of known buffer) to
receives does addresses wire before after from to drained known buffer is reads =
    subst (λ (d : Drained). Receives does wire addresses from (gift_of d buffer) to) is (receives-drained does addresses wire before after from to drained buffer reads)

-- ---- what a link sends

pub sends : {S : Type 0} (does : S → SocketStep → S → Type 0) (wire : Wiring) (is_six : Bool) (addresses : List (Option SocketAddr)) (packet : Packet) (before mid after : S) (out : Option (List ℕ)) (to : Option SocketAddr)
    → ((gave : List (Option Datagram)) × Looks does before gave mid) → out ≡ outgoing_of wire packet.peer packet.bytes → to ≡ slice_index_or addresses packet.peer None → SendsOut does is_six out to mid after
    → SendsOver does wire is_six addresses packet before after
sends does wire is_six addresses packet before mid after out to (gave, looks) is at did =
    (gave, mid, looks, subst (λ (o : Option (List ℕ)). SendsOut does is_six o (slice_index_or addresses packet.peer None) mid after) is (subst (λ (t : Option SocketAddr). SendsOut does is_six out t mid after) at did))

-- nothing is sent where the wire has no packet for the message
pub sends-nothing : {S X : Type 0} (does : S → SocketStep → S → Type 0) (wire wire' : Wiring) (is_six : Bool) (addresses : List (Option SocketAddr)) (packet : Packet) (before mid : S) (result : Option X) (items : X → List ℕ)
    → ((gave : List (Option Datagram)) × Looks does before gave mid) → option_map items result ≡ outgoing_of wire' packet.peer packet.bytes → wire' ≡ wire → result ≡ None
    → SendsOver does wire is_six addresses packet before mid
sends-nothing does wire wire' is_six addresses packet before mid result items looked value same none =
    sends does wire is_six addresses packet before mid mid None (slice_index_or addresses packet.peer None) looked
    (ap (option_map items) (sym none) ∙ value ∙ ap (λ (w : Wiring). outgoing_of w packet.peer packet.bytes) same) refl refl

-- and else that packet, where its peer has an address
pub sends-packet : {S X : Type 0} (does : S → SocketStep → S → Type 0) (wire wire' : Wiring) (is_six is_six' : Bool) (addresses addresses' : List (Option SocketAddr)) (packet : Packet) (before mid after : S) (result : Option X) (x : X) (items : X → List ℕ) (to : Option SocketAddr)
    → ((gave : List (Option Datagram)) × Looks does before gave mid) → option_map items result ≡ outgoing_of wire' packet.peer packet.bytes → wire' ≡ wire → result ≡ Some x
    → to ≡ slice_index_or addresses' packet.peer None → addresses' ≡ addresses → is_six' ≡ is_six → SendsOut does is_six' (Some (items x)) to mid after
    → SendsOver does wire is_six addresses packet before after
sends-packet does wire wire' is_six is_six' addresses addresses' packet before mid after result x items to looked value same some at place six did =
    sends does wire is_six addresses packet before mid after (Some (items x)) to looked
    (ap (option_map items) (sym some) ∙ value ∙ ap (λ (w : Wiring). outgoing_of w packet.peer packet.bytes) same)
    (at ∙ ap (λ (a : List (Option SocketAddr)). slice_index_or a packet.peer None) place)
    (subst (λ (b : Bool). SendsOut does b (Some (items x)) to mid after) six did)

-- no error of the system is a packet
pub LooksOnce-code : {S : Type 0} (does : S → SocketStep → S → Type 0) (addresses : List (Option SocketAddr)) (before after : S) (code : Option ℤ) (buffer : List ℕ) → does before (Gave None) after → LooksOnce does addresses before (look_of code) buffer after
LooksOnce-code does addresses before after None buffer did = did
LooksOnce-code does addresses before after (Some (negsuc n)) buffer did = did
LooksOnce-code does addresses before after (Some (pos n)) buffer did = by_tests (is_empty n) (is_passing n)
  where
    by_tests : (empty passing : Bool) → LooksOnce does addresses before (if empty then arrival.Nothing else if passing then arrival.Again else arrival.Failed) buffer after
    by_tests true passing = did
    by_tests false true = did
    by_tests false false = did

-- ---- what a link does

-- nothing is handed up by sending
pub sent-up : {E : Type 0} (wire : Wiring) (result : Result (Unit {0}) E) → HandsUp wire (link.sent_as result)
sent-up wire (Ok done) = tt
sent-up wire (Err fault) = tt

-- what is received is handed up over the wire
pub receives-up : {S : Type 0} (does : S → SocketStep → S → Type 0) (wire : Wiring) (addresses : List (Option SocketAddr)) (before after : S) (gift : Gift) → Receives does wire addresses before gift after → HandsUp wire gift
receives-up does wire addresses before after (link.Came packet) gave = (gave.bytes, gave.small, gave.table, gave.heard)
receives-up does wire addresses before after link.Went gave = tt
receives-up does wire addresses before after link.NothingCame gave = tt
receives-up does wire addresses before after link.Broke gave = tt

-- what a link keeps, by its parts
abbrev end_with : {S : Type 0} → Wiring → List (Option SocketAddr) → Bool → S → LinkEnd S
end_with wire addresses is_six socket = record { wire = wire; addresses = addresses; is_six = is_six; socket = socket }

-- all but the socket stays
same-end : {S : Type 0} (wire wire' : Wiring) (addresses addresses' : List (Option SocketAddr)) (is_six is_six' : Bool) (socket socket' : S) → wire' ≡ wire → addresses' ≡ addresses → is_six' ≡ is_six
    → end_with wire' addresses' is_six' socket' ≡ end_with wire addresses is_six socket'
same-end wire wire' addresses addresses' is_six is_six' socket socket' first second third = cc

-- the same of an end of which no more is known than its parts
pub does-receive : {S : Type 0} (does : S → SocketStep → S → Type 0) (wire wire' : Wiring) (addresses addresses' : List (Option SocketAddr)) (is_six is_six' : Bool) (from to : S) (gift : Gift)
    → Receives does wire addresses from gift to → wire' ≡ wire → addresses' ≡ addresses → is_six' ≡ is_six
    → DoesOver does (end_with wire addresses is_six from) link.Receive gift (end_with wire' addresses' is_six' to)
does-receive does wire wire' addresses addresses' is_six is_six' from to gift gave first second third =
    (receives-up does wire addresses from to gift gave, gave, same-end wire wire' addresses addresses' is_six is_six' from to first second third)

pub does-send : {S E : Type 0} (does : S → SocketStep → S → Type 0) (wire wire' : Wiring) (addresses addresses' : List (Option SocketAddr)) (is_six is_six' : Bool) (from to : S) (packet : Packet) (result : Result (Unit {0}) E)
    → SendsOver does wire is_six addresses packet from to → wire' ≡ wire → addresses' ≡ addresses → is_six' ≡ is_six
    → DoesOver does (end_with wire addresses is_six from) (link.Send packet) (link.sent_as result) (end_with wire' addresses' is_six' to)
does-send does wire wire' addresses addresses' is_six is_six' from to packet result sent first second third =
    (sent-up wire result, sent, same-end wire wire' addresses addresses' is_six is_six' from to first second third)
