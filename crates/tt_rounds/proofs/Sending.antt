-- What goes to a peer with keys is sealed.
use Rattle.std.proofs.Common.{◌≡◌, ℕ, List, ◌∷◌, Bool, true, false, if◌then◌else◌, Option, Some, None, ◌⊎◌, inl, inr, subst}
use Rattle.std.specs.Prelude.{length, nat_lt, slice_index_or}
use Rattle.std.specs.declared.net.socket_addr.SocketAddr.{SocketAddr}
use Rattle.tt_seal.specs.Sealing.{SealKey, max_message, sealing_of}
use Rattle.tt_wire.specs.Moving.{moved}
use Rattle.tt_wire.specs.Wire.{Wiring, keys_of, outgoing_of, sent_under}
use Rattle.tt_rounds.specs.Link.{Packet}
use Rattle.tt_rounds.specs.Sockets.{SocketStep, Sent, Datagram, Looks, SendsOut, SendsOver}

sends-bytes : {S : Type 0} (does : S → SocketStep → S → Type 0) (is_six long : Bool) (bytes : List ℕ) (address : Option SocketAddr) (mid after : S) → SendsOut does is_six (if long then None else Some bytes) address mid after
    → (after ≡ mid) ⊎ ((to : SocketAddr) × does mid (Sent (record { address = to; bytes = bytes })) after)
sends-bytes does is_six true bytes address mid after did = inl did
sends-bytes does is_six false bytes None mid after did = inl did
sends-bytes does is_six false bytes (Some address) mid after (to, reached, did) = inr (to, did)

pub sends-sealed : {S : Type 0} (does : S → SocketStep → S → Type 0) (wire : Wiring) (is_six : Bool) (addresses : List (Option SocketAddr)) (before after : S) (packet : Packet) (first : SealKey) (others : List SealKey)
    → keys_of wire packet.peer ≡ first ∷ others → SendsOver does wire is_six addresses packet before after
    → (gave : List (Option Datagram)) × (mid : S) × Looks does before gave mid
    × ((after ≡ mid) ⊎ ((to : SocketAddr) × does mid (Sent (record { address = to; bytes = sealing_of (moved wire.ahead packet.bytes) first })) after))
unfolding outgoing_of
sends-sealed does wire is_six addresses before after packet first others keys (gave, mid, looks, did) =
    let sealed = subst (λ (ks : List SealKey). SendsOut does is_six (sent_under ks (moved wire.ahead packet.bytes)) (slice_index_or addresses packet.peer None) mid after) keys did in
    (gave, mid, looks, sends-bytes does is_six (nat_lt max_message (length (moved wire.ahead packet.bytes))) (sealing_of (moved wire.ahead packet.bytes) first) (slice_index_or addresses packet.peer None) mid after sealed)
