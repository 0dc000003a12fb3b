-- Runs of one server: what is sent and what comes, when what came is right, and when it frees the server from a leap second.
use Rattle.std.specs.Prelude.{◌≡◌, ◌⊎◌, ℕ, ◌-◌, ◌<◌, List, [], ◌∷◌, Option, Some, None, Ok}
use Rattle.tt_ntp.specs.declared.replies.Reply.{Reply}
use Rattle.tt_ntp.specs.Aged.{IsServerRight}
use Rattle.tt_ntp.specs.Keyed.{PacketKey, packet_in}
use Rattle.tt_upstream.specs.Leap.{eve, settling}
use Rattle.tt_upstream.specs.Server.{ServerState, asked_at, heard_at, query_of, reading_of, news_at}
use Rattle.tt_upstream.specs.declared.leaps.Announced.{Announced}
use Rattle.tt_upstream.specs.declared.news.Asking.{Asking}
use Rattle.tt_upstream.specs.declared.news.News.{News}

-- a request with this nonce is sent at a clock reading; or bytes come at one, to be read under a key or without one
pub data Event : Type 0 where
  Sent : ℕ → ℕ → Event
  Came : Option PacketKey → List ℕ → ℕ → Event

-- the server after an event
abbrev pub after_event : ServerState → Event → ServerState
after_event server (Sent nonce now) = asked_at server nonce now
after_event server (Came key bytes now) = heard_at server key bytes now

-- the server after a list of events, the first one first
abbrev pub after : ServerState → List Event → ServerState
after server [] = server
after server (event ∷ events) = after (after_event server event) events

-- the packet that is read of bytes: under a key the one that stands in them
abbrev pub packet_of : Option PacketKey → List ℕ → List ℕ
packet_of None bytes = bytes
packet_of (Some key) bytes = packet_in bytes

-- what came is right, in some run in which the true time is x when the clock shows c: if it is a reply to the request that is awaited, the server was right when it read its transmit timestamp, and the clock kept its drift bound
abbrev pub IsRightAt : ℕ → ℕ → ServerState → Event → Type 0
IsRightAt c x server (Sent nonce now) = Unit {0}
IsRightAt c x server (Came key bytes now) = (asking : Asking) (reply : Reply) → server.waiting ≡ Some asking → reading_of (query_of server.plan asking) key bytes ≡ Ok reply →
    IsServerRight server.plan.drift server.plan.margin (packet_of key bytes) asking.sent now c x

-- all that came is right
abbrev pub AreRightAt : ℕ → ℕ → ServerState → List Event → Type 0
AreRightAt c x server [] = Unit {0}
AreRightAt c x server (event ∷ events) = IsRightAt c x server event × AreRightAt c x (after_event server event) events

-- a reply from behind an announced leap second that announces none, or from an hour behind it
abbrev pub IsFromBehind : Announced → News → Type 0
IsFromBehind announced news = announced.moment < news.known.statement.span.lo - settling news.leap

-- a reply from before the last minute before an announced leap second
abbrev pub IsFromBefore : Announced → News → Type 0
IsFromBefore announced news = news.known.statement.span.hi < announced.moment - eve

-- what came does not show that the announced leap second is over, or that its last minute has not begun
abbrev pub IsNoRelease : Announced → ServerState → Event → Type 0
IsNoRelease announced server (Sent nonce now) = Unit {0}
IsNoRelease announced server (Came key bytes now) = (news : News) → news_at server.plan server.waiting key bytes now ≡ Ok news → IsFromBehind announced news ⊎ IsFromBefore announced news → ⊥

-- nothing that came shows it
abbrev pub AreNoRelease : Announced → ServerState → List Event → Type 0
AreNoRelease announced server [] = Unit {0}
AreNoRelease announced server (event ∷ events) = IsNoRelease announced server event × AreNoRelease announced (after_event server event) events
