-- The addresses of peers. An IPv4 address stands in IPv6 as ::ffff:a.b.c.d, and is the same end in both.
use Rattle.std.specs.Prelude.{◌≡◌, ℕ, ◌<◌, List, slice_index_or, Bool, true, false, Option, Some, None, IsSomeAnd}
use Rattle.std.specs.declared.net.ip_addr.IpAddr.{IpAddr}
use Rattle.std.specs.declared.net.ip_addr.IpAddr.TheVariants as ip
use Rattle.std.specs.declared.net.socket_addr.SocketAddr.{SocketAddr}
use Rattle.std.specs.declared.net.socket_addr.SocketAddr.TheVariants.{V4, V6}
use Rattle.std.specs.Net.Addr.{ipv6_segments, embedded_segments, IsIpv4Mapped, IsCanonicalOf, IsV6And}
use Rattle.std.specs.Net.Socket.{v4_ip, v4_port, v6_ip, v6_port, socket_ip, socket_port, IsPlainSocket}
use Rattle.tt_rounds.specs.declared.addresses.End.{End}

-- the eight segments of an address in IPv6
abbrev pub segments_in : IpAddr → List ℕ
segments_in (ip.V4 four) = embedded_segments 0xffff four
segments_in (ip.V6 six) = ipv6_segments six

-- the end that a socket address names: the segments of its address in IPv6, and its port; flow information and scope say nothing of it
abbrev pub end_of : SocketAddr → End
end_of address = record { segments = segments_in (socket_ip address); port = socket_port address }

-- the same end by its plain address: an IPv4 address that stands in IPv6 is the IPv4 one, and any other address is as it was
abbrev pub IsPlainOf : SocketAddr → SocketAddr → Type 0
IsPlainOf (V4 four) plain = plain ≡ V4 four
IsPlainOf (V6 six) plain =
    IsCanonicalOf (v6_ip six) (socket_ip plain) × (socket_port plain ≡ v6_port six) × (¬ IsIpv4Mapped (ipv6_segments (v6_ip six)) → plain ≡ V6 six)

-- the same end by its address in IPv6
abbrev pub IsSixOf : SocketAddr → SocketAddr → Type 0
IsSixOf (V4 four) address = IsV6And (socket_ip address) (λ six. ipv6_segments six ≡ embedded_segments 0xffff (v4_ip four)) × IsPlainSocket address (v4_port four)
IsSixOf (V6 six) address = address ≡ V6 six

-- the address by which a socket reaches an end: a socket of IPv6 by the one in IPv6, and a socket of IPv4 by the plain one
abbrev pub IsReachedBy : Bool → SocketAddr → SocketAddr → Type 0
IsReachedBy true to address = IsSixOf to address
IsReachedBy false to address = IsPlainOf to address

-- a peer that has an address is at this end
abbrev pub IsAt : Option SocketAddr → End → Type 0
IsAt None there = ⊥
IsAt (Some address) there = end_of address ≡ there

-- the peer at an end: the first of those with a number that is there, if one is
abbrev pub IsPeerAt : List (Option SocketAddr) → End → Option ℕ → Type 0
IsPeerAt addresses there (Some peer) = IsAt (slice_index_or addresses peer None) there × ((other : ℕ) → other < peer → ¬ IsAt (slice_index_or addresses other None) there)
IsPeerAt addresses there None = (other : ℕ) → other < 256 → ¬ IsAt (slice_index_or addresses other None) there

-- the last stranger after a packet from an address: its plain address, where it is no peer's
abbrev pub IsStrangerAfter : Option ℕ → SocketAddr → Option SocketAddr → Option SocketAddr → Type 0
IsStrangerAfter (Some peer) address before after = after ≡ before
IsStrangerAfter None address before after = IsSomeAnd after (λ plain. IsPlainOf address plain)
