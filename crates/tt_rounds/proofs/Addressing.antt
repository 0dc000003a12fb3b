-- The ends that addresses name, and who is at one.
use Rattle.std.proofs.Common.{◌≡◌, ℕ, ◌+◌, ◌*◌, ◌/◌, ◌%◌, ◌<◌, ◌≤◌, ltb, List, [], ◌∷◌, ◌++◌, length, take, drop, Bool, true, false, cond, Option, Some, None, refl, ap, ◌∙◌, sym, subst, arith, inl, inr}
use Rattle.std.specs.Prelude.{slice_index_or}
use Rattle.std.specs.declared.net.ipv4_addr.Ipv4Addr.{Ipv4Addr}
use Rattle.std.specs.declared.net.ipv6_addr.Ipv6Addr.{Ipv6Addr}
use Rattle.std.specs.declared.net.socket_addr.SocketAddrV4.{SocketAddrV4}
use Rattle.std.specs.declared.net.socket_addr.SocketAddrV6.{SocketAddrV6}
use Rattle.std.specs.declared.net.socket_addr.SocketAddr.{SocketAddr}
use Rattle.std.specs.declared.net.socket_addr.SocketAddr.TheVariants.{V4, V6}
use Rattle.std.specs.Net.Addr.{ipv4_octets, ipv6_segments, low_octets, segments_of, octets_of, IsIpv4Mapped}
use Rattle.std.specs.Net.Socket.{v4_ip, v4_port, v6_ip, v6_port}
use Rattle.std.proofs.lemmas.Bool.{ltb-false, cases_lt}
use Rattle.std.proofs.lemmas.List.{take-append-drop, get_or_past}
use Rattle.tt_rounds.specs.Addresses.{end_of, IsAt, IsPeerAt}
use Rattle.tt_rounds.specs.declared.addresses.End.{End}

-- the octets of segments make the segments again
segments_of-octets_of : (segments : List ℕ) → segments_of (octets_of segments) ≡ segments
segments_of-octets_of [] = refl
segments_of-octets_of (s ∷ segments) =
    let whole : s / 256 * 256 + s % 256 ≡ s = omega arith in
    ap (λ (x : ℕ). x ∷ segments_of (octets_of segments)) whole ∙ ap (λ (l : List ℕ). s ∷ l) (segments_of-octets_of segments)

-- the octets at the end of an address that stands in IPv6 make its segments
pub mapped_segments : (octets segments : List ℕ) → octets ≡ octets_of (drop 6 segments) → take 6 segments ≡ 0 ∷ 0 ∷ 0 ∷ 0 ∷ 0 ∷ 0xffff ∷ [] → 0 ∷ 0 ∷ 0 ∷ 0 ∷ 0 ∷ 0xffff ∷ segments_of octets ≡ segments
mapped_segments octets segments low front =
    ap (λ (l : List ℕ). 0 ∷ 0 ∷ 0 ∷ 0 ∷ 0 ∷ 0xffff ∷ l) (ap segments_of low ∙ segments_of-octets_of (drop 6 segments))
    ∙ ap (λ (l : List ℕ). l ++ drop 6 segments) (sym front)
    ∙ take-append-drop 6 segments

-- the end with these segments and this port
abbrev end_with : List ℕ → ℕ → End
end_with segments port = record { segments = segments; port = port }

same_end : (segments segments' : List ℕ) (port port' : ℕ) → segments ≡ segments' → port ≡ port' → end_with segments port ≡ end_with segments' port'
same_end segments segments' port port' s p = cc

-- the IPv4 address in an IPv6 one names the same end
pub end_of-mapped : (four : SocketAddrV4) (six : SocketAddrV6) (ip : Ipv4Addr) (ip6 : Ipv6Addr) → v4_ip four ≡ ip → v4_port four ≡ v6_port six → ip6 ≡ v6_ip six → IsIpv4Mapped (ipv6_segments ip6) → ipv4_octets ip ≡ low_octets ip6
    → end_of (V4 four) ≡ end_of (V6 six)
end_of-mapped four six ip ip6 has_ip has_port has_ip6 mapped low =
    let inner = mapped_segments (ipv4_octets ip) (ipv6_segments ip6) low mapped in
    same_end _ _ (v4_port four) (v6_port six)
    (ap (λ (a : Ipv4Addr). 0 ∷ 0 ∷ 0 ∷ 0 ∷ 0 ∷ 0xffff ∷ segments_of (ipv4_octets a)) has_ip ∙ inner ∙ ap ipv6_segments has_ip6) has_port

-- the first place at which a peer is there, if it has a number
numbered : (addresses : List (Option SocketAddr)) (there : End) (place : ℕ) (has : Bool) → has ≡ ltb place 256 → IsAt (slice_index_or addresses place None) there
    → ((other : ℕ) → other < place → ¬ IsAt (slice_index_or addresses other None) there) → IsPeerAt addresses there (cond has (Some place) None)
numbered addresses there place true is at before = (at, before)
numbered addresses there place false is at before = λ other below. let past : 256 ≤ place = ltb-false place 256 (sym is) in before other (omega arith)

pub IsPeerAt-place : (addresses : List (Option SocketAddr)) (there : End) (place : ℕ) → IsAt (slice_index_or addresses place None) there
    → ((other : ℕ) → other < place → ¬ IsAt (slice_index_or addresses other None) there) → IsPeerAt addresses there (cond (ltb place 256) (Some place) None)
IsPeerAt-place addresses there place at before = numbered addresses there place (ltb place 256) refl at before

-- nobody is anywhere where nobody is at the first places, which are all
pub nobody-past : (addresses : List (Option SocketAddr)) (there : End) (place other : ℕ) → length addresses ≤ place
    → ((other : ℕ) → other < place → ¬ IsAt (slice_index_or addresses other None) there) → ¬ IsAt (slice_index_or addresses other None) there
nobody-past addresses there place other all before at =
    elim (cases_lt other place) [
      | inl below ↦ before other below at
      | inr past ↦ let none : slice_index_or addresses other None ≡ None = get_or_past addresses other None (omega (arith, past, all)) in subst (λ (a : Option SocketAddr). IsAt a there) none at
    ]
