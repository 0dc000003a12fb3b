-- At which address of its own the socket for polls is bound, and which addresses it reaches.
use Rattle.std.specs.Prelude.{◌≡◌, ℤ, pos, ◌||◌, ◌&&◌, nat_eq, not, if◌then◌else◌, Bool, true, false, List, [], ◌∷◌, Option, Some, None, Result, Ok, Err}
use Rattle.std.specs.List.{list_all, list_any}
use Rattle.std.specs.declared.net.ip_addr.IpAddr.{IpAddr}
use Rattle.std.specs.declared.net.socket_addr.SocketAddr.{SocketAddr}
use Rattle.std.specs.declared.net.socket_addr.SocketAddr.TheVariants.{V4, V6}
use Rattle.std.specs.Net.Addr.{ipv4_octets, ipv6_segments, IsV4And, IsV6And}
use Rattle.tt_settings.specs.Master.{Master}
use Rattle.tt_settings.specs.Socket.{address_of, is_loopback}
use Rattle.tt_server.specs.declared.faults.ServerFault.{ServerFault}
use Rattle.tt_server.specs.declared.faults.ServerFault.TheVariants.{MixedFamilies}
use Rattle.tt_server.specs.declared.owns.OwnAddress.{OwnAddress}
use Rattle.tt_server.specs.declared.owns.OwnAddress.TheVariants.{LocalFour, LocalSix, AnyFour, AnySix}

-- the address itself: 127.0.0.1, ::1, 0.0.0.0 or ::
abbrev pub IsOwn : OwnAddress → IpAddr → Type 0
IsOwn LocalFour ip = IsV4And ip (λ a. ipv4_octets a ≡ 127 ∷ 0 ∷ 0 ∷ 1 ∷ [])
IsOwn LocalSix ip = IsV6And ip (λ a. ipv6_segments a ≡ 0 ∷ 0 ∷ 0 ∷ 0 ∷ 0 ∷ 0 ∷ 0 ∷ 1 ∷ [])
IsOwn AnyFour ip = IsV4And ip (λ a. ipv4_octets a ≡ 0 ∷ 0 ∷ 0 ∷ 0 ∷ [])
IsOwn AnySix ip = IsV6And ip (λ a. ipv6_segments a ≡ 0 ∷ 0 ∷ 0 ∷ 0 ∷ 0 ∷ 0 ∷ 0 ∷ 0 ∷ [])

-- an address of IPv4
abbrev pub is_four : SocketAddr → Bool
is_four (V4 four) = true
is_four (V6 six) = false

-- a socket at this address of its own is for a master at that address; one whose address is not known yet may have any
abbrev pub suits : OwnAddress → Option SocketAddr → Bool
suits LocalFour (Some a) = is_four a && is_loopback a
suits LocalSix (Some a) = not (is_four a) && is_loopback a
suits AnyFour (Some a) = is_four a
suits AnySix place = true
suits own None = false

-- the same of a master of the settings
abbrev pub suits_master : OwnAddress → Master → Bool
suits_master own master = suits own (address_of master.address)

-- it suits all masters
abbrev pub suits_all : OwnAddress → List Master → Bool
suits_all own masters = list_all (suits_master own) masters

-- the address of its own for these masters: the first of these that suits all
abbrev pub own_of : List Master → OwnAddress
own_of masters =
    if suits_all LocalFour masters then LocalFour
    else (if suits_all LocalSix masters then LocalSix
    else (if suits_all AnyFour masters then AnyFour else AnySix))

-- a master has an address of IPv4 in the settings
abbrev pub has_four : Master → Bool
has_four master = suits AnyFour (address_of master.address)

-- masters of both families are refused where a socket of IPv6 reaches none of IPv4
abbrev pub families_at : OwnAddress → Bool → List Master → Result (Unit {0}) ServerFault
families_at AnySix true masters = if list_any has_four masters then Err MixedFamilies else Ok tt
families_at own six_only masters = Ok tt

-- a socket at this address of its own reaches that address; one of IPv6 reaches IPv4 unless it is for IPv6 alone
abbrev pub reaches : OwnAddress → Bool → SocketAddr → Bool
reaches LocalFour six_only a = is_four a
reaches AnyFour six_only a = is_four a
reaches LocalSix six_only a = not (is_four a)
reaches AnySix six_only a = not six_only || not (is_four a)

-- the first of these addresses that it reaches
abbrev pub first_reached : OwnAddress → Bool → List SocketAddr → Option SocketAddr
first_reached own six_only [] = None
first_reached own six_only (a ∷ others) = if reaches own six_only a then Some a else first_reached own six_only others

-- the host has no IPv6: EAFNOSUPPORT and EADDRNOTAVAIL
abbrev pub tells_no_six : Option ℤ → Bool
tells_no_six (Some (pos code)) = nat_eq code 97 || nat_eq code 99
tells_no_six _ = false

-- where a socket is bound where this failed so: one for any address of IPv6 at any of IPv4, where the host has no IPv6
abbrev pub instead_of : OwnAddress → Option ℤ → Option OwnAddress
instead_of AnySix code = if tells_no_six code then Some AnyFour else None
instead_of own code = None
