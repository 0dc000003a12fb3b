-- Socket addresses, and names with a port, as texts.
use Rattle.std.specs.Prelude.{ℕ, Bool, false, ◌-◌, ◌&&◌, ◌||◌, not, nat_eq, nat_lt, nat_le, if◌then◌else◌, List, [], ◌∷◌, length, take, slice_index, Option, Some, None, option_map, option_and_then, ◌==◌}
use Rattle.std.specs.List.{list_all, list_any, slice_split, position_or_len, before_first, after_first}
use Rattle.std.specs.Cmp.Lexicographic.{pointwise}
use Rattle.std.specs.declared.net.socket_addr.SocketAddr.{SocketAddr}
use Rattle.std.specs.declared.net.socket_addr.SocketAddr.TheVariants.{V4, V6}
use Rattle.std.specs.Net.Addr.{ipv4_octets, ipv6_segments}
use Rattle.std.specs.Net.Reader.{whole_value, read_socket_v4, read_socket_v6}
use Rattle.std.specs.Net.Socket.{v4_ip, v6_ip, socket_port, socket_scope_id}
use Rattle.std.specs.Net.Text.{socket_text}
use Rattle.tt_settings.specs.Numeral.{number_of}

-- the IPv4 socket address of four octets and a port
abbrev pub v4_of : List ℕ × ℕ → SocketAddr
v4_of p = V4 (record { ip = record { octets = p.0 }; port = p.1 })

-- the IPv6 socket address of eight segments, a port, the flow information and a scope
abbrev pub v6_of : List ℕ × ℕ × ℕ × ℕ → SocketAddr
v6_of p = V6 (record { ip = record { segments = p.0 }; port = p.1; flowinfo = p.2; scope_id = p.3 })

-- the first that there is
abbrev pub first_of : Option SocketAddr → Option SocketAddr → Option SocketAddr
first_of (Some a) other = Some a
first_of None other = other

-- the socket address that a text writes, in any of its spellings
unfoldable pub socket_in : List ℕ → Option SocketAddr
socket_in text = first_of (option_map v4_of (whole_value (read_socket_v4 text))) (option_map v6_of (whole_value (read_socket_v6 text)))

-- an address, where this text is the one that is printed of it
abbrev pub printed_as : List ℕ → SocketAddr → Option SocketAddr
printed_as text a = if pointwise nat_eq (socket_text a) text then Some a else None

-- the socket address of which a text is the one spelling
unfoldable pub address_of : List ℕ → Option SocketAddr
address_of text = option_and_then (printed_as text) (socket_in text)

-- 127.0.0.0/8 and ::1
abbrev pub is_loopback : SocketAddr → Bool
is_loopback (V4 a) = nat_eq (slice_index (ipv4_octets (v4_ip a)) 0) 127
is_loopback (V6 a) = pointwise nat_eq (ipv6_segments (v6_ip a)) (0 ∷ 0 ∷ 0 ∷ 0 ∷ 0 ∷ 0 ∷ 0 ∷ 1 ∷ [])

-- an IPv4 address of one host: neither 0.0.0.0 nor in 224.0.0.0/4
abbrev pub is_host_v4 : List ℕ → Bool
is_host_v4 octets =
    not (pointwise nat_eq octets (0 ∷ 0 ∷ 0 ∷ 0 ∷ []))
    && not (nat_le 224 (slice_index octets 0) && nat_le (slice_index octets 0) 239)

-- an IPv6 address of one host: neither :: nor in ff00::/8, and no IPv4 address that is mapped to it
abbrev pub is_host_v6 : List ℕ → Bool
is_host_v6 segments =
    not (pointwise nat_eq segments (0 ∷ 0 ∷ 0 ∷ 0 ∷ 0 ∷ 0 ∷ 0 ∷ 0 ∷ []))
    && (not (nat_le 0xff00 (slice_index segments 0)) && not (pointwise nat_eq (take 6 segments) (0 ∷ 0 ∷ 0 ∷ 0 ∷ 0 ∷ 0xffff ∷ [])))

-- the address of one host
abbrev pub is_host : SocketAddr → Bool
is_host (V4 a) = is_host_v4 (ipv4_octets (v4_ip a))
is_host (V6 a) = is_host_v6 (ipv6_segments (v6_ip a))

-- an address that can be asked: that of one host, with a port and without a scope
unfoldable pub is_usable : SocketAddr → Bool
is_usable a = nat_lt 0 (socket_port a) && (nat_eq (socket_scope_id a) 0 && is_host a)

-- a letter, and a digit, of ASCII
abbrev pub is_letter : ℕ → Bool
is_letter b = (nat_le 97 b && nat_le b 122) || (nat_le 65 b && nat_le b 90)

abbrev pub is_digit : ℕ → Bool
is_digit b = nat_le 48 b && nat_le b 57

-- a hyphen, a colon and a dot
abbrev pub is_hyphen : ℕ → Bool
is_hyphen b = b == 45

abbrev pub is_colon : ℕ → Bool
is_colon b = b == 58

abbrev pub is_dot : ℕ → Bool
is_dot b = b == 46

-- what stands in a name between two dots
abbrev pub is_label_byte : ℕ → Bool
is_label_byte b = is_letter b || (is_digit b || is_hyphen b)

-- letters, digits and hyphens, at least one of them, and neither the first nor the last is a hyphen
abbrev pub is_label : List ℕ → Bool
is_label label =
    nat_lt 0 (length label)
    && (list_all is_label_byte label && (not (is_hyphen (slice_index label 0)) && not (is_hyphen (slice_index label (length label - 1)))))

-- each is a label, and the last has a letter, so no name is a bad IPv4 address
abbrev pub are_labels : List (List ℕ) → Bool
are_labels [] = false
are_labels (label ∷ []) = is_label label && list_any is_letter label
are_labels (label ∷ rest) = is_label label && are_labels rest

-- the name of a host: labels with dots between them, of 253 bytes at most
unfoldable pub is_name : List ℕ → Bool
is_name name = nat_le (length name) 253 && are_labels (slice_split is_dot name)

-- a port that can be asked
abbrev pub port_if : Option ℕ → Option ℕ
port_if (Some port) = if nat_lt 0 port then Some port else None
port_if None = None

-- the port that these digits write
abbrev pub port_number : List ℕ → Option ℕ
port_number digits = port_if (number_of 65535 digits)

-- a name and its port, where both can be read
abbrev pub named : List ℕ → Option ℕ → Option (List ℕ × ℕ)
named name port = if is_name name then option_map (λ n. (name, n)) port else None

-- the name and the port that a text writes, with a colon between them
unfoldable pub host_of : List ℕ → Option (List ℕ × ℕ)
host_of text =
    if nat_lt (position_or_len is_colon text) (length text)
    then named (before_first is_colon text) (port_number (after_first is_colon text)) else None
