-- The bytes of NTP packets (RFC 5905): a request, and where the fields of a reply stand.
use Rattle.std.specs.Prelude.{ℕ, ◌+◌, ◌*◌, ◌/◌, ◌%◌, List, ◌∷◌, ◌++◌, replicate, slice_index, slice_range}
use Rattle.std.specs.Int.{w32, w64, from_be_bytes, to_be_bytes}

-- the length of a request and of a reply, in bytes
abbrev pub packet_len : ℕ
packet_len = 48

-- the request with this nonce: leap indicator 0, version 4, mode 3, then zeros, and as transmit timestamp the nonce
abbrev pub request_of : ℕ → List ℕ
request_of nonce = (0 * 64 + 4 * 8 + 3) ∷ (replicate 39 0 ++ to_be_bytes w64 nonce)

-- the number in the eight bytes from place i on, the highest first
abbrev pub number_at : List ℕ → ℕ → ℕ
number_at bytes i = from_be_bytes w64 (slice_range bytes i (i + 8))

-- the number in the four bytes from place i on, the highest first
abbrev pub short_at : List ℕ → ℕ → ℕ
short_at bytes i = from_be_bytes w32 (slice_range bytes i (i + 4))

-- the leap indicator: the two high bits of the first byte
abbrev pub leap_at : List ℕ → ℕ
leap_at bytes = slice_index bytes 0 / 64

-- the version: its next three bits
abbrev pub version_at : List ℕ → ℕ
version_at bytes = slice_index bytes 0 / 8 % 8

-- the mode: its three low bits
abbrev pub mode_at : List ℕ → ℕ
mode_at bytes = slice_index bytes 0 % 8

-- the stratum: how many servers stand between this one and a reference clock, and one more
abbrev pub stratum_at : List ℕ → ℕ
stratum_at bytes = slice_index bytes 1

-- the byte of the precision
abbrev pub precision_at : List ℕ → ℕ
precision_at bytes = slice_index bytes 3

-- the root delay, in 2^-16 seconds
abbrev pub root_delay_at : List ℕ → ℕ
root_delay_at bytes = short_at bytes 4

-- the root dispersion, in 2^-16 seconds
abbrev pub root_dispersion_at : List ℕ → ℕ
root_dispersion_at bytes = short_at bytes 8

-- the reference identifier: what the server follows, or at stratum 0 a kiss code
abbrev pub reference_id_at : List ℕ → ℕ
reference_id_at bytes = short_at bytes 12

-- the reference timestamp: when the server's clock was set last
abbrev pub reference_at : List ℕ → ℕ
reference_at bytes = number_at bytes 16

-- the origin timestamp: the nonce of the request that is answered
abbrev pub origin_at : List ℕ → ℕ
origin_at bytes = number_at bytes 24

-- the receive timestamp: what the server's clock showed when the request came
abbrev pub receive_at : List ℕ → ℕ
receive_at bytes = number_at bytes 32

-- the transmit timestamp: what it showed when the reply was sent
abbrev pub transmit_at : List ℕ → ℕ
transmit_at bytes = number_at bytes 40
