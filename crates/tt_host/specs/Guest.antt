-- The page by which a host tells a guest of its clock, vmclock of the Linux kernel.
use Rattle.std.specs.Prelude.{ℕ, ◌&&◌, ◌==◌, Bool, List, length, nat_le, slice_range, if◌then◌else◌, Option, Some, None}
use Rattle.std.specs.Int.{w16, w32, w64, from_le_bytes}

-- the number that says what kind of page it is, lowest byte first
abbrev pub kind_of : List ℕ → ℕ
kind_of bytes = from_le_bytes w32 (slice_range bytes 0 4)

-- its version, lowest byte first
abbrev pub version_of : List ℕ → ℕ
version_of bytes = from_le_bytes w16 (slice_range bytes 8 10)

-- the counter of disruptions, lowest byte first
abbrev pub marker_of : List ℕ → ℕ
marker_of bytes = from_le_bytes w64 (slice_range bytes 16 24)

-- the bytes begin as a page of version 1 does, as far as its counter
abbrev pub is_page : List ℕ → Bool
is_page bytes = nat_le 24 (length bytes) && (kind_of bytes == 1263289174) && (version_of bytes == 1)

-- the counter of disruptions in such a page
abbrev pub disruptions_of : List ℕ → Option ℕ
disruptions_of bytes = if is_page bytes then Some (marker_of bytes) else None
