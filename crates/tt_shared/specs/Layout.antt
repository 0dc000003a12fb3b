-- Where the parts of a shared file stand: a head, and two slots behind it. All lengths are in bytes.
use Rattle.std.specs.Prelude.{ℕ}

-- the length of the head
abbrev pub head_len : ℕ
head_len = 64

-- the length of a slot
abbrev pub slot_len : ℕ
slot_len = 128

-- how much of a slot has numbers; zeros follow
abbrev pub used_len : ℕ
used_len = 120

-- the length of the file
abbrev pub file_len : ℕ
file_len = 320
