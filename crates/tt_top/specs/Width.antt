-- The widths of the last ten minutes: the greatest one of each three seconds.
use Rattle.std.specs.Prelude.{ℕ, zero, suc, ◌-◌, ◌/◌, nat_le, min, max, if◌then◌else◌, List, [], ◌∷◌, ◌++◌, length}
use Rattle.std.specs.List.{remove}
use Rattle.tt_top.specs.declared.widths.Widths.{Widths}

-- the widths of past slots, the oldest first, and the greatest one of the newest slot
abbrev pub kept_by : Widths → List ℕ × ℕ
kept_by widths = (widths.past.items, widths.newest)

-- the slot of the newest
abbrev pub slot_of : Widths → ℕ
slot_of widths = widths.slot

-- the slot of a clock reading
abbrev pub slot_at : ℕ → ℕ
slot_at now = now / 3000000000

-- the later of a slot and that of a clock reading
abbrev pub later_of : ℕ → ℕ → ℕ
later_of slot now = max slot (slot_at now)

-- past widths with one more; the oldest of 199 goes
abbrev pub pushed : List ℕ → ℕ → List ℕ
pushed past now = (if nat_le 199 (length past) then remove past 0 else past) ++ now ∷ []

-- a slot later
abbrev pub next_of : List ℕ × ℕ → List ℕ × ℕ
next_of kept = (pushed kept.0 kept.1, 0)

-- so many slots later
abbrev pub after_slots : ℕ → List ℕ × ℕ → List ℕ × ℕ
after_slots zero kept = kept
after_slots (suc n) kept = next_of (after_slots n kept)

-- the same with a width in the newest slot
abbrev pub with_width : List ℕ × ℕ → ℕ → List ℕ × ℕ
with_width kept width = (kept.0, max kept.1 width)

-- what is kept once a width is seen at a clock reading: as many slots later as have gone by, at most 200
abbrev pub seen_of : List ℕ × ℕ → ℕ → ℕ → ℕ → List ℕ × ℕ
seen_of kept slot width now = with_width (after_slots (min (slot_at now - slot) 200) kept) width

-- all widths, the oldest first
abbrev pub shown_by : Widths → List ℕ
shown_by widths = widths.past.items ++ widths.newest ∷ []
