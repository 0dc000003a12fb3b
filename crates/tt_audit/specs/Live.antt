-- The readings of a live run, judged by the reference.
use Rattle.std.specs.Prelude.{ℕ, ◌≤◌, ◌&&◌, nat_le, Bool}
use Rattle.tt_span.specs.Interval.{Holds}
use Rattle.tt_audit.specs.declared.live.LiveNote.{LiveNote}

-- some time from the first reference time to the second lies in the reading
abbrev pub HoldsSomeTime : LiveNote → Type 0
HoldsSomeTime note = (x : ℕ) × (note.before ≤ x) × (x ≤ note.after) × Holds note.reading x

-- whether that is so, computed
abbrev pub holds_some_time : LiveNote → Bool
holds_some_time note = nat_le note.before note.after && nat_le note.before note.reading.hi && nat_le note.reading.lo note.after
