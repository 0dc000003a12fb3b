-- The readings of a run, and those that are drawn.
use Rattle.std.specs.Prelude.{ℕ, List, [], ◌∷◌, length, slice_get, Option, Some}
use Rattle.std.specs.List.{flat_map, range_with_len}
use Rattle.tt_world.specs.declared.events.Event.{Event}
use Rattle.tt_world.specs.declared.events.Action.{Action}
use Rattle.tt_world.specs.declared.events.Action.TheVariants as does
use Rattle.tt_world.specs.declared.events.Reply.{Reply}
use Rattle.tt_world.specs.declared.events.Reply.TheVariants as replies
use Rattle.tt_trace.specs.declared.marks.Band.{Band}
use Rattle.tt_trace.specs.declared.marks.Mark.{Mark}
use Rattle.tt_trace.specs.declared.marks.Mark.TheVariants.{Reading}

-- the reading that an action at a true time gave, if it gave one: its machine, the true time, and its ends
abbrev pub reading_in : ℕ → Action → Reply → List Band
reading_in at (does.Read machine worker clock publication) (replies.Read reading) = record { machine = machine; at = at; lo = reading.lo; hi = reading.hi } ∷ []
reading_in at _ _ = []

-- the same of an event and its reply, if they are there
abbrev pub reading_between : Option Event → Option Reply → List Band
reading_between (Some event) (Some reply) = reading_in event.at event.action reply
reading_between _ _ = []

-- the readings of a run, in the order of its events
abbrev pub readings_of : List Event → List Reply → List Band
readings_of events replies = flat_map (λ k. reading_between (slice_get events k) (slice_get replies k)) (range_with_len 0 (length events))

-- the band of a mark, if that is one of a reading
abbrev pub band_in : Mark → List Band
band_in (Reading band) = band ∷ []
band_in _ = []

-- the bands of the readings among these marks, in their order
abbrev pub bands_of : List Mark → List Band
bands_of marks = flat_map band_in marks
