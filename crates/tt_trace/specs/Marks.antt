-- What is drawn of a run.
use Rattle.std.specs.Prelude.{ℕ, ◌&&◌, nat_le, Bool, if◌then◌else◌, List, [], ◌∷◌, length, take, slice_get, Option, Some, None}
use Rattle.std.specs.List.{flat_map, zip, range_with_len}
use Rattle.tt_stamp.specs.declared.commits.Receipt.{Receipt}
use Rattle.tt_world.specs.declared.events.Event.{Event}
use Rattle.tt_world.specs.declared.events.Action.{Action}
use Rattle.tt_world.specs.declared.events.Action.TheVariants as does
use Rattle.tt_world.specs.declared.events.Reply.{Reply}
use Rattle.tt_world.specs.declared.events.Reply.TheVariants as replies
use Rattle.tt_trace.specs.declared.lookups.Errand.{Errand}
use Rattle.tt_trace.specs.declared.lookups.Times.{Times}
use Rattle.tt_trace.specs.declared.marks.Band.{Band}
use Rattle.tt_trace.specs.declared.marks.Mark.{Mark}
use Rattle.tt_trace.specs.declared.marks.Mark.TheVariants.{Fusion, Reading, Commit, Lie, Forgery}
use Rattle.tt_trace.specs.Lookups.{errand_of, times_of}

-- whether the span holds the true time
abbrev pub is_right : Band → Bool
is_right band = nat_le band.lo band.at && nat_le band.at band.hi

-- the mark of an answer of such an errand, if that is known: one of a lie where the span does not hold the true time
abbrev pub answer_marks : Option Errand → ℕ → ℕ → ℕ → List Mark
answer_marks None at lo hi = []
answer_marks (Some errand) at lo hi =
    let band : Band = record { machine = errand.machine; at = at; lo = lo; hi = hi } in
    if is_right band then [] else Lie band ∷ []

-- the mark of the answer to a packet: one of a lie where the span does not hold the true time
abbrev pub lie_marks : List (Event × Reply) → ℕ → ℕ → ℕ → ℕ → List Mark
lie_marks before at packet lo hi = answer_marks (errand_of packet before) at lo hi

-- the mark of a packet of such an errand, if that is known, that was taken: one of a forgery where its bytes were made up
abbrev pub packet_marks : Option Errand → ℕ → List Mark
packet_marks None at = []
packet_marks (Some errand) at = if errand.is_forged then Forgery (record { machine = errand.machine; at = at }) ∷ [] else []

-- the mark of a packet that was taken: one of a forgery where its bytes were made up
abbrev pub forgery_marks : List (Event × Reply) → ℕ → ℕ → List Mark
forgery_marks before at packet = packet_marks (errand_of packet before) at

-- the mark of a commit that is released, if it is known when it arrived
abbrev pub times_marks : Option Times → ℕ → ℕ → Receipt → List Mark
times_marks None machine at receipt = []
times_marks (Some times) machine at receipt =
    Commit (record { machine = machine; id = receipt.id; stamp = receipt.stamp; arrived = times.arrived; queued = times.queued; released = at }) ∷ []

-- the mark of a commit that this machine releases
abbrev pub course_marks : List (Event × Reply) → ℕ → ℕ → Receipt → List Mark
course_marks before machine at receipt = times_marks (times_of machine receipt before) machine at receipt

-- the marks of all commits that this machine releases at once
abbrev pub courses_of : List (Event × Reply) → ℕ → ℕ → List Receipt → List Mark
courses_of before machine at receipts = flat_map (course_marks before machine at) receipts

-- what is drawn of an action at a true time and the reply to it, after these events with their replies
abbrev pub marks_by : List (Event × Reply) → ℕ → Action → Reply → List Mark
marks_by before at (does.Fuse machine clock) (replies.Published number span) = Fusion (record { machine = machine; at = at; lo = span.lo; hi = span.hi }) ∷ []
marks_by before at (does.Read machine worker clock publication) (replies.Read reading) = Reading (record { machine = machine; at = at; lo = reading.lo; hi = reading.hi }) ∷ []
marks_by before at (does.Answer packet span) (replies.Put number) = lie_marks before at packet span.lo span.hi
marks_by before at (does.Deliver packet clock) replies.Taken = forgery_marks before at packet
marks_by before at (does.Release machine worker) (replies.Released receipts) = courses_of before machine at receipts
marks_by before at _ _ = []

-- the same of an event and its reply, if they are there
abbrev pub marks_between : List (Event × Reply) → Option Event → Option Reply → List Mark
marks_between before (Some event) (Some reply) = marks_by before event.at event.action reply
marks_between before _ _ = []

-- what is drawn of event k and its reply
abbrev pub marks_at : List Event → List Reply → ℕ → List Mark
marks_at events replies k = marks_between (zip (take k events) (take k replies)) (slice_get events k) (slice_get replies k)

-- what is drawn of a run of these events, the oldest first, with these replies: for each event what comes of its reply
abbrev pub marks_of : List Event → List Reply → List Mark
marks_of events replies = flat_map (marks_at events replies) (range_with_len 0 (length events))
