-- The readings that are drawn are those of the run.
use Rattle.std.proofs.Common.{◌≡◌, ℕ, Bool, true, false, List, [], ◌∷◌, ◌++◌, length, take, slice_get, Option, Some, None, if◌then◌else◌, ap, refl, ◌∙◌}
use Rattle.std.specs.List.{flat_map, zip, range_with_len}
use Rattle.std.proofs.lemmas.Grind.{flat_map-append}
use Rattle.tt_stamp.specs.declared.commits.Receipt.{Receipt}
use Rattle.tt_world.specs.declared.events.Event.{Event}
use Rattle.tt_world.specs.declared.events.Action.{Action}
use Rattle.tt_world.specs.declared.events.Action.TheVariants as does
use Rattle.tt_world.specs.declared.events.Reply.{Reply}
use Rattle.tt_world.specs.declared.events.Reply.TheVariants as replies
use Rattle.tt_trace.specs.declared.lookups.Errand.{Errand}
use Rattle.tt_trace.specs.declared.lookups.Times.{Times}
use Rattle.tt_trace.specs.declared.marks.Band.{Band}
use Rattle.tt_trace.specs.declared.marks.Mark.{Mark}
use Rattle.tt_trace.specs.declared.marks.Mark.TheVariants.{Lie, Forgery}
use Rattle.tt_trace.specs.Lookups.{errand_of, times_of}
use Rattle.tt_trace.specs.Marks.{answer_marks, packet_marks, times_marks, course_marks, courses_of, marks_by, marks_between, marks_at, marks_of, is_right}
use Rattle.tt_trace.specs.Bands.{reading_in, reading_between, readings_of, band_in, bands_of}

-- an answer is no reading
answered : (errand : Option Errand) (at lo hi : ℕ) → bands_of (answer_marks errand at lo hi) ≡ []
answered None at lo hi = refl
answered (Some errand) at lo hi = by_right (is_right band)
  where
    band : Band
    band = record { machine = errand.machine; at = at; lo = lo; hi = hi }

    by_right : (right : Bool) → bands_of (if right then [] else Lie band ∷ []) ≡ []
    by_right true = refl
    by_right false = refl

-- a packet is no reading
taken : (errand : Option Errand) (at : ℕ) → bands_of (packet_marks errand at) ≡ []
taken None at = refl
taken (Some errand) at = by_forged errand.is_forged
  where
    by_forged : (forged : Bool) → bands_of (if forged then Forgery (record { machine = errand.machine; at = at }) ∷ [] else []) ≡ []
    by_forged true = refl
    by_forged false = refl

-- a commit is no reading
course : (times : Option Times) (machine at : ℕ) (receipt : Receipt) → bands_of (times_marks times machine at receipt) ≡ []
course None machine at receipt = refl
course (Some times) machine at receipt = refl

-- nor are commits
released : (before : List (Event × Reply)) (machine at : ℕ) (receipts : List Receipt) → bands_of (courses_of before machine at receipts) ≡ []
released before machine at [] = refl
released before machine at (receipt ∷ receipts) =
    flat_map-append band_in (course_marks before machine at receipt) (courses_of before machine at receipts)
    ∙ ap (λ l. l ++ bands_of (courses_of before machine at receipts)) (course (times_of machine receipt before) machine at receipt)
    ∙ released before machine at receipts

-- what is drawn of an action and the reply to it
bands_by : (before : List (Event × Reply)) (at : ℕ) (action : Action) (reply : Reply) → bands_of (marks_by before at action reply) ≡ reading_in at action reply
bands_by before at (does.Send machine source clock) reply = refl
bands_by before at (does.Answer packet span) (replies.Sent number) = refl
bands_by before at (does.Answer packet span) (replies.Put number) = answered (errand_of packet before) at span.lo span.hi
bands_by before at (does.Answer packet span) replies.Taken = refl
bands_by before at (does.Answer packet span) (replies.Published number span2) = refl
bands_by before at (does.Answer packet span) (replies.Read reading) = refl
bands_by before at (does.Answer packet span) replies.Arrived = refl
bands_by before at (does.Answer packet span) (replies.Stamped number) = refl
bands_by before at (does.Answer packet span) replies.Queued = refl
bands_by before at (does.Answer packet span) (replies.Restarted number) = refl
bands_by before at (does.Answer packet span) replies.Leased = refl
bands_by before at (does.Answer packet span) (replies.Released receipts) = refl
bands_by before at (does.Answer packet span) (replies.Refused number) = refl
bands_by before at (does.Forge machine source payload) reply = refl
bands_by before at (does.Deliver packet clock) (replies.Sent number) = refl
bands_by before at (does.Deliver packet clock) (replies.Put number) = refl
bands_by before at (does.Deliver packet clock) replies.Taken = taken (errand_of packet before) at
bands_by before at (does.Deliver packet clock) (replies.Published number span2) = refl
bands_by before at (does.Deliver packet clock) (replies.Read reading) = refl
bands_by before at (does.Deliver packet clock) replies.Arrived = refl
bands_by before at (does.Deliver packet clock) (replies.Stamped number) = refl
bands_by before at (does.Deliver packet clock) replies.Queued = refl
bands_by before at (does.Deliver packet clock) (replies.Restarted number) = refl
bands_by before at (does.Deliver packet clock) replies.Leased = refl
bands_by before at (does.Deliver packet clock) (replies.Released receipts) = refl
bands_by before at (does.Deliver packet clock) (replies.Refused number) = refl
bands_by before at (does.Fuse machine clock) (replies.Sent number) = refl
bands_by before at (does.Fuse machine clock) (replies.Put number) = refl
bands_by before at (does.Fuse machine clock) replies.Taken = refl
bands_by before at (does.Fuse machine clock) (replies.Published number span2) = refl
bands_by before at (does.Fuse machine clock) (replies.Read reading) = refl
bands_by before at (does.Fuse machine clock) replies.Arrived = refl
bands_by before at (does.Fuse machine clock) (replies.Stamped number) = refl
bands_by before at (does.Fuse machine clock) replies.Queued = refl
bands_by before at (does.Fuse machine clock) (replies.Restarted number) = refl
bands_by before at (does.Fuse machine clock) replies.Leased = refl
bands_by before at (does.Fuse machine clock) (replies.Released receipts) = refl
bands_by before at (does.Fuse machine clock) (replies.Refused number) = refl
bands_by before at (does.Read machine worker clock publication) (replies.Sent number) = refl
bands_by before at (does.Read machine worker clock publication) (replies.Put number) = refl
bands_by before at (does.Read machine worker clock publication) replies.Taken = refl
bands_by before at (does.Read machine worker clock publication) (replies.Published number span2) = refl
bands_by before at (does.Read machine worker clock publication) (replies.Read reading) = refl
bands_by before at (does.Read machine worker clock publication) replies.Arrived = refl
bands_by before at (does.Read machine worker clock publication) (replies.Stamped number) = refl
bands_by before at (does.Read machine worker clock publication) replies.Queued = refl
bands_by before at (does.Read machine worker clock publication) (replies.Restarted number) = refl
bands_by before at (does.Read machine worker clock publication) replies.Leased = refl
bands_by before at (does.Read machine worker clock publication) (replies.Released receipts) = refl
bands_by before at (does.Read machine worker clock publication) (replies.Refused number) = refl
bands_by before at (does.Arrive machine worker id floor) reply = refl
bands_by before at (does.Stamp machine worker) reply = refl
bands_by before at (does.Queue machine worker) reply = refl
bands_by before at (does.Restart machine clock) reply = refl
bands_by before at (does.Lease machine lease) reply = refl
bands_by before at (does.Release machine worker) (replies.Sent number) = refl
bands_by before at (does.Release machine worker) (replies.Put number) = refl
bands_by before at (does.Release machine worker) replies.Taken = refl
bands_by before at (does.Release machine worker) (replies.Published number span2) = refl
bands_by before at (does.Release machine worker) (replies.Read reading) = refl
bands_by before at (does.Release machine worker) replies.Arrived = refl
bands_by before at (does.Release machine worker) (replies.Stamped number) = refl
bands_by before at (does.Release machine worker) replies.Queued = refl
bands_by before at (does.Release machine worker) (replies.Restarted number) = refl
bands_by before at (does.Release machine worker) replies.Leased = refl
bands_by before at (does.Release machine worker) (replies.Released receipts) = released before machine at receipts
bands_by before at (does.Release machine worker) (replies.Refused number) = refl

-- what is drawn of an event and its reply, if they are there
bands_between : (before : List (Event × Reply)) (event : Option Event) (reply : Option Reply) → bands_of (marks_between before event reply) ≡ reading_between event reply
bands_between before (Some event) (Some reply) = bands_by before event.at event.action reply
bands_between before (Some event) None = refl
bands_between before None reply = refl

-- the bands of pieces, one behind the other
bands_along : (f : ℕ → List Mark) (g : ℕ → List Band) → ((k : ℕ) → bands_of (f k) ≡ g k) → (ks : List ℕ) → bands_of (flat_map f ks) ≡ flat_map g ks
bands_along f g same [] = refl
bands_along f g same (k ∷ ks) =
    flat_map-append band_in (f k) (flat_map f ks) ∙ ap (λ l. l ++ bands_of (flat_map f ks)) (same k) ∙ ap (λ l. g k ++ l) (bands_along f g same ks)

-- the readings that are drawn of a run are those of the run
pub drawn_once : (events : List Event) (replies : List Reply) → bands_of (marks_of events replies) ≡ readings_of events replies
drawn_once events replies =
    bands_along (marks_at events replies) (λ k. reading_between (slice_get events k) (slice_get replies k))
    (λ k. bands_between (zip (take k events) (take k replies)) (slice_get events k) (slice_get replies k)) (range_with_len 0 (length events))
