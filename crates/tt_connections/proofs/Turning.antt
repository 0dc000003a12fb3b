-- Posts that go on: an allowed call and a conversation make them do so. And a session whose post stayed between its calls is one whose post may have gone on.
use Rattle.std.proofs.Common.{◌≡◌, ℕ, ◌+◌, max, nat_lt, List, [], ◌∷◌, ◌++◌, Bool, true, false, Option, Result, Ok, Err, refl, sym, ap, ◌∙◌, append_assoc, append-nil}
use Rattle.std.specs.Prelude.{MatchBool}
use mathlib.Core.List.{IsPrefix}
use Rattle.tt_span.specs.Interval.{Interval}
use Rattle.tt_publish.specs.Known.{WatchState}
use Rattle.tt_stamp.specs.Stamping.{SeatState, SeatLooks}
use Rattle.tt_stamp.specs.Steps.{Stamps}
use Rattle.tt_stamp.specs.declared.faults.StampFault.{StampFault}
use Rattle.tt_stamp.specs.declared.faults.StampFault.TheVariants as stamp
use Rattle.tt_stamp.proofs.Seats.{Continues-trans}
use Rattle.tt_session.specs.Conversation.{Conversation}
use Rattle.tt_session.specs.Session.{Session}
use Rattle.tt_session.specs.declared.begun.Begun.{Begun}
use Rattle.tt_session.specs.declared.calls.Call.{Call}
use Rattle.tt_session.specs.declared.calls.Call.TheVariants as call
use Rattle.tt_session.specs.declared.serving.Served.{Served}
use Rattle.tt_connections.specs.Fault.{number_of}
use Rattle.tt_connections.specs.Station.{PostState, StationState, Allows, AnswersReading, BeginsAt, CommitsAt, PassesAt, LooksThen, Keeps, room_of}
use Rattle.tt_connections.specs.Turns.{WatchGoesOn, SeatGoesOn, PostGoesOn, AllowsOn}
use Rattle.tt_connections.specs.declared.faults.StationFault.TheVariants.{FloorAboveCap}
use Rattle.tt_connections.specs.declared.presence.Question.{Question}

-- ---- beginnings of lists
pub prefix-same : {A : Type 0} (xs ys : List A) → ys ≡ xs → IsPrefix xs ys
prefix-same xs ys same = ([], append-nil xs ∙ sym same)

pub prefix-both : {A : Type 0} (xs ys zs : List A) → IsPrefix xs ys → IsPrefix ys zs → IsPrefix xs zs
prefix-both {A = A} xs ys zs p q = (p.0 ++ q.0, sym (append_assoc xs p.0 q.0) ∙ ap (λ (list : List A). list ++ q.0) p.1 ∙ q.1)

-- ---- a watch stays, or goes on twice
pub watch-same : (old new : WatchState) → new ≡ old → WatchGoesOn old new
watch-same old new same = record {
  source = ap (λ (w : WatchState). w.source) same;
  drift = ap (λ (w : WatchState). w.drift) same;
  seen = prefix-same old.items new.items (ap (λ (w : WatchState). w.items) same);
}

pub watch-both : (old mid new : WatchState) → WatchGoesOn old mid → WatchGoesOn mid new → WatchGoesOn old new
watch-both old mid new first second = record {
  source = second.source ∙ first.source;
  drift = second.drift ∙ first.drift;
  seen = prefix-both old.items mid.items new.items first.seen second.seen;
}

-- ---- a seat stays, or goes on twice
pub seat-same : (old new : SeatState) → new ≡ old → SeatGoesOn old new
seat-same old new same = record {
  table = ap (λ (s : SeatState). s.table) same;
  seats = ap (λ (s : SeatState). s.seats) same;
  numbers = ap (λ (s : SeatState). s.numbers) same;
  seen = ([], ap (λ (s : SeatState). s.seen) same);
}

pub seat-both : (old mid new : SeatState) → SeatGoesOn old mid → SeatGoesOn mid new → SeatGoesOn old new
seat-both old mid new first second = record {
  table = second.table ∙ first.table;
  seats = second.seats ∙ first.seats;
  numbers = second.numbers ∙ first.numbers;
  seen = Continues-trans old.seen mid.seen new.seen first.seen second.seen;
}

-- ---- a post stays, or goes on twice
pub post-same : {C : Type 0} (old new : PostState C) → new ≡ old → PostGoesOn old new
post-same {C = C} old new same = record {
  watch = watch-same old.watch new.watch (ap (λ (p : PostState C). p.watch) same);
  seat = seat-same old.seat new.seat (ap (λ (p : PostState C). p.seat) same);
  lease = ap (λ (p : PostState C). p.lease) same;
  stampers = ap (λ (p : PostState C). p.stampers) same;
  ahead = ap (λ (p : PostState C). p.ahead) same;
  max_width = ap (λ (p : PostState C). p.max_width) same;
}

pub post-both : {C : Type 0} (old mid new : PostState C) → PostGoesOn old mid → PostGoesOn mid new → PostGoesOn old new
post-both old mid new first second = record {
  watch = watch-both old.watch mid.watch new.watch first.watch second.watch;
  seat = seat-both old.seat mid.seat new.seat first.seat second.seat;
  lease = second.lease ∙ first.lease;
  stampers = second.stampers ∙ first.stampers;
  ahead = second.ahead ∙ first.ahead;
  max_width = second.max_width ∙ first.max_width;
}

-- ---- a seat that was asked for a stamp
seat-looks : (old new : SeatState) → SeatLooks old new → SeatGoesOn old new
seat-looks old new looks = record { table = looks.same.table; seats = looks.same.seats; numbers = looks.same.numbers; seen = looks.after }

seat-stamps : (floor : ℕ) (lease reading : Interval) (old new : SeatState) (stamped : Result ℕ StampFault) → Stamps floor lease reading old stamped new → SeatGoesOn old new
seat-stamps floor lease reading old new (Ok s) stamps = record {
  table = stamps.1.same.table;
  seats = stamps.1.same.seats;
  numbers = stamps.1.same.numbers;
  seen = (record { number = stamps.1.number; latest = reading.hi; floor = floor; lease = lease; stamp = s } ∷ stamps.1.between, stamps.1.after);
}
seat-stamps floor lease reading old new (Err stamp.FloorTooFar) stamps = seat-same old new stamps.1
seat-stamps floor lease reading old new (Err stamp.UsedUp) stamps = seat-looks old new stamps.1
seat-stamps floor lease reading old new (Err stamp.LeaseOver) stamps = seat-looks old new stamps.1
seat-stamps floor lease reading old new (Err stamp.Seats) stamps = absurd stamps
seat-stamps floor lease reading old new (Err stamp.Memory) stamps = absurd stamps

-- the same for a stamp in an interval that may hold no time
seat-in : (room reading : Interval) (floor : ℕ) (old new : SeatState) (stamped : Result ℕ StampFault) (over : Bool)
    → MatchBool over ((stamped ≡ Err stamp.LeaseOver) × (new ≡ old)) (Stamps floor room reading old stamped new) → SeatGoesOn old new
seat-in room reading floor old new stamped true says = seat-same old new says.1
seat-in room reading floor old new stamped false says = seat-stamps floor room reading old new stamped says

-- ---- one call
module _ {C V : Type 0} (before after : StationState C V) where
  seat-reading : (number floor : ℕ) (answer : Result ℕ ℕ) (reading : Interval) (capped : Bool) → MatchBool capped ((answer ≡ Err (number_of FloorAboveCap)) × Keeps before after) (CommitsAt before number floor reading answer after) → SeatGoesOn before.post.seat after.post.seat
  seat-reading number floor answer reading true says = seat-same before.post.seat after.post.seat says.1.seat
  seat-reading number floor answer reading false says =
      let room = room_of before floor reading in
      seat-in room reading floor before.post.seat after.post.seat says.0 (nat_lt room.hi room.lo) says.1

  seat-begins : (number floor : ℕ) (answer : Result ℕ ℕ) (given : Result Interval ℕ) → BeginsAt before number floor answer after given → SeatGoesOn before.post.seat after.post.seat
  seat-begins number floor answer (Ok reading) says = seat-reading number floor answer reading (nat_lt (reading.hi + before.post.ahead) (max floor before.lease.lo)) says
  seat-begins number floor answer (Err reason) says = seat-same before.post.seat after.post.seat says.1.seat

module _ {C V : Type 0} (gives : C → Option ℕ → C → Type 0) (failed : C → ℕ) (says : V → Question → Bool → Type 0) where
  seat-passes : (before after : StationState C V) (number : ℕ) (answer : Result Bool ℕ) (given : Result Interval ℕ) → PassesAt says before number answer after given → SeatGoesOn before.post.seat after.post.seat
  seat-passes before after number answer (Ok reading) passes = seat-same before.post.seat after.post.seat passes.0
  seat-passes before after number answer (Err reason) passes = seat-same before.post.seat after.post.seat passes.1.seat

  looks-on : (before : StationState C V) (Then : Result Interval ℕ → Type 0) (after : StationState C V) → LooksThen gives failed says before Then after → SeatGoesOn before.post.seat after.post.seat → PostGoesOn before.post after.post
  looks-on before Then after looks seat = record {
    watch = record { source = looks.look.looks.same.0; drift = looks.look.looks.same.1; seen = looks.look.looks.seen };
    seat = seat;
    lease = looks.lease;
    stampers = looks.stampers;
    ahead = looks.ahead;
    max_width = looks.max_width;
  }

  pub call-goes_on : (before : StationState C V) (of : Call) (after : StationState C V) → Allows gives failed says before of after → PostGoesOn before.post after.post
  call-goes_on before (call.Now answer) after allowed =
      looks-on before (AnswersReading before answer after) after allowed (seat-same before.post.seat after.post.seat allowed.rest.1.seat)
  call-goes_on before (call.Begin number floor answer) after allowed =
      looks-on before (BeginsAt before number floor answer after) after allowed (seat-begins before after number floor answer allowed.given allowed.rest)
  call-goes_on before (call.Lease lo hi answer) after allowed = post-same before.post after.post (ap (λ (s : StationState C V). s.post) allowed.set)
  call-goes_on before (call.Pass number answer) after allowed =
      looks-on before (PassesAt says before number answer after) after allowed (seat-passes before after number answer allowed.given allowed.rest)

  -- ---- one call before which the post may have gone on, and a conversation of such calls
  pub turn-goes_on : (before : StationState C V) (of : Call) (after : StationState C V) → AllowsOn gives failed says before of after → PostGoesOn before.post after.post
  turn-goes_on before of after allowed =
      post-both before.post allowed.post after.post allowed.goes (call-goes_on (record before { post = allowed.post }) of after allowed.allowed)

  pub calls-go_on : (calls : List Call) (before after : StationState C V) → Conversation (AllowsOn gives failed says) before calls after → PostGoesOn before.post after.post
  calls-go_on [] before after talked = post-same before.post after.post (ap (λ (s : StationState C V). s.post) talked)
  calls-go_on (first ∷ calls) before after talked =
      post-both before.post talked.0.post after.post (turn-goes_on before first talked.0 talked.1) (calls-go_on calls talked.0 after talked.2)

  -- ---- where the post stayed between two calls
  abbrev pub allows-on : (before : StationState C V) (of : Call) (after : StationState C V) → Allows gives failed says before of after → AllowsOn gives failed says before of after
  allows-on before of after allowed = record { post = before.post; goes = post-same before.post before.post refl; allowed = allowed }

  abbrev pub talks-on : (calls : List Call) (before after : StationState C V) → Conversation (Allows gives failed says) before calls after → Conversation (AllowsOn gives failed says) before calls after
  talks-on [] before after talked = talked
  talks-on (first ∷ calls) before after talked = (talked.0, allows-on before first talked.0 talked.1, talks-on calls talked.0 after talked.2)

  abbrev pub session-on : (waits : ℕ) (before : StationState C V) (bytes : List ℕ) (after : StationState C V) (text : List ℕ) (served : Served) (rest : List ℕ) (last : Option Begun)
      → Session (Allows gives failed says) waits before bytes after text served rest last → Session (AllowsOn gives failed says) waits before bytes after text served rest last
  session-on waits before bytes after text served rest last session = record {
    lines = session.lines;
    calls = session.calls;
    replies = session.replies;
    splits = session.splits;
    talked = talks-on session.calls before after session.talked;
    answered = session.answered;
    says = session.says;
    lines_are = session.lines_are;
    refused_are = session.refused_are;
  }
