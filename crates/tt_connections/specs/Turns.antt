-- Sessions that go on by turns: between two calls of a session the post of its worker may serve other sessions.
use Rattle.std.specs.Prelude.{◌≡◌, ℕ, Bool, Option}
use mathlib.Core.List.{IsPrefix}
use Rattle.tt_publish.specs.Known.{WatchState}
use Rattle.tt_stamp.specs.Stamping.{SeatState, Continues}
use Rattle.tt_session.specs.declared.calls.Call.{Call}
use Rattle.tt_connections.specs.Station.{PostState, StationState, Allows}
use Rattle.tt_connections.specs.declared.presence.Question.{Question}

-- a watch went on: it is of the same source and reckons with the same drift, and has seen all that it had seen
pub record WatchGoesOn (old new : WatchState) : Type 0 where
  pub source : new.source ≡ old.source
  pub drift : new.drift ≡ old.drift
  pub seen : IsPrefix old.items new.items

-- a seat went on: it is of the same sequencer, which has as many seats, has the same numbers, and has seen all that it had seen
pub record SeatGoesOn (old new : SeatState) : Type 0 where
  pub table : new.table ≡ old.table
  pub seats : new.seats ≡ old.seats
  pub numbers : new.numbers ≡ old.numbers
  pub seen : Continues old.seen new.seen

-- a post went on: its watch and its seat did, and its terms are the same
pub record PostGoesOn {C : Type 0} (old new : PostState C) : Type 0 where
  pub watch : WatchGoesOn old.watch new.watch
  pub seat : SeatGoesOn old.seat new.seat
  pub lease : new.lease ≡ old.lease
  pub stampers : new.stampers ≡ old.stampers
  pub ahead : new.ahead ≡ old.ahead
  pub max_width : new.max_width ≡ old.max_width

-- what a station promises of a call before which its post may have gone on
pub record AllowsOn {C V : Type 0} (gives : C → Option ℕ → C → Type 0) (failed : C → ℕ) (says : V → Question → Bool → Type 0) (before : StationState C V) (call : Call) (after : StationState C V) : Type 0 where
  pub post : PostState C
  pub goes : PostGoesOn before.post post
  pub allowed : Allows gives failed says (record before { post = post }) call after
