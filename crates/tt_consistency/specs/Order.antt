-- The commits of sessions, in true time.
use Rattle.std.specs.Prelude.{◌≡◌, ℕ, ◌<◌, ◌≤◌, List, true, Bool, Option, Some, Ok, slice_get}
use Rattle.tt_span.specs.Interval.{Interval}
use Rattle.tt_judge.specs.declared.history.Commit.{Commit}
use Rattle.tt_session.specs.declared.calls.Call.{Call}
use Rattle.tt_session.specs.declared.calls.Call.TheVariants.{Begin, Lease, Pass}
use Rattle.tt_stamp.specs.Stamping.{SeatState, IsLegalRun, Continues, is_in}
use Rattle.tt_stamp.specs.declared.stampings.Stamping.{Stamping}
use Rattle.tt_connections.specs.declared.presence.Question.{Question}
use Rattle.tt_consistency.specs.Timed.{CallTimes, times_at, TimedSession, IsTimed}

-- the call at this place began the commit with this number, and answered this stamp
abbrev pub BeginsAt : List Call → ℕ → ℕ → ℕ → Type 0
BeginsAt calls place number stamp = (floor : ℕ) × (slice_get calls place ≡ Some (Begin number floor (Ok stamp)))

-- the call at this place set the lease of its session to these ends
abbrev pub LeasesAt : List Call → ℕ → ℕ → ℕ → Type 0
LeasesAt calls place lo hi = slice_get calls place ≡ Some (Lease lo hi (Ok tt))

-- no call between these two places set a lease
abbrev pub NoLeaseBetween : List Call → ℕ → ℕ → Type 0
NoLeaseBetween calls place later = (between lo hi : ℕ) → place < between → between < later → LeasesAt calls between lo hi → ⊥

-- the call at `later` gave a commit this stamp, under this lease, which the call at `place` had set
pub record IsLeasedAt (calls : List Call) (lease : Interval) (place later number stamp : ℕ) : Type 0 where
  pub leases : LeasesAt calls place lease.lo lease.hi
  pub begins : BeginsAt calls later number stamp
  pub after : place < later
  pub none : NoLeaseBetween calls place later

-- the call at this place answered that the commit with this number is released
abbrev pub ReleasesAt : List Call → ℕ → ℕ → Type 0
ReleasesAt calls place number = slice_get calls place ≡ Some (Pass number (Ok true))

-- a commit of a session: one call began it with this stamp, and a later one answered that it is released
pub record IsCommitted (calls : List Call) (number stamp begun released : ℕ) : Type 0 where
  pub begins : BeginsAt calls begun number stamp
  pub releases : ReleasesAt calls released number
  pub later : begun < released

-- a commit as one saw it outside, in true time: asked for no later than the call came that began it, and known to be committed no earlier than the call was answered that released it
pub record IsSeen (calls : List Call) (times : List CallTimes) (commit : Commit) : Type 0 where
  pub number : ℕ
  pub begun : ℕ
  pub released : ℕ
  pub committed : IsCommitted calls number commit.stamp begun released
  pub began : commit.began ≤ (times_at times begun).came
  pub ended : (times_at times released).answered ≤ commit.ended

-- a commit's stamp is no less than the true time at which it began, and below the one at which it ended
pub record IsWithin (commit : Commit) : Type 0 where
  pub begun : commit.began ≤ commit.stamp
  pub ended : commit.stamp < commit.ended

-- the commit was seen at some timed session
pub record IsSeenAtSome {C V : Type 0} (gives : C → Option ℕ → C → Type 0) (failed : C → ℕ) (says : V → Question → Bool → Type 0) (commit : Commit) : Type 0 where
  pub session : TimedSession gives failed says
  pub timed : IsTimed gives failed says session
  pub seen : IsSeen session.calls session.times commit

-- two seats of one sequencer: they have no number in common, and what each has seen begins one legal history of stamps
pub record ShareSequencer (one other : SeatState) : Type 0 where
  pub apart : (n : ℕ) → is_in one.numbers n ≡ true → is_in other.numbers n ≡ true → ⊥
  pub seats : ℕ
  pub log : List Stamping
  pub legal : IsLegalRun seats log
  pub from_one : Continues one.seen log
  pub from_other : Continues other.seen log
