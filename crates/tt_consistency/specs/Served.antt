-- Sessions that are served on a running machine, and the commits that are seen at them.
use Rattle.std.specs.Prelude.{◌≡◌, ℕ, List, [], ◌∷◌, map, Bool, Option, Result, Contains}
use mathlib.Core.List.{IsPrefix}
use Rattle.tt_span.specs.Interval.{Interval}
use Rattle.tt_judge.specs.declared.history.Commit.{Commit}
use Rattle.tt_publish.specs.Reading.{fused_span_of}
use Rattle.tt_session.specs.Conversation.{Conversation}
use Rattle.tt_session.specs.declared.calls.Call.{Call}
use Rattle.tt_session.specs.declared.calls.Call.TheVariants.{Lease}
use Rattle.tt_connections.specs.Station.{StationState, new_station, Allows}
use Rattle.tt_connections.specs.Turns.{AllowsOn}
use Rattle.tt_connections.specs.declared.presence.Question.{Question}
use Rattle.tt_consistency.specs.Timed.{CallTimes, AreInOrder, TimedSession, given_of}
use Rattle.tt_consistency.specs.Order.{IsSeen}
use Rattle.tt_consistency.specs.Reads.{IsReadAt}
use Rattle.tt_consistency.specs.Running.{Machine, clock_moments, published_by}

-- a call of a session looked at a machine's publications: its watch has then seen the first ones of them, and if it was given a reading, this was taken at this true time by the machine's clock, which keeps the bound that the watch reckons with at that moment too
pub record LooksAt {C V : Type 0} (gives : C → Option ℕ → C → Type 0) (machine : Machine) (before after : StationState C V) (given : Result Interval ℕ) (time : ℕ) : Type 0 where
  pub seen : IsPrefix (map fused_span_of after.post.watch.items) (published_by machine)
  pub read : IsReadAt gives after.post.watch.drift (clock_moments machine) after.post.watch before.post.clock after.post.clock given time

-- the same for each allowed call that takes a reading; a lease takes none
abbrev pub LooksBy : {C V : Type 0} (gives : C → Option ℕ → C → Type 0) (failed : C → ℕ) (says : V → Question → Bool → Type 0) (machine : Machine) (before : StationState C V) (call : Call) (after : StationState C V) → Allows gives failed says before call after → ℕ → Type 0
LooksBy gives failed says machine before (Lease lo hi answer) after allowed time = Unit {0}
LooksBy gives failed says machine before call after allowed time = LooksAt gives machine before after (given_of gives failed says before call after allowed) time

-- each call of a conversation that takes a reading looked at a machine's publications at the time at which it took its reading; each call has its times
abbrev pub AllLookAt : {C V : Type 0} (gives : C → Option ℕ → C → Type 0) (failed : C → ℕ) (says : V → Question → Bool → Type 0) (machine : Machine) (before : StationState C V) (calls : List Call) (after : StationState C V) → Conversation (AllowsOn gives failed says) before calls after → List CallTimes → Type 0
AllLookAt gives failed says machine before [] after talked times = times ≡ []
AllLookAt gives failed says machine before (call ∷ calls) after talked [] = ⊥
AllLookAt gives failed says machine before (call ∷ calls) after talked (times ∷ later) =
    LooksBy gives failed says machine (record before { post = talked.1.post }) call talked.0 talked.1.allowed times.read × AllLookAt gives failed says machine talked.0 calls after talked.2 later

-- a session is served on a machine: its true times do not fall, and each of its calls looked at the machine's publications
pub record IsServedOn {C V : Type 0} (gives : C → Option ℕ → C → Type 0) (failed : C → ℕ) (says : V → Question → Bool → Type 0) (machine : Machine) (session : TimedSession gives failed says) : Type 0 where
  pub in_order : AreInOrder 0 session.times
  pub look : AllLookAt gives failed says machine (new_station session.post session.client) session.calls session.after session.talked session.times

-- the commit was seen at some session that was served on one of these machines
pub record IsSeenOnOneOf {C V : Type 0} (gives : C → Option ℕ → C → Type 0) (failed : C → ℕ) (says : V → Question → Bool → Type 0) (machines : List Machine) (commit : Commit) : Type 0 where
  pub machine : Machine
  pub among : Contains machines machine
  pub session : TimedSession gives failed says
  pub served : IsServedOn gives failed says machine session
  pub seen : IsSeen session.calls session.times commit
