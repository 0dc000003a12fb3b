-- The readings of sessions that are served on running machines.
use Rattle.std.proofs.Common.{ℕ, List, [], ◌∷◌, Bool, Option, sym, All}
use Rattle.std.specs.Prelude.{IfOk}
use Rattle.std.proofs.lemmas.List.Elements.{All-contains}
use Rattle.tt_span.specs.Interval.{Holds}
use Rattle.tt_judge.specs.declared.history.Commit.{Commit}
use Rattle.tt_session.specs.Conversation.{Conversation}
use Rattle.tt_session.specs.declared.calls.Call.{Call}
use Rattle.tt_session.specs.declared.calls.Call.TheVariants.{Now, Begin, Lease, Pass}
use Rattle.tt_connections.specs.Station.{StationState, Allows, new_station}
use Rattle.tt_connections.specs.Turns.{AllowsOn}
use Rattle.tt_connections.specs.declared.presence.Question.{Question}
use Rattle.tt_consistency.specs.Timed.{CallTimes, given_of, ReadingsHold, TimedSession, IsTimed}
use Rattle.tt_consistency.specs.Order.{IsSeenAtSome}
use Rattle.tt_consistency.proofs.Reading.{given-holds}
use Rattle.tt_consistency.specs.Running.{Machine, IsRunning, clock_moments, published_by}
use Rattle.tt_consistency.specs.Served.{LooksBy, AllLookAt, IsServedOn, IsSeenOnOneOf}
use Rattle.tt_consistency.proofs.Holding.{publications-hold}

module _ {C V : Type 0} (gives : C → Option ℕ → C → Type 0) (failed : C → ℕ) (says : V → Question → Bool → Type 0) where
  module _ (machine : Machine) (running : IsRunning machine) where
    -- the reading of one call
    call-holds : (before : StationState C V) (call : Call) (after : StationState C V) (allowed : Allows gives failed says before call after) (time : ℕ) → LooksBy gives failed says machine before call after allowed time → IfOk (given_of gives failed says before call after allowed) (λ reading. Holds reading time)
    call-holds before (Now answer) after allowed time at =
        given-holds gives after.post.watch.drift before.post.watch after.post.watch before.post.clock after.post.clock allowed.given (clock_moments machine) (published_by machine) time (sym allowed.look.looks.same.1) allowed.look.looks.same.1 (publications-hold machine running) at.seen at.read
    call-holds before (Begin number floor answer) after allowed time at =
        given-holds gives after.post.watch.drift before.post.watch after.post.watch before.post.clock after.post.clock allowed.given (clock_moments machine) (published_by machine) time (sym allowed.look.looks.same.1) allowed.look.looks.same.1 (publications-hold machine running) at.seen at.read
    call-holds before (Lease lo hi answer) after allowed time at = tt
    call-holds before (Pass number answer) after allowed time at =
        given-holds gives after.post.watch.drift before.post.watch after.post.watch before.post.clock after.post.clock allowed.given (clock_moments machine) (published_by machine) time (sym allowed.look.looks.same.1) allowed.look.looks.same.1 (publications-hold machine running) at.seen at.read

    -- the readings of all calls
    calls-hold : (calls : List Call) (before after : StationState C V) (talked : Conversation (AllowsOn gives failed says) before calls after) (times : List CallTimes) → AllLookAt gives failed says machine before calls after talked times → ReadingsHold gives failed says before calls after talked times
    calls-hold [] before after talked times look = look
    calls-hold (call ∷ calls) before after talked [] look = absurd look
    calls-hold (call ∷ calls) before after talked (t ∷ times) look =
        (call-holds (record before { post = talked.1.post }) call talked.0 talked.1.allowed t.read look.0, calls-hold calls talked.0 after talked.2 times look.1)

    pub served-timed : (session : TimedSession gives failed says) → IsServedOn gives failed says machine session → IsTimed gives failed says session
    served-timed session served = record {
      in_order = served.in_order;
      hold = calls-hold session.calls (new_station session.post session.client) session.after session.talked session.times served.look;
    }

  pub seen-timed : (machines : List Machine) (history : List Commit) → All IsRunning machines → All (IsSeenOnOneOf gives failed says machines) history → All (IsSeenAtSome gives failed says) history
  seen-timed machines history running seen number other inside =
      let at = seen number other inside in
      record {
        session = at.session;
        timed = served-timed at.machine (All-contains IsRunning machines at.machine running at.among) at.session at.served;
        seen = at.seen;
      }
