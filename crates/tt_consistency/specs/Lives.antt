-- A life of a machine: what its threads did, from its start to its end. Each list of calls and of sessions has the newest first.
use Rattle.std.specs.Prelude.{◌≡◌, ℕ, ◌<◌, ◌^◌, List, map, All, Bool, Option}
use mathlib.Core.List.{IsPrefix}
use Rattle.tt_span.specs.Interval.{Interval}
use Rattle.tt_daemon.specs.Config.{Configuration, IsConfiguration}
use Rattle.tt_daemon.specs.Publication.{Publication}
use Rattle.tt_publish.specs.Known.{Source, new_watch}
use Rattle.tt_publish.specs.Reading.{fused_span_of}
use Rattle.tt_connections.specs.Station.{PostState}
use Rattle.tt_connections.specs.Sessions.{WorkerSession, AreServedBetween}
use Rattle.tt_connections.specs.declared.presence.Question.{Question}
use Rattle.tt_consistency.specs.Calls.{RoundsCall, AreInTurn, RiseIn, kept_after}
use Rattle.tt_consistency.specs.Steps.{Kept, new_kept}

-- a worker: the post that it began with, the one that it ended with, and the sessions that it served
pub record WorkerLife {C V : Type 0} (gives : C → Option ℕ → C → Type 0) (failed : C → ℕ) (says : V → Question → Bool → Type 0) (waits : ℕ) : Type 0 where
  pub post : PostState C
  pub last : PostState C
  pub sessions : List (WorkerSession gives failed says waits)

-- a life: its configuration, the number of its machine, its epoch, the lease of its stamps, the interval of the stampers, how far a floor may lie ahead and how wide a reading may be; the calls of its daemon, what they published, the oldest first, and its workers
pub record Life {C V : Type 0} (gives : C → Option ℕ → C → Type 0) (failed : C → ℕ) (says : V → Question → Bool → Type 0) (waits : ℕ) : Type 0 where
  pub config : Configuration
  pub number : ℕ
  pub epoch : ℕ
  pub lease : Interval
  pub stampers : Option Interval
  pub ahead : ℕ
  pub max_width : ℕ
  pub calls : List RoundsCall
  pub source : Source
  pub published : List Publication
  pub workers : List (WorkerLife gives failed says waits)

-- the daemon with which a life begins: it is new, and has published nothing
abbrev pub begun_in : {C V : Type 0} {gives : C → Option ℕ → C → Type 0} {failed : C → ℕ} {says : V → Question → Bool → Type 0} {waits : ℕ} → Life gives failed says waits → Kept
begun_in life = new_kept life.config life.number life.epoch

-- a worker began with a watch that had seen nothing, by a clock with the drift of this configuration, and with this lease, this interval of the stampers, this bound for floors and this one for the width of readings; its sessions were served between the post that it began with and the one that it ended with, and what its watch has seen is the first ones of these publications
pub record WorksIn {C V : Type 0} {gives : C → Option ℕ → C → Type 0} {failed : C → ℕ} {says : V → Question → Bool → Type 0} {waits : ℕ} (life : Life gives failed says waits) (worker : WorkerLife gives failed says waits) : Type 0 where
  pub watch : worker.post.watch ≡ new_watch life.source life.config.drift
  pub lease : worker.post.lease ≡ life.lease
  pub stampers : worker.post.stampers ≡ life.stampers
  pub ahead : worker.post.ahead ≡ life.ahead
  pub width : worker.post.max_width ≡ life.max_width
  pub in_turn : AreServedBetween worker.post worker.last worker.sessions
  pub seen : IsPrefix worker.last.watch.items life.published

-- what is proved of a life: its daemon began new, its calls came one after the other, no reading of its clock in them is below one before it, and its workers read nothing but what it published
pub record IsLife {C V : Type 0} {gives : C → Option ℕ → C → Type 0} {failed : C → ℕ} {says : V → Question → Bool → Type 0} {waits : ℕ} (life : Life gives failed says waits) : Type 0 where
  pub configured : IsConfiguration life.config
  pub first : 0 < life.epoch
  pub last : life.epoch < 2 ^ 64
  pub in_turn : AreInTurn (begun_in life) life.calls
  pub rising : (shown : ℕ) × RiseIn 0 life.calls shown
  pub published : map fused_span_of life.published ≡ (kept_after (begun_in life) life.calls).published
  pub workers : All (WorksIn life) life.workers
