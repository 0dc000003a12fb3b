-- What is proved of a life of the server, from what its threads hand back.
use Rattle.std.specs.Prelude.{◌≡◌, ℕ, List, [], ◌∷◌, length, map, All}
use Rattle.atomic_table.specs.Seated.{TableId}
use Rattle.tt_publish.specs.Known.{WatchState, seen_of}
use Rattle.tt_publish.specs.Reading.{fused_span_of}
use Rattle.tt_stamp.specs.Stamping.{SeatState, IsLegalRun, new_seat}
use Rattle.tt_stamp.specs.declared.stampings.Stamping.{Stamping}
use Rattle.tt_connections.specs.Sessions.{AreServedBetween}
use Rattle.tt_connections.specs.Turns.{PostGoesOn}
use Rattle.tt_connections.specs.declared.posts.Terms.{Terms}
use Rattle.tt_clock.specs.Clock.{MachineGives}
use Rattle.tt_connections.specs.Client.{ClientSays}
use Rattle.tt_workers.specs.Happening.{AreAllByTurns}
use Rattle.tt_workers.specs.Worker.{clock_failures, max_waits}
use Rattle.tt_wire.specs.Wire.{Wiring}
use Rattle.tt_settings.specs.Master.{Master}
use Rattle.tt_settings.specs.Settings.{Meaning}
use Rattle.tt_node.specs.Sharing.{AllFrom}
use Rattle.tt_consistency.specs.Calls.{RoundsCall}
use Rattle.tt_consistency.specs.Coming.{AreHeard}
use Rattle.tt_consistency.specs.Lives.{Life, WorkerLife, IsLife}
use Rattle.tt_consistency.specs.Sequencer.{HasSeatOf, ShareOneSequencer}
use Rattle.tt_server.specs.Break.{EndsBy}
use Rattle.tt_server.specs.Ring.{IsWireTo}
use Rattle.tt_server.specs.Thread.{widest_in}
use Rattle.tt_server.specs.declared.lives.LifeEnd.{LifeEnd}
use Rattle.tt_server.specs.declared.lives.WorkerEnd.{WorkerEnd}

-- a worker of the server
abbrev pub ServerWorker : Type 0
ServerWorker = WorkerLife MachineGives clock_failures ClientSays max_waits

-- a life of the server
abbrev pub ServerLife : Type 0
ServerLife = Life MachineGives clock_failures ClientSays max_waits

-- all that a worker did was turns of its sessions
abbrev pub ServesByTurns : ServerWorker → Type 0
ServesByTurns worker = AreAllByTurns worker.post worker.sessions worker.last

-- what a worker handed back: it began with this watch, these terms and this seat, its post went on by turns of its sessions, which it served meanwhile, and it tells what its watch had seen at the end, and gives its seat as it was then
pub record HandsBack (watch : WatchState) (terms : Terms) (begun : SeatState) (end : WorkerEnd) (seat : SeatState) : Type 0 where
  pub worker : ServerWorker
  pub watch_is : worker.post.watch ≡ watch
  pub lease_is : worker.post.lease ≡ terms.lease
  pub stampers_is : worker.post.stampers ≡ terms.stampers
  pub ahead_is : worker.post.ahead ≡ terms.ahead
  pub width_is : worker.post.max_width ≡ terms.max_width
  pub goes : PostGoesOn worker.post worker.last
  pub between : AreServedBetween worker.post worker.last worker.sessions
  pub by_turns : ServesByTurns worker
  pub seen_is : end.seen ≡ seen_of worker.last.watch
  pub begun_is : worker.post.seat ≡ begun
  pub seat_is : seat ≡ worker.last.seat

-- the worker of this number handed this back: it began with this watch, these terms and the seat of its number of a new sequencer with so many seats, and has its part of this history
pub record HandsShare (watch : WatchState) (terms : Terms) (table : TableId) (seats : ℕ) (history : List Stamping) (number : ℕ) (end : WorkerEnd) : Type 0 where
  pub seat : SeatState
  pub handed : HandsBack watch terms (new_seat table seats number) end seat
  pub share : HasSeatOf table seats history number handed.worker

-- the workers, in the order of their numbers, handed these back: they drew their stamps from one sequencer, and what all of them have stamped is one legal history
pub record HandShares (watch : WatchState) (terms : Terms) (ends : List WorkerEnd) : Type 0 where
  pub table : TableId
  pub history : List Stamping
  pub legal : IsLegalRun (length ends) history
  pub each : AllFrom (HandsShare watch terms table (length ends) history) 0 ends

-- each end tells what the watch of its worker had seen
abbrev pub TellOfEach : List WorkerEnd → List ServerWorker → Type 0
TellOfEach [] [] = Unit {0}
TellOfEach (end ∷ ends) (worker ∷ workers) = (end.seen ≡ seen_of worker.last.watch) × TellOfEach ends workers
TellOfEach _ _ = ⊥

-- each packet that these calls were given was handed up over one wire to these masters: over the keys that the settings name for them
pub record HearsOver (masters : List Master) (calls : List RoundsCall) : Type 0 where
  pub wire : Wiring
  pub is_wire : IsWireTo masters wire
  pub heard : AreHeard wire calls

-- a life of a machine with these settings ended so
pub record TellsOf (settings : Meaning) (end : LifeEnd) (life : ServerLife) : Type 0 where
  pub is_life : IsLife life
  pub heard : HearsOver settings.masters life.calls
  pub config : life.config ≡ settings.config
  pub number : life.number ≡ settings.machine
  pub lease : life.lease ≡ settings.lease
  pub stampers : life.stampers ≡ settings.stampers
  pub ahead : life.ahead ≡ settings.pauses.floor_ahead
  pub max_width : life.max_width ≡ widest_in settings.max_width
  pub epoch : life.epoch ≡ end.epoch
  pub source : life.source ≡ end.published.source
  pub published : life.published ≡ end.published.items
  pub workers : length life.workers ≡ settings.config.workers
  pub by_turns : All ServesByTurns life.workers
  pub ends : TellOfEach end.workers.items life.workers
  pub shares : ShareOneSequencer life.workers
  pub breaks : EndsBy settings.on_break settings.config.drift (map fused_span_of end.published.items) end.broken
