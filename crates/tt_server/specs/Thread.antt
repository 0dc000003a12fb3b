-- What the threads of the server promise.
use Rattle.std.specs.Prelude.{◌≡◌, ℕ, ◌-◌, ◌<◌, ◌^◌, List, length, All, Option, Some, None}
use Rattle.atomic_table.specs.Seated.{TableId}
use Rattle.tt_publish.specs.Known.{Source, WatchState, new_watch}
use Rattle.tt_stamp.specs.Stamping.{SeatState, new_seat}
use Rattle.tt_connections.specs.declared.posts.Terms.{Terms}
use Rattle.tt_node.specs.Sharing.{AllFrom, IsNewSeat}
use Rattle.tt_settings.specs.Settings.{Meaning}
use Rattle.tt_server.specs.declared.states.Life.{Life as Current}
use Rattle.tt_server.specs.declared.workers.ServesClients.{ServesClients}

-- the terms of a life
abbrev pub terms_in : Current → Terms
terms_in life = record { lease = life.lease; stampers = life.stampers; ahead = life.pauses.floor_ahead; max_width = life.max_width }

-- the widest reading that is given where there is this limit, or none
abbrev pub widest_in : Option ℕ → ℕ
widest_in (Some width) = width
widest_in None = 2 ^ 64 - 1

-- the thread of a worker serves clients with this watch, these terms and this seat
pub record IsServing (watch : WatchState) (terms : Terms) (seat : SeatState) (promise : ServesClients) : Type 0 where
  pub watch_is : promise.watch.value ≡ watch
  pub terms_are : promise.terms ≡ terms
  pub seat_is : promise.seat.value ≡ seat

-- the thread of a worker serves clients with this watch, these terms, and the seat of this number of a new sequencer with so many seats
abbrev pub ServesAt : WatchState → Terms → TableId → ℕ → ℕ → ServesClients → Type 0
ServesAt watch terms table seats number promise = IsServing watch terms (new_seat table seats number) promise

-- these are the seats of a new sequencer with so many seats, in the order of their numbers
abbrev pub AreNewSeats : TableId → ℕ → List SeatState → Type 0
AreNewSeats table count seats = AllFrom (IsNewSeat table count) 0 seats

-- new watches of this source, the seats of a new sequencer, and room, for as many workers as these settings have
pub record AreReady (settings : Meaning) (source : Source) (watches : List WatchState) (table : TableId) (seats : List SeatState) (most : ℕ) : Type 0 where
  pub count : length watches ≡ settings.config.workers
  pub one_each : length seats ≡ settings.config.workers
  pub room : most ≡ settings.config.workers
  pub new : All (λ watch. watch ≡ new_watch source settings.config.drift) watches
  pub new_seats : AreNewSeats table settings.config.workers seats

-- this life has an epoch of 64 bits that is not 0, and the number, the configuration, the pauses, the lease, the stampers, the limits and the clock of these settings
pub record HasSettings (settings : Meaning) (life : Current) : Type 0 where
  pub machine : life.machine ≡ settings.machine
  pub config : life.config ≡ settings.config
  pub pauses : life.pauses ≡ settings.pauses
  pub lease : life.lease ≡ settings.lease
  pub stampers : life.stampers ≡ settings.stampers
  pub on_break : life.on_break ≡ settings.on_break
  pub max_width : life.max_width ≡ widest_in settings.max_width
  pub clock : life.clock ≡ settings.clock
  pub slew : life.slew ≡ settings.slew
  pub first : 0 < life.epoch
  pub last : life.epoch < 2 ^ 64
