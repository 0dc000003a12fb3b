-- How many descriptors a machine wants, and how many sessions it takes within its limit.
use Rattle.std.specs.Prelude.{ℕ, ◌+◌, ◌-◌, ◌*◌, ◌/◌, ◌≤◌, min, max, Option, Some, None}
use Rattle.tt_connections.specs.declared.inboxes.Room.{Room}
use Rattle.tt_workers.specs.Worker.{max_sessions}

-- what no client can take
abbrev pub reserve : ℕ
reserve = 64

-- what a machine with so many workers has of its own, at most
abbrev pub own_descriptors : ℕ → ℕ
own_descriptors workers = 32 + 3 * workers

-- what it wants so that each worker may have all its sessions, a third as many connections that wait, and one in hand
abbrev pub needed_of : ℕ → ℕ
needed_of workers = own_descriptors workers + reserve + 428 * workers

-- how many connections may wait for a worker that has so many descriptors for them and its sessions: a quarter of them, or what all sessions leave, from 1 to 256
abbrev pub waiting_within : ℕ → ℕ
waiting_within rest = max (min (max ((rest + 3) / 4) (rest - max_sessions)) 256) 1

-- how many sessions it may have
abbrev pub sessions_beside : ℕ → ℕ → ℕ
sessions_beside rest waiting = max (min (rest - waiting) max_sessions) 1

-- the room of a worker with so many descriptors, one of which is that of a connection in hand
abbrev pub room_within : ℕ → Room
room_within share = record { waiting = waiting_within (share - 1); sessions = sessions_beside (share - 1) (waiting_within (share - 1)) }

-- what each worker has of what the machine's own and the reserve leave
abbrev pub share_of : ℕ → ℕ → ℕ
share_of limit workers = (limit - (own_descriptors workers + reserve)) / workers

-- the room of each worker: all of it where the limit is not known
abbrev pub room_of : Option ℕ → ℕ → Room
room_of (Some limit) workers = room_within (share_of limit workers)
room_of None workers = record { waiting = 256; sessions = max_sessions }

-- where each worker has three at least, one for a session, one for a connection that waits and one in hand, what all workers take beside their own leaves the machine's own and the reserve
abbrev pub IsShared : ℕ → ℕ → Room → Type 0
IsShared limit workers room = own_descriptors workers + reserve + 3 * workers ≤ limit → own_descriptors workers + reserve + workers * (room.sessions + room.waiting + 1) ≤ limit

-- how many sessions all workers may have
abbrev pub sessions_within : Option ℕ → ℕ → ℕ
sessions_within limit workers = (room_of limit workers).sessions * workers
