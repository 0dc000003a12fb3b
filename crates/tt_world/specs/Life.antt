-- The lives of a machine: it begins a new one when it restarts. Each list has the newest event first, and only events that were not bad.
use Rattle.std.specs.Prelude.{ℕ, ◌+◌, ◌==◌, ◌&&◌, Bool, false, if◌then◌else◌, List, [], ◌∷◌}
use Rattle.tt_world.specs.declared.events.Event.{Event}
use Rattle.tt_world.specs.declared.events.Action.{Action}
use Rattle.tt_world.specs.declared.events.Action.TheVariants.{Restart}

-- a life of a machine; the first has number 1
pub record Life : Type 0 where
  pub machine : ℕ
  pub number : ℕ

-- whether an action restarts machine m
abbrev pub restarts : ℕ → Action → Bool
restarts m (Restart machine clock) = machine == m
restarts m _ = false

-- the number of the life that machine m is in
abbrev pub life_of : List Event → ℕ → ℕ
life_of [] m = 1
life_of (event ∷ past) m = if restarts m event.action then life_of past m + 1 else life_of past m

-- the life that machine m is in
abbrev pub life_at : List Event → ℕ → Life
life_at past m = record { machine = m; number = life_of past m }

-- the life that machine m begins when it restarts
abbrev pub next_life : List Event → ℕ → Life
next_life past m = record { machine = m; number = life_of past m + 1 }

-- whether two lives are the same
abbrev pub same_life : Life → Life → Bool
same_life a b = a.machine == b.machine && a.number == b.number

-- whether the machine is in this life
abbrev pub is_of : List Event → Life → ℕ → Bool
is_of past life machine = same_life (life_at past machine) life
