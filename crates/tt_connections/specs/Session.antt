-- When a client has left, how long its commit still waits, and how its waits are counted.
use Rattle.std.specs.Prelude.{List, [], ◌∷◌, count_by, ℕ, ◌+◌, ◌-◌, nat_lt, if◌then◌else◌, Bool, true, false, Option, Some, None}
use Rattle.tt_connections.specs.declared.sights.Seen.{Seen}
use Rattle.tt_connections.specs.declared.sights.Seen.TheVariants.{Open, Closed, Broken}

-- the bounds of the waits that are counted together, in nanoseconds
abbrev pub wait_bounds : List ℕ
wait_bounds = 100000 ∷ 250000 ∷ 500000 ∷ 1000000 ∷ 2500000 ∷ 5000000 ∷ 10000000 ∷ 25000000 ∷ 50000000 ∷ 100000000 ∷ 250000000 ∷ 1000000000 ∷ []

-- the place of a wait among them: how many lie below it
abbrev pub place_of : ℕ → ℕ
place_of wait = count_by (λ bound. nat_lt bound wait) wait_bounds

-- what is seen of a connection after an event: what was seen once stays, and a break counts more than a close
abbrev pub seen_after : Seen → Bool → Bool → Seen
seen_after Broken is_broken is_closed = Broken
seen_after before true is_closed = Broken
seen_after Closed false is_closed = Closed
seen_after Open false is_closed = if is_closed then Closed else Open

-- a client has left once its connection is broken, or once it closed its side longer ago than it may be silent
abbrev pub is_gone : Seen → ℕ → ℕ → ℕ → Bool
is_gone Open since idle now = false
is_gone Closed since idle now = nat_lt (since + idle) now
is_gone Broken since idle now = true

-- where the clock can't be read, only a broken connection says that the client has left
abbrev pub is_gone_at : Seen → ℕ → ℕ → Option ℕ → Bool
is_gone_at seen since idle (Some now) = is_gone seen since idle now
is_gone_at Broken since idle None = true
is_gone_at Open since idle None = false
is_gone_at Closed since idle None = false

-- how much of the pause behind a release step is left, by what the client's clock showed at the step and what it shows now: nothing is known, and nothing is left, where it could not be read at the step; else what has gone by since is taken off, and nothing where it can't be read now
abbrev pub pause_left : ℕ → Option ℕ → Option ℕ → Option ℕ
pause_left pause None now = None
pause_left pause (Some before) None = Some pause
pause_left pause (Some before) (Some now) = Some (pause - (now - before))
