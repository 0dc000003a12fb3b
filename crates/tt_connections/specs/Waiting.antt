-- How many connections wait, and for how long.
use Rattle.std.specs.Prelude.{ℕ, ◌-◌, min, nat_lt, nat_eq, if◌then◌else◌, not, Bool, true, false, Option, Some, None}
use Rattle.tt_files.specs.declared.reasons.Reason.{Reason}
use Rattle.tt_connections.specs.declared.acceptors.Turn.{Turn}
use Rattle.tt_connections.specs.declared.acceptors.Turn.TheVariants.{More, Failed}

-- fewer wait than may, and fewer than 256
abbrev pub has_room : ℕ → ℕ → Bool
has_room waiting most = nat_lt waiting (min most 256)

-- workers share their time from when more sessions than workers are open until fewer are
abbrev pub is_crowded_after : Bool → ℕ → ℕ → Bool
is_crowded_after was_crowded sessions workers = if nat_lt workers sessions then true else (if nat_eq sessions workers then was_crowded else false)

-- for how many nanoseconds clients still wait for the first publication: until two seconds after the start
abbrev pub left_of : ℕ → ℕ → ℕ
left_of began now = 2000000000 - (now - began)

-- connections are handed over once something is published, and two seconds after the start in any case
abbrev pub hands_over : Bool → ℕ → ℕ → Bool
hands_over true began now = true
hands_over false began now = not (nat_lt (now - began) 2000000000)

-- how long the acceptor waits after what its two listeners gave, in nanoseconds: not at all where more may wait, a tenth of a
-- second where the system refused, and else until something comes
abbrev pub pause_of : Turn → Turn → Option ℕ
pause_of More side = Some 0
pause_of front More = Some 0
pause_of (Failed reason) side = Some 100000000
pause_of front (Failed reason) = Some 100000000
pause_of front side = None

-- why the system refused to accept a connection: at the first listener, or else at the second
abbrev pub refusal_in : Turn → Turn → Option Reason
refusal_in (Failed reason) side = Some reason
refusal_in front (Failed reason) = Some reason
refusal_in front side = None
