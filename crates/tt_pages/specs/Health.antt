-- Whether a machine is well.
use Rattle.std.specs.Prelude.{codes, ℕ, ◌+◌, ◌*◌, ◌-◌, ◌/◌, ◌^◌, min, nat_eq, nat_le, nat_lt, Bool, true, false, not, ◌&&◌, if◌then◌else◌, List, [], ◌++◌, Option, Some, None}
use Rattle.std.specs.Fmt.{decimal}
use Rattle.tt_status.specs.Reason.{reason_word}
use Rattle.tt_status.specs.declared.breaks.BreakReason.{BreakReason}
use Rattle.tt_status.specs.declared.breaks.LastBreak.{LastBreak}
use Rattle.tt_status.specs.declared.statuses.Status.{Status}
use Rattle.tt_pages.specs.declared.healths.Limits.{Limits}
use Rattle.tt_pages.specs.declared.healths.Health.{Health}

-- so many times a time, which stays below 2^64
abbrev pub times : ℕ → ℕ → ℕ
times n time = min (time * n) (2 ^ 64 - 1)

-- the longest time from one round to the next
abbrev pub period_of : ℕ → ℕ → ℕ
period_of poll wait = min (poll + wait) (2 ^ 64 - 1)

-- the limits of a machine: three rounds for answers, ten rounds and a second for a status, and whether it has a shared file
abbrev pub limits_of : Option ℕ → ℕ → ℕ → Bool → Limits
limits_of max_width poll wait shares = record {
  max_width = max_width;
  fresh = times 3 (period_of poll wait);
  recent = min (times 10 (period_of poll wait) + 1000000000) (2 ^ 64 - 1);
  shares = shares;
}

-- a reading is wider than the limit
abbrev pub is_wide : Option ℕ → Option ℕ → Bool
is_wide (Some width) (Some most) = nat_lt most width
is_wide _ _ = false

-- enough sources have not answered within this time
abbrev pub is_stale : Option ℕ → ℕ → Bool
is_stale (Some age) fresh = nat_lt fresh age
is_stale None fresh = true

-- what a status says, and how old it is
abbrev pub health_of : Option Status → ℕ → Limits → Health
health_of (Some s) age limits = record {
  unpublished = nat_eq s.published 0;
  broken = nat_lt 0 s.breaks;
  wide = is_wide s.width limits.max_width;
  stale = is_stale s.needed limits.fresh;
  unshared = limits.shares && not s.sharing;
  still = nat_lt limits.recent age;
}
health_of None age limits = record { unpublished = true; broken = false; wide = false; stale = true; unshared = limits.shares; still = nat_lt limits.recent age }

-- there is no reason
abbrev pub is_well : Health → Bool
is_well h = not h.unpublished && not h.broken && not h.wide && not h.stale && not h.unshared && not h.still

-- a line, where it is so
abbrev pub line_if : Bool → List ℕ → List ℕ
line_if is_so line = if is_so then line else []

-- a line for each reason
unfoldable pub reasons_text : Health → List ℕ
reasons_text h =
    line_if h.unpublished (codes "801: nothing is published\n")
    ++ line_if h.broken (codes "1823: an assumption is broken\n")
    ++ line_if h.wide (codes "1824: readings are wider than max_width\n")
    ++ line_if h.stale (codes "sources_stale: fewer than n - f sources have answered within three rounds\n")
    ++ line_if h.unshared (codes "sharing_ended: the shared file is not written\n")
    ++ line_if h.still (codes "status_old: the last round was made ten rounds ago\n")

-- what a status says of the last life that broke
abbrev pub last_break_in : Option Status → Option LastBreak
last_break_in None = None
last_break_in (Some s) = s.last_break

-- why a life broke, where that is known, and the end of the line
abbrev pub reason_text : Option BreakReason → List ℕ
reason_text None = codes "\n"
reason_text (Some reason) = codes ": " ++ reason_word reason ++ codes "\n"

-- a life broke so long ago
abbrev pub ago_text : ℕ → List ℕ
ago_text ago = codes "last_life_broke " ++ decimal (ago / 1000000000) ++ codes " s ago"

-- the line of it
abbrev pub broke_line : ℕ → Option BreakReason → List ℕ
broke_line ago reason = ago_text ago ++ reason_text reason

-- the last life broke, for ten minutes after that
abbrev pub broke_text : Option LastBreak → ℕ → List ℕ
broke_text None time = []
broke_text (Some last) time = if nat_le (time - last.time) 600000000000 then broke_line (time - last.time) last.reason else []

-- that the machine is well, or why it is not
abbrev pub judged_text : Health → List ℕ
judged_text h = if is_well h then codes "ok\n" else reasons_text h

-- whether it is well, and whether the life before was not
unfoldable pub told_text : Health → Option LastBreak → ℕ → List ℕ
told_text h last time = judged_text h ++ broke_text last time
