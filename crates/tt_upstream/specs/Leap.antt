-- Leap seconds: when an announced one is near, and which reply ends the silence around it.
use Rattle.std.specs.Prelude.{ℕ, ◌+◌, ◌-◌, ◌*◌, ◌/◌, Bool, true, false, not, ◌&&◌, nat_lt, nat_le, Option, Some, None}
use Rattle.tt_span.specs.Interval.{Interval}
use Rattle.tt_ntp.specs.declared.replies.Leap.{Leap}
use Rattle.tt_ntp.specs.declared.replies.Leap.TheVariants.{No, Inserted, Deleted}
use Rattle.tt_upstream.specs.declared.leaps.Announced.{Announced}

-- a day in nanoseconds
abbrev pub day : ℕ
day = 86400000000000

-- how long before a leap second a server is silent, in nanoseconds: a minute
abbrev pub eve : ℕ
eve = 60000000000

-- the end of the UTC day of a time
abbrev pub day_end : ℕ → ℕ
day_end x = (x / day + 1) * day

-- what a reply with this span announces: a leap second at the end of the day of the span's lower end
abbrev pub announced_by : Leap → Interval → Option Announced
announced_by No span = None
announced_by Inserted span = Some (record { leap = Inserted; moment = day_end span.lo })
announced_by Deleted span = Some (record { leap = Deleted; moment = day_end span.lo })

-- how far behind an announced leap second a reply has to lie that shows that it is over: one that announces none just behind it, one that announces one an hour, since it then speaks of a later day
abbrev pub settling : Leap → ℕ
settling No = 0
settling Inserted = 3600000000000
settling Deleted = 3600000000000

-- whether the interval reaches the last minute before the announced leap second
abbrev pub is_near : Option Announced → Interval → Bool
is_near None span = false
is_near (Some announced) span = nat_le (announced.moment - eve) span.hi

-- whether a reply with this span is from behind the announced leap second, and shows that it is over
abbrev pub is_behind : Option Announced → Leap → Interval → Bool
is_behind None leap span = true
is_behind (Some announced) leap span = nat_lt announced.moment (span.lo - settling leap)

-- whether a reply is put off: the announced leap second is near, and the reply does not show that it is over
abbrev pub is_put_off : Option Announced → Leap → Interval → Bool
is_put_off announced leap span = is_near announced span && not (is_behind announced leap span)

-- the number of what is announced: 0 nothing, 1 an inserted second, 2 a deleted one
abbrev pub leap_number : Option Announced → ℕ
leap_number None = 0
leap_number (Some announced) = kind_number announced.leap where
  kind_number : Leap → ℕ
  kind_number No = 0
  kind_number Inserted = 1
  kind_number Deleted = 2
