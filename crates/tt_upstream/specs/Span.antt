-- What a server says of the true time at a clock reading, or why it says nothing.
use Rattle.std.specs.Prelude.{ℕ, ◌-◌, ◌/◌, ◌||◌, Bool, false, not, nat_lt, is_some, find, List, [], ◌∷◌, Option, Some, None, option_map, Result, Ok, Err}
use Rattle.tt_span.specs.Time.{max_time}
use Rattle.tt_span.specs.Interval.{Interval}
use Rattle.tt_span.specs.Statement.{stated_at}
use Rattle.tt_upstream.specs.Leap.{is_near}
use Rattle.tt_upstream.specs.Server.{ServerState}
use Rattle.tt_master.specs.declared.silences.Silence.{Silence}
use Rattle.tt_master.specs.declared.silences.Silence.TheVariants.{Clock, Unanswered, Old, Refused, Stopped, Leap, Disagreed, Stepped}
use Rattle.tt_upstream.specs.declared.news.Known.{Known}

-- how long before the clock reading the request was sent whose reply is known, 0 where none is
abbrev pub age_at : Option Known → ℕ → ℕ
age_at None now = 0
age_at (Some known) now = now - known.statement.sent

-- whether the clock reading is below that at which the known reply came, or past the greatest time
abbrev pub is_back : Option Known → ℕ → Bool
is_back None now = false
is_back (Some known) now = nat_lt now known.statement.got || nat_lt max_time now

-- the statement of what is known, aged by the drift to the clock reading
abbrev pub known_span : ServerState → ℕ → Interval
known_span server now = stated_at server.plan.drift (option_map (λ known. known.statement) server.known) now

-- whether the server is silent for this reason
unfoldable pub applies : ServerState → ℕ → Silence → Bool
applies server now Clock = is_back server.known now
applies server now Unanswered = not (is_some server.known)
applies server now Old = nat_lt server.plan.max_age (age_at server.known now)
applies server now Refused = server.refused
applies server now Stopped = server.stopped
applies server now Leap = is_near server.leap (known_span server now)
applies server now Disagreed = false
applies server now Stepped = false

-- the reasons for which a server is silent, in the order in which they are tested
abbrev pub silences : List Silence
silences = Stopped ∷ Refused ∷ Unanswered ∷ Old ∷ Clock ∷ Leap ∷ []

-- the first of them that applies, if one does
abbrev pub first_silence : ServerState → ℕ → Option Silence
first_silence server now = find (applies server now) silences

-- a span, unless there is a reason for silence
abbrev pub unless_silent : Option Silence → Interval → Result Interval Silence
unless_silent None span = Ok span
unless_silent (Some silence) span = Err silence

-- what the server says at the clock reading
unfoldable pub span_at : ServerState → ℕ → Result Interval Silence
span_at server now = unless_silent (first_silence server now) (known_span server now)

-- half the width of the span that is known, 0 where none is
abbrev pub distance_of : Option Known → ℕ
distance_of None = 0
distance_of (Some known) = (known.statement.span.hi - known.statement.span.lo) / 2

-- the stratum of the server, 0 where it is not known
abbrev pub stratum_of : Option Known → ℕ
stratum_of None = 0
stratum_of (Some known) = known.stratum
