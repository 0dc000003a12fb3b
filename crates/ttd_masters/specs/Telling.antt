-- What is told of a server.
use Rattle.std.specs.Prelude.{ℕ, ◌-◌, Option, Some, None, Result, Ok, Err}
use Rattle.tt_span.specs.Interval.{Interval}
use Rattle.tt_master.specs.Silence.{silence_number_of}
use Rattle.tt_master.specs.declared.silences.Silence.{Silence}
use Rattle.tt_upstream.specs.Leap.{leap_number}
use Rattle.tt_upstream.specs.Server.{ServerState}
use Rattle.tt_upstream.specs.Span.{age_at, distance_of, span_at, stratum_of}
use Rattle.tt_status.specs.declared.server_statuses.ServerStatus.{ServerStatus}

-- the number of the reason why a server says nothing, and 0 where it says something
abbrev pub silence_told : Result Interval Silence → ℕ
silence_told (Ok span) = 0
silence_told (Err silence) = silence_number_of silence

-- how wide what it says is
abbrev pub width_told : Result Interval Silence → Option ℕ
width_told (Ok span) = Some (span.hi - span.lo)
width_told (Err silence) = None

-- what is told of a server at a clock reading
abbrev pub status_of : ServerState → ℕ → ServerStatus
status_of server now = record {
  silence = silence_told (span_at server now);
  stratum = stratum_of server.known;
  distance = distance_of server.known;
  age = age_at server.known now;
  leap = leap_number server.leap;
  asked = server.tally.asked;
  taken = server.tally.taken;
  refused = server.tally.refused;
  kisses = server.tally.kisses;
  width = width_told (span_at server now);
}
