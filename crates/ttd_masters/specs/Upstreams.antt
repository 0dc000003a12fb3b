-- How a master asks NTP servers.
use Rattle.std.specs.Prelude.{ℕ, ◌+◌, min, Bool, true, false, Option, Some, None, if◌then◌else◌}
use Rattle.std.specs.declared.io.ErrorKind.{ErrorKind}
use Rattle.std.specs.declared.io.ErrorKind.TheVariants.{ConnectionReset, HostUnreachable, NetworkUnreachable, NetworkDown, Interrupted}
use Rattle.tt_upstream.specs.Refusal.{sum_of}
use Rattle.tt_upstream.specs.declared.plans.Plan.{Plan}
use Rattle.ttd_words.specs.declared.requests.NtpTime.{NtpTime}
use Rattle.tt_upstream.specs.declared.exchanges.Exchange.{Exchange}
use Rattle.tt_upstream.specs.declared.exchanges.Exchange.TheVariants.{Refused, Silent, Taken, Unasked}
use Rattle.tt_status.specs.declared.lines.LogEvent.{LogEvent}
use Rattle.tt_status.specs.declared.lines.LogEvent.TheVariants.{ServerAnswers, ServerRefused, ServerSilent}
use Rattle.tt_ntp.specs.Fault.{number_of}

-- the pause between two requests: what was given, or else a millisecond on this host, and 64 seconds elsewhere
abbrev pub every_of : Option ℕ → Bool → ℕ
every_of (Some every) is_near = every
every_of None is_near = if is_near then 1000000 else 64000000000

-- what a server is asked by, on this host or on another
abbrev pub plan_of : NtpTime → Bool → Plan
plan_of time is_near = record {
  drift = time.drift;
  margin = time.margin;
  every = every_of time.every is_near;
  max_age = time.max_age;
  takes_local = time.local;
}

-- a failed receipt tells of an earlier packet, and the reply may still come; one that was refused tells that nobody listens there
abbrev pub is_passing_receipt : ErrorKind → Bool
is_passing_receipt ConnectionReset = true
is_passing_receipt HostUnreachable = true
is_passing_receipt NetworkUnreachable = true
is_passing_receipt NetworkDown = true
is_passing_receipt Interrupted = true
is_passing_receipt _ = false

-- the clock reading before which a server is not asked again: 100 ms after a silence on this host, and a second after a request that could not be sent
abbrev pub put_off_by : Exchange → Bool → ℕ → ℕ
put_off_by Silent is_near now = if is_near then sum_of now 100000000 else 0
put_off_by Unasked is_near now = sum_of now 1000000000
put_off_by _ is_near now = 0

-- how many requests in a row had no reply, at most 2^32 - 1
abbrev pub silences_after : Exchange → ℕ → ℕ
silences_after Silent silences = min (silences + 1) 4294967295
silences_after Unasked silences = silences
silences_after _ silences = 0

-- a request came to nothing
abbrev pub is_failure : Exchange → Bool
is_failure Taken = false
is_failure exchange = true

-- what is logged of a request to a server: why it came to nothing, each time; and the first reply after that that was accepted
abbrev pub exchange_event : Exchange → ℕ → Bool → Option LogEvent
exchange_event Taken server true = Some (ServerAnswers server)
exchange_event Taken server false = None
exchange_event (Refused fault) server had_failed = Some (ServerRefused server (number_of fault))
exchange_event Silent server had_failed = Some (ServerSilent server)
exchange_event Unasked server had_failed = Some (ServerRefused server 1829)
