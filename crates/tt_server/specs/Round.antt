-- What a round of the daemon is, how many turns it has, and how long the pauses between rounds are.
use Rattle.std.specs.Prelude.{◌≡◌, ◌≤◌, ℕ, ◌*◌, ◌-◌, ◌/◌, ◌^◌, min, max, nat_eq, nat_lt, ◌&&◌, if◌then◌else◌, Bool, true, false, List, [], map, Contains}
use Rattle.tt_daemon.specs.Daemon.{DaemonState}
use Rattle.tt_daemon.specs.Publication.{Publication}
use Rattle.tt_publish.specs.Reading.{fused_span_of}
use Rattle.tt_rounds.specs.Course.{rounds_of}
use Rattle.tt_rounds.specs.Link.{Packet, Came}
use Rattle.tt_rounds.specs.Making.{Leads}
use Rattle.tt_rounds.specs.RoundLinks.{HandsUp}
use Rattle.tt_wire.specs.Wire.{Wiring}
use Rattle.tt_consistency.specs.Calls.{AreInTurn, Rise, RiseIn, RoundsCall, kept_after}
use Rattle.tt_consistency.specs.Coming.{AreHeard}
use Rattle.tt_consistency.specs.CourseSteps.{kept_in}
use Rattle.tt_consistency.specs.Steps.{Kept}
use Rattle.tt_telemetry.specs.declared.records.Totals.{Totals}

-- a daemon, and these publications as their readers see them
abbrev pub kept_with : DaemonState → List Publication → Kept
kept_with daemon items = record { daemon = daemon; published = map fused_span_of items }

-- one call of the daemon's rounds led from what was kept before it to what is kept after it, by readings of which none is below one before it; they lie between what the clock showed before it and what it shows after it
pub record MakesCall (before after : Kept) (shown shown' : ℕ) : Type 0 where
  pub call : RoundsCall
  pub leads : Leads (rounds_of call.rounds call.turns) call.given call.exchanges call.from call.to call.answer
  pub begins : kept_in (call.from []) ≡ before
  pub ends : kept_in (call.to call.exchanges) ≡ after
  pub rises : (low high : ℕ) × (shown ≤ low) × Rise low call.given.readings high × (high ≤ shown')

-- such a call, in which each packet that the link gave was handed up over this wire
pub record MakesHeardCall (wire : Wiring) (before after : Kept) (shown shown' : ℕ) : Type 0 where
  pub made : MakesCall before after shown shown'
  pub heard : (packet : Packet) → Contains made.call.given.gifts (Came packet) → HandsUp wire (Came packet)

-- calls came one after another and left this, no reading in them is below one before it, and each packet in them was handed up over this wire
abbrev pub CallsInTurn : Wiring → Kept → Kept → ℕ → ℕ → Type 0
CallsInTurn wire begun after shown shown' =
    (calls : List RoundsCall) × AreInTurn begun calls × (kept_after begun calls ≡ after) × RiseIn shown calls shown' × AreHeard wire calls

-- how many turns a round has: more than one for each source
abbrev pub turns_of : ℕ → ℕ
turns_of sources = min (4 * sources) (2 ^ 32 - 1)

-- how many of the workers serve the clients of the Unix socket: half of them, where there is one
abbrev pub side_workers_of : ℕ → Bool → ℕ
side_workers_of workers true = workers / 2
side_workers_of workers false = 0

-- nothing is published yet, in the first two seconds
abbrev pub waits_on : Totals → ℕ → ℕ → Bool
waits_on t began now = nat_eq t.published 0 && nat_lt (now - began) 2000000000

-- the pause before a failed socket is made anew: twice the last one, from a tenth of a second to five seconds
abbrev pub renewal_after : Bool → ℕ → ℕ
renewal_after true last = max (min (2 * last) 5000000000) 100000000
renewal_after false last = 0

-- how long the pause before the next round is
abbrev pub pause_of : ℕ → Bool → ℕ → ℕ
pause_of renewal waits poll = if nat_lt 0 renewal then renewal else (if waits then min poll 100000000 else poll)
