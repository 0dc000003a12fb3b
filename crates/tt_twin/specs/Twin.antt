-- The twin of a reading and a side: a run in which the machine sees the same, and the true time lies at that end of the reading.
use Rattle.std.specs.Prelude.{ℕ, ◌+◌, ◌-◌, ◌==◌, ◌||◌, nat_lt, if◌then◌else◌, List, [], ◌∷◌, ◌++◌, map, length, reverse, take, slice_get, slice_index_or, Option, Some, None, Result, Ok, Err}
use Rattle.std.specs.List.{range_with_len}
use Rattle.tt_span.specs.Time.{max_time, cut}
use Rattle.tt_span.specs.Interval.{Interval, whole}
use Rattle.tt_span.specs.Drift.{widening}
use Rattle.tt_daemon.specs.Config.{Configuration}
use Rattle.tt_world.specs.declared.events.Event.{Event}
use Rattle.tt_world.specs.declared.events.Action.{Action}
use Rattle.tt_world.specs.declared.events.Action.TheVariants as does
use Rattle.tt_world.specs.declared.events.Reply.{Reply}
use Rattle.tt_world.specs.declared.events.Reply.TheVariants as replies
use Rattle.tt_world.specs.Config.{config_at, max_machines}
use Rattle.tt_world.specs.Bad.{accepted}
use Rattle.tt_world.specs.Reply.{reply_of}
use Rattle.tt_twin.specs.declared.twins.Side.{Side}
use Rattle.tt_twin.specs.declared.twins.Side.TheVariants.{Low, High}
use Rattle.tt_twin.specs.declared.twin_faults.TwinFault.{TwinFault}
use Rattle.tt_twin.specs.declared.twin_faults.TwinFault.TheVariants.{Machines, NotAReading, Cut}
use Rattle.tt_twin.specs.Looks.{Making, making_of, Look, looks_of, known_sources}

-- the end of an interval on this side
abbrev pub end_of : Side → Interval → ℕ
end_of Low span = span.lo
end_of High span = span.hi

-- the least or the greatest time that x may have become when the clock has gone on by d, not cut
abbrev pub end_after : Side → ℕ → ℕ → ℕ → ℕ
end_after Low ppm x d = x + d - widening ppm d
end_after High ppm x d = x + d + widening ppm d

-- machine m polls these sources, all at one true time and one clock reading
abbrev pub polls : ℕ → ℕ → ℕ → List ℕ → List Event
polls x m clock sources = map (λ i. record { at = x; action = does.Send m i clock }) sources

-- the first packets, which are requests, are answered with these spans, in their order
abbrev pub answers : ℕ → List Interval → List Event
answers x spans = map (λ j. record { at = x; action = does.Answer j (slice_index_or spans j whole) }) (range_with_len 0 (length spans))

-- the n packets that come after n requests are delivered
abbrev pub deliveries : ℕ → ℕ → ℕ → List Event
deliveries x clock n = map (λ j. record { at = x; action = does.Deliver (n + j) clock }) (range_with_len 0 n)

-- each known source states again what it is worth at the fusion, and machine m fuses that, all at the true time x
abbrev pub fused_again : ℕ → ℕ → ℕ → List ℕ → List Interval → List Event
fused_again x m clock sources spans =
    polls x m clock sources ++ answers x (map (λ i. slice_index_or spans i whole) sources) ++ deliveries x clock (length sources)
    ++ record { at = x; action = does.Fuse m clock } ∷ []

-- a look is taken again, at what the true time x of the fusion has become at most or at least
abbrev pub look_again : Side → ℕ → ℕ → ℕ → ℕ → Look → Event
look_again side ppm m clock x look = record { at = cut (end_after side ppm x (look.clock - clock)); action = does.Read m look.worker look.clock 1 }

-- the run that begins with a publication made so, with the true time at the end of its span, and goes on with these looks
abbrev pub twin_from : Side → List Configuration → ℕ → Making → List Look → List Event
twin_from side configs m making looks =
    let x = end_of side making.showing.span in
    let clock = making.showing.clock in
    fused_again x m clock (known_sources configs making.before m) making.showing.spans ++ map (look_again side (config_at configs m).drift m clock x) looks

-- the same, unless the end of a reading at this clock lies past the greatest time before it is cut
abbrev pub twin_unless_cut : Side → List Configuration → ℕ → ℕ → Option Making → List Look → Result (List Event) TwinFault
twin_unless_cut side configs m clock None looks = Err NotAReading
twin_unless_cut side configs m clock (Some making) looks =
    if nat_lt max_time (end_after side (config_at configs m).drift (end_of side making.showing.span) (clock - making.showing.clock)) then Err Cut
    else Ok (twin_from side configs m making looks)

-- the twin of an action that reads, the last of those that were not bad
abbrev pub twin_of_action : Side → List Configuration → List Event → Action → Result (List Event) TwinFault
twin_of_action side configs past (does.Read machine worker clock publication) =
    twin_unless_cut side configs machine clock (making_of configs past machine publication) (looks_of configs past machine publication)
twin_of_action side configs past _ = Err NotAReading

-- the twin of an action that was replied to so
abbrev pub twin_of_reply : Side → List Configuration → List Event → Action → Reply → Result (List Event) TwinFault
twin_of_reply side configs past action (replies.Read reading) = twin_of_action side configs past action
twin_of_reply side configs past action _ = Err NotAReading

-- the twin of an event after a list of events, bad ones among them, the newest first, if it is there
abbrev pub twin_of_event : Side → List Configuration → List Event → Option Event → Result (List Event) TwinFault
twin_of_event side configs past None = Err NotAReading
twin_of_event side configs past (Some event) = twin_of_reply side configs (accepted configs (event ∷ past)) event.action (reply_of configs past event)

-- the twin of event k of a list of events and this side
abbrev pub twin_of : List Configuration → List Event → ℕ → Side → Result (List Event) TwinFault
twin_of configs events k side =
    if length configs == 0 || nat_lt max_machines (length configs) then Err Machines
    else twin_of_event side configs (reverse (take k events)) (slice_get events k)
