-- One event of a machine is one step of its daemon.
use Rattle.std.proofs.Common.{◌||◌, ◌≡◌, ℕ, ◌-◌, ◌^◌, ◌<◌, ◌≤◌, Bool, true, false, cond, ltb, eqb, List, ◌∷◌, length, slice_get, Option, Some, None, Result, Ok, Err, refl, sym, ap, ◌∙◌, arith, lt-ltb, le-ltb, ne_eqb}
use Rattle.std.proofs.lemmas.Bool.{or_from}
use Rattle.std.proofs.lemmas.List.FromFn.{length-map-range_with_len}
use Rattle.tt_span.specs.Time.{max_time}
use Rattle.tt_span.specs.Interval.{Interval}
use Rattle.tt_source.specs.Table.{TableState, take_of, known_of}
use Rattle.tt_source.specs.declared.faults.SourceFault.{SourceFault}
use Rattle.tt_fuse.specs.Depth.{slow_fusion}
use Rattle.tt_daemon.specs.Config.{Configuration}
use Rattle.tt_daemon.specs.Daemon.{spans_of}
use Rattle.tt_daemon.specs.declared.faults.DaemonFault.TheVariants as daemon
use Rattle.tt_rounds.specs.Fusing.{fusion_found}
use Rattle.tt_world.specs.Life.{life_at}
use Rattle.tt_world.specs.Past.{sends_of, packets_of}
use Rattle.tt_world.specs.Packet.{machine_of_packet, source_of_packet, bytes_of}
use Rattle.tt_world.specs.Publications.{publication_from}
use Rattle.tt_world.specs.Private.Machine.{MachineState, machine_of, polled_clock_of, source_of}
use Rattle.tt_world.specs.Private.Step.{Turn, take_turn, publish_turn}
use Rattle.tt_world.specs.declared.events.Event.{Event}
use Rattle.tt_world.specs.declared.events.Action.TheVariants.{Send, Deliver, Fuse}
use Rattle.tt_world.specs.declared.packets.Packet.{Packet}
use Rattle.tt_world.proofs.Simulation.Waiting.{happens}
use Rattle.tt_world.proofs.Simulation.Polling.{poll_of-polled, with_table-polled}
use Rattle.tt_world.proofs.Simulation.Taking.{take_turn-take_of}
use Rattle.tt_world.proofs.Simulation.Publishing.{publish_turn-fusion_on}
use Rattle.tt_consistency.specs.Steps.{Kept, Polls, Takes, Fuses, kept_of, with_table, with_fusion, after_step}

-- a reading that is not back
not_back : (clock polled : ℕ) → polled ≤ clock → clock ≤ max_time → (ltb clock polled || ltb max_time clock) ≡ false
not_back clock polled after in_time = or_from _ _ (le-ltb clock polled after) (le-ltb max_time clock in_time)

pub kept-polls : (config : Configuration) (past : List Event) (at m s clock : ℕ)
    → s < config.sources → polled_clock_of past (life_at past m) ≤ clock → clock ≤ max_time → sends_of past (life_at past m) < 2 ^ 64 - 1
    → kept_of (machine_of config (happens at (Send m s clock) ∷ past) (life_at past m))
    ≡ after_step (kept_of (machine_of config past (life_at past m))) (Polls s clock)
kept-polls config past at m s clock there after in_time room =
    let machine = machine_of config past (life_at past m) in
    let count : length machine.daemon.table.sources ≡ config.sources = length-map-range_with_len (λ i. source_of past (life_at past m) i) 0 config.sources in
    let unused : eqb (sends_of past (life_at past m)) (2 ^ 64 - 1) ≡ false = ne_eqb _ _ (λ same. omega arith) in
    ap kept_of (sym (with_table-polled config past at m s clock there))
    ∙ ap (with_table (kept_of machine))
    (sym (poll_of-polled machine.daemon.table s clock (lt-ltb s _ (omega (arith, count))) (not_back clock (polled_clock_of past (life_at past m)) after in_time) unused))

taken : (machine : MachineState) (clock : ℕ) (made : Result TableState SourceFault) → kept_of (take_turn machine clock made).state ≡ with_table (kept_of machine) made
taken machine clock (Ok table) = refl
taken machine clock (Err fault) = refl

pub kept-takes : (config : Configuration) (past : List Event) (at k clock : ℕ) (p : Packet) → slice_get (packets_of past) k ≡ Some p
    → source_of_packet p < config.sources → polled_clock_of past (life_at past (machine_of_packet p)) ≤ clock → clock ≤ max_time
    → kept_of (machine_of config (happens at (Deliver k clock) ∷ past) (life_at past (machine_of_packet p)))
    ≡ after_step (kept_of (machine_of config past (life_at past (machine_of_packet p)))) (Takes (source_of_packet p) (bytes_of p) clock)
kept-takes config past at k clock p is there after in_time =
    let machine = machine_of config past (life_at past (machine_of_packet p)) in
    ap (λ (turn : Turn MachineState). kept_of turn.state)
    (sym (take_turn-take_of config past at k clock p is there (not_back clock (polled_clock_of past (life_at past (machine_of_packet p))) after in_time)))
    ∙ taken machine clock (take_of machine.daemon.table (source_of_packet p) clock (bytes_of p))

fused : (machine : MachineState) (clock : ℕ) (spans : List Interval) (few : Bool) (found : Option Interval)
    → kept_of (publish_turn machine clock (cond few (Err 701) (publication_from clock found))).state
    ≡ with_fusion (kept_of machine) (cond few (Err daemon.Unknown) (fusion_found clock spans machine.daemon.config.faulty found))
fused machine clock spans true found = refl
fused machine clock spans false None = refl
fused machine clock spans false (Some span) = refl

-- the fusion, by whether the reading is back
abbrev fused_by : MachineState → ℕ → Bool → Kept
fused_by machine clock back =
    with_fusion (kept_of machine) (cond back (Err daemon.ClockBack)
    (cond (ltb (known_of machine.daemon.table) (machine.daemon.config.sources - machine.daemon.config.faulty)) (Err daemon.Unknown)
    (fusion_found clock (spans_of machine.daemon clock) machine.daemon.config.faulty (slow_fusion (spans_of machine.daemon clock) machine.daemon.config.faulty))))

pub kept-fuses : (config : Configuration) (past : List Event) (at m clock : ℕ)
    → polled_clock_of past (life_at past m) ≤ clock → clock ≤ max_time
    → kept_of (machine_of config (happens at (Fuse m clock) ∷ past) (life_at past m))
    ≡ after_step (kept_of (machine_of config past (life_at past m))) (Fuses clock)
kept-fuses config past at m clock after in_time =
    let machine : MachineState = machine_of config past (life_at past m) in
    ap (λ (turn : Turn MachineState). kept_of turn.state) (sym (publish_turn-fusion_on config past at m clock))
    ∙ fused machine clock (spans_of machine.daemon clock) (ltb (known_of machine.daemon.table) (machine.daemon.config.sources - machine.daemon.config.faulty)) (slow_fusion (spans_of machine.daemon clock) machine.daemon.config.faulty)
    ∙ ap (fused_by machine clock) (sym (not_back clock (polled_clock_of past (life_at past m)) after in_time))
