-- What is kept after an event, and the breach that is seen.
use Rattle.std.proofs.Common.{◌≡◌, ℕ, ◌<◌, ◌≤◌, Bool, false, not, cond, nat_le, List, get_or, [], ◌++◌, length, take, map, replicate, slice_get, count_by, Option, Some, None, IfSome, inl, inr, refl, ap, ap₂, subst, ◌∙◌, sym, arith, ltb-true}
use Rattle.std.specs.Prelude.{All}
use Rattle.std.specs.List.{range_with_len}
use Rattle.std.specs.Option.{option_map, option_or}
use Rattle.std.proofs.lemmas.Bool.{cases_lt, and_parts, or_parts, not-false, ltb-false}
use Rattle.std.proofs.lemmas.List.{get_or-take, get_or_past, get_or-replicate, length-replicate, length-take}
use Rattle.std.proofs.lemmas.Option.{slice_get_past, slice_get_cases}
use Rattle.std.proofs.lemmas.List.FromFn.{fill_by_all}
use Rattle.tt_span.specs.Time.{max_time}
use Rattle.tt_daemon.specs.Config.{Configuration, no_configuration}
use Rattle.tt_world.specs.Config.{config_at}
use Rattle.tt_world.specs.declared.breaches.Breach.{Breach}
use Rattle.tt_world.specs.declared.breaches.Breach.TheVariants.{FalseStatements}
use Rattle.tt_world.specs.declared.events.Event.{Event}
use Rattle.tt_world.specs.declared.events.Action.{Action}
use Rattle.tt_world.specs.declared.events.Action.TheVariants.{Send, Deliver, Fuse, Read, Restart}
use Rattle.tt_world.specs.declared.events.Reply.{Reply}
use Rattle.tt_world.specs.declared.events.Reply.TheVariants as replies
use Rattle.tt_world.specs.declared.packets.Packet.{Packet}
use Rattle.tt_world.specs.Life.{life_at}
use Rattle.tt_world.specs.Packet.{machine_of_packet, source_of_packet}
use Rattle.tt_world.specs.Past.{packets_of, ClockReading, clock_reading, clock_of, moment_at, moments_of}
use Rattle.tt_world.specs.Bad.{has_machine, has_source, has_worker, can_be_delivered, goes_back, lacks_packet}
use Rattle.tt_world.specs.Reply.{reply_to}
use Rattle.tt_world.specs.Headline.{AreConfigurations}
use Rattle.tt_world.specs.Assumptions.{is_false_statement, false_count, drift_breach, falsity_breach}
use Rattle.tt_world.proofs.Histories.Judging.{IsGood, AreGood}
use Rattle.tt_world.proofs.Histories.Lasting.{HasItsSource, All-slice_get}
use Rattle.tt_world.proofs.Histories.Places.{count_by-map}
use Rattle.tt_audit.specs.declared.packets.Carried.{Carried}
use Rattle.tt_audit.specs.declared.packets.Tick.{Tick}
use Rattle.tt_audit.specs.Pace.{pace_of}
use Rattle.tt_audit.specs.Watch.{carried_of, tick_of, tick_for, paces_begun, drift_seen, lies_at, lie_at, pace_at, taken_in, falsity_seen, WatchState, nothing_watched, watch_after, breach_seen, KeepsWatch, IsTick, IsRoute, IsRestartable, IsFusable, IsWatchable}
use Rattle.tt_audit.proofs.Carrying.{carried-at, carried_of-more, length-carried_of}
use Rattle.tt_audit.proofs.Ticking.{reading_of_tick, clock_reading-tick, paces-begun, length-paces_begun, length-ticked, ticked-moments, drift-seen}
use Rattle.tt_audit.proofs.Lying.{after_action, IsTable, lies-more, table-more}

-- machines as they can be
pub record IsSetting (configs : List Configuration) : Type 0 where
  pub few : length configs ≤ 8
  pub valid : AreConfigurations configs

-- as many false statements are kept of a machine as it has
false-kept : (past : List Event) (m n : ℕ) (row : List Bool) → n ≤ length row → ((i : ℕ) → i < n → get_or row i false ≡ is_false_statement past (life_at past m) i)
    → count_by (λ lie. lie) (take n row) ≡ count_by (λ i. is_false_statement past (life_at past m) i) (range_with_len 0 n)
false-kept past m n row enough each =
    let long : length (take n row) ≡ n = omega (arith, length-take n row) in
    let made : take n row ≡ map (λ i. is_false_statement past (life_at past m) i) (range_with_len 0 n) =
    fill_by_all (λ i. is_false_statement past (life_at past m) i) (take n row) n false long (λ i h. get_or-take n row i false h ∙ each i h) in
    ap (λ (bs : List Bool). count_by (λ b. b) bs) made ∙ count_by-map (λ i. is_false_statement past (life_at past m) i) (range_with_len 0 n)

falsity-seen : (configs : List Configuration) (past : List Event) (lies : List (List Bool)) (action : Action) → IsSetting configs → IsFusable configs action
    → ((m : ℕ) → m < 8 → length (lies_at lies m) ≡ 16) → ((m i : ℕ) → m < 8 → i < 16 → lie_at lies m i ≡ is_false_statement past (life_at past m) i)
    → falsity_seen configs lies action ≡ falsity_breach configs past action
falsity-seen configs past lies (Fuse m clock) setting there long keeps =
    let config : Configuration = config_at configs m in
    let few : config.sources ≤ 16 = (setting.valid m there.0).not_too_many in
    let hm : m < 8 = omega (arith, there.0, there.1) in
    let n_is : count_by (λ lie. lie) (take config.sources (lies_at lies m)) ≡ false_count config past (life_at past m) =
    false-kept past m config.sources (lies_at lies m) (omega (arith, few, long m hm)) (λ i h. keeps m i hm (omega (arith, h, few))) in
    ap (λ (n : ℕ). cond (nat_le n config.faulty) None (Some (FalseStatements m))) n_is
falsity-seen configs past lies _ setting there long keeps = refl

-- nothing has happened
pub KeepsWatch-nothing : (configs : List Configuration) → KeepsWatch configs [] nothing_watched
KeepsWatch-nothing configs = record {
  carried = refl;
  machines = length-replicate {A = List Bool} 8 (replicate 16 false);
  sources = λ m h. ap (λ (row : List Bool). length row) (get_or-replicate 8 m (replicate 16 false) [] h) ∙ length-replicate {A = Bool} 16 false;
  lies = λ m i hm hi. ap (λ (row : List Bool). get_or row i false) (get_or-replicate 8 m (replicate 16 false) [] hm) ∙ get_or-replicate 16 i false false hi;
  clocks = refl;
  paces = λ m h. get_or-replicate 8 m _ _ h;
}

drift-small : (configs : List Configuration) → IsSetting configs → (m : ℕ) → m < 8 → (config_at configs m).drift ≤ 1000000
drift-small configs setting m h = elim (cases_lt m (length configs)) [
  | inl there ↦ omega (arith, (setting.valid m there).drift_in)
  | inr past ↦ let none : config_at configs m ≡ no_configuration = get_or_past configs m no_configuration past in omega (arith, ap (λ (c : Configuration). c.drift) none)
]

-- an event that is not bad, after events that are not bad
pub record IsNext (configs : List Configuration) (past : List Event) (at : ℕ) (action : Action) : Type 0 where
  pub setting : IsSetting configs
  pub good : AreGood configs past
  pub known : All (HasItsSource configs) (packets_of past)
  pub next : IsGood configs past (record { at = at; action = action })

module _ (configs : List Configuration) (past : List Event) (at : ℕ) (action : Action) (is : IsNext configs past at action) where
  -- a packet that was put has a machine and a source that are there
  routed : (p : ℕ) (packet : Packet) → slice_get (packets_of past) p ≡ Some packet → (machine_of_packet packet < length configs) × (source_of_packet packet < 16)
  routed p packet e =
      let named = and_parts _ _ (All-slice_get (HasItsSource configs) (packets_of past) p packet is.known e) in
      let there : machine_of_packet packet < length configs = ltb-true _ _ named.0 in
      let asked : source_of_packet packet < (config_at configs (machine_of_packet packet)).sources = ltb-true _ _ named.1 in
      (there, omega (arith, asked, (is.setting.valid (machine_of_packet packet) there).not_too_many))

  routed-8 : (p : ℕ) (packet : Packet) → slice_get (packets_of past) p ≡ Some packet → (machine_of_packet packet < 8) × (source_of_packet packet < 16)
  routed-8 p packet e = let r = routed p packet e in (omega (arith, r.0, is.setting.few), r.1)

  -- ---- the clock

  reading_is : clock_reading past action ≡ option_map (reading_of_tick (after_action past at action)) (tick_of (carried_of past) action)
  reading_is = clock_reading-tick past at action is.next.packet_there

  forward : goes_back (clock_of past) (option_map (reading_of_tick (after_action past at action)) (tick_of (carried_of past) action)) ≡ false
  forward = subst (λ (r : Option ClockReading). goes_back (clock_of past) r ≡ false) reading_is is.next.clock_on

  in_time : (o : Option Tick) → goes_back (clock_of past) (option_map (reading_of_tick (after_action past at action)) o) ≡ false → IfSome o (λ t. t.clock ≤ max_time)
  in_time None h = tt
  in_time (Some tick) h = ltb-false max_time tick.clock (or_parts _ _ h).1

  machine_there : (m : ℕ) → not (has_machine configs m) ≡ false → m < length configs
  machine_there m named = ltb-true m _ (not-false (has_machine configs m) named)

both-ticks : (configs : List Configuration) (o : Option Tick) → IfSome o (λ t. t.machine < length configs) → IfSome o (λ t. t.clock ≤ max_time) → IfSome o (IsTick configs)
both-ticks configs None m c = tt
both-ticks configs (Some tick) m c = record { machine = m; clock = c }

tick_delivered : (configs : List Configuration) (past : List Event) (p clock : ℕ) → ((packet : Packet) → slice_get (packets_of past) p ≡ Some packet → machine_of_packet packet < length configs)
    → (o : Option Packet) → slice_get (packets_of past) p ≡ o → lacks_packet (packets_of past) (Deliver p clock) ≡ false
    → IfSome (tick_for clock (slice_get (carried_of past) p)) (λ t. t.machine < length configs)
tick_delivered configs past p clock routes None e there = absurd (no_packet (slice_get (packets_of past) p) e there)
  where
    no_packet : (o : Option Packet) → o ≡ None → not (can_be_delivered o) ≡ false → ⊥
    no_packet None e h = absurd cc
    no_packet (Some packet) e h = absurd cc
tick_delivered configs past p clock routes (Some packet) e there =
    subst (λ (o : Option Carried). IfSome (tick_for clock o) (λ t. t.machine < length configs)) (sym (carried-at past p packet e)) (routes packet e)

tick_there : (configs : List Configuration) (past : List Event) (at : ℕ) (action : Action) → IsNext configs past at action
    → IfSome (tick_of (carried_of past) action) (λ t. t.machine < length configs)
tick_there configs past at (Send machine source clock) is = let parts = and_parts _ _ (not-false (has_source configs machine source) is.next.named) in ltb-true machine _ parts.0
tick_there configs past at (Deliver p clock) is =
    tick_delivered configs past p clock (λ packet e. (routed configs past at (Deliver p clock) is p packet e).0) (slice_get (packets_of past) p) refl is.next.packet_there
tick_there configs past at (Fuse machine clock) is = ltb-true machine _ (not-false (has_machine configs machine) is.next.named)
tick_there configs past at (Read machine worker clock publication) is = let parts = and_parts _ _ (not-false (has_worker configs machine worker) is.next.named) in ltb-true machine _ parts.0
tick_there configs past at (Restart machine clock) is = ltb-true machine _ (not-false (has_machine configs machine) is.next.named)
tick_there configs past at _ is = tt

-- ---- what is asked of an event

restartable : (configs : List Configuration) (past : List Event) (at : ℕ) (action : Action) → IsNext configs past at action → IsRestartable action
restartable configs past at (Restart machine clock) is =
    let there : machine < length configs = ltb-true machine _ (not-false (has_machine configs machine) is.next.named) in omega (arith, is.setting.few)
restartable configs past at _ is = tt

fusable : (configs : List Configuration) (past : List Event) (at : ℕ) (action : Action) → IsNext configs past at action → IsFusable configs action
fusable configs past at (Fuse machine clock) is = (ltb-true machine _ (not-false (has_machine configs machine) is.next.named), is.setting.few)
fusable configs past at _ is = tt

route_of : (configs : List Configuration) (past : List Event) (p : ℕ) → ((packet : Packet) → slice_get (packets_of past) p ≡ Some packet → (machine_of_packet packet < 8) × (source_of_packet packet < 16))
    → IfSome (slice_get (carried_of past) p) IsRoute
route_of configs past p routes = elim (slice_get_cases (packets_of past) p).1 [
  | inl there ↦ subst (λ (o : Option Carried). IfSome o IsRoute) (sym (carried-at past p there.0 there.2)) (routes there.0 there.2)
  | inr none ↦ subst (λ (o : Option Carried). IfSome o IsRoute) (sym (slice_get_past (carried_of past) p (omega (arith, length-carried_of past, none.0)))) tt
]

taken_there : (configs : List Configuration) (past : List Event) (at : ℕ) (action : Action) (reply : Reply) → IsNext configs past at action → IfSome (taken_in (carried_of past) action reply) IsRoute
taken_there configs past at (Deliver p clock) replies.Taken is = route_of configs past p (routed-8 configs past at (Deliver p clock) is p)
taken_there configs past at (Deliver p clock) _ is = tt
taken_there configs past at _ _ is = tt

-- what is asked of an event holds of the next one
pub IsWatchable-next : (configs : List Configuration) (past : List Event) (at : ℕ) (action : Action) (reply : Reply) (state : WatchState) → IsNext configs past at action → state.carried ≡ carried_of past
    → IsWatchable configs state (record { at = at; action = action }) reply
IsWatchable-next configs past at action reply state is carried_is = record {
  few = is.setting.few;
  time = is.next.in_time;
  tick = subst (λ (c : List Carried). IfSome (tick_of c action) (IsTick configs)) (sym carried_is)
      (both-ticks configs (tick_of (carried_of past) action) (tick_there configs past at action is) (in_time configs past at action is (tick_of (carried_of past) action) (forward configs past at action is)));
  taken = subst (λ (c : List Carried). IfSome (taken_in c action reply) IsRoute) (sym carried_is) (taken_there configs past at action reply is);
  restartable = restartable configs past at action is;
  fusable = fusable configs past at action is;
}

-- ---- what is kept

below-8 : (configs : List Configuration) → length configs ≤ 8 → (o : Option Tick) → IfSome o (λ t. t.machine < length configs) → IfSome o (λ t. t.machine < 8)
below-8 configs few None h = tt
below-8 configs few (Some tick) h = omega arith

is-restart : (action : Action) → IsRestartable action → (machine clock : ℕ) → action ≡ Restart machine clock → machine < 8
is-restart action here machine clock e = subst IsRestartable e here

module _ (configs : List Configuration) (past : List Event) (at : ℕ) (action : Action) (is : IsNext configs past at action) (state : WatchState) (keeps : KeepsWatch configs past state) where
  abbrev now : List Event
  now = after_action past at action

  ticks : Option Tick
  ticks = tick_of (carried_of past) action

  ticks_below : IfSome (tick_of (carried_of past) action) (λ t. t.machine < 8)
  ticks_below = below-8 configs is.setting.few (tick_of (carried_of past) action) (tick_there configs past at action is)

  table : IsTable state.lies
  table = record { machines = keeps.machines; sources = keeps.sources }

  begun : (m : ℕ) → m < 8 → pace_at (paces_begun state.paces action) m ≡ pace_of (config_at configs m).drift (moments_of past (life_at now m))
  begun = paces-begun configs past at state.paces action (is-restart action (restartable configs past at action is)) keeps.clocks keeps.paces

  begun_long : length (paces_begun state.paces action) ≡ 8
  begun_long = length-paces_begun state.paces action ∙ keeps.clocks

  -- what is kept is of one event more, where the packets are those that are defined
  kept : KeepsWatch configs now (watch_after configs (record { carried = carried_of past; lies = state.lies; paces = state.paces }) (record { at = at; action = action }) (reply_to configs past action))
  kept =
      let taken = taken_there configs past at action (reply_to configs past action) is in
      let new = table-more state.lies action (taken_in (carried_of past) action (reply_to configs past action)) (restartable configs past at action is) taken table in
      record {
        carried = carried_of-more past at action is.next.packet_there;
        machines = new.machines;
        sources = new.sources;
        lies = lies-more configs past at action state.lies table (routed-8 configs past at action is) is.next.packet_there (restartable configs past at action is) keeps.lies;
        clocks = length-ticked configs at (paces_begun state.paces action) (tick_of (carried_of past) action) ∙ begun_long;
        paces = λ m h.
            ticked-moments configs past now at (paces_begun state.paces action) begun_long begun (tick_of (carried_of past) action) ticks_below m h
            ∙ ap (λ (r : Option ClockReading). pace_of (config_at configs m).drift (moment_at (life_at now m) at r ++ moments_of past (life_at now m))) (sym (reading_is configs past at action is));
      }

  pub KeepsWatch-more : KeepsWatch configs now (watch_after configs state (record { at = at; action = action }) (reply_to configs past action))
  KeepsWatch-more =
      subst (λ (c : List Carried). KeepsWatch configs now (watch_after configs (record { carried = c; lies = state.lies; paces = state.paces }) (record { at = at; action = action }) (reply_to configs past action)))
      (sym keeps.carried) kept

  -- ---- the breach

  drift_is : drift_seen configs at (paces_begun state.paces action) (tick_of (carried_of past) action) ≡ drift_breach configs past at (clock_reading past action)
  drift_is =
      drift-seen configs past now at (paces_begun state.paces action) begun_long begun (tick_of (carried_of past) action) ticks_below (drift-small configs is.setting) is.good
      is.next.not_before is.next.in_time (forward configs past at action is)
      ∙ ap (drift_breach configs past at) (sym (reading_is configs past at action is))

  falsity_is : falsity_seen configs state.lies action ≡ falsity_breach configs past action
  falsity_is = falsity-seen configs past state.lies action is.setting (fusable configs past at action is) keeps.sources keeps.lies

  -- the breach that is seen is the breach that is defined
  pub breach-seen : breach_seen configs state (record { at = at; action = action })
      ≡ option_or (drift_breach configs past at (clock_reading past action)) (falsity_breach configs past action)
  breach-seen =
      ap (λ (c : List Carried). option_or (drift_seen configs at (paces_begun state.paces action) (tick_of c action)) (falsity_seen configs state.lies action)) keeps.carried
      ∙ ap₂ (λ (a b : Option Breach). option_or a b) drift_is falsity_is
