-- Whatever happens, what is kept of a machine is what the steps of its life make of a new daemon.
use Rattle.std.proofs.Common.{◌≡◌, ℕ, suc, ◌+◌, ◌-◌, ◌^◌, ◌<◌, ◌≤◌, Bool, true, false, cond, ltb, eqb, not, List, [], ◌∷◌, ◌++◌, length, slice_get, is_some, Option, Some, None, inl, inr, refl, sym, ap, subst, ◌∙◌, arith, eq-eqb, ne_eqb, ltb-true, ltb-false}
use Rattle.std.specs.Option.{option_map}
use Rattle.std.proofs.lemmas.Bool.{cases_eq, or_parts, and_parts, not-false, eqb-true}
use Rattle.tt_span.specs.Time.{max_time}
use Rattle.tt_daemon.specs.Config.{Configuration}
use Rattle.tt_world.specs.Config.{config_at}
use Rattle.tt_world.specs.Life.{Life, life_of, life_at, is_of, restarts}
use Rattle.tt_world.specs.Past.{sends_of, sends_now, packets_of, clock_of, is_send_of}
use Rattle.tt_world.specs.Packet.{machine_of_packet, source_of_packet, bytes_of}
use Rattle.tt_world.specs.Private.Machine.{MachineState, machine_of, polled_clock_of}
use Rattle.tt_world.specs.Private.Step.{Turn}
use Rattle.tt_world.specs.Bad.{has_source, can_be_delivered, goes_back, first_bad, accepted}
use Rattle.tt_world.specs.declared.faults.WorldFault.{WorldFault}
use Rattle.tt_world.specs.declared.events.Event.{Event}
use Rattle.tt_world.specs.declared.events.Action.{Action}
use Rattle.tt_world.specs.declared.events.Action.TheVariants.{Send, Answer, Forge, Deliver, Fuse, Read, Arrive, Stamp, Queue, Restart, Lease, Release}
use Rattle.tt_world.specs.declared.packets.Packet.{Packet}
use Rattle.tt_world.proofs.Histories.Judging.{IsGood, good_of}
use Rattle.tt_world.proofs.Histories.Lasting.{Lasts, Lasts-accepted, HasItsSource, All-slice_get}
use Rattle.tt_world.proofs.Simulation.Waiting.{happens}
use Rattle.tt_world.proofs.Simulation.Lives.{is_of-own}
use Rattle.tt_world.proofs.Simulation.Fresh.{machine_in-first}
use Rattle.tt_world.proofs.Simulation.Polling.{machine_of-send_other}
use Rattle.tt_world.proofs.Simulation.Taking.{machine_of-deliver_other}
use Rattle.tt_world.proofs.Simulation.Publishing.{machine_of-fuse_other}
use Rattle.tt_world.proofs.Simulation.Restarting.{restart_turn-machine_of, machine_of-restart_other}
use Rattle.tt_world.proofs.Simulation.Kept.{machine_of-answer, machine_of-forge, machine_of-read, machine_of-arrive, machine_of-stamp, machine_of-queue, machine_of-lease, machine_of-release}
use Rattle.tt_consistency.specs.Steps.{Kept, Step, Polls, Takes, Fuses, kept_of, kept_at, new_kept, after_step, after_steps, taken_in, step_in, steps_in}
use Rattle.tt_consistency.proofs.Stepping.{kept-polls, kept-takes, kept-fuses}

-- steps after others
pub after_steps-append : (kept : Kept) (steps more : List Step) → after_steps kept (steps ++ more) ≡ after_steps (after_steps kept more) steps
after_steps-append kept [] more = refl
after_steps-append kept (step ∷ steps) more = ap (λ (k : Kept). after_step k step) (after_steps-append kept steps more)

module _ (configs : List Configuration) (past : List Event) (lasts : Lasts configs past) (at : ℕ) where
  -- what is kept of machine j
  abbrev before : ℕ → Kept
  before j = kept_at configs past j

  -- what is kept of machine j after an action that is no restart
  abbrev then : Action → ℕ → Kept
  then action j = kept_of (machine_of (config_at configs j) (happens at action ∷ past) (life_at past j))

  -- the clock reading of an event that is not bad lies at the table's or after it
  after_table : (life : Life) (clock : ℕ) → goes_back (clock_of past) (Some (record { life = life; clock = clock })) ≡ false
      → (polled_clock_of past life ≤ clock) × (clock ≤ max_time)
  after_table life clock fresh =
      let parts = or_parts (ltb clock (clock_of past life)) (ltb max_time clock) fresh in
      let on : clock_of past life ≤ clock = ltb-false clock (clock_of past life) parts.0 in
      let rises = lasts.rises life in
      (omega arith, ltb-false max_time clock parts.1)

  one_if : (n j : ℕ) (step : Step) (kept : Kept) → n ≡ j → after_steps kept (step ∷ []) ≡ after_steps kept (cond (eqb n j) (step ∷ []) [])
  one_if n j step kept same = ap (λ (b : Bool). after_steps kept (cond b (step ∷ []) [])) (sym (eq-eqb n j same))

  none_if : (n j : ℕ) (step : Step) (kept : Kept) → (n ≡ j → ⊥) → kept ≡ after_steps kept (cond (eqb n j) (step ∷ []) [])
  none_if n j step kept other = ap (λ (b : Bool). after_steps kept (cond b (step ∷ []) [])) (sym (ne_eqb n j other))

  stepped-send : (n s clock : ℕ) → IsGood configs past (happens at (Send n s clock)) → (m : ℕ) → (n ≡ m → sends_now past m < 2 ^ 64 - 1)
      → then (Send n s clock) m ≡ after_steps (before m) (step_in past m (Send n s clock))
  stepped-send n s clock good m room = elim (cases_eq n m) [
    | inl same ↦
        let named = and_parts _ _ (not-false (has_source configs n s) good.named) in
        let reads = after_table (life_at past n) clock good.clock_on in
        let left : sends_now past n < 2 ^ 64 - 1 = subst (λ (j : ℕ). sends_now past j < 2 ^ 64 - 1) (sym same) (room same) in
        subst (λ (j : ℕ). then (Send n s clock) j ≡ after_steps (before j) (step_in past j (Send n s clock))) same
        (kept-polls (config_at configs n) past at n s clock (ltb-true s _ named.1) reads.0 reads.1 left ∙ one_if n n (Polls s clock) (before n) refl)
    | inr other ↦ ap kept_of (sym (machine_of-send_other (config_at configs m) past at n s clock m (λ same. other (sym same)))) ∙ none_if n m (Polls s clock) (before m) other
  ]

  stepped-fuse : (n clock : ℕ) → IsGood configs past (happens at (Fuse n clock)) → (m : ℕ) → then (Fuse n clock) m ≡ after_steps (before m) (step_in past m (Fuse n clock))
  stepped-fuse n clock good m = elim (cases_eq n m) [
    | inl same ↦
        let reads = after_table (life_at past n) clock good.clock_on in
        subst (λ (j : ℕ). then (Fuse n clock) j ≡ after_steps (before j) (step_in past j (Fuse n clock))) same
        (kept-fuses (config_at configs n) past at n clock reads.0 reads.1 ∙ one_if n n (Fuses clock) (before n) refl)
    | inr other ↦ ap kept_of (sym (machine_of-fuse_other (config_at configs m) past at n clock m (λ same. other (sym same)))) ∙ none_if n m (Fuses clock) (before m) other
  ]

  stepped-packet : (k clock : ℕ) (p : Packet) → slice_get (packets_of past) k ≡ Some p
      → goes_back (clock_of past) (Some (record { life = life_at past (machine_of_packet p); clock = clock })) ≡ false
      → (m : ℕ) → then (Deliver k clock) m ≡ after_steps (before m) (taken_in m clock (Some p))
  stepped-packet k clock p is fresh m =
      let n = machine_of_packet p in
      let step : Step = Takes (source_of_packet p) (bytes_of p) clock in
      elim (cases_eq n m) [
        | inl same ↦
            let named = and_parts _ _ (All-slice_get (HasItsSource configs) (packets_of past) k p lasts.known is) in
            let reads = after_table (life_at past n) clock fresh in
            subst (λ (j : ℕ). then (Deliver k clock) j ≡ after_steps (before j) (taken_in j clock (Some p))) same
            (kept-takes (config_at configs n) past at k clock p is (ltb-true (source_of_packet p) _ named.1) reads.0 reads.1 ∙ one_if n n step (before n) refl)
        | inr other ↦ ap kept_of (sym (machine_of-deliver_other (config_at configs m) past at k clock p is m (λ same. other (sym same)))) ∙ none_if n m step (before m) other
      ]

  stepped-deliver : (k clock : ℕ) (o : Option Packet) → slice_get (packets_of past) k ≡ o → not (can_be_delivered o) ≡ false
      → goes_back (clock_of past) (option_map (λ p. record { life = life_at past (machine_of_packet p); clock = clock }) o) ≡ false
      → (m : ℕ) → then (Deliver k clock) m ≡ after_steps (before m) (taken_in m clock o)
  stepped-deliver k clock None is there fresh m = absurd cc
  stepped-deliver k clock (Some p) is there fresh m = stepped-packet k clock p is fresh m

  -- an action in which no life of the machine begins makes its steps
  pub stepped : (action : Action) → IsGood configs past (happens at action) → (m : ℕ) → restarts m action ≡ false
      → sends_of (happens at action ∷ past) (life_at past m) < 2 ^ 64
      → kept_at configs (happens at action ∷ past) m ≡ after_steps (before m) (step_in past m action)
  stepped (Send n s clock) good m stays room = stepped-send n s clock good m (λ same. by_room same)
    where
      by_room : n ≡ m → sends_now past m < 2 ^ 64 - 1
      by_room same =
          let own : is_of past (life_at past m) n ≡ true = subst (λ (j : ℕ). is_of past (life_at past j) n ≡ true) same (is_of-own past n) in
          let more : sends_of past (life_at past m) + 1 < 2 ^ 64 = subst (λ (b : Bool). cond b (sends_of past (life_at past m) + 1) (sends_of past (life_at past m)) < 2 ^ 64) own room in
          omega arith
  stepped (Answer k span) good m stays room = ap kept_of (machine_of-answer (config_at configs m) past at k span (life_at past m))
  stepped (Forge n s payload) good m stays room = ap kept_of (machine_of-forge (config_at configs m) past at n s payload (life_at past m))
  stepped (Deliver k clock) good m stays room = stepped-deliver k clock (slice_get (packets_of past) k) refl good.packet_there good.clock_on m
  stepped (Fuse n clock) good m stays room = stepped-fuse n clock good m
  stepped (Read n w clock k) good m stays room = ap kept_of (machine_of-read (config_at configs m) past at n w clock k (life_at past m))
  stepped (Arrive n w id floor) good m stays room = ap kept_of (machine_of-arrive (config_at configs m) past at n w id floor (life_at past m))
  stepped (Stamp n w) good m stays room = ap kept_of (machine_of-stamp (config_at configs m) past at n w (life_at past m))
  stepped (Queue n w) good m stays room = ap kept_of (machine_of-queue (config_at configs m) past at n w (life_at past m))
  stepped (Restart n clock) good m stays room = ap kept_of (sym (machine_of-restart_other (config_at configs m) past at n clock m (λ same. absurd (differ (sym same)))))
    where
      differ : n ≡ m → ⊥
      differ same = let is = eq-eqb n m same in absurd cc
  stepped (Lease n lease) good m stays room = ap kept_of (machine_of-lease (config_at configs m) past at n lease (life_at past m))
  stepped (Release n w) good m stays room = ap kept_of (machine_of-release (config_at configs m) past at n w (life_at past m))

-- a machine that restarts is a new daemon
pub restarted : (configs : List Configuration) (past : List Event) (at : ℕ) (action : Action) (m : ℕ) → restarts m action ≡ true
    → kept_at configs (happens at action ∷ past) m ≡ new_kept (config_at configs m) m (life_of (happens at action ∷ past) m)
restarted configs past at (Restart n clock) m is =
    let same : n ≡ m = eqb-true n m is in
    subst (λ (j : ℕ). kept_at configs (happens at (Restart n clock) ∷ past) j ≡ new_kept (config_at configs j) j (life_of (happens at (Restart n clock) ∷ past) j)) same
    (ap (λ (turn : Turn MachineState). kept_of turn.state) (sym (restart_turn-machine_of (config_at configs n) past at n clock))
    ∙ ap (λ (b : Bool). new_kept (config_at configs n) n (cond b (life_of past n + 1) (life_of past n))) (sym (eq-eqb n n refl)))
restarted configs past at _ m is = absurd cc

module _ (configs : List Configuration) (m : ℕ) where
  -- what is kept is what the steps of the life make of a new daemon
  abbrev IsMade : List Event → Type 0
  IsMade past = kept_at configs past m ≡ after_steps (new_kept (config_at configs m) m (life_of past m)) (steps_in past m)

  sends_on : (b : Bool) (sends : ℕ) → cond b (sends + 1) sends < 2 ^ 64 → sends < 2 ^ 64
  sends_on true sends h = omega arith
  sends_on false sends h = h

  made-event : (past : List Event) (at : ℕ) (action : Action) → first_bad configs past (happens at action) ≡ None → Lasts configs past
      → (sends_now past m < 2 ^ 64 → IsMade past) → (b : Bool) → restarts m action ≡ b → sends_now (happens at action ∷ past) m < 2 ^ 64
      → IsMade (happens at action ∷ past)
  made-event past at action good lasts before true is room =
      restarted configs past at action m is
      ∙ ap (λ (b : Bool). after_steps (new_kept (config_at configs m) m (life_of (happens at action ∷ past) m)) (cond b [] (step_in past m action ++ steps_in past m))) (sym is)
  made-event past at action good lasts before false is room =
      let number : life_of (happens at action ∷ past) m ≡ life_of past m = ap (λ (b : Bool). cond b (life_of past m + 1) (life_of past m)) is in
      let left : sends_of (happens at action ∷ past) (life_at past m) < 2 ^ 64 =
      subst (λ (n : ℕ). sends_of (happens at action ∷ past) (record { machine = m; number = n }) < 2 ^ 64) number room in
      stepped configs past lasts at action (good_of configs past (happens at action) good) m is left
      ∙ ap (λ (k : Kept). after_steps k (step_in past m action)) (before (sends_on (is_send_of past (life_at past m) action) (sends_of past (life_at past m)) left))
      ∙ sym (after_steps-append (new_kept (config_at configs m) m (life_of past m)) (step_in past m action) (steps_in past m))
      ∙ ap (λ (n : ℕ). after_steps (new_kept (config_at configs m) m n) (step_in past m action ++ steps_in past m)) (sym number)
      ∙ ap (λ (b : Bool). after_steps (new_kept (config_at configs m) m (life_of (happens at action ∷ past) m)) (cond b [] (step_in past m action ++ steps_in past m))) (sym is)

  made-unless_bad : (past : List Event) (event : Event) (o : Option WorldFault) → first_bad configs past event ≡ o → Lasts configs past
      → (sends_now past m < 2 ^ 64 → IsMade past) → sends_now (cond (is_some o) past (event ∷ past)) m < 2 ^ 64 → IsMade (cond (is_some o) past (event ∷ past))
  made-unless_bad past event None is lasts before room = made-event past event.at event.action is lasts before (restarts m event.action) refl room
  made-unless_bad past event (Some fault) is lasts before room = before room

  made-accepted : (events : List Event) → sends_now (accepted configs events) m < 2 ^ 64 → IsMade (accepted configs events)
  made-accepted [] room = ap kept_of (sym (machine_in-first (config_at configs m) m))
  made-accepted (event ∷ events) room =
      made-unless_bad (accepted configs events) event (first_bad configs (accepted configs events) event) refl (Lasts-accepted configs events) (made-accepted events) room

pub made_by-steps : (configs : List Configuration) (events : List Event) (m : ℕ) → sends_now (accepted configs events) m < 2 ^ 64
    → kept_at configs (accepted configs events) m
    ≡ after_steps (new_kept (config_at configs m) m (life_of (accepted configs events) m)) (steps_in (accepted configs events) m)
made_by-steps configs events m room = made-accepted configs m events room

-- ---- events after others

length-unless : (b : Bool) (event : Event) (past : List Event) (n : ℕ) → length past ≤ n → length (cond b past (event ∷ past)) ≤ n + 1
length-unless true event past n h = omega arith
length-unless false event past n h = omega arith

accepted-le : (configs : List Configuration) (events : List Event) → length (accepted configs events) ≤ length events
accepted-le configs [] = omega arith
accepted-le configs (event ∷ events) =
    let more = length-unless (is_some (first_bad configs (accepted configs events) event)) event (accepted configs events) (length events) (accepted-le configs events) in
    omega arith

-- where no event is bad, none of those before is
all_but_last : (configs : List Configuration) (event : Event) (events : List Event) (b : Bool) → cond b (accepted configs events) (event ∷ accepted configs events) ≡ event ∷ events
    → accepted configs events ≡ events
all_but_last configs event events true same =
    let count : length (accepted configs events) ≡ suc (length events) = ap length same in
    let fewer = accepted-le configs events in
    absurd (omega arith)
all_but_last configs event events false same = cc

pub accepted-before : (configs : List Configuration) (base events : List Event) → accepted configs (events ++ base) ≡ events ++ base → accepted configs base ≡ base
accepted-before configs base [] same = same
accepted-before configs base (event ∷ events) same =
    accepted-before configs base events
    (all_but_last configs event (events ++ base) (is_some (first_bad configs (accepted configs (events ++ base)) event)) same)

sends_more : (b : Bool) (sends : ℕ) → sends ≤ cond b (sends + 1) sends
sends_more true sends = omega arith
sends_more false sends = omega arith

pub sends_of-le : (base events : List Event) (life : Life) → sends_of base life ≤ sends_of (events ++ base) life
sends_of-le base [] life = omega arith
sends_of-le base (event ∷ events) life =
    let more = sends_more (is_send_of (events ++ base) life event.action) (sends_of (events ++ base) life) in
    let rest = sends_of-le base events life in
    omega arith

pub goes_on_by-steps : (configs : List Configuration) (base events : List Event) (m : ℕ) (steps : List Step)
    → accepted configs (events ++ base) ≡ events ++ base → life_of (events ++ base) m ≡ life_of base m
    → steps_in (events ++ base) m ≡ steps ++ steps_in base m → sends_now (events ++ base) m < 2 ^ 64
    → kept_at configs (events ++ base) m ≡ after_steps (kept_at configs base m) steps
goes_on_by-steps configs base events m steps good stays are room =
    let config = config_at configs m in
    let all : kept_at configs (events ++ base) m ≡ after_steps (new_kept config m (life_of (events ++ base) m)) (steps_in (events ++ base) m) =
    subst (λ (past : List Event). sends_now past m < 2 ^ 64 → kept_at configs past m ≡ after_steps (new_kept config m (life_of past m)) (steps_in past m)) good
    (made_by-steps configs (events ++ base) m) room in
    let left : sends_of (events ++ base) (life_at base m) < 2 ^ 64 = subst (λ (n : ℕ). sends_of (events ++ base) (record { machine = m; number = n }) < 2 ^ 64) stays room in
    let fewer : sends_now base m < 2 ^ 64 = omega (arith, sends_of-le base events (life_at base m)) in
    let first : kept_at configs base m ≡ after_steps (new_kept config m (life_of base m)) (steps_in base m) =
    subst (λ (past : List Event). sends_now past m < 2 ^ 64 → kept_at configs past m ≡ after_steps (new_kept config m (life_of past m)) (steps_in past m)) (accepted-before configs base events good)
    (made_by-steps configs base m) fewer in
    all
    ∙ ap (λ (n : ℕ). after_steps (new_kept config m n) (steps_in (events ++ base) m)) stays
    ∙ ap (after_steps (new_kept config m (life_of base m))) are
    ∙ after_steps-append (new_kept config m (life_of base m)) steps (steps_in base m)
    ∙ ap (λ (k : Kept). after_steps k steps) (sym first)
