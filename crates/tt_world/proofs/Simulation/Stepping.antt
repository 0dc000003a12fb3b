-- What one event makes of what a run has left, kind by kind.
use Rattle.std.proofs.Common.{◌||◌, ◌≡◌, ℕ, ◌+◌, ◌-◌, ◌^◌, ◌<◌, ◌≤◌, Bool, true, false, cond, eqb, ltb, ◌&&◌, not, List, [], ◌∷◌, ◌++◌, length, get_or, set, is_some, slice_get, Option, Some, None, Result, Ok, Err, inl, inr, refl, sym, ap, ap₂, ◌∙◌, arith, append-nil, lt-ltb, le-ltb, ltb-true, ltb-false, ne_eqb}
use Rattle.std.specs.Option.{option_map}
use Rattle.std.proofs.lemmas.Bool.{cases_lt, or_parts, or_from, not-false, and_parts, eqb-false}
use Rattle.std.proofs.lemmas.List.FromFn.{length-map-range_with_len}
use Rattle.std.proofs.lemmas.Option.{slice_get-get_or}
use Rattle.tt_span.specs.Time.{max_time}
use Rattle.tt_span.specs.Interval.{Interval}
use Rattle.tt_source.specs.Table.{poll_of}
use Rattle.tt_stamp.specs.declared.commits.Id.{Id}
use Rattle.tt_world.specs.Life.{life_of, life_at, next_life}
use Rattle.tt_world.specs.declared.faults.WorldFault.{WorldFault}
use Rattle.tt_world.specs.declared.faults.WorldFault.TheVariants as bad
use Rattle.tt_world.specs.declared.events.Event.{Event}
use Rattle.tt_world.specs.declared.events.Action.{Action}
use Rattle.tt_world.specs.declared.events.Action.TheVariants.{Send, Answer, Forge, Deliver, Fuse, Read, Arrive, Stamp, Queue, Restart, Lease, Release}
use Rattle.tt_world.specs.declared.events.Reply.{Reply}
use Rattle.tt_world.specs.declared.events.Reply.TheVariants as replies
use Rattle.tt_world.specs.declared.packets.Packet.{Packet}
use Rattle.tt_world.specs.declared.packets.Packet.TheVariants.{Asked, Answered, Forged}
use Rattle.tt_publish.specs.declared.readings.FusedSpan.{FusedSpan}
use Rattle.tt_world.specs.declared.workers.Arrival.{Arrival}
use Rattle.tt_world.specs.declared.workers.Task.{Task}
use Rattle.tt_world.specs.declared.workers.Worker.{Worker}
use Rattle.tt_daemon.specs.Config.{Configuration}
use Rattle.tt_daemon.specs.Daemon.{spans_of}
use Rattle.tt_world.specs.declared.machine_actions.MachineAction.{MachineAction}
use Rattle.tt_world.specs.declared.machine_actions.MachineAction.TheVariants as machine_actions
use Rattle.tt_world.specs.declared.machine_actions.WorkerAction.{WorkerAction}
use Rattle.tt_world.specs.declared.machine_actions.WorkerAction.TheVariants as worker_actions
use Rattle.tt_world.specs.Config.{config_at}
use Rattle.tt_world.specs.Packet.{machine_of_packet, source_of_packet, is_asked, answer_to}
use Rattle.tt_world.specs.Past.{sends_now, sends_of, put_by, packets_of, clock_reading, clock_of}
use Rattle.tt_world.specs.Publications.{Showing, publications_of, showing_of, shown_by, shown_of, seen_of, no_publication}
use Rattle.tt_world.specs.Commits.{arrival_of, reading_of, reading_since, stamp_held, is_queued, task_with, task_of}
use Rattle.tt_world.specs.Bad.{has_machine, names_unknown, is_request, can_be_delivered, lacks_packet, goes_back, is_unreadable, lacks_publication, is_arrived, is_stamped, lacks_its_thing, uses_up_lives}
use Rattle.tt_world.specs.Reply.{reply_to_packet, reply_to}
use Rattle.tt_world.specs.State.{WorldState, state_of}
use Rattle.tt_world.specs.Private.Machine.{MachineState, source_of, worker_of, machine_of, polled_clock_of}
use Rattle.tt_world.specs.Private.Step.{Turn, Judged, HasRoom, after_turn, after_poll, send_on, after_put, answer_on, forge_on, deliver_to, deliver_on, fuse_on, publish_turn, fusion_on, with_shown, new_worker, read_from, restart_turn, stamp_with, queue_with, release_with, turn_outcome, worker_outcome, machine_outcome, on_machine, action_outcome}
use Rattle.tt_world.proofs.Simulation.Ranges.{get_or-made, slice_get-made, slice_get-made_past, set-made, map-same}
use Rattle.tt_world.proofs.Simulation.Waiting.{happens}
use Rattle.tt_world.proofs.Simulation.Kept.{machine_of-answer, machine_of-forge}
use Rattle.tt_world.proofs.Simulation.Polling.{poll_of-polled, with_table-polled, machine_of-send_other}
use Rattle.tt_world.proofs.Simulation.Taking.{take_turn-take_of, machine_of-deliver_other}
use Rattle.tt_world.proofs.Simulation.Publishing.{spans_of_daemon-machine_of, fusion_on-machine_of, publish_turn-fusion_on, machine_of-fuse_other}
use Rattle.tt_world.proofs.Simulation.Seeing.{read_turn-machine_of, machine_of-read_other}
use Rattle.tt_world.proofs.Simulation.Leasing.{lease_turn-machine_of, machine_of-lease_other}
use Rattle.tt_world.proofs.Simulation.Unborn.{clock_of-unborn}
use Rattle.tt_world.proofs.Simulation.Restarting.{restart_turn-machine_of, machine_of-restart_other}
use Rattle.tt_world.proofs.Simulation.Asking.{arrive_turn-machine_of, machine_of-arrive_other}
use Rattle.tt_world.proofs.Simulation.Stamping.{stamp_turn-machine_of, machine_of-stamp_other}
use Rattle.tt_world.proofs.Simulation.Queueing.{queue_turn-machine_of, machine_of-queue_other, release_turn-machine_of, machine_of-release_other}
use Rattle.tt_world.proofs.Histories.Lasting.{sends_of-le-packets, HasItsSource, All-slice_get, Lasts}

-- a turn, unless there is a reason against it
abbrev pub turn_unless : {S : Type 0} → Option WorldFault → Turn S → Judged S
turn_unless None turn = Ok turn
turn_unless (Some fault) turn = Err fault

-- one test more: it is refused, or the rest decides
pub turn_if : {S : Type 0} (t : Bool) (fault : WorldFault) (made : Judged S) (o : Option WorldFault) (turn : Turn S)
    → (t ≡ false → made ≡ turn_unless o turn) → cond t (Err fault) made ≡ turn_unless (cond t (Some fault) o) turn
turn_if true fault made o turn rest = refl
turn_if false fault made o turn rest = rest refl

-- a worker is there, or it is refused
turn_where : {S : Type 0} (t : Bool) (made : Judged S) (o : Option WorldFault) (turn : Turn S)
    → (t ≡ true → made ≡ turn_unless o turn) → cond t made (Err bad.UnknownNumber) ≡ turn_unless (cond (not t) (Some bad.UnknownNumber) o) turn
turn_where true made o turn rest = rest refl
turn_where false made o turn rest = refl

not-not : (b : Bool) → not (not b) ≡ b
not-not true = refl
not-not false = refl

-- a clock reading that a machine does not refuse, its table does not refuse
in_time_for_table : (c clock polled : ℕ) → polled ≤ clock → (ltb c clock || ltb max_time c) ≡ false → (ltb c polled || ltb max_time c) ≡ false
in_time_for_table c clock polled rises fresh =
    let parts = or_parts (ltb c clock) (ltb max_time c) fresh in
    let after : clock ≤ c = ltb-false c clock parts.0 in
    or_from _ _ (le-ltb c polled (omega arith)) parts.1

module _ (configs : List Configuration) (past : List Event) where
  -- what is kept of machine m after the run
  abbrev machine_at : ℕ → MachineState
  machine_at m = machine_of (config_at configs m) past (life_at past m)

  -- what is kept of machine m after one more action
  abbrev machine_then : ℕ → Action → ℕ → MachineState
  machine_then at action m = machine_of (config_at configs m) (happens at action ∷ past) (life_at (happens at action ∷ past) m)

  -- a machine that is there is found, and no other
  at_machine : (m : ℕ) (f : Option MachineState → Judged WorldState) (g : Bool → Judged WorldState)
      → (m < length configs → f (Some (machine_at m)) ≡ g true) → f None ≡ g false → f (slice_get (state_of configs past).machines m) ≡ g (has_machine configs m)
  at_machine m f g found lost = elim (cases_lt m (length configs)) [
    | inl there ↦ ap f (slice_get-made machine_at (length configs) m there) ∙ found there ∙ ap g (sym (lt-ltb m (length configs) there))
    | inr beyond ↦ ap f (slice_get-made_past machine_at (length configs) m beyond) ∙ lost ∙ ap g (sym (le-ltb m (length configs) beyond))
  ]

  -- what a run leaves in which this is put, these machines are left, and these publications are shown, and the reply
  abbrev made_of : ℕ → List Packet → List MachineState → List Showing → Reply → Turn WorldState
  made_of at packets machines shown reply = record { state = record { time = at; packets = packets; machines = machines; shown = shown }; reply = reply }

  -- an action that shows nothing
  same_shown : (action : Action) → shown_by configs past action ≡ [] → shown_of configs past ≡ shown_of configs past ++ shown_by configs past action
  same_shown action none = sym (ap (λ (more : List Showing). shown_of configs past ++ more) none ∙ append-nil (shown_of configs past))

  -- after a machine's turn and what is shown of it the run has one more event
  with_shown-state_of : (at m : ℕ) (action : Action) (turn : Turn MachineState) → turn.state ≡ machine_then at action m
      → ((j : ℕ) → (j ≡ m → ⊥) → machine_at j ≡ machine_then at action j)
      → with_shown (after_turn (state_of configs past) at m turn (put_by (life_of past) (sends_now past) (packets_of past) action)) (shown_by configs past action)
      ≡ record { state = state_of configs (happens at action ∷ past); reply = turn.reply }
  with_shown-state_of at m action turn here others =
      ap (λ (machines : List MachineState). made_of at (packets_of past ++ put_by (life_of past) (sends_now past) (packets_of past) action) machines (shown_of configs past ++ shown_by configs past action) turn.reply)
      (set-made machine_at (machine_then at action) (length configs) m turn.state here others)

  -- after a machine's turn that shows nothing the run has one more event
  after_turn-state_of : (at m : ℕ) (action : Action) (turn : Turn MachineState) → turn.state ≡ machine_then at action m
      → ((j : ℕ) → (j ≡ m → ⊥) → machine_at j ≡ machine_then at action j) → shown_by configs past action ≡ []
      → after_turn (state_of configs past) at m turn (put_by (life_of past) (sends_now past) (packets_of past) action) ≡ record { state = state_of configs (happens at action ∷ past); reply = turn.reply }
  after_turn-state_of at m action turn here others none =
      ap (λ (shown : List Showing). made_of at (packets_of past ++ put_by (life_of past) (sends_now past) (packets_of past) action) (set (state_of configs past).machines m turn.state) shown turn.reply)
      (same_shown action none)
      ∙ with_shown-state_of at m action turn here others

  -- after packets were put the run has one more event
  after_put-state_of : (at : ℕ) (action : Action) → ((j : ℕ) → machine_then at action j ≡ machine_at j) → shown_by configs past action ≡ []
      → after_put (state_of configs past) at (put_by (life_of past) (sends_now past) (packets_of past) action)
      ≡ record { state = state_of configs (happens at action ∷ past); reply = replies.Put (length (packets_of past)) }
  after_put-state_of at action same none =
      ap₂ (λ (machines : List MachineState) (shown : List Showing). made_of at (packets_of past ++ put_by (life_of past) (sends_now past) (packets_of past) action) machines shown (replies.Put (length (packets_of past))))
      (sym (map-same (machine_then at action) machine_at (length configs) same)) (same_shown action none)

  -- what an action makes, by the reason why it is bad
  abbrev pub as_judged : ℕ → Action → Option WorldFault → Judged WorldState
  as_judged at action o = turn_unless o (record { state = state_of configs (happens at action ∷ past); reply = reply_to configs past action })

  -- the first reason why an action is bad, apart from its true time
  abbrev pub bad_action : Action → Option WorldFault
  bad_action action =
      cond (names_unknown configs action) (Some bad.UnknownNumber)
      (cond (lacks_packet (packets_of past) action) (Some bad.NoPacket)
      (cond (goes_back (clock_of past) (clock_reading past action)) (Some bad.ClockBack)
      (cond (lacks_publication configs past action) (Some bad.NoPublication)
      (cond (lacks_its_thing configs past action) (Some bad.NothingThere)
      (cond (uses_up_lives past action) (Some bad.LivesUsedUp) None)))))

  -- ---- a source answers, or makes up bytes

  answer_on-answer_to : (at : ℕ) (span : Interval) (o : Option Packet) (made : Turn WorldState) → after_put (state_of configs past) at (answer_to o span) ≡ made
      → answer_on (state_of configs past) at (answer_to o span) ≡ cond (not (is_request o)) (Err bad.NoPacket) (Ok made)
  answer_on-answer_to at span None made h = refl
  answer_on-answer_to at span (Some (Asked request)) made h = ap (λ (turn : Turn WorldState). Ok turn) h
  answer_on-answer_to at span (Some (Answered answer)) made h = refl
  answer_on-answer_to at span (Some (Forged machine source payload)) made h = refl

  acted-answer : (at k : ℕ) (span : Interval) → action_outcome (state_of configs past) at (Answer k span) ≡ as_judged at (Answer k span) (bad_action (Answer k span))
  acted-answer at k span =
      answer_on-answer_to at span (slice_get (packets_of past) k) _
      (after_put-state_of at (Answer k span) (λ j. machine_of-answer (config_at configs j) past at k span (life_at past j)) refl)
      ∙ turn_if (not (is_request (slice_get (packets_of past) k))) bad.NoPacket _ None _ (λ found. refl)

  acted-forge : (at m s : ℕ) (payload : List ℕ) → action_outcome (state_of configs past) at (Forge m s payload) ≡ as_judged at (Forge m s payload) (bad_action (Forge m s payload))
  acted-forge at m s payload =
      at_machine m (λ o. forge_on (state_of configs past) at m s payload o)
      (λ b. as_judged at (Forge m s payload) (cond (not (b && ltb s (config_at configs m).sources)) (Some bad.UnknownNumber) None))
      (λ there. turn_if (not (ltb s (config_at configs m).sources)) bad.UnknownNumber _ None _
      (λ named. ap (λ (turn : Turn WorldState). Ok turn) (after_put-state_of at (Forge m s payload) (λ j. machine_of-forge (config_at configs j) past at m s payload (life_at past j)) refl)))
      refl

  -- ---- a machine polls

  module _ (lasts : Lasts configs past) where
    after_poll-poll_of : length (packets_of past) < 2 ^ 64 - 1 → (at m s clock : ℕ) → s < (config_at configs m).sources → (ltb clock (clock_of past (life_at past m)) || ltb max_time clock) ≡ false
        → after_poll (state_of configs past) at m s clock (machine_at m) (poll_of (machine_at m).daemon.table s clock)
        ≡ record { state = state_of configs (happens at (Send m s clock) ∷ past); reply = replies.Sent (length (packets_of past)) }
    after_poll-poll_of few at m s clock there fresh =
        let config = config_at configs m in
        let count : length (machine_at m).daemon.table.sources ≡ config.sources = length-map-range_with_len (λ i. source_of past (life_at past m) i) 0 config.sources in
        let unused : eqb (sends_of past (life_at past m)) (2 ^ 64 - 1) ≡ false = ne_eqb _ _ (λ same. omega (arith, sends_of-le-packets past (life_at past m))) in
        ap (after_poll (state_of configs past) at m s clock (machine_at m))
        (poll_of-polled (machine_at m).daemon.table s clock (lt-ltb s _ (omega arith)) (in_time_for_table clock (clock_of past (life_at past m)) (polled_clock_of past (life_at past m)) (lasts.rises (life_at past m)) fresh) unused)
        ∙ after_turn-state_of at m (Send m s clock) _ (with_table-polled config past at m s clock there) (λ j other. machine_of-send_other (config_at configs j) past at m s clock j other) refl

    -- a poll passes every test
    good_send : (m s clock : ℕ) → m < length configs → not (ltb s (config_at configs m).sources) ≡ false → (ltb clock (clock_of past (life_at past m)) || ltb max_time clock) ≡ false → bad_action (Send m s clock) ≡ None
    good_send m s clock there named fresh = let t : ltb m (length configs) ≡ true = lt-ltb m (length configs) there in rw (t, named, fresh) refl

    acted-send : (at m s clock : ℕ) → (bad_action (Send m s clock) ≡ None → length (packets_of past) < 2 ^ 64 - 1) → action_outcome (state_of configs past) at (Send m s clock) ≡ as_judged at (Send m s clock) (bad_action (Send m s clock))
    acted-send at m s clock few =
        let back : Bool = ltb clock (clock_of past (life_at past m)) || ltb max_time clock in
        at_machine m (λ o. send_on (state_of configs past) at m s clock o)
        (λ b. as_judged at (Send m s clock) (cond (not (b && ltb s (config_at configs m).sources)) (Some bad.UnknownNumber) (cond back (Some bad.ClockBack) None)))
        (λ there. turn_if (not (ltb s (config_at configs m).sources)) bad.UnknownNumber _ (cond back (Some bad.ClockBack) None) _
        (λ named. turn_if back bad.ClockBack _ None _
        (λ fresh. ap (λ (turn : Turn WorldState). Ok turn) (after_poll-poll_of (few (good_send m s clock there named fresh)) at m s clock (ltb-true s _ (not-false _ named)) fresh))))
        refl

    -- ---- a packet reaches its machine

    deliver_to-machine_at : (at k clock : ℕ) (p : Packet) → slice_get (packets_of past) k ≡ Some p
        → deliver_to (state_of configs past) at clock p (slice_get (state_of configs past).machines (machine_of_packet p))
        ≡ turn_unless (cond (ltb clock (clock_of past (life_at past (machine_of_packet p))) || ltb max_time clock) (Some bad.ClockBack) None)
        (record { state = state_of configs (happens at (Deliver k clock) ∷ past); reply = reply_to_packet past clock (Some p) })
    deliver_to-machine_at at k clock p is =
        let m = machine_of_packet p in
        let named = and_parts _ _ (All-slice_get (HasItsSource configs) (packets_of past) k p lasts.known is) in
        let there : m < length configs = ltb-true m (length configs) named.0 in
        let asks : source_of_packet p < (config_at configs m).sources = ltb-true _ _ named.1 in
        ap (deliver_to (state_of configs past) at clock p) (slice_get-made machine_at (length configs) m there)
        ∙ turn_if (ltb clock (clock_of past (life_at past m)) || ltb max_time clock) bad.ClockBack _ None _
        (λ fresh.
        ap (λ (turn : Turn MachineState). Ok (after_turn (state_of configs past) at m turn []))
        (take_turn-take_of (config_at configs m) past at k clock p is asks (in_time_for_table clock (clock_of past (life_at past m)) (polled_clock_of past (life_at past m)) (lasts.rises (life_at past m)) fresh))
        ∙ ap (λ (turn : Turn WorldState). Ok turn) (after_turn-state_of at m (Deliver k clock) _ refl (λ j other. machine_of-deliver_other (config_at configs j) past at k clock p is j other) refl))

    deliver_on-packet : (at k clock : ℕ) (o : Option Packet) → slice_get (packets_of past) k ≡ o
        → deliver_on (state_of configs past) at clock o
        ≡ turn_unless (cond (not (can_be_delivered o)) (Some bad.NoPacket) (cond (goes_back (clock_of past) (option_map (λ p. record { life = life_at past (machine_of_packet p); clock = clock }) o)) (Some bad.ClockBack) None))
        (record { state = state_of configs (happens at (Deliver k clock) ∷ past); reply = reply_to_packet past clock o })
    deliver_on-packet at k clock None is = refl
    deliver_on-packet at k clock (Some p) is =
        ap (λ (b : Bool). cond b (Err bad.NoPacket) (deliver_to (state_of configs past) at clock p (slice_get (state_of configs past).machines (machine_of_packet p)))) (sym (not-not (is_asked p)))
        ∙ turn_if (not (not (is_asked p))) bad.NoPacket _ _ _ (λ kind. deliver_to-machine_at at k clock p is)

    acted-deliver : (at k clock : ℕ) → action_outcome (state_of configs past) at (Deliver k clock) ≡ as_judged at (Deliver k clock) (bad_action (Deliver k clock))
    acted-deliver at k clock = deliver_on-packet at k clock (slice_get (packets_of past) k) refl

  -- ---- a machine fuses

  -- what a fusion shows, by the spans that it fuses and what it makes of them
  abbrev shows : ℕ → List Interval → Result FusedSpan ℕ → List Showing
  shows m spans made = showing_of (life_at past m) (length (publications_of (config_at configs m) past (life_at past m)) + 1) spans (config_at configs m).faulty made

  with_shown-publish_turn : (at m clock : ℕ)
      → with_shown (after_turn (state_of configs past) at m (publish_turn (machine_at m) clock (fusion_on (machine_at m) clock)) [])
      (shows m (spans_of (machine_at m).daemon clock) (fusion_on (machine_at m) clock))
      ≡ record { state = state_of configs (happens at (Fuse m clock) ∷ past); reply = reply_to configs past (Fuse m clock) }
  with_shown-publish_turn at m clock =
      let config = config_at configs m in
      ap₂ (λ (turn : Turn MachineState) (showings : List Showing). with_shown (after_turn (state_of configs past) at m turn []) showings)
      (publish_turn-fusion_on config past at m clock) (ap₂ (shows m) (spans_of_daemon-machine_of config past at m clock) (fusion_on-machine_of config past at m clock))
      ∙ with_shown-state_of at m (Fuse m clock) _ refl (λ j other. machine_of-fuse_other (config_at configs j) past at m clock j other)

  acted-fuse : (at m clock : ℕ) → action_outcome (state_of configs past) at (Fuse m clock) ≡ as_judged at (Fuse m clock) (bad_action (Fuse m clock))
  acted-fuse at m clock =
      let back : Bool = ltb clock (clock_of past (life_at past m)) || ltb max_time clock in
      at_machine m (λ o. fuse_on (state_of configs past) at m clock o)
      (λ b. as_judged at (Fuse m clock) (cond (not b) (Some bad.UnknownNumber) (cond back (Some bad.ClockBack) None)))
      (λ there. turn_if back bad.ClockBack _ None _ (λ fresh. ap (λ (turn : Turn WorldState). Ok turn) (with_shown-publish_turn at m clock)))
      refl

  -- ---- a machine does a deed

  -- what is kept of machine m after an action, and the reply
  abbrev turn_of : ℕ → ℕ → Action → Turn MachineState
  turn_of at m action = record { state = machine_then at action m; reply = reply_to configs past action }

  turned-by : (at m : ℕ) (action : Action) (o : Option WorldFault) → ((j : ℕ) → (j ≡ m → ⊥) → machine_at j ≡ machine_then at action j)
      → put_by (life_of past) (sends_now past) (packets_of past) action ≡ [] → shown_by configs past action ≡ []
      → turn_outcome (state_of configs past) at m (turn_unless o (turn_of at m action)) ≡ as_judged at action o
  turned-by at m action None others unput unshown =
      ap (λ (put : List Packet). Ok (after_turn (state_of configs past) at m (turn_of at m action) put)) (sym unput)
      ∙ ap (λ (turn : Turn WorldState). Ok turn) (after_turn-state_of at m action (turn_of at m action) refl others unshown)
  turned-by at m action (Some fault) others unput unshown = refl

  -- a deed of a machine, by the reasons why it is bad where the machine is there and where it is not
  action_outcome-machine : (at m : ℕ) (action : Action) (machine_action : MachineAction) (reasons : Bool → Option WorldFault)
      → machine_outcome m (machine_at m) machine_action ≡ turn_unless (reasons true) (turn_of at m action) → reasons false ≡ Some bad.UnknownNumber
      → ((j : ℕ) → (j ≡ m → ⊥) → machine_at j ≡ machine_then at action j)
      → put_by (life_of past) (sends_now past) (packets_of past) action ≡ [] → shown_by configs past action ≡ []
      → on_machine (state_of configs past) at m machine_action (slice_get (state_of configs past).machines m) ≡ as_judged at action (reasons (has_machine configs m))
  action_outcome-machine at m action machine_action reasons does lost others unput unshown =
      at_machine m (λ o. on_machine (state_of configs past) at m machine_action o) (λ b. as_judged at action (reasons b))
      (λ there. ap (turn_outcome (state_of configs past) at m) does ∙ turned-by at m action (reasons true) others unput unshown)
      (sym (ap (as_judged at action) lost))

  -- a worker's work, by the reason why it is bad where the worker is there
  machine_outcome-worker : (m w : ℕ) (work : WorkerAction) (o : Option WorldFault) (turn : Turn MachineState) → (w < (config_at configs m).workers → worker_outcome (machine_at m) w work ≡ turn_unless o turn)
      → machine_outcome m (machine_at m) (machine_actions.Work w work) ≡ turn_unless (cond (not (ltb w (config_at configs m).workers)) (Some bad.UnknownNumber) o) turn
  machine_outcome-worker m w work o turn does =
      let config = config_at configs m in
      ap (λ (n : ℕ). cond (ltb w n) (worker_outcome (machine_at m) w work) (Err bad.UnknownNumber)) (length-map-range_with_len (λ v. worker_of config past (life_at past m) v) 0 config.workers)
      ∙ turn_where (ltb w config.workers) (worker_outcome (machine_at m) w work) o turn (λ named. does (ltb-true w config.workers named))

  -- what is kept of a worker that is there
  worker_is : (m w : ℕ) (f : Worker → Judged MachineState) → w < (config_at configs m).workers
      → f (get_or (machine_at m).workers w new_worker) ≡ f (worker_of (config_at configs m) past (life_at past m) w)
  worker_is m w f there = ap f (get_or-made (λ v. worker_of (config_at configs m) past (life_at past m) v) (config_at configs m).workers w new_worker there)

  -- ---- a worker reads

  module _ (at m w clock k : ℕ) where
    -- whether publication k can't be read by a worker that has read from this one
    abbrev unreadable : ℕ → Bool
    unreadable seen = is_unreadable (length (publications_of (config_at configs m) past (life_at past m))) seen k

    -- why a reading is bad, by the reason that its machine or its worker is not there
    abbrev bad_reading : Bool → Option WorldFault
    bad_reading b =
        cond (not (b && ltb w (config_at configs m).workers)) (Some bad.UnknownNumber)
        (cond (ltb clock (clock_of past (life_at past m)) || ltb max_time clock) (Some bad.ClockBack)
        (cond (unreadable (seen_of past (life_at past m) w)) (Some bad.NoPublication) None))

    read_if : w < (config_at configs m).workers → (b : Bool) → unreadable (seen_of past (life_at past m) w) ≡ b
        → read_from (machine_at m) w clock k (cond b None (slice_get (publications_of (config_at configs m) past (life_at past m)) (k - 1)))
        ≡ turn_unless (cond b (Some bad.NoPublication) None) (turn_of at m (Read m w clock k))
    read_if there true is = refl
    read_if there false readable =
        let config = config_at configs m in
        let publications = publications_of config past (life_at past m) in
        let newer = or_parts (eqb k 0 || ltb (length publications) k) (ltb k (seen_of past (life_at past m) w)) readable in
        let within = or_parts (eqb k 0) (ltb (length publications) k) newer.0 in
        let some : k ≡ 0 → ⊥ = eqb-false k 0 within.0 in
        let last : k ≤ length publications = ltb-false (length publications) k within.1 in
        ap (read_from (machine_at m) w clock k) (slice_get-get_or publications (k - 1) no_publication (omega arith))
        ∙ ap (λ (turn : Turn MachineState). Ok turn) (read_turn-machine_of config past at m w clock k (ltb-false k (seen_of past (life_at past m) w) newer.1) there)

    acted-read : action_outcome (state_of configs past) at (Read m w clock k) ≡ as_judged at (Read m w clock k) (bad_action (Read m w clock k))
    acted-read =
        action_outcome-machine at m (Read m w clock k) (machine_actions.Work w (worker_actions.Read clock k)) bad_reading
        (machine_outcome-worker m w (worker_actions.Read clock k) _ _
        (λ there. turn_if (ltb clock (clock_of past (life_at past m)) || ltb max_time clock) bad.ClockBack _ _ _
        (λ fresh.
        worker_is m w (λ worker. read_from (machine_at m) w clock k (cond (unreadable worker.seen) None (slice_get (publications_of (config_at configs m) past (life_at past m)) (k - 1)))) there
        ∙ read_if there (unreadable (seen_of past (life_at past m) w)) refl)))
        refl (λ j other. machine_of-read_other (config_at configs j) past at m w clock k j other) refl refl

  -- ---- a worker is asked for a commit

  acted-arrive : (at m w : ℕ) (id : Id) (floor : ℕ)
      → action_outcome (state_of configs past) at (Arrive m w id floor) ≡ as_judged at (Arrive m w id floor) (bad_action (Arrive m w id floor))
  acted-arrive at m w id floor =
      let work : WorkerAction = worker_actions.Arrive (record { id = id; floor = floor }) in
      action_outcome-machine at m (Arrive m w id floor) (machine_actions.Work w work) (λ b. cond (not (b && ltb w (config_at configs m).workers)) (Some bad.UnknownNumber) None)
      (machine_outcome-worker m w work None _ (λ there. ap (λ (turn : Turn MachineState). Ok turn) (arrive_turn-machine_of (config_at configs m) past at m w id floor there)))
      refl (λ j other. machine_of-arrive_other (config_at configs j) past at m w id floor j other) refl refl

  -- ---- a machine restarts

  -- no clock reading lies before the first of a life
  back_of_next : (m clock : ℕ) → (ltb clock (clock_of past (next_life past m)) || ltb max_time clock) ≡ ltb max_time clock
  back_of_next m clock =
      let first : ltb clock (clock_of past (next_life past m)) ≡ false = ap (ltb clock) (clock_of-unborn past (next_life past m) (omega arith)) ∙ le-ltb clock 0 (omega arith) in
      rw first refl

  acted-restart : (at m clock : ℕ) → action_outcome (state_of configs past) at (Restart m clock) ≡ as_judged at (Restart m clock) (bad_action (Restart m clock))
  acted-restart at m clock =
      let back : Bool = ltb clock (clock_of past (next_life past m)) || ltb max_time clock in
      let last : Bool = eqb (life_of past m) (2 ^ 64 - 1) in
      action_outcome-machine at m (Restart m clock) (machine_actions.Restart clock) (λ b. cond (not b) (Some bad.UnknownNumber) (cond back (Some bad.ClockBack) (cond last (Some bad.LivesUsedUp) None)))
      (ap (λ (b : Bool). cond b (Err bad.ClockBack) (cond last (Err bad.LivesUsedUp) (Ok (restart_turn m (machine_at m) clock)))) (sym (back_of_next m clock))
      ∙ turn_if back bad.ClockBack _ _ _
      (λ fresh. turn_if last bad.LivesUsedUp _ _ _ (λ more. ap (λ (turn : Turn MachineState). Ok turn) (restart_turn-machine_of (config_at configs m) past at m clock))))
      refl (λ j other. machine_of-restart_other (config_at configs j) past at m clock j other) refl refl

  -- ---- a machine is granted a lease

  acted-lease : (at m : ℕ) (lease : Interval) → action_outcome (state_of configs past) at (Lease m lease) ≡ as_judged at (Lease m lease) (bad_action (Lease m lease))
  acted-lease at m lease =
      action_outcome-machine at m (Lease m lease) (machine_actions.Lease lease) (λ b. cond (not b) (Some bad.UnknownNumber) None)
      (ap (λ (turn : Turn MachineState). Ok turn) (lease_turn-machine_of (config_at configs m) past at m lease))
      refl (λ j other. machine_of-lease_other (config_at configs j) past at m lease j other) refl refl

  -- ---- a worker stamps its task

  -- why a stamping is bad, by the worker's task and its reading
  abbrev bad_stamping : Option Task → Option Interval → Option WorldFault
  bad_stamping task since = cond (not (is_arrived task) || not (is_some since)) (Some bad.NothingThere) None

  stamp_with-by : (at m w : ℕ) → w < (config_at configs m).workers → (queued : Bool) (asked : Option Arrival) (held : Option ℕ) (since : Option Interval)
      → is_queued (config_at configs m) past (life_at past m) w ≡ queued → arrival_of past (life_at past m) w ≡ asked → reading_since (config_at configs m) past (life_at past m) w ≡ since
      → stamp_with (machine_at m) w (cond queued None (task_with asked held)) since
      ≡ turn_unless (bad_stamping (cond queued None (task_with asked held)) since) (turn_of at m (Stamp m w))
  stamp_with-by at m w there true asked held since q a r = refl
  stamp_with-by at m w there false None held since q a r = refl
  stamp_with-by at m w there false (Some arrival) (Some stamp) since q a r = refl
  stamp_with-by at m w there false (Some arrival) None None q a r = refl
  stamp_with-by at m w there false (Some arrival) None (Some reading) q a r =
      ap (λ (turn : Turn MachineState). Ok turn) (stamp_turn-machine_of (config_at configs m) past at m w arrival reading there q a r)

  acted-stamp : (at m w : ℕ) → action_outcome (state_of configs past) at (Stamp m w) ≡ as_judged at (Stamp m w) (bad_action (Stamp m w))
  acted-stamp at m w =
      let config = config_at configs m in
      let life = life_at past m in
      action_outcome-machine at m (Stamp m w) (machine_actions.Work w worker_actions.Stamp)
      (λ b. cond (not (b && ltb w config.workers)) (Some bad.UnknownNumber) (bad_stamping (task_of config past life w) (reading_since config past life w)))
      (machine_outcome-worker m w worker_actions.Stamp _ _ (λ there.
      worker_is m w (λ worker. stamp_with (machine_at m) w worker.task worker.since) there
      ∙ stamp_with-by at m w there (is_queued config past life w) (arrival_of past life w) (stamp_held config past life w) (reading_since config past life w) refl refl refl))
      refl (λ j other. machine_of-stamp_other (config_at configs j) past at m w j other) refl refl

  -- ---- a worker queues its task

  -- why a queueing is bad, by the worker's task
  abbrev bad_queueing : Option Task → Option WorldFault
  bad_queueing task = cond (not (is_stamped task)) (Some bad.NothingThere) None

  queue_with-by : (at m w : ℕ) → w < (config_at configs m).workers → (queued : Bool) (asked : Option Arrival) (held : Option ℕ)
      → arrival_of past (life_at past m) w ≡ asked → stamp_held (config_at configs m) past (life_at past m) w ≡ held
      → queue_with (machine_at m) w (cond queued None (task_with asked held))
      ≡ turn_unless (bad_queueing (cond queued None (task_with asked held))) (turn_of at m (Queue m w))
  queue_with-by at m w there true asked held a h = refl
  queue_with-by at m w there false None held a h = refl
  queue_with-by at m w there false (Some arrival) None a h = refl
  queue_with-by at m w there false (Some arrival) (Some stamp) a h =
      ap (λ (turn : Turn MachineState). Ok turn) (queue_turn-machine_of (config_at configs m) past at m w arrival stamp there a h)

  acted-queue : (at m w : ℕ) → action_outcome (state_of configs past) at (Queue m w) ≡ as_judged at (Queue m w) (bad_action (Queue m w))
  acted-queue at m w =
      let config = config_at configs m in
      let life = life_at past m in
      action_outcome-machine at m (Queue m w) (machine_actions.Work w worker_actions.Queue)
      (λ b. cond (not (b && ltb w config.workers)) (Some bad.UnknownNumber) (bad_queueing (task_of config past life w)))
      (machine_outcome-worker m w worker_actions.Queue _ _ (λ there.
      worker_is m w (λ worker. queue_with (machine_at m) w worker.task) there
      ∙ queue_with-by at m w there (is_queued config past life w) (arrival_of past life w) (stamp_held config past life w) refl refl))
      refl (λ j other. machine_of-queue_other (config_at configs j) past at m w j other) refl refl

  -- ---- a worker releases

  release_with-by : (at m w : ℕ) (reading : Option Interval) → reading_of (config_at configs m) past (life_at past m) w ≡ reading
      → release_with (machine_at m) reading ≡ turn_unless (cond (not (is_some reading)) (Some bad.NothingThere) None) (turn_of at m (Release m w))
  release_with-by at m w None is = refl
  release_with-by at m w (Some reading) is =
      ap (λ (turn : Turn MachineState). Ok turn) (release_turn-machine_of (config_at configs m) past at m w reading is)

  acted-release : (at m w : ℕ) → action_outcome (state_of configs past) at (Release m w) ≡ as_judged at (Release m w) (bad_action (Release m w))
  acted-release at m w =
      let config = config_at configs m in
      let life = life_at past m in
      action_outcome-machine at m (Release m w) (machine_actions.Work w worker_actions.Release)
      (λ b. cond (not (b && ltb w config.workers)) (Some bad.UnknownNumber) (cond (not (is_some (reading_of config past life w))) (Some bad.NothingThere) None))
      (machine_outcome-worker m w worker_actions.Release _ _ (λ there.
      worker_is m w (λ worker. release_with (machine_at m) worker.reading) there ∙ release_with-by at m w (reading_of config past life w) refl))
      refl (λ j other. machine_of-release_other (config_at configs j) past at m w j other) refl refl

  -- ---- any of them

  pub acted-state_of : Lasts configs past → (at : ℕ) (action : Action) → (bad_action action ≡ None → HasRoom (state_of configs past) action)
      → action_outcome (state_of configs past) at action ≡ as_judged at action (bad_action action)
  acted-state_of lasts at (Send m s clock) room = acted-send lasts at m s clock room
  acted-state_of lasts at (Answer k span) room = acted-answer at k span
  acted-state_of lasts at (Forge m s payload) room = acted-forge at m s payload
  acted-state_of lasts at (Deliver k clock) room = acted-deliver lasts at k clock
  acted-state_of lasts at (Fuse m clock) room = acted-fuse at m clock
  acted-state_of lasts at (Read m w clock k) room = acted-read at m w clock k
  acted-state_of lasts at (Arrive m w id floor) room = acted-arrive at m w id floor
  acted-state_of lasts at (Stamp m w) room = acted-stamp at m w
  acted-state_of lasts at (Queue m w) room = acted-queue at m w
  acted-state_of lasts at (Restart m clock) room = acted-restart at m clock
  acted-state_of lasts at (Lease m lease) room = acted-lease at m lease
  acted-state_of lasts at (Release m w) room = acted-release at m w
