-- A life that has not begun has done nothing.
use Rattle.std.proofs.Common.{◌≡◌, ℕ, ◌+◌, ◌<◌, ◌&&◌, Bool, true, false, cond, eqb, List, [], ◌∷◌, ◌++◌, slice_get, is_some, Option, Some, None, refl, ap, ◌∙◌, append-nil, ne_eqb, arith}
use Rattle.std.specs.Option.{option_or, option_map}
use Rattle.std.proofs.lemmas.Bool.{eqb-true}
use Rattle.tt_span.specs.Interval.{Interval}
use Rattle.tt_source.specs.Statement.{Statement}
use Rattle.tt_source.specs.Table.{Sending}
use Rattle.tt_stamp.specs.declared.commits.Entry.{Entry}
use Rattle.tt_world.specs.declared.events.Event.{Event}
use Rattle.tt_world.specs.declared.events.Action.{Action}
use Rattle.tt_world.specs.declared.events.Action.TheVariants.{Send, Deliver, Fuse, Read, Arrive, Stamp, Queue, Restart, Release}
use Rattle.tt_world.specs.declared.packets.Packet.{Packet}
use Rattle.tt_world.specs.declared.workers.Arrival.{Arrival}
use Rattle.tt_world.specs.declared.workers.Task.{Task}
use Rattle.tt_daemon.specs.Config.{Configuration}
use Rattle.tt_world.specs.Packet.{machine_of_packet, source_of_packet}
use Rattle.tt_world.specs.Life.{Life, restarts, life_of, next_life, life_at, same_life, is_of}
use Rattle.tt_world.specs.Past.{is_send_of, sends_of, packets_of, clock_reading, clock_after, clock_of}
use Rattle.tt_world.specs.Sources.{sent_by, last_send, stated_in, stated_by, is_answered, outstanding_poll, statement_of}
use Rattle.tt_world.specs.Publications.{fuses_at, published_at, publications_of, seen_by, seen_of}
use Rattle.tt_world.specs.Commits.{arrived_by, arrival_of, read_by, reading_of, reading_since, stamping_worker, stamps_after, stamps_of, stamp_held, book_after, book_of, is_queued, task_with, task_of}
use Rattle.tt_world.specs.Private.Machine.{is_taken, polled_by, polled_clock_of}
use Rattle.tt_world.proofs.Simulation.Lives.{is_of-unborn, life_of-on}

-- a life of a machine that has not begun after these events
abbrev pub IsUnborn : List Event → Life → Type 0
IsUnborn past life = life_of past life.machine < life.number

unborn_before : (past : List Event) (event : Event) (life : Life) → IsUnborn (event ∷ past) life → IsUnborn past life
unborn_before past event life unborn = omega (arith, life_of-on past event life.machine)

-- ---- what one event does of it

module _ (past : List Event) (life : Life) (unborn : IsUnborn past life) where
  not_here : (machine : ℕ) → is_of past life machine ≡ false
  not_here machine = is_of-unborn past life machine unborn

  sends_none : (action : Action) → is_send_of past life action ≡ false
  sends_none (Send machine source clock) = not_here machine
  sends_none _ = refl

  sent_none : (i : ℕ) (action : Action) → sent_by past life i action ≡ None
  sent_none i (Send machine source clock) = let other : is_of past life machine ≡ false = not_here machine in rw other refl
  sent_none i _ = refl

  stated_none : (i clock : ℕ) (waiting : Option Sending) (o : Option Packet) → stated_in past life i waiting clock o ≡ None
  stated_none i clock waiting None = refl
  stated_none i clock waiting (Some packet) = let other : is_of past life (machine_of_packet packet) ≡ false = not_here (machine_of_packet packet) in rw other refl

  states_none : (i : ℕ) (waiting : Option Sending) (action : Action) → stated_by past life i waiting action ≡ None
  states_none i waiting (Deliver packet clock) = stated_none i clock waiting (slice_get (packets_of past) packet)
  states_none i waiting _ = refl

  taken_none : (clock : ℕ) (waiting : ℕ → Option Sending) (o : Option Packet) → is_taken past life waiting clock o ≡ false
  taken_none clock waiting None = refl
  taken_none clock waiting (Some packet) =
      ap (λ (s : Option Statement). is_some s) (stated_none (source_of_packet packet) clock (waiting (source_of_packet packet)) (Some packet))

  polled_none : (action : Action) (before : ℕ) → polled_by past life action before ≡ before
  polled_none (Send machine source clock) before = let other : is_of past life machine ≡ false = not_here machine in rw other refl
  polled_none (Deliver packet clock) before =
      ap (λ (b : Bool). cond b clock before) (taken_none clock (outstanding_poll past life) (slice_get (packets_of past) packet))
  polled_none _ before = refl

  fuses_none : (action : Action) → fuses_at past life action ≡ None
  fuses_none (Fuse machine clock) = let other : is_of past life machine ≡ false = not_here machine in rw other refl
  fuses_none _ = refl

  seen_none : (w : ℕ) (action : Action) (before : ℕ) → seen_by past life w action before ≡ before
  seen_none w (Read machine worker clock k) before = let other : is_of past life machine ≡ false = not_here machine in rw other refl
  seen_none w _ before = refl

  arrives_none : (w : ℕ) (action : Action) → arrived_by past life w action ≡ None
  arrives_none w (Arrive machine worker id floor) = let other : is_of past life machine ≡ false = not_here machine in rw other refl
  arrives_none w _ = refl

  reads_none : (config : Configuration) (w : ℕ) (action : Action) → read_by config past life w action ≡ None
  reads_none config w (Read machine worker clock k) = let other : is_of past life machine ≡ false = not_here machine in rw other refl
  reads_none config w _ = refl

  stamps_none : (action : Action) → stamping_worker past life action ≡ None
  stamps_none (Stamp machine worker) = let other : is_of past life machine ≡ false = not_here machine in rw other refl
  stamps_none _ = refl

  book_none : (config : Configuration) (book : List Entry) (action : Action) → book_after config past life book action ≡ book
  book_none config book (Queue machine worker) = let other : is_of past life machine ≡ false = not_here machine in rw other refl
  book_none config book (Release machine worker) = let other : is_of past life machine ≡ false = not_here machine in rw other refl
  book_none config book _ = refl

-- ---- what it has done

pub sends_of-unborn : (past : List Event) (life : Life) → IsUnborn past life → sends_of past life ≡ 0
sends_of-unborn [] life unborn = refl
sends_of-unborn (event ∷ past) life unborn =
    let before = unborn_before past event life unborn in
    ap (λ (b : Bool). cond b (sends_of past life + 1) (sends_of past life)) (sends_none past life before event.action) ∙ sends_of-unborn past life before

last_send-unborn : (past : List Event) (life : Life) (i : ℕ) → IsUnborn past life → last_send past life i ≡ None
last_send-unborn [] life i unborn = refl
last_send-unborn (event ∷ past) life i unborn =
    let before = unborn_before past event life unborn in
    ap (λ (o : Option Sending). option_or o (last_send past life i)) (sent_none past life before i event.action) ∙ last_send-unborn past life i before

none_either : {A : Type 0} (b : Bool) (o : Option A) → o ≡ None → cond b None o ≡ None
none_either true o h = refl
none_either false o h = h

pub outstanding-unborn : (past : List Event) (life : Life) (i : ℕ) → IsUnborn past life → outstanding_poll past life i ≡ None
outstanding-unborn past life i unborn = none_either {A = Sending} (is_answered past life i) (last_send past life i) (last_send-unborn past life i unborn)

pub statement_of-unborn : (past : List Event) (life : Life) (i : ℕ) → IsUnborn past life → statement_of past life i ≡ None
statement_of-unborn [] life i unborn = refl
statement_of-unborn (event ∷ past) life i unborn =
    let before = unborn_before past event life unborn in
    ap (λ (o : Option Statement). option_or o (statement_of past life i)) (states_none past life before i (outstanding_poll past life i) event.action) ∙ statement_of-unborn past life i before

pub polled_clock_of-unborn : (past : List Event) (life : Life) → IsUnborn past life → polled_clock_of past life ≡ 0
polled_clock_of-unborn [] life unborn = refl
polled_clock_of-unborn (event ∷ past) life unborn =
    let before = unborn_before past event life unborn in
    polled_none past life before event.action (polled_clock_of past life) ∙ polled_clock_of-unborn past life before

pub publications_of-unborn : (config : Configuration) (past : List Event) (life : Life) → IsUnborn past life → publications_of config past life ≡ []
publications_of-unborn config [] life unborn = refl
publications_of-unborn config (event ∷ past) life unborn =
    let before = unborn_before past event life unborn in
    ap (λ (o : Option ℕ). publications_of config past life ++ published_at config past life o) (fuses_none past life before event.action)
    ∙ append-nil (publications_of config past life) ∙ publications_of-unborn config past life before

pub seen_of-unborn : (past : List Event) (life : Life) (w : ℕ) → IsUnborn past life → seen_of past life w ≡ 0
seen_of-unborn [] life w unborn = refl
seen_of-unborn (event ∷ past) life w unborn =
    let before = unborn_before past event life unborn in
    seen_none past life before w event.action (seen_of past life w) ∙ seen_of-unborn past life w before

arrival_of-unborn : (past : List Event) (life : Life) (w : ℕ) → IsUnborn past life → arrival_of past life w ≡ None
arrival_of-unborn [] life w unborn = refl
arrival_of-unborn (event ∷ past) life w unborn =
    let before = unborn_before past event life unborn in
    ap (λ (o : Option Arrival). option_or o (arrival_of past life w)) (arrives_none past life before w event.action) ∙ arrival_of-unborn past life w before

pub task_of-unborn : (config : Configuration) (past : List Event) (life : Life) (w : ℕ) → IsUnborn past life → task_of config past life w ≡ None
task_of-unborn config past life w unborn =
    none_either {A = Task} (is_queued config past life w) _ (ap (λ (o : Option Arrival). task_with o (stamp_held config past life w)) (arrival_of-unborn past life w unborn))

pub reading_of-unborn : (config : Configuration) (past : List Event) (life : Life) (w : ℕ) → IsUnborn past life → reading_of config past life w ≡ None
reading_of-unborn config [] life w unborn = refl
reading_of-unborn config (event ∷ past) life w unborn =
    let before = unborn_before past event life unborn in
    ap (λ (o : Option Interval). option_or o (reading_of config past life w)) (reads_none past life before config w event.action) ∙ reading_of-unborn config past life w before

pub reading_since-unborn : (config : Configuration) (past : List Event) (life : Life) (w : ℕ) → IsUnborn past life → reading_since config past life w ≡ None
reading_since-unborn config [] life w unborn = refl
reading_since-unborn config (event ∷ past) life w unborn =
    let before = unborn_before past event life unborn in
    none_either {A = Interval} (is_some (arrived_by past life w event.action)) _
    (ap (λ (o : Option Interval). option_or o (reading_since config past life w)) (reads_none past life before config w event.action) ∙ reading_since-unborn config past life w before)

pub stamps_of-unborn : (config : Configuration) (past : List Event) (life : Life) → IsUnborn past life → stamps_of config past life ≡ []
stamps_of-unborn config [] life unborn = refl
stamps_of-unborn config (event ∷ past) life unborn =
    let before = unborn_before past event life unborn in
    ap (stamps_after config past life (stamps_of config past life)) (stamps_none past life before event.action) ∙ stamps_of-unborn config past life before

pub book_of-unborn : (config : Configuration) (past : List Event) (life : Life) → IsUnborn past life → book_of config past life ≡ []
book_of-unborn config [] life unborn = refl
book_of-unborn config (event ∷ past) life unborn =
    let before = unborn_before past event life unborn in
    book_none past life before config (book_of config past life) event.action ∙ book_of-unborn config past life before

-- ---- what its clock has shown

-- a restart that begins another life than this
other_restart : (past : List Event) (machine : ℕ) (life : Life) (b : Bool) → eqb machine life.machine ≡ b → cond b (life_of past life.machine + 1) (life_of past life.machine) < life.number
    → b && eqb (life_of past machine + 1) life.number ≡ false
other_restart past machine life true e unborn =
    let same : machine ≡ life.machine = eqb-true machine life.machine e in
    let here : life_of past machine ≡ life_of past life.machine = ap (life_of past) same in
    ne_eqb (life_of past machine + 1) life.number (λ f. omega arith)
other_restart past machine life false e unborn = refl

clock_none : (past : List Event) (event : Event) (life : Life) (before : ℕ) → IsUnborn (event ∷ past) life → clock_after life (clock_reading past event.action) before ≡ before
clock_none past event life before unborn = by_action event.action (unborn_before past event life unborn) unborn
  where
    by_packet : IsUnborn past life → (clock : ℕ) (o : Option Packet) → clock_after life (option_map (λ p. record { life = life_at past (machine_of_packet p); clock = clock }) o) before ≡ before
    by_packet old clock None = refl
    by_packet old clock (Some packet) = let other : is_of past life (machine_of_packet packet) ≡ false = not_here past life old (machine_of_packet packet) in rw other refl

    by_action : (action : Action) → IsUnborn past life → cond (restarts life.machine action) (life_of past life.machine + 1) (life_of past life.machine) < life.number → clock_after life (clock_reading past action) before ≡ before
    by_action (Send machine source clock) old now = let other : is_of past life machine ≡ false = not_here past life old machine in rw other refl
    by_action (Deliver packet clock) old now = by_packet old clock (slice_get (packets_of past) packet)
    by_action (Fuse machine clock) old now = let other : is_of past life machine ≡ false = not_here past life old machine in rw other refl
    by_action (Read machine worker clock k) old now = let other : is_of past life machine ≡ false = not_here past life old machine in rw other refl
    by_action (Restart machine clock) old now =
        let other : same_life (next_life past machine) life ≡ false = other_restart past machine life (eqb machine life.machine) refl now in
        rw other refl
    by_action _ old now = refl

pub clock_of-unborn : (past : List Event) (life : Life) → IsUnborn past life → clock_of past life ≡ 0
clock_of-unborn [] life unborn = refl
clock_of-unborn (event ∷ past) life unborn =
    clock_none past event life (clock_of past life) unborn ∙ clock_of-unborn past life (unborn_before past event life unborn)
