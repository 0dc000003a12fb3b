-- What is kept of statements is what is defined of them.
use Rattle.std.proofs.Common.{◌≡◌, ℕ, ◌+◌, ◌<◌, Bool, true, false, not, cond, eqb, ◌&&◌, List, get_or, [], ◌∷◌, length, replicate, set, slice_get, is_some, Option, Some, None, IfSome, Result, Ok, Err, inl, inr, refl, ap, ap₂, subst, ◌∙◌, sym, arith, eq-eqb, ne_eqb, length-append, length-set}
use Rattle.std.specs.Option.{option_and_then}
use Rattle.std.specs.Result.{result_ok}
use Rattle.std.proofs.lemmas.Bool.{cases_eq, and_parts, eqb-true}
use Rattle.std.proofs.lemmas.Option.{slice_get_within}
use Rattle.std.proofs.lemmas.List.{get_or-replicate, get_or-set_other, length-replicate}
use Rattle.std.proofs.lemmas.Grind.{get_or-set_at}
use Rattle.tt_poll.specs.Reading.{read_of2}
use Rattle.tt_source.specs.Statement.{Statement}
use Rattle.tt_source.specs.Table.{Sending, statement_of_message}
use Rattle.tt_source.specs.declared.faults.SourceFault.{SourceFault}
use Rattle.tt_world.specs.declared.events.Event.{Event}
use Rattle.tt_world.specs.declared.events.Action.{Action}
use Rattle.tt_world.specs.declared.events.Action.TheVariants.{Send, Answer, Forge, Deliver, Fuse, Read, Arrive, Stamp, Queue, Restart, Lease, Release}
use Rattle.tt_world.specs.declared.packets.Packet.{Packet}
use Rattle.tt_world.specs.Life.{Life, life_of, life_at, is_of}
use Rattle.tt_world.specs.Packet.{machine_of_packet, source_of_packet, bytes_of}
use Rattle.tt_world.specs.Past.{sends_now, put_by, packets_of}
use Rattle.tt_world.specs.Sources.{stated_in, stated_by, outstanding_poll}
use Rattle.tt_daemon.specs.Config.{Configuration}
use Rattle.tt_world.specs.Bad.{can_be_delivered, lacks_packet}
use Rattle.tt_world.specs.Reply.{delivery_reply, reply_to_packet, reply_to}
use Rattle.tt_world.specs.Assumptions.{origin_of, delivered_by, packet_of_statement, is_lying, is_false_statement}
use Rattle.tt_world.proofs.Simulation.Lives.{life_of-on, is_of-unborn}
use Rattle.tt_world.proofs.Histories.Origins.{origin-old}
use Rattle.tt_audit.specs.declared.packets.Carried.{Carried}
use Rattle.tt_audit.specs.Watch.{carried_of, lies_at, lie_at, lies_begun, taken_in, lies_taken, IsRoute, IsRestartable}
use Rattle.tt_audit.proofs.Carrying.{carried-at}
use Rattle.tt_audit.proofs.Cells.{written, rows-written, cells-written, cell-here, cell-other}
use Rattle.tt_audit.proofs.Ticking.{IsUnborn, tick_is}

-- ---- a life that has not begun has no statement

unstated : (past : List Event) (life : Life) (i clock : ℕ) (waiting : Option Sending) (o : Option Packet) → IsUnborn past life → stated_in past life i waiting clock o ≡ None
unstated past life i clock waiting None unborn = refl
unstated past life i clock waiting (Some packet) unborn =
    let other : is_of past life (machine_of_packet packet) ≡ false = is_of-unborn past life (machine_of_packet packet) unborn in rw other refl

unstated_by : (past : List Event) (life : Life) (i : ℕ) (waiting : Option Sending) (action : Action) → IsUnborn past life → stated_by past life i waiting action ≡ None
unstated_by past life i waiting (Deliver packet clock) unborn = unstated past life i clock waiting (slice_get (packets_of past) packet) unborn
unstated_by past life i waiting _ unborn = refl

packet-unborn : (past : List Event) (life : Life) (i : ℕ) → IsUnborn past life → packet_of_statement past life i ≡ None
packet-unborn [] life i unborn = refl
packet-unborn (event ∷ past) life i unborn =
    let before : IsUnborn past life = omega (arith, life_of-on past event life.machine) in
    ap (λ (o : Option Statement). cond (is_some o) (delivered_by event.action) (packet_of_statement past life i)) (unstated_by past life i (outstanding_poll past life i) event.action before)
    ∙ packet-unborn past life i before

-- ---- the packet of a statement was put

-- an event that states something delivers a packet that was put
delivered-within : (past : List Event) (life : Life) (i : ℕ) (waiting : Option Sending) (action : Action) (p : ℕ) → is_some (stated_by past life i waiting action) ≡ true → delivered_by action ≡ Some p → p < length (packets_of past)
delivered-within past life i waiting (Deliver q clock) p states is = by_packet (slice_get (packets_of past) q) refl states
  where
    by_packet : (o : Option Packet) → slice_get (packets_of past) q ≡ o → is_some (stated_in past life i waiting clock o) ≡ true → p < length (packets_of past)
    by_packet None e h = absurd cc
    by_packet (Some packet) e h = let same : q ≡ p = cc in subst (λ (k : ℕ). k < length (packets_of past)) same (slice_get_within (packets_of past) q packet e)
delivered-within past life i waiting _ p states is = absurd cc

packet_before-within : (past : List Event) (event : Event) (life : Life) (i p : ℕ) (b : Bool) → is_some (stated_by past life i (outstanding_poll past life i) event.action) ≡ b
    → (packet_of_statement past life i ≡ Some p → p < length (packets_of past)) → cond b (delivered_by event.action) (packet_of_statement past life i) ≡ Some p → p < length (packets_of past)
packet_before-within past event life i p true states old is = delivered-within past life i (outstanding_poll past life i) event.action p states is
packet_before-within past event life i p false states old is = old is

packet-within : (past : List Event) (life : Life) (i p : ℕ) → packet_of_statement past life i ≡ Some p → p < length (packets_of past)
packet-within [] life i p is = absurd cc
packet-within (event ∷ past) life i p is =
    let old : p < length (packets_of past) = packet_before-within past event life i p (is_some (stated_by past life i (outstanding_poll past life i) event.action)) refl (packet-within past life i p) is in
    omega (arith, old, length-append (packets_of past) (put_by (life_of past) (sends_now past) (packets_of past) event.action))

-- ---- one event more

lying-old : (past : List Event) (event : Event) (o : Option ℕ) → ((p : ℕ) → o ≡ Some p → p < length (packets_of past))
    → is_lying (option_and_then (origin_of (event ∷ past)) o) ≡ is_lying (option_and_then (origin_of past) o)
lying-old past event None within = refl
lying-old past event (Some p) within = ap is_lying (origin-old past event p (within p refl))

-- whether a statement is false after an event: by the packet that the event delivers, if that makes the statement, and as before if not
is_false-more : (past : List Event) (event : Event) (life : Life) (i : ℕ) (b : Bool) → is_some (stated_by past life i (outstanding_poll past life i) event.action) ≡ b
    → is_false_statement (event ∷ past) life i ≡ cond b (is_lying (option_and_then (origin_of past) (delivered_by event.action))) (is_false_statement past life i)
is_false-more past event life i b is =
    lying-old past event (packet_of_statement (event ∷ past) life i) (λ p e. packet_before-within past event life i p (is_some (stated_by past life i (outstanding_poll past life i) event.action)) refl (packet-within past life i p) e)
    ∙ ap (λ (t : Bool). is_lying (option_and_then (origin_of past) (cond t (delivered_by event.action) (packet_of_statement past life i)))) is
    ∙ by_test b
  where
    by_test : (t : Bool) → is_lying (option_and_then (origin_of past) (cond t (delivered_by event.action) (packet_of_statement past life i)))
        ≡ cond t (is_lying (option_and_then (origin_of past) (delivered_by event.action))) (is_false_statement past life i)
    by_test true = refl
    by_test false = refl

-- ---- what is kept

-- what is kept is of the statements of each machine in its life after an event
abbrev pub KeepsLies : List Event → List Event → List (List Bool) → Type 0
KeepsLies lives past lies = (m i : ℕ) → m < 8 → i < 16 → lie_at lies m i ≡ is_false_statement past (life_at lives m) i

-- eight rows of sixteen
pub record IsTable (lies : List (List Bool)) : Type 0 where
  pub machines : length lies ≡ 8
  pub sources : (m : ℕ) → m < 8 → length (lies_at lies m) ≡ 16

unborn-true : (past : List Event) (life : Life) (i : ℕ) → IsUnborn past life → is_false_statement past life i ≡ false
unborn-true past life i unborn = ap (λ (o : Option ℕ). is_lying (option_and_then (origin_of past) o)) (packet-unborn past life i unborn)

-- the row of a machine that restarts, and of another
row-restarted : (lies : List (List Bool)) (machine m i : ℕ) → length lies ≡ 8 → m < 8 → i < 16 → machine ≡ m → lie_at (set lies machine (replicate 16 false)) m i ≡ false
row-restarted lies machine m i long hm hi same =
    ap (λ (row : List Bool). get_or row i false) (get_or-set_at lies machine m (replicate 16 false) [] (sym same) (omega (arith, long)))
    ∙ get_or-replicate 16 i false false hi

row-stays : (lies : List (List Bool)) (machine m i : ℕ) → (machine ≡ m → ⊥) → lie_at (set lies machine (replicate 16 false)) m i ≡ lie_at lies m i
row-stays lies machine m i other = ap (λ (row : List Bool). get_or row i false) (get_or-set_other lies machine m (replicate 16 false) [] (λ e. other (sym e)))

abbrev pub after_action : List Event → ℕ → Action → List Event
after_action past at action = record { at = at; action = action } ∷ past

-- a machine restarts
restarted-lies : (past : List Event) (at : ℕ) (lies : List (List Bool)) (machine clock : ℕ) → length lies ≡ 8 → machine < 8 → KeepsLies past past lies
    → KeepsLies (after_action past at (Restart machine clock)) (after_action past at (Restart machine clock)) (set lies machine (replicate 16 false))
restarted-lies past at lies machine clock long here keeps m i hm hi =
    let now : List Event = after_action past at (Restart machine clock) in
    let event : Event = record { at = at; action = Restart machine clock } in
    let later : is_false_statement now (life_at now m) i ≡ is_false_statement past (life_at now m) i = is_false-more past event (life_at now m) i false refl in
    elim (cases_eq machine m) [
      | inl same ↦
          let next : life_of now m ≡ life_of past m + 1 = ap (λ (b : Bool). cond b (life_of past m + 1) (life_of past m)) (eq-eqb machine m same) in
          row-restarted lies machine m i long hm hi same ∙ sym (later ∙ unborn-true past (life_at now m) i (omega (arith, next)))
      | inr other ↦
          let stays : life_of now m ≡ life_of past m = ap (λ (b : Bool). cond b (life_of past m + 1) (life_of past m)) (ne_eqb machine m other) in
          row-stays lies machine m i other
          ∙ keeps m i hm hi
          ∙ ap (λ (n : ℕ). is_false_statement past (record { machine = m; number = n }) i) (sym stays)
          ∙ sym later
    ]

-- ---- a packet is delivered

module _ (past : List Event) (clock : ℕ) (packet : Packet) where
  -- what the packet states for source i of machine m, if the poll of it waits
  abbrev made_for : ℕ → ℕ → Result Statement SourceFault
  made_for m i = statement_of_message m (life_of past m) i (outstanding_poll past (life_at past m) i) clock (read_of2 (bytes_of packet))

  -- and for its own source and machine
  abbrev made : Result Statement SourceFault
  made = made_for (machine_of_packet packet) (source_of_packet packet)

  both-same : (m i : ℕ) → machine_of_packet packet ≡ m → source_of_packet packet ≡ i → made_for m i ≡ made
  both-same m i machine source = sym (ap₂ (λ (j k : ℕ). made_for j k) machine source)

  -- it states something for its own source and machine alone
  states-own : (m i : ℕ) → is_some (stated_in past (life_at past m) i (outstanding_poll past (life_at past m) i) clock (Some packet))
      ≡ ((eqb (machine_of_packet packet) m && eqb (source_of_packet packet) i) && is_some (result_ok made))
  states-own m i =
      ap (λ (b : Bool). is_some (cond (b && eqb (source_of_packet packet) i) (result_ok (made_for m i)) None)) (tick_is past (machine_of_packet packet) m)
      ∙ elim (cases_eq (machine_of_packet packet) m) [
        | inl machine ↦ elim (cases_eq (source_of_packet packet) i) [
          | inl source ↦
              let here : (eqb (machine_of_packet packet) m && eqb (source_of_packet packet) i) ≡ true =
              ap₂ (λ (a b : Bool). a && b) (eq-eqb _ _ machine) (eq-eqb _ _ source) in
              ap (λ (b : Bool). is_some (cond b (result_ok (made_for m i)) None)) here
              ∙ ap (λ (r : Result Statement SourceFault). is_some (result_ok r)) (both-same m i machine source)
              ∙ sym (ap (λ (b : Bool). b && is_some (result_ok made)) here)
          | inr other ↦ apart m i (ap₂ (λ (a b : Bool). a && b) (eq-eqb _ _ machine) (ne_eqb _ _ other))
        ]
        | inr other ↦ apart m i (ap (λ (a : Bool). a && eqb (source_of_packet packet) i) (ne_eqb _ _ other))
      ]
    where
      apart : (m i : ℕ) → (eqb (machine_of_packet packet) m && eqb (source_of_packet packet) i) ≡ false
          → is_some (cond (eqb (machine_of_packet packet) m && eqb (source_of_packet packet) i) (result_ok (made_for m i)) None)
          ≡ ((eqb (machine_of_packet packet) m && eqb (source_of_packet packet) i) && is_some (result_ok made))
      apart m i e = ap (λ (b : Bool). is_some (cond b (result_ok (made_for m i)) None)) e ∙ sym (ap (λ (b : Bool). b && is_some (result_ok made)) e)

and_false : (b : Bool) → (b && false) ≡ false
and_false true = refl
and_false false = refl

and_true : (b : Bool) → (b && true) ≡ b
and_true true = refl
and_true false = refl

-- a statement that is made, or is not
taken-lies : (past : List Event) (at p clock : ℕ) (packet : Packet) (lies : List (List Bool)) → IsTable lies → slice_get (packets_of past) p ≡ Some packet
    → machine_of_packet packet < 8 → source_of_packet packet < 16 → KeepsLies past past lies
    → (r : Result Statement SourceFault) → made past clock packet ≡ r
    → KeepsLies past (after_action past at (Deliver p clock)) (lies_taken lies (taken_in (carried_of past) (Deliver p clock) (delivery_reply r)))
taken-lies past at p clock packet lies table is hk hs keeps (Err fault) e m i hm hi =
    keeps m i hm hi ∙ sym (is_false-more past (record { at = at; action = Deliver p clock }) (life_at past m) i false
    (ap (λ (o : Option Packet). is_some (stated_in past (life_at past m) i (outstanding_poll past (life_at past m) i) clock o)) is
    ∙ states-own past clock packet m i
    ∙ ap (λ (r : Result Statement SourceFault). (eqb (machine_of_packet packet) m && eqb (source_of_packet packet) i) && is_some (result_ok r)) e
    ∙ and_false (eqb (machine_of_packet packet) m && eqb (source_of_packet packet) i)))
taken-lies past at p clock packet lies table is hk hs keeps (Ok statement) e m i hm hi =
    ap (λ (o : Option Carried). lie_at (lies_taken lies o) m i) (carried-at past p packet is)
    ∙ by_test (eqb (machine_of_packet packet) m && eqb (source_of_packet packet) i) refl
  where
    lie : Bool
    lie = is_lying (origin_of past p)

    states : (b : Bool) → (eqb (machine_of_packet packet) m && eqb (source_of_packet packet) i) ≡ b
        → is_some (stated_by past (life_at past m) i (outstanding_poll past (life_at past m) i) (Deliver p clock)) ≡ b
    states b f =
        ap (λ (o : Option Packet). is_some (stated_in past (life_at past m) i (outstanding_poll past (life_at past m) i) clock o)) is
        ∙ states-own past clock packet m i
        ∙ ap (λ (r : Result Statement SourceFault). (eqb (machine_of_packet packet) m && eqb (source_of_packet packet) i) && is_some (result_ok r)) e
        ∙ and_true (eqb (machine_of_packet packet) m && eqb (source_of_packet packet) i)
        ∙ f

    by_test : (b : Bool) → (eqb (machine_of_packet packet) m && eqb (source_of_packet packet) i) ≡ b
        → lie_at (written lies (machine_of_packet packet) (source_of_packet packet) (is_lying (origin_of past p))) m i ≡ is_false_statement (after_action past at (Deliver p clock)) (life_at past m) i
    by_test true f =
        let parts = and_parts (eqb (machine_of_packet packet) m) (eqb (source_of_packet packet) i) f in
        ap₂ (λ (j k : ℕ). lie_at (written lies (machine_of_packet packet) (source_of_packet packet) (is_lying (origin_of past p))) j k) (sym (eqb-true _ m parts.0)) (sym (eqb-true _ i parts.1))
        ∙ cell-here false lies (machine_of_packet packet) (source_of_packet packet) (is_lying (origin_of past p)) table.machines table.sources hk hs
        ∙ sym (is_false-more past (record { at = at; action = Deliver p clock }) (life_at past m) i true (states true f))
    by_test false f =
        cell-other false lies (machine_of_packet packet) (source_of_packet packet) (is_lying (origin_of past p)) table.machines hk m i f
        ∙ keeps m i hm hi
        ∙ sym (is_false-more past (record { at = at; action = Deliver p clock }) (life_at past m) i false (states false f))

delivered-lies : (past : List Event) (at p clock : ℕ) (lies : List (List Bool)) → IsTable lies → ((packet : Packet) → slice_get (packets_of past) p ≡ Some packet → (machine_of_packet packet < 8) × (source_of_packet packet < 16))
    → KeepsLies past past lies → (o : Option Packet) → slice_get (packets_of past) p ≡ o → not (can_be_delivered o) ≡ false
    → KeepsLies past (after_action past at (Deliver p clock)) (lies_taken lies (taken_in (carried_of past) (Deliver p clock) (reply_to_packet past clock o)))
delivered-lies past at p clock lies table routed keeps None is there = absurd cc
delivered-lies past at p clock lies table routed keeps (Some packet) is there =
    taken-lies past at p clock packet lies table is (routed packet is).0 (routed packet is).1 keeps (made past clock packet) refl

-- an event that states nothing
unstated-lies : (past : List Event) (at : ℕ) (action : Action) (lies : List (List Bool)) → ((m i : ℕ) → is_some (stated_by past (life_at past m) i (outstanding_poll past (life_at past m) i) action) ≡ false)
    → KeepsLies past past lies → KeepsLies past (after_action past at action) lies
unstated-lies past at action lies none keeps m i hm hi =
    keeps m i hm hi ∙ sym (is_false-more past (record { at = at; action = action }) (life_at past m) i false (none m i))

-- what is kept after an event
pub lies-more : (configs : List Configuration) (past : List Event) (at : ℕ) (action : Action) (lies : List (List Bool)) → IsTable lies
    → ((p : ℕ) (packet : Packet) → slice_get (packets_of past) p ≡ Some packet → (machine_of_packet packet < 8) × (source_of_packet packet < 16))
    → lacks_packet (packets_of past) action ≡ false → IsRestartable action → KeepsLies past past lies
    → KeepsLies (after_action past at action) (after_action past at action) (lies_taken (lies_begun lies action) (taken_in (carried_of past) action (reply_to configs past action)))
lies-more configs past at (Deliver p clock) lies table routed there here keeps = delivered-lies past at p clock lies table (routed p) keeps (slice_get (packets_of past) p) refl there
lies-more configs past at (Restart machine clock) lies table routed there here keeps = restarted-lies past at lies machine clock table.machines here keeps
lies-more configs past at (Send machine source clock) lies table routed there here keeps = unstated-lies past at (Send machine source clock) lies (λ m i. refl) keeps
lies-more configs past at (Answer packet span) lies table routed there here keeps = unstated-lies past at (Answer packet span) lies (λ m i. refl) keeps
lies-more configs past at (Forge machine source payload) lies table routed there here keeps = unstated-lies past at (Forge machine source payload) lies (λ m i. refl) keeps
lies-more configs past at (Fuse machine clock) lies table routed there here keeps = unstated-lies past at (Fuse machine clock) lies (λ m i. refl) keeps
lies-more configs past at (Read machine worker clock publication) lies table routed there here keeps = unstated-lies past at (Read machine worker clock publication) lies (λ m i. refl) keeps
lies-more configs past at (Arrive machine worker id floor) lies table routed there here keeps = unstated-lies past at (Arrive machine worker id floor) lies (λ m i. refl) keeps
lies-more configs past at (Stamp machine worker) lies table routed there here keeps = unstated-lies past at (Stamp machine worker) lies (λ m i. refl) keeps
lies-more configs past at (Queue machine worker) lies table routed there here keeps = unstated-lies past at (Queue machine worker) lies (λ m i. refl) keeps
lies-more configs past at (Lease machine lease) lies table routed there here keeps = unstated-lies past at (Lease machine lease) lies (λ m i. refl) keeps
lies-more configs past at (Release machine worker) lies table routed there here keeps = unstated-lies past at (Release machine worker) lies (λ m i. refl) keeps

table-taken : (lies : List (List Bool)) (o : Option Carried) → IfSome o IsRoute → IsTable lies → IsTable (lies_taken lies o)
table-taken lies None there table = table
table-taken lies (Some packet) there table = record {
  machines = rows-written lies packet.machine packet.source packet.is_lie table.machines;
  sources = cells-written lies packet.machine packet.source packet.is_lie table.machines table.sources there.0;
}

table-begun : (lies : List (List Bool)) (action : Action) → IsRestartable action → IsTable lies → IsTable (lies_begun lies action)
table-begun lies (Restart machine clock) here table = record {
  machines = length-set lies machine (replicate 16 false) ∙ table.machines;
  sources = λ m hm. elim (cases_eq machine m) [
    | inl same ↦ ap (λ (row : List Bool). length row) (get_or-set_at lies machine m (replicate 16 false) [] (sym same) (omega (arith, table.machines))) ∙ length-replicate {A = Bool} 16 false
    | inr other ↦ ap (λ (row : List Bool). length row) (get_or-set_other lies machine m (replicate 16 false) [] (λ e. other (sym e))) ∙ table.sources m hm
  ];
}
table-begun lies _ here table = table

pub table-more : (lies : List (List Bool)) (action : Action) (o : Option Carried) → IsRestartable action → IfSome o IsRoute → IsTable lies → IsTable (lies_taken (lies_begun lies action) o)
table-more lies action o here there table = table-taken (lies_begun lies action) o there (table-begun lies action here table)
