-- A machine that a packet reaches keeps what its past says.
use Rattle.std.proofs.Common.{◌≡◌, ℕ, ◌<◌, Bool, true, false, cond, eqb, ltb, ◌&&◌, List, ◌∷◌, map, length, get_or, set, slice_get, is_some, Option, Some, None, Result, Ok, Err, inl, inr, refl, sym, ap, ap₂, subst, ◌∙◌, arith, lt-ltb, eq-eqb, ne_eqb}
use Rattle.std.specs.List.{range_with_len}
use Rattle.std.specs.Result.{result_ok}
use Rattle.std.proofs.lemmas.Bool.{cases_eq}
use Rattle.std.proofs.lemmas.List.FromFn.{length-map-range_with_len}
use Rattle.tt_poll.specs.Reading.{read_of2}
use Rattle.tt_poll.specs.declared.faults.PollFault.{PollFault}
use Rattle.tt_poll.specs.declared.messages.Message2.{Message2}
use Rattle.tt_source.specs.Statement.{Statement}
use Rattle.tt_source.specs.Table.{SourceState, TableState, unknown_source, source_at, is_back, statement_of_message, after_statement, take_of}
use Rattle.tt_source.specs.declared.faults.SourceFault.{SourceFault}
use Rattle.tt_world.proofs.Simulation.Lives.{is_of-own, is_of-other}
use Rattle.tt_world.specs.Life.{Life, life_of, life_at, is_of}
use Rattle.tt_world.specs.declared.events.Event.{Event}
use Rattle.tt_world.specs.declared.events.Action.TheVariants.{Deliver}
use Rattle.tt_world.specs.declared.packets.Packet.{Packet}
use Rattle.tt_daemon.specs.Config.{Configuration}
use Rattle.tt_world.specs.Packet.{machine_of_packet, source_of_packet, bytes_of}
use Rattle.tt_world.specs.Past.{sends_of, packets_of, clock_of}
use Rattle.tt_world.specs.Sources.{outstanding_poll}
use Rattle.tt_world.specs.Publications.{publications_of}
use Rattle.tt_world.specs.Reply.{delivery_reply}
use Rattle.tt_world.specs.Private.Machine.{MachineState, polled_clock_of, source_of, machine_of}
use Rattle.tt_world.specs.Private.Step.{take_turn}
use Rattle.tt_world.proofs.Simulation.Ranges.{get_or-made, set-made, map-same}
use Rattle.tt_world.proofs.Simulation.Waiting.{happens}
use Rattle.tt_world.proofs.Simulation.Kept.{kept, after_delivery, machine_of-deliver, machine_if_delivered}

pub take_of-taken : (table : TableState) (i clock : ℕ) (bytes : List ℕ) → ltb i (length table.sources) ≡ true → is_back table clock ≡ false
    → take_of table i clock bytes ≡ after_statement table i clock (statement_of_message table.machine table.epoch i (source_at table i).waiting clock (read_of2 bytes))
take_of-taken table i clock bytes there in_time = rw (there, in_time) refl

module _ (config : Configuration) (past : List Event) (life : Life) (s clock : ℕ) (message : Result Message2 PollFault) where
  -- what the message states for source i, if the poll of it waits
  abbrev stated_for : ℕ → Result Statement SourceFault
  stated_for i = statement_of_message life.machine life.number i (outstanding_poll past life i) clock message

  -- machine j after a message of source s of the machine, where here says whether it is in this life, and from whether a source is source s
  abbrev pub machine_if_reached : Life → Bool → (ℕ → Bool) → MachineState
  machine_if_reached j here from =
      kept (machine_of config past j) (sends_of past j)
      (cond (is_some (cond (here && from s) (result_ok (statement_of_message j.machine j.number s (outstanding_poll past j s) clock message)) None)) clock (polled_clock_of past j))
      (map (λ i. after_delivery config past (cond (here && from i) (result_ok (statement_of_message j.machine j.number i (outstanding_poll past j i) clock message)) None) (source_of past j i)) (range_with_len 0 config.sources))
      (cond here clock (clock_of past j)) (publications_of config past j)

  -- a source after the message, where from says whether it is the source that the message is from, which made this statement
  abbrev if_from : ℕ → Option Statement → Bool → SourceState
  if_from i stated from = after_delivery config past (cond from stated None) (source_of past life i)

  if_from-none : (i : ℕ) (from : Bool) → if_from i None from ≡ source_of past life i
  if_from-none i true = refl
  if_from-none i false = refl

  -- where the message states nothing, each source stays as it was
  sources_if_refused : (e : SourceFault) → stated_for s ≡ Err e
      → map (λ i. source_of past life i) (range_with_len 0 config.sources) ≡ map (λ i. if_from i (result_ok (stated_for i)) (eqb s i)) (range_with_len 0 config.sources)
  sources_if_refused e is =
      map-same (λ i. source_of past life i) (λ i. if_from i (result_ok (stated_for i)) (eqb s i)) config.sources
      (λ i. elim (cases_eq s i) [
        | inl same ↦
            subst (λ (j : ℕ). source_of past life j ≡ if_from j (result_ok (stated_for j)) (eqb s j)) same
            (sym (ap (λ (r : Result Statement SourceFault). if_from s (result_ok r) (eqb s s)) is ∙ if_from-none s (eqb s s)))
        | inr other ↦ sym (ap (if_from i (result_ok (stated_for i))) (ne_eqb s i other))
      ])

  sources_if_taken : (statement : Statement) → stated_for s ≡ Ok statement
      → set (map (λ i. source_of past life i) (range_with_len 0 config.sources)) s (record { waiting = None; statement = Some statement })
      ≡ map (λ i. if_from i (result_ok (stated_for i)) (eqb s i)) (range_with_len 0 config.sources)
  sources_if_taken statement is =
      set-made (λ i. source_of past life i) (λ i. if_from i (result_ok (stated_for i)) (eqb s i)) config.sources s (record { waiting = None; statement = Some statement })
      (sym (ap (λ (r : Result Statement SourceFault). if_from s (result_ok r) (eqb s s)) is ∙ ap (if_from s (Some statement)) (eq-eqb s s refl)))
      (λ j other. sym (ap (if_from j (result_ok (stated_for j))) (ne_eqb s j (λ same. other (sym same)))))

  -- the machine with this reading at its last poll or taking, and these sources
  abbrev with_sources : ℕ → List SourceState → MachineState
  with_sources polled sources = kept (machine_of config past life) (sends_of past life) polled sources clock (publications_of config past life)

  polled_by_message : (made : Result Statement SourceFault) → stated_for s ≡ made
      → cond (is_some (result_ok made)) clock (polled_clock_of past life) ≡ cond (is_some (cond (eqb s s) (result_ok (stated_for s)) None)) clock (polled_clock_of past life)
  polled_by_message made is =
      sym (ap (λ (b : Bool). cond (is_some (cond b (result_ok (stated_for s)) None)) clock (polled_clock_of past life)) (eq-eqb s s refl)
      ∙ ap (λ (r : Result Statement SourceFault). cond (is_some (result_ok r)) clock (polled_clock_of past life)) is)

  take_turn-by : (made : Result Statement SourceFault) → stated_for s ≡ made
      → take_turn (machine_of config past life) clock (after_statement (machine_of config past life).daemon.table s clock made)
      ≡ record { state = machine_if_reached life true (λ i. eqb s i); reply = delivery_reply made }
  take_turn-by (Ok statement) is =
      ap₂ (λ (polled : ℕ) (sources : List SourceState). record { state = with_sources polled sources; reply = delivery_reply (Ok statement) })
      (polled_by_message (Ok statement) is) (sources_if_taken statement is)
  take_turn-by (Err e) is =
      ap₂ (λ (polled : ℕ) (sources : List SourceState). record { state = with_sources polled sources; reply = delivery_reply (Err e) })
      (polled_by_message (Err e) is) (sources_if_refused e is)

module _ (config : Configuration) (past : List Event) (at k clock : ℕ) (p : Packet) (is : slice_get (packets_of past) k ≡ Some p) where
  -- the life that its machine is in
  abbrev life : Life
  life = life_at past (machine_of_packet p)

  machine_of-reached : (j : Life)
      → machine_of config (happens at (Deliver k clock) ∷ past) j
      ≡ machine_if_reached config past life (source_of_packet p) clock (read_of2 (bytes_of p)) j (is_of past j (machine_of_packet p)) (λ i. eqb (source_of_packet p) i)
  machine_of-reached j = machine_of-deliver config past at k clock j ∙ ap (machine_if_delivered config past clock j) is

  -- what the packet states, if the poll that waits is its own
  abbrev stated : Result Statement SourceFault
  stated = statement_of_message (machine_of_packet p) (life_of past (machine_of_packet p)) (source_of_packet p) (outstanding_poll past life (source_of_packet p)) clock (read_of2 (bytes_of p))

  pub take_turn-take_of : source_of_packet p < config.sources → is_back (machine_of config past life).daemon.table clock ≡ false
      → take_turn (machine_of config past life) clock (take_of (machine_of config past life).daemon.table (source_of_packet p) clock (bytes_of p))
      ≡ record { state = machine_of config (happens at (Deliver k clock) ∷ past) life; reply = delivery_reply stated }
  take_turn-take_of there in_time =
      let m = machine_of_packet p in
      let s = source_of_packet p in
      let machine = machine_of config past life in
      let known : get_or machine.daemon.table.sources s unknown_source ≡ source_of past life s = get_or-made (λ i. source_of past life i) config.sources s unknown_source there in
      let length_is : ltb s (length machine.daemon.table.sources) ≡ true = lt-ltb s _ (omega (arith, length-map-range_with_len (λ i. source_of past life i) 0 config.sources)) in
      ap (take_turn machine clock) (take_of-taken machine.daemon.table s clock (bytes_of p) length_is in_time)
      ∙ ap (λ (source : SourceState). take_turn machine clock (after_statement machine.daemon.table s clock (statement_of_message m (life_of past m) s source.waiting clock (read_of2 (bytes_of p))))) known
      ∙ take_turn-by config past life s clock (read_of2 (bytes_of p)) stated refl
      ∙ ap (λ (b : Bool). record { state = machine_if_reached config past life s clock (read_of2 (bytes_of p)) life b (λ i. eqb s i); reply = delivery_reply stated }) (sym (is_of-own past m))
      ∙ ap (λ (t : MachineState). record { state = t; reply = delivery_reply stated }) (sym (machine_of-reached life))

  pub machine_of-deliver_other : (j : ℕ) → (j ≡ machine_of_packet p → ⊥) → machine_of config past (life_at past j) ≡ machine_of config (happens at (Deliver k clock) ∷ past) (life_at past j)
  machine_of-deliver_other j other =
      sym (machine_of-reached (life_at past j)
      ∙ ap (λ (b : Bool). machine_if_reached config past life (source_of_packet p) clock (read_of2 (bytes_of p)) (life_at past j) b (λ i. eqb (source_of_packet p) i))
      (is_of-other past (machine_of_packet p) j other))
