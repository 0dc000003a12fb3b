-- What a call on a machine that is there makes of a run.
use Rattle.std.proofs.Common.{◌≡◌, ℕ, ◌+◌, ◌<◌, ◌≤◌, true, false, List, [], ◌∷◌, ◌++◌, length, get_or, slice_get, slice_set, Option, Some, ap, subst, sym, ◌∙◌, append-nil, refl, ap₂}
use Rattle.std.proofs.lemmas.Option.{slice_get_read}
use Rattle.std.proofs.lemmas.Bool.{lt-ltb, le-ltb}
use Rattle.std.proofs.lemmas.List.{get_or_default, set-get_or}
use Rattle.tt_source.specs.Table.{TableState, poll_of, take_of}
use Rattle.tt_source.specs.declared.faults.SourceFault.{SourceFault}
use Rattle.std.specs.Prelude.{nat_lt, IsOk, Result, Ok, Err}
use Rattle.tt_source.specs.Fault.{number_of}
use Rattle.tt_world.specs.declared.faults.WorldFault.TheVariants as bad
use Rattle.tt_world.specs.declared.events.Reply.{Reply}
use Rattle.tt_world.specs.declared.events.Reply.TheVariants.{Sent, Refused}
use Rattle.tt_world.specs.declared.faults.WorldFault.{WorldFault}
use Rattle.tt_world.specs.declared.packets.Packet.{Packet}
use Rattle.tt_world.specs.declared.packets.Packet.TheVariants.{Asked}
use Rattle.tt_publish.specs.declared.readings.FusedSpan.{FusedSpan}
use Rattle.tt_daemon.specs.Daemon.{spans_of}
use Rattle.tt_world.specs.declared.machine_actions.MachineAction.{MachineAction}
use Rattle.tt_world.specs.Packet.{machine_of_packet, source_of_packet, bytes_of, is_asked}
use Rattle.tt_world.specs.Publications.{Showing, showing_of}
use Rattle.tt_world.specs.Reply.{TakesMemory}
use Rattle.tt_world.specs.State.{WorldState}
use Rattle.tt_world.specs.Private.Machine.{MachineState}
use Rattle.tt_world.specs.Private.Step.{Turn, Judged, IsRefusal, Does, is_back_on, send_on, after_poll, with_table, fuse_on, after_turn, turn_outcome, publish_turn, fusion_on, deliver_on, take_turn, machine_outcome, on_machine}

-- what is kept after a turn, by its parts
abbrev pub outcome : ℕ → List Packet → List MachineState → List Showing → Reply → Turn WorldState
outcome at packets machines shown reply = record { state = record { time = at; packets = packets; machines = machines; shown = shown }; reply = reply }

pub send_on-no_source : (world : WorldState) (at m i clock : ℕ) (machine : MachineState) → slice_get world.machines m ≡ Some machine → machine.daemon.config.sources ≤ i →
    send_on world at m i clock (slice_get world.machines m) ≡ Err bad.UnknownNumber
send_on-no_source world at m i clock machine e h = let t : nat_lt i machine.daemon.config.sources ≡ false = le-ltb _ _ h in rw (e, t) refl

pub send_on-back : (world : WorldState) (at m i clock : ℕ) (machine : MachineState) → slice_get world.machines m ≡ Some machine → i < machine.daemon.config.sources → is_back_on machine clock ≡ true →
    send_on world at m i clock (slice_get world.machines m) ≡ Err bad.ClockBack
send_on-back world at m i clock machine e h b = let t : nat_lt i machine.daemon.config.sources ≡ true = lt-ltb _ _ h in rw (e, t, b) refl

pub send_on-polled : (world : WorldState) (at m i clock : ℕ) (machine : MachineState) (r : Result TableState SourceFault) → slice_get world.machines m ≡ Some machine → i < machine.daemon.config.sources →
    is_back_on machine clock ≡ false → poll_of machine.daemon.table i clock ≡ r →
    send_on world at m i clock (slice_get world.machines m) ≡ Ok (after_poll world at m i clock machine r)
send_on-polled world at m i clock machine r e h b p = let t : nat_lt i machine.daemon.config.sources ≡ true = lt-ltb _ _ h in rw (e, t, b, p) refl

-- what a machine shows when it fuses
abbrev pub shows : ℕ → ℕ → MachineState → List Showing
shows m clock machine = showing_of (record { machine = m; number = machine.life }) (length machine.publications + 1) (spans_of machine.daemon clock) machine.daemon.config.faulty (fusion_on machine clock)

fuse_on-made : (world : WorldState) (at m clock : ℕ) (machine : MachineState) (turn : Turn MachineState) → slice_get world.machines m ≡ Some machine → is_back_on machine clock ≡ false →
    turn ≡ publish_turn machine clock (fusion_on machine clock) →
    fuse_on world at m clock (slice_get world.machines m) ≡ Ok (outcome at (world.packets ++ []) (slice_set world.machines m turn.state) (world.shown ++ shows m clock machine) turn.reply)
fuse_on-made world at m clock machine turn e b p = rw (e, b, p) refl

-- two reads of one place give one value
pub same_item : {A : Type 0} (xs : List A) (p : ℕ) (x y : A) → p < length xs → x ≡ get_or xs p x → y ≡ get_or xs p y → x ≡ y
same_item xs p x y h e f = e ∙ get_or_default xs p x y h ∙ sym f

-- the machine that was looked up at another spelling of its number
pub found_at : (machines : List MachineState) (p m : ℕ) (machine : MachineState) → p ≡ m → p < length machines → machine ≡ get_or machines p machine → slice_get machines m ≡ Some machine
found_at machines p m machine same inside e =
    subst (λ (q : ℕ). slice_get machines q ≡ Some machine) same (slice_get_read machines (length machines) p machine refl inside e)

-- a turn in which no packet was put
pub after_turn-nothing : (world : WorldState) (at m p : ℕ) (machine : MachineState) (reply : Reply) → p ≡ m →
    after_turn world at m (record { state = machine; reply = reply }) []
    ≡ outcome at world.packets (slice_set world.machines p machine) world.shown reply
after_turn-nothing world at m p machine reply same =
    ap (λ (packets : List Packet). outcome at packets (slice_set world.machines m machine) world.shown reply) (append-nil world.packets)
    ∙ ap (λ (q : ℕ). outcome at world.packets (slice_set world.machines q machine) world.shown reply) (sym same)

-- a fusion
pub fuse_on-fused : (world : WorldState) (at m p clock : ℕ) (machine next : MachineState) (reply : Reply) (shown : List Showing) → slice_get world.machines m ≡ Some machine → is_back_on machine clock ≡ false →
    record { state = next; reply = reply } ≡ publish_turn machine clock (fusion_on machine clock) → shown ≡ world.shown ++ shows m clock machine → p ≡ m →
    fuse_on world at m clock (slice_get world.machines m) ≡ Ok (outcome at world.packets (slice_set world.machines p next) shown reply)
fuse_on-fused world at m p clock machine next reply shown found forward turn showing same =
    fuse_on-made world at m clock machine (record { state = next; reply = reply }) found forward turn
    ∙ ap (λ (made : Turn WorldState). Ok made)
    (ap (λ (ps : List Packet). outcome at ps (slice_set world.machines m next) (world.shown ++ shows m clock machine) reply) (append-nil world.packets)
    ∙ ap (λ (s : List Showing). outcome at world.packets (slice_set world.machines m next) s reply) (sym showing)
    ∙ ap (λ (q : ℕ). outcome at world.packets (slice_set world.machines q next) shown reply) (sym same))

-- a turn in which a packet was put
pub after_turn-put : (world : WorldState) (at m p : ℕ) (machine : MachineState) (reply : Reply) (packets : List Packet) (packet : Packet) → p ≡ m → packets ≡ world.packets ++ packet ∷ [] →
    after_turn world at m (record { state = machine; reply = reply }) (packet ∷ [])
    ≡ outcome at packets (slice_set world.machines p machine) world.shown reply
after_turn-put world at m p machine reply packets packet same e =
    ap (λ (ps : List Packet). outcome at ps (slice_set world.machines m machine) world.shown reply) (sym e)
    ∙ ap (λ (q : ℕ). outcome at packets (slice_set world.machines q machine) world.shown reply) (sym same)

-- a poll was sent
pub send_on-sent : (world : WorldState) (at m p i clock number nonce epoch : ℕ) (machine next : MachineState) (packets : List Packet) → slice_get world.machines m ≡ Some machine → i < machine.daemon.config.sources →
    is_back_on machine clock ≡ false → poll_of machine.daemon.table i clock ≡ Ok next.daemon.table → next ≡ with_table machine clock next.daemon.table → nonce ≡ next.daemon.table.last → epoch ≡ next.daemon.table.epoch → number ≡ length world.packets →
    packets ≡ world.packets ++ Asked (record { machine = m; source = i; nonce = nonce; epoch = epoch }) ∷ [] → p ≡ m →
    send_on world at m i clock (slice_get world.machines m) ≡ Ok (outcome at packets (slice_set world.machines p next) world.shown (Sent number))
send_on-sent world at m p i clock number nonce epoch machine next packets found source forward polled same_next same_nonce same_epoch count put same =
    send_on-polled world at m i clock machine (Ok next.daemon.table) found source forward polled
    ∙ ap (λ (made : Turn WorldState). Ok made)
    (ap (λ (x : MachineState). after_turn world at m (record { state = x; reply = Sent (length world.packets) }) (Asked (record { machine = m; source = i; nonce = next.daemon.table.last; epoch = next.daemon.table.epoch }) ∷ [])) (sym same_next)
    ∙ ap₂ (λ (k e : ℕ). after_turn world at m (record { state = next; reply = Sent (length world.packets) }) (Asked (record { machine = m; source = i; nonce = k; epoch = e }) ∷ [])) (sym same_nonce) (sym same_epoch)
    ∙ ap (λ (k : ℕ). after_turn world at m (record { state = next; reply = Sent k }) (Asked (record { machine = m; source = i; nonce = nonce; epoch = epoch }) ∷ [])) (sym count)
    ∙ after_turn-put world at m p next (Sent number) packets (Asked (record { machine = m; source = i; nonce = nonce; epoch = epoch })) same put)

-- a poll was refused
pub send_on-refused : (world : WorldState) (at m p i clock number : ℕ) (machine next : MachineState) (fault : SourceFault) → slice_get world.machines m ≡ Some machine → i < machine.daemon.config.sources →
    is_back_on machine clock ≡ false → poll_of machine.daemon.table i clock ≡ Err fault → next ≡ record machine { clock = clock } → number ≡ number_of fault → p ≡ m →
    send_on world at m i clock (slice_get world.machines m) ≡ Ok (outcome at world.packets (slice_set world.machines p next) world.shown (Refused number))
send_on-refused world at m p i clock number machine next fault found source forward polled same_next count same =
    send_on-polled world at m i clock machine (Err fault) found source forward polled
    ∙ ap (λ (made : Turn WorldState). Ok made)
    (ap (λ (x : MachineState). after_turn world at m (record { state = x; reply = Refused (number_of fault) }) []) (sym same_next)
    ∙ ap (λ (k : ℕ). after_turn world at m (record { state = next; reply = Refused k }) []) (sym count)
    ∙ after_turn-nothing world at m p next (Refused number) same)

pub deliver_on-taken : (world : WorldState) (at p clock : ℕ) (packet : Packet) (machine next : MachineState) (reply : Reply) → is_asked packet ≡ false → slice_get world.machines (machine_of_packet packet) ≡ Some machine →
    is_back_on machine clock ≡ false → record { state = next; reply = reply } ≡ take_turn machine clock (take_of machine.daemon.table (source_of_packet packet) clock (bytes_of packet)) → p ≡ machine_of_packet packet →
    deliver_on world at clock (Some packet) ≡ Ok (outcome at world.packets (slice_set world.machines p next) world.shown reply)
deliver_on-taken world at p clock packet machine next reply asked e b turn same =
    rw (asked, e, b) (ap (λ (made : Turn WorldState). Ok made) (ap (λ (t : Turn MachineState). after_turn world at (machine_of_packet packet) t []) (sym turn) ∙ after_turn-nothing world at (machine_of_packet packet) p next reply same))

-- a machine took its turn
pub on_machine-turned : (world : WorldState) (at m p : ℕ) (machine_action : MachineAction) (machine next : MachineState) (reply : Reply) → slice_get world.machines m ≡ Some machine →
    machine_outcome m machine machine_action ≡ Ok (record { state = next; reply = reply }) → p ≡ m →
    on_machine world at m machine_action (slice_get world.machines m) ≡ Ok (outcome at world.packets (slice_set world.machines p next) world.shown reply)
on_machine-turned world at m p machine_action machine next reply found turn same =
    rw found (ap (turn_outcome world at m) turn ∙ ap (λ (made : Turn WorldState). Ok made) (after_turn-nothing world at m p next reply same))

-- what a machine refused, the run refuses
turned-refused : (world : WorldState) (at m : ℕ) (judged : Judged MachineState) (fault : WorldFault) → IsRefusal TakesMemory fault judged → IsRefusal TakesMemory fault (turn_outcome world at m judged)
turned-refused world at m (Ok turn) bad.Memory refusal = refusal
turned-refused world at m (Err other) bad.Memory refusal = refusal
turned-refused world at m judged fault refusal = ap (turn_outcome world at m) refusal

-- a machine refused
pub on_machine-refused : (world new : WorldState) (at m : ℕ) (machine_action : MachineAction) (machine : MachineState) (fault : WorldFault) (answer : Result Reply WorldFault) → answer ≡ Err fault → slice_get world.machines m ≡ Some machine →
    IsRefusal TakesMemory fault (machine_outcome m machine machine_action) → new ≡ world → Does TakesMemory (on_machine world at m machine_action (slice_get world.machines m)) world answer new
on_machine-refused world new at m machine_action machine fault answer none found refusal same =
    subst (λ (r : Result Reply WorldFault). Does TakesMemory (on_machine world at m machine_action (slice_get world.machines m)) world r new) (sym none)
    (same, subst (λ (o : Option MachineState). IsRefusal TakesMemory fault (on_machine world at m machine_action o)) (sym found) (turned-refused world at m (machine_outcome m machine machine_action) fault refusal))

-- ---- what is not bad

-- a machine that is put back as it was found
pub put_back : (machines : List MachineState) (p : ℕ) (found next : MachineState) → found ≡ get_or machines p found → next ≡ found → slice_set machines p next ≡ machines
put_back machines p found next at same = ap (slice_set machines p) (same ∙ at) ∙ set-get_or machines p found

-- an allocation that failed leaves everything
pub Does-memory : (wants : Reply → Type 0) (judged : Judged WorldState) (old new : WorldState) (answer : Result Reply WorldFault) → answer ≡ Err bad.Memory → new ≡ old → IsRefusal wants bad.Memory judged → Does wants judged old answer new
Does-memory wants judged old new answer none same refusal = subst (λ (r : Result Reply WorldFault). Does wants judged old r new) (sym none) (same, refusal)

-- the reply of a fusion that was made
TakesMemory-publish_turn : (machine : MachineState) (clock : ℕ) (made : Result FusedSpan ℕ) → IsOk made → TakesMemory (publish_turn machine clock made).reply
TakesMemory-publish_turn machine clock (Ok publication) h = tt
TakesMemory-publish_turn machine clock (Err number) h = absurd cc

pub TakesMemory-fuse_on : (world : WorldState) (at m clock : ℕ) (machine : MachineState) → slice_get world.machines m ≡ Some machine → is_back_on machine clock ≡ false → IsOk (fusion_on machine clock) →
    IsRefusal TakesMemory bad.Memory (fuse_on world at m clock (slice_get world.machines m))
TakesMemory-fuse_on world at m clock machine found forward made =
    rw (found, forward) (TakesMemory-publish_turn machine clock (fusion_on machine clock) made)
