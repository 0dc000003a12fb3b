-- Which replies come to which events.
use Rattle.std.proofs.Common.{◌≡◌, ◌↔◌, ℕ, ◌<◌, Bool, true, false, cond, ◌&&◌, ◌||◌, not, eqb, List, is_some, Option, Some, None, Result, refl, subst, sym, arith}
use Rattle.std.specs.Prelude.{Ok, Err}
use Rattle.std.specs.Result.{result_ok}
use Rattle.std.proofs.lemmas.Bool.{and_parts, eqb-true, eq-eqb}
use Rattle.tt_span.specs.Interval.{Interval}
use Rattle.tt_poll.specs.Reading.{read_of2}
use Rattle.tt_source.specs.Statement.{Statement}
use Rattle.tt_source.specs.Table.{statement_of_message}
use Rattle.tt_source.specs.Fault.{number_of}
use Rattle.tt_source.specs.declared.faults.SourceFault.{SourceFault}
use Rattle.tt_source.specs.declared.faults.SourceFault.TheVariants.{NoSource, ClockBack, NoncesUsedUp, BadMessage, NotMine, OtherEpoch, NotOutstanding}
use Rattle.tt_stamp.specs.declared.faults.StampFault.{StampFault}
use Rattle.tt_stamp.specs.declared.faults.StampFault.TheVariants as stamp_fault
use Rattle.tt_stamp.specs.declared.faults.BookFault.{BookFault}
use Rattle.tt_stamp.specs.declared.faults.BookFault.TheVariants as book_fault
use Rattle.tt_world.specs.Lease.{lease_of}
use Rattle.tt_world.proofs.Simulation.Lives.{is_of-own, same_life-true}
use Rattle.tt_world.specs.Life.{Life, life_of, life_at, is_of}
use Rattle.tt_world.specs.declared.faults.WorldFault.{WorldFault}
use Rattle.tt_world.specs.declared.faults.WorldFault.TheVariants as bad
use Rattle.tt_world.specs.Fault.{bad_reply}
use Rattle.tt_world.specs.declared.events.Event.{Event}
use Rattle.tt_world.specs.declared.events.Action.{Action}
use Rattle.tt_world.specs.declared.events.Action.TheVariants.{Send, Answer, Forge, Deliver, Fuse, Read, Arrive, Stamp, Queue, Restart, Lease, Release}
use Rattle.tt_world.specs.declared.events.Reply.TheVariants.{Taken}
use Rattle.tt_world.specs.declared.packets.Packet.{Packet}
use Rattle.tt_publish.specs.declared.readings.FusedSpan.{FusedSpan}
use Rattle.tt_world.specs.declared.workers.Arrival.{Arrival}
use Rattle.tt_daemon.specs.Config.{Configuration}
use Rattle.tt_world.specs.Config.{config_at}
use Rattle.tt_world.specs.Packet.{machine_of_packet, source_of_packet, bytes_of}
use Rattle.tt_world.specs.Sources.{outstanding_poll, stated_in, stated_by}
use Rattle.tt_world.specs.Publications.{publication_from}
use Rattle.tt_world.specs.Commits.{arrival_of, reading_since, stamp_held, is_queued, task_with, stamps_of, stamping_after}
use Rattle.tt_world.specs.Bad.{can_be_delivered, is_arrived, first_bad, accepted}
use Rattle.tt_world.specs.Reply.{IsBadReply, delivery_reply, reply_to_packet, fusion_reply, stamping_reply, queueing_reply, reply_to, reply_unless_bad, reply_of, MakesStatement}
use Rattle.tt_world.proofs.Histories.Judging.{IsGood, good_of}

-- a number of a lower crate
few_number : (fault : SourceFault) → number_of fault < 1201
few_number NoSource = omega arith
few_number ClockBack = omega arith
few_number NoncesUsedUp = omega arith
few_number BadMessage = omega arith
few_number NotMine = omega arith
few_number OtherEpoch = omega arith
few_number NotOutstanding = omega arith

-- the reasons why an event can be bad
reason_of : (t u v w x y z : Bool) (fault : WorldFault)
    → cond t (Some bad.TimeBack) (cond u (Some bad.UnknownNumber) (cond v (Some bad.NoPacket) (cond w (Some bad.ClockBack) (cond x (Some bad.NoPublication) (cond y (Some bad.NothingThere) (cond z (Some bad.LivesUsedUp) None)))))) ≡ Some fault → IsBadReply (bad_reply fault)
reason_of true u v w x y z fault h = let e : bad.TimeBack ≡ fault = cc in subst (λ (f : WorldFault). IsBadReply (bad_reply f)) e (omega arith, omega arith)
reason_of false true v w x y z fault h = let e : bad.UnknownNumber ≡ fault = cc in subst (λ (f : WorldFault). IsBadReply (bad_reply f)) e (omega arith, omega arith)
reason_of false false true w x y z fault h = let e : bad.NoPacket ≡ fault = cc in subst (λ (f : WorldFault). IsBadReply (bad_reply f)) e (omega arith, omega arith)
reason_of false false false true x y z fault h = let e : bad.ClockBack ≡ fault = cc in subst (λ (f : WorldFault). IsBadReply (bad_reply f)) e (omega arith, omega arith)
reason_of false false false false true y z fault h = let e : bad.NoPublication ≡ fault = cc in subst (λ (f : WorldFault). IsBadReply (bad_reply f)) e (omega arith, omega arith)
reason_of false false false false false true z fault h = let e : bad.NothingThere ≡ fault = cc in subst (λ (f : WorldFault). IsBadReply (bad_reply f)) e (omega arith, omega arith)
reason_of false false false false false false true fault h = let e : bad.LivesUsedUp ≡ fault = cc in subst (λ (f : WorldFault). IsBadReply (bad_reply f)) e (omega arith, omega arith)
reason_of false false false false false false false fault h = absurd cc

reason_at : (configs : List Configuration) (past : List Event) (event : Event) (fault : WorldFault) → first_bad configs past event ≡ Some fault → IsBadReply (bad_reply fault)
reason_at configs past event fault is = reason_of _ _ _ _ _ _ _ fault is

-- ---- an accepted event has no bad reply

delivery-good : (r : Result Statement SourceFault) → ¬ IsBadReply (delivery_reply r)
delivery-good (Ok statement) h = h
delivery-good (Err fault) h = let few = few_number fault in omega (arith, few, h.0)

packet-good : (past : List Event) (clock : ℕ) (o : Option Packet) → not (can_be_delivered o) ≡ false → ¬ IsBadReply (reply_to_packet past clock o)
packet-good past clock None there h = absurd cc
packet-good past clock (Some packet) there h = delivery-good _ h

fusion-good : (count clock : ℕ) (few : Bool) (fused : Option Interval) → ¬ IsBadReply (fusion_reply count (cond few (Err 701) (publication_from clock fused)))
fusion-good count clock true fused h = omega (arith, h.0)
fusion-good count clock false None h = omega (arith, h.0)
fusion-good count clock false (Some span) h = h

stamping-good : (r : Result ℕ StampFault) → ¬ IsBadReply (stamping_reply (Some r))
stamping-good (Ok stamp) h = h
stamping-good (Err stamp_fault.UsedUp) h = omega (arith, h.0)
stamping-good (Err stamp_fault.LeaseOver) h = omega (arith, h.0)
stamping-good (Err stamp_fault.FloorTooFar) h = omega (arith, h.0)
stamping-good (Err stamp_fault.Seats) h = omega (arith, h.0)
stamping-good (Err stamp_fault.Memory) h = omega (arith, h.0)

asked-stamping-good : (given : List ℕ) (lease : Interval) (queued : Bool) (asked : Option Arrival) (held : Option ℕ) (since : Option Interval)
    → (not (is_arrived (cond queued None (task_with asked held))) || not (is_some since)) ≡ false → ¬ IsBadReply (stamping_reply (stamping_after given lease asked since))
asked-stamping-good given lease true asked held since there h = absurd cc
asked-stamping-good given lease false None held since there h = absurd cc
asked-stamping-good given lease false (Some arrival) (Some stamp) since there h = absurd cc
asked-stamping-good given lease false (Some arrival) None None there h = absurd cc
asked-stamping-good given lease false (Some arrival) None (Some reading) there h = stamping-good _ h

queueing-good : (o : Option BookFault) → ¬ IsBadReply (queueing_reply o)
queueing-good None h = h
queueing-good (Some book_fault.Full) h = omega (arith, h.0)
queueing-good (Some book_fault.IdThere) h = omega (arith, h.0)
queueing-good (Some book_fault.StampThere) h = omega (arith, h.0)
queueing-good (Some book_fault.Memory) h = omega (arith, h.0)

good_reply : (configs : List Configuration) (past : List Event) (at : ℕ) (action : Action) → IsGood configs past (record { at = at; action = action }) → ¬ IsBadReply (reply_to configs past action)
good_reply configs past at (Deliver k clock) good h = packet-good past clock _ good.packet_there h
good_reply configs past at (Fuse m clock) good h = fusion-good _ clock _ _ h
good_reply configs past at (Stamp m w) good h =
    let config = config_at configs m in
    let life = life_at past m in
    asked-stamping-good (stamps_of config past life) (lease_of past m) (is_queued config past life w) (arrival_of past life w) (stamp_held config past life w) (reading_since config past life w) good.thing_there h
good_reply configs past at (Queue m w) good h = queueing-good _ h
good_reply configs past at _ good h = h

by_reason : (configs : List Configuration) (past : List Event) (event : Event) (o : Option WorldFault) → first_bad configs past event ≡ o
    → (o ≡ None) ↔ (¬ IsBadReply (reply_unless_bad o (reply_to configs past event.action)))
by_reason configs past event None is = (λ e. good_reply configs past event.at event.action (good_of configs past event is), λ h. refl)
by_reason configs past event (Some fault) is = (λ e. absurd cc, λ h. absurd (h (reason_at configs past event fault is)))

pub accepted-reply : (configs : List Configuration) (past : List Event) (event : Event) → (first_bad configs (accepted configs past) event ≡ None) ↔ (¬ IsBadReply (reply_of configs past event))
accepted-reply configs past event = by_reason configs (accepted configs past) event _ refl

-- ---- what is taken

not_taken_fused : (count : ℕ) (made : Result FusedSpan ℕ) → fusion_reply count made ≡ Taken → ⊥
not_taken_fused count (Ok publication) h = cc
not_taken_fused count (Err number) h = cc

not_taken_stamped : (stamping : Option (Result ℕ StampFault)) → stamping_reply stamping ≡ Taken → ⊥
not_taken_stamped None h = cc
not_taken_stamped (Some (Ok stamp)) h = cc
not_taken_stamped (Some (Err fault)) h = cc

not_taken_queued : (fault : Option BookFault) → queueing_reply fault ≡ Taken → ⊥
not_taken_queued None h = cc
not_taken_queued (Some fault) h = cc

-- what an action states for some source after what has happened
abbrev States : List Event → Action → Type 0
States past action = (life : Life) × (i : ℕ) × (statement : Statement) × (stated_by past life i (outstanding_poll past life i) action ≡ Some statement)

stated-taken : (r : Result Statement SourceFault) → delivery_reply r ≡ Taken → (statement : Statement) × (result_ok r ≡ Some statement)
stated-taken (Ok statement) h = (statement, refl)
stated-taken (Err fault) h = absurd cc

taken-stated : (r : Result Statement SourceFault) (statement : Statement) → result_ok r ≡ Some statement → delivery_reply r ≡ Taken
taken-stated (Ok s) statement h = refl
taken-stated (Err fault) statement h = absurd cc

packet_states : (past : List Event) (clock : ℕ) (o : Option Packet) → reply_to_packet past clock o ≡ Taken
    → (life : Life) × (i : ℕ) × (statement : Statement) × (stated_in past life i (outstanding_poll past life i) clock o ≡ Some statement)
packet_states past clock None h = absurd cc
packet_states past clock (Some packet) h =
    let m = machine_of_packet packet in
    let life : Life = life_at past m in
    let i = source_of_packet packet in
    let s = stated-taken (statement_of_message m (life_of past m) i (outstanding_poll past life i) clock (read_of2 (bytes_of packet))) h in
    let same_machine : is_of past life m ≡ true = is_of-own past m in
    let same_source : eqb i i ≡ true = eq-eqb i i refl in
    (life, i, s.0, rw (same_machine, same_source) s.1)

only_if : (b : Bool) (o : Option Statement) (s : Statement) → cond b o None ≡ Some s → (b ≡ true) × (o ≡ Some s)
only_if true o s h = (refl, h)
only_if false o s h = absurd cc

states_packet : (past : List Event) (clock : ℕ) (o : Option Packet) (life : Life) (i : ℕ) (s : Statement) → stated_in past life i (outstanding_poll past life i) clock o ≡ Some s → reply_to_packet past clock o ≡ Taken
states_packet past clock None life i s h = absurd cc
states_packet past clock (Some packet) life i s h =
    let mine = only_if (is_of past life (machine_of_packet packet) && eqb (source_of_packet packet) i) _ s h in
    let here = and_parts (is_of past life (machine_of_packet packet)) (eqb (source_of_packet packet) i) mine.0 in
    at_own life i (same_life-true (life_at past (machine_of_packet packet)) life here.0) (eqb-true _ _ here.1) mine.1
  where
    at_own : (other : Life) (j : ℕ) → life_at past (machine_of_packet packet) ≡ other → source_of_packet packet ≡ j
        → result_ok (statement_of_message other.machine other.number j (outstanding_poll past other j) clock (read_of2 (bytes_of packet))) ≡ Some s
        → reply_to_packet past clock (Some packet) ≡ Taken
    at_own other j e f h =
        taken-stated _ s (subst (λ (k : Life). result_ok (statement_of_message k.machine k.number (source_of_packet packet) (outstanding_poll past k (source_of_packet packet)) clock (read_of2 (bytes_of packet))) ≡ Some s) (sym e)
        (subst (λ (n : ℕ). result_ok (statement_of_message other.machine other.number n (outstanding_poll past other n) clock (read_of2 (bytes_of packet))) ≡ Some s) (sym f) h))

taken_states : (configs : List Configuration) (past : List Event) (action : Action) → reply_to configs past action ≡ Taken → States past action
taken_states configs past (Send m s clock) h = absurd cc
taken_states configs past (Answer k span) h = absurd cc
taken_states configs past (Forge m s payload) h = absurd cc
taken_states configs past (Deliver k clock) h = packet_states past clock _ h
taken_states configs past (Fuse m clock) h = absurd (not_taken_fused _ _ h)
taken_states configs past (Read m w clock k) h = absurd cc
taken_states configs past (Arrive m w id floor) h = absurd cc
taken_states configs past (Stamp m w) h = absurd (not_taken_stamped _ h)
taken_states configs past (Queue m w) h = absurd (not_taken_queued _ h)
taken_states configs past (Restart m clock) h = absurd cc
taken_states configs past (Lease m lease) h = absurd cc
taken_states configs past (Release m w) h = absurd cc

states_taken : (configs : List Configuration) (past : List Event) (action : Action) → States past action → reply_to configs past action ≡ Taken
states_taken configs past (Deliver k clock) h = states_packet past clock _ h.0 h.1 h.2 h.3
states_taken configs past _ h = absurd (none h.2 h.3)
  where
    none : (s : Statement) → None ≡ Some s → ⊥
    none s h = cc

by_fault : (configs : List Configuration) (past : List Event) (action : Action) (o : Option WorldFault)
    → (reply_unless_bad o (reply_to configs past action) ≡ Taken) ↔ ((o ≡ None) × States past action)
by_fault configs past action None = (λ h. (refl, taken_states configs past action h), λ h. states_taken configs past action h.1)
by_fault configs past action (Some fault) = (λ h. absurd cc, λ h. absurd (none fault h.0))
  where
    none : (fault : WorldFault) → Some fault ≡ None → ⊥
    none fault h = cc

pub taken-makes : (configs : List Configuration) (past : List Event) (event : Event) → (reply_of configs past event ≡ Taken) ↔ MakesStatement configs past event
taken-makes configs past event = by_fault configs (accepted configs past) event.action (first_bad configs (accepted configs past) event)
