-- What the replies to commits say: a stamp is the least by the last reading since the commit was asked for, and what is released is below the last reading.
use Rattle.std.proofs.Common.{◌≡◌, ℕ, ◌<◌, Bool, true, false, cond, ltb, List, [], ◌∷◌, length, map, filter, Option, Some, None, Result, Ok, Err, refl, ap, subst, sym, arith}
use Rattle.std.specs.Prelude.{slice_get, Contains}
use Rattle.std.proofs.lemmas.List.Elements.{All-contains}
use Rattle.tt_span.specs.Interval.{Interval}
use Rattle.tt_poll.specs.Reading.{read_of2}
use Rattle.tt_source.specs.Statement.{Statement}
use Rattle.tt_source.specs.Table.{statement_of_message}
use Rattle.tt_source.specs.declared.faults.SourceFault.{SourceFault}
use Rattle.tt_stamp.specs.declared.commits.Id.{Id}
use Rattle.tt_stamp.specs.declared.commits.Receipt.{Receipt}
use Rattle.tt_stamp.specs.declared.commits.Entry.{Entry}
use Rattle.tt_stamp.specs.declared.faults.StampFault.{StampFault}
use Rattle.tt_stamp.specs.declared.faults.BookFault.{BookFault}
use Rattle.tt_stamp.specs.Stamp.{IsAnswer, stamp_of}
use Rattle.tt_stamp.specs.History.{waiting_of, release_of}
use Rattle.tt_stamp.proofs.Laws.{IsAnswer-stamp_of, IsRelease-release_of}
use Rattle.tt_world.specs.Lease.{lease_of}
use Rattle.tt_world.specs.Life.{life_of, life_at}
use Rattle.tt_world.specs.declared.faults.WorldFault.{WorldFault}
use Rattle.tt_world.specs.declared.events.Event.{Event}
use Rattle.tt_world.specs.declared.events.Action.{Action}
use Rattle.tt_world.specs.declared.events.Action.TheVariants as does
use Rattle.tt_world.specs.declared.events.Reply.{Reply}
use Rattle.tt_world.specs.declared.events.Reply.TheVariants.{Arrived, Stamped, Released}
use Rattle.tt_world.specs.declared.packets.Packet.{Packet}
use Rattle.tt_publish.specs.declared.readings.FusedSpan.{FusedSpan}
use Rattle.tt_world.specs.declared.workers.Arrival.{Arrival}
use Rattle.tt_daemon.specs.Config.{Configuration}
use Rattle.tt_world.specs.Config.{config_at}
use Rattle.tt_world.specs.Packet.{machine_of_packet, source_of_packet, bytes_of}
use Rattle.tt_world.specs.Past.{packets_of}
use Rattle.tt_world.specs.Sources.{outstanding_poll}
use Rattle.tt_world.specs.Publications.{fusion_of, publications_of}
use Rattle.tt_world.specs.Commits.{arrival_of, reading_of, reading_since, stamping_after, stamps_of, stamping_of, book_of, queueing_of, released_with}
use Rattle.tt_world.specs.Bad.{first_bad, accepted}
use Rattle.tt_world.specs.Reply.{delivery_reply, reply_to_packet, fusion_reply, stamping_reply, queueing_reply, reply_to, reply_unless_bad, reply_of}
use Rattle.tt_world.specs.Headline.{IsLeastFor}

-- ---- commits that are asked for

arrived_not_bad : (reason : Option WorldFault) (reply : Reply) → reply_unless_bad reason reply ≡ Arrived → reason ≡ None
arrived_not_bad None reply h = refl
arrived_not_bad (Some number) reply h = absurd cc

-- an event by which a commit was asked for is not bad
pub arrival_not_bad : (configs : List Configuration) (past : List Event) (event : Event) → reply_of configs past event ≡ Arrived → first_bad configs (accepted configs past) event ≡ None
arrival_not_bad configs past event h = arrived_not_bad (first_bad configs (accepted configs past) event) (reply_to configs (accepted configs past) event.action) h

-- ---- stamps

stamped_not_bad : (reason : Option WorldFault) (reply : Reply) (s : ℕ) → reply_unless_bad reason reply ≡ Stamped s → reply ≡ Stamped s
stamped_not_bad None reply s h = h
stamped_not_bad (Some number) reply s h = absurd cc

stamping_made : (stamping : Option (Result ℕ StampFault)) (s : ℕ) → stamping_reply stamping ≡ Stamped s → stamping ≡ Some (Ok s)
stamping_made None s h = absurd cc
stamping_made (Some (Ok stamp)) s h = ap (λ (n : ℕ). Some (Ok n)) (same_stamp stamp s h)
  where
    same_stamp : (a b : ℕ) → Stamped a ≡ Stamped b → a ≡ b
    same_stamp a b h = cc
stamping_made (Some (Err fault)) s h = absurd cc

-- where a stamp was given, there was a commit and a reading
record IsStamped (given : List ℕ) (lease : Interval) (arrived : Option Arrival) (read : Option Interval) (s : ℕ) : Type 0 where
  arrival : Arrival
  reading : Interval
  asked : arrived ≡ Some arrival
  read_since : read ≡ Some reading
  answer : stamp_of given reading.hi arrival.floor lease ≡ Ok s

stamped_of : (given : List ℕ) (lease : Interval) (arrived : Option Arrival) (read : Option Interval) (s : ℕ) → stamping_after given lease arrived read ≡ Some (Ok s) → IsStamped given lease arrived read s
stamped_of given lease None read s h = absurd cc
stamped_of given lease (Some arrival) None s h = absurd cc
stamped_of given lease (Some arrival) (Some reading) s h =
    record { arrival = arrival; reading = reading; asked = refl; read_since = refl; answer = same_answer (stamp_of given reading.hi arrival.floor lease) (Ok s) h }
  where
    same_answer : (a b : Result ℕ StampFault) → Some a ≡ Some b → a ≡ b
    same_answer a b h = cc

-- a stamp is the least that may be given by the last reading since the commit was asked for
pub stamp_least : (configs : List Configuration) (past : List Event) (at m w s : ℕ) → reply_of configs past (record { at = at; action = does.Stamp m w }) ≡ Stamped s → IsLeastFor (config_at configs m) (accepted configs past) (life_at (accepted configs past) m) w s
stamp_least configs past at m w s h =
    let before : List Event = accepted configs past in
    let config : Configuration = config_at configs m in
    let event : Event = record { at = at; action = does.Stamp m w } in
    let made = stamping_made (stamping_of config before (life_at before m) w) s (stamped_not_bad (first_bad configs before event) (reply_to configs before (does.Stamp m w)) s h) in
    let stamped = stamped_of (stamps_of config before (life_at before m)) (lease_of before m) (arrival_of before (life_at before m) w) (reading_since config before (life_at before m) w) s made in
    let answer = subst (IsAnswer (stamps_of config before (life_at before m)) stamped.reading.hi stamped.arrival.floor (lease_of before m)) stamped.answer (IsAnswer-stamp_of (stamps_of config before (life_at before m)) stamped.reading.hi stamped.arrival.floor (lease_of before m)) in
    record {
      arrival = stamped.arrival;
      reading = stamped.reading;
      asked = stamped.asked;
      read_since = stamped.read_since;
      near = answer.0;
      least = answer.1;
      in_lease = answer.2;
    }

-- ---- releases

released_not_bad : (reason : Option WorldFault) (reply : Reply) (receipts : List Receipt) → reply_unless_bad reason reply ≡ Released receipts → reply ≡ Released receipts
released_not_bad None reply receipts h = h
released_not_bad (Some number) reply receipts h = absurd cc

no_release_delivered : (r : Result Statement SourceFault) (receipts : List Receipt) → delivery_reply r ≡ Released receipts → ⊥
no_release_delivered (Ok s) receipts h = cc
no_release_delivered (Err e) receipts h = cc

no_release_of_packet : (past : List Event) (clock : ℕ) (packet : Option Packet) (receipts : List Receipt) → reply_to_packet past clock packet ≡ Released receipts → ⊥
no_release_of_packet past clock None receipts h = cc
no_release_of_packet past clock (Some packet) receipts h =
    no_release_delivered (statement_of_message (machine_of_packet packet) (life_of past (machine_of_packet packet)) (source_of_packet packet) (outstanding_poll past (life_at past (machine_of_packet packet)) (source_of_packet packet)) clock (read_of2 (bytes_of packet))) receipts h

no_release_fused : (count : ℕ) (made : Result FusedSpan ℕ) (receipts : List Receipt) → fusion_reply count made ≡ Released receipts → ⊥
no_release_fused count (Ok publication) receipts h = cc
no_release_fused count (Err number) receipts h = cc

no_release_stamped : (stamping : Option (Result ℕ StampFault)) (receipts : List Receipt) → stamping_reply stamping ≡ Released receipts → ⊥
no_release_stamped None receipts h = cc
no_release_stamped (Some (Ok stamp)) receipts h = cc
no_release_stamped (Some (Err fault)) receipts h = cc

no_release_queued : (fault : Option BookFault) (receipts : List Receipt) → queueing_reply fault ≡ Released receipts → ⊥
no_release_queued None receipts h = cc
no_release_queued (Some fault) receipts h = cc

same_receipts : (a b : List Receipt) → Released a ≡ Released b → a ≡ b
same_receipts a b h = cc

-- where a commit is released, its worker had read the time, and the commit's stamp is below the last reading
pub record IsReleasing (configs : List Configuration) (past : List Event) (receipt : Receipt) : Type 0 where
  pub machine : ℕ
  pub worker : ℕ
  pub reading : Interval
  pub last : reading_of (config_at configs machine) past (life_at past machine) worker ≡ Some reading
  pub below : receipt.stamp < reading.lo

releasing_with : (configs : List Configuration) (past : List Event) (m w : ℕ) (receipt : Receipt) (book : List Entry) (read : Option Interval) → reading_of (config_at configs m) past (life_at past m) w ≡ read →
    Contains (released_with book read) receipt → IsReleasing configs past receipt
releasing_with configs past m w receipt book None e contained = absurd (omega (arith, contained.1))
releasing_with configs past m w receipt book (Some reading) e contained = record {
  machine = m;
  worker = w;
  reading = reading;
  last = e;
  below = (All-contains (λ (r : Receipt). (r.earliest ≡ reading.lo) × (r.stamp < reading.lo) × Contains (waiting_of book) (r.stamp, r.id)) (release_of (waiting_of book) reading.lo) receipt (IsRelease-release_of book reading.lo).each contained).1;
}

releasing_by : (configs : List Configuration) (past : List Event) (action : Action) (receipts : List Receipt) (receipt : Receipt) → reply_to configs past action ≡ Released receipts → Contains receipts receipt → IsReleasing configs past receipt
releasing_by configs past (does.Deliver p clock) receipts receipt h contained = absurd (no_release_of_packet past clock (slice_get (packets_of past) p) receipts h)
releasing_by configs past (does.Fuse m clock) receipts receipt h contained =
    absurd (no_release_fused (length (publications_of (config_at configs m) past (life_at past m))) (fusion_of (config_at configs m) past (life_at past m) clock) receipts h)
releasing_by configs past (does.Stamp m w) receipts receipt h contained = absurd (no_release_stamped (stamping_of (config_at configs m) past (life_at past m) w) receipts h)
releasing_by configs past (does.Queue m w) receipts receipt h contained = absurd (no_release_queued (queueing_of (config_at configs m) past (life_at past m) w) receipts h)
releasing_by configs past (does.Release m w) receipts receipt h contained =
    let same = same_receipts (released_with (book_of (config_at configs m) past (life_at past m)) (reading_of (config_at configs m) past (life_at past m) w)) receipts h in
    releasing_with configs past m w receipt (book_of (config_at configs m) past (life_at past m)) (reading_of (config_at configs m) past (life_at past m) w) refl (subst (λ (rs : List Receipt). Contains rs receipt) (sym same) contained)
releasing_by configs past _ receipts receipt h contained = absurd cc

-- a commit that is released
pub releasing : (configs : List Configuration) (past : List Event) (event : Event) (receipts : List Receipt) (receipt : Receipt) → reply_of configs past event ≡ Released receipts → Contains receipts receipt → IsReleasing configs (accepted configs past) receipt
releasing configs past event receipts receipt h contained =
    releasing_by configs (accepted configs past) event.action receipts receipt
    (released_not_bad (first_bad configs (accepted configs past) event) (reply_to configs (accepted configs past) event.action) receipts h) contained
