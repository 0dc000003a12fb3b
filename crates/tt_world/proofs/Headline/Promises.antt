-- What is promised of one event, after a past, bad events among it, the newest first.
use Rattle.std.proofs.Common.{◌≡◌, ℕ, ◌+◌, ◌-◌, ◌<◌, ◌≤◌, false, not, List, [], ◌∷◌, length, Option, Some, None, Result, Ok, Err, refl, ap, subst, ◌∙◌, arith}
use Rattle.std.specs.Prelude.{slice_get}
use Rattle.std.specs.List.{AllByRecursion}
use Rattle.std.proofs.lemmas.Bool.{and_parts, or_parts, not-false, ltb-true, ltb-false, eqb-false}
use Rattle.std.proofs.lemmas.List.Elements.{All-from_recursion}
use Rattle.tt_span.specs.Interval.{Interval, Holds}
use Rattle.tt_span.specs.Drift.{Moment, AgreesWith, KeepsDrift}
use Rattle.tt_poll.specs.Reading.{read_of2}
use Rattle.tt_source.specs.Statement.{Statement}
use Rattle.tt_source.specs.Table.{statement_of_message}
use Rattle.tt_source.specs.declared.faults.SourceFault.{SourceFault}
use Rattle.tt_fuse.specs.Fusion.{IsFusion}
use Rattle.tt_stamp.specs.declared.faults.StampFault.{StampFault}
use Rattle.tt_stamp.specs.declared.faults.BookFault.{BookFault}
use Rattle.tt_world.specs.Life.{life_of, life_at}
use Rattle.tt_world.specs.declared.faults.WorldFault.{WorldFault}
use Rattle.tt_world.specs.declared.events.Event.{Event}
use Rattle.tt_world.specs.declared.events.Action.{Action}
use Rattle.tt_world.specs.declared.events.Action.TheVariants as does
use Rattle.tt_world.specs.declared.events.Reply.{Reply}
use Rattle.tt_world.specs.declared.events.Reply.TheVariants.{Published, Read}
use Rattle.tt_world.specs.declared.packets.Packet.{Packet}
use Rattle.tt_publish.specs.declared.readings.FusedSpan.{FusedSpan}
use Rattle.tt_daemon.specs.Config.{Configuration}
use Rattle.tt_world.specs.Config.{config_at}
use Rattle.tt_world.specs.Packet.{machine_of_packet, source_of_packet, bytes_of}
use Rattle.tt_world.specs.Past.{packets_of, clock_of, moments_of, time_of}
use Rattle.tt_world.specs.Sources.{outstanding_poll}
use Rattle.tt_world.specs.Publications.{spans_of, known_of, fusion_of, publications_of, seen_of, no_publication, publication_at}
use Rattle.tt_publish.specs.Reading.{reading_at}
use Rattle.tt_world.specs.Bad.{has_machine, has_worker, is_unreadable, first_bad, accepted}
use Rattle.tt_world.specs.Commits.{stamping_of, queueing_of}
use Rattle.tt_world.specs.Reply.{delivery_reply, reply_to_packet, fusion_reply, stamping_reply, queueing_reply, reply_to, reply_unless_bad, reply_of}
use Rattle.tt_world.specs.Assumptions.{FewLie, ClocksKeepDrift, MeetsAssumptions}
use Rattle.tt_world.specs.Headline.{AreConfigurations, IsAction, AreEvents}
use Rattle.tt_world.proofs.Histories.Places.{holds_in, all_by_recursion}
use Rattle.tt_world.proofs.Histories.Ageing.{aged_holds, drift_kept_before}
use Rattle.tt_world.proofs.Histories.Judging.{IsGood, good_of, good_accepted, all_accepted, accepted-good}
use Rattle.tt_world.proofs.Histories.Clocks.{reading_of}
use Rattle.tt_world.proofs.Histories.Fusing.{true_time_possible, made_is_fusion, fusion_made}
use Rattle.tt_world.proofs.Histories.FusionTimes.{WasRight, publications_right}

-- ---- replies

read_not_bad : (reason : Option WorldFault) (reply : Reply) (reading : Interval) → reply_unless_bad reason reply ≡ Read reading → (reason ≡ None) × (reply ≡ Read reading)
read_not_bad None reply reading h = (refl, h)
read_not_bad (Some number) reply reading h = absurd cc

pub published_not_bad : (reason : Option WorldFault) (reply : Reply) (number : ℕ) (span : Interval) → reply_unless_bad reason reply ≡ Published number span → (reason ≡ None) × (reply ≡ Published number span)
published_not_bad None reply number span h = (refl, h)
published_not_bad (Some other) reply number span h = absurd cc

no_reading_delivered : (r : Result Statement SourceFault) (reading : Interval) → delivery_reply r ≡ Read reading → ⊥
no_reading_delivered (Ok s) reading h = cc
no_reading_delivered (Err e) reading h = cc

no_reading_of_packet : (past : List Event) (clock : ℕ) (packet : Option Packet) (reading : Interval) → reply_to_packet past clock packet ≡ Read reading → ⊥
no_reading_of_packet past clock None reading h = cc
no_reading_of_packet past clock (Some packet) reading h =
    no_reading_delivered (statement_of_message (machine_of_packet packet) (life_of past (machine_of_packet packet)) (source_of_packet packet) (outstanding_poll past (life_at past (machine_of_packet packet)) (source_of_packet packet)) clock (read_of2 (bytes_of packet))) reading h

no_reading_fused : (count : ℕ) (made : Result FusedSpan ℕ) (reading : Interval) → fusion_reply count made ≡ Read reading → ⊥
no_reading_fused count (Ok publication) reading h = cc
no_reading_fused count (Err number) reading h = cc

no_reading_stamped : (stamping : Option (Result ℕ StampFault)) (reading : Interval) → stamping_reply stamping ≡ Read reading → ⊥
no_reading_stamped None reading h = cc
no_reading_stamped (Some (Ok stamp)) reading h = cc
no_reading_stamped (Some (Err fault)) reading h = cc

no_reading_queued : (fault : Option BookFault) (reading : Interval) → queueing_reply fault ≡ Read reading → ⊥
no_reading_queued None reading h = cc
no_reading_queued (Some fault) reading h = cc

same_reading : (a b : Interval) → Read a ≡ Read b → a ≡ b
same_reading a b h = cc

pub published_made : (count : ℕ) (made : Result FusedSpan ℕ) (number : ℕ) (span : Interval) → fusion_reply count made ≡ Published number span → (publication : FusedSpan) × (made ≡ Ok publication) × (publication.span ≡ span)
published_made count (Ok publication) number span h = (publication, refl, cc)
published_made count (Err other) number span h = absurd cc

-- ---- machines

pub machine_of_worker : (configs : List Configuration) (m w : ℕ) → not (has_worker configs m w) ≡ false → m < length configs
machine_of_worker configs m w h =
    let parts = and_parts _ _ (not-false _ h) in
    ltb-true m (length configs) parts.0

pub machine_there : (configs : List Configuration) (m : ℕ) → not (has_machine configs m) ≡ false → m < length configs
machine_there configs m h = ltb-true m (length configs) (not-false _ h)

-- a publication that can be read is there
readable_place : (count seen k : ℕ) → is_unreadable count seen k ≡ false → k - 1 < count
readable_place count seen k h =
    let some = or_parts _ _ h in
    let parts = or_parts _ _ some.0 in
    let positive = eqb-false k 0 parts.0 in
    let within : k ≤ count = ltb-false count k parts.1 in
    omega arith

-- ---- readings

-- where each publication held the true time when it was made, a reading holds it now
pub read_holds : (configs : List Configuration) (past : List Event) (at m w clock k : ℕ) → m < length configs → IsGood configs past (record { at = at; action = does.Read m w clock k }) →
    KeepsDrift (config_at configs m).drift (moments_of (record { at = at; action = does.Read m w clock k } ∷ past) (life_at past m)) →
    AllByRecursion (λ (p : FusedSpan). WasRight past (life_at past m) p) (publications_of (config_at configs m) past (life_at past m)) →
    Holds (reading_at (config_at configs m).drift (publication_at (publications_of (config_at configs m) past (life_at past m)) k) clock) at
read_holds configs past at m w clock k there good drift right =
    let config : Configuration = config_at configs m in
    let publications : List FusedSpan = publications_of config past (life_at past m) in
    let reading = reading_of configs past (record { at = at; action = does.Read m w clock k }) (life_at past m) clock good refl in
    let agree = (subst (λ (ms : List Moment). KeepsDrift config.drift ms) reading.moment drift).0 in
    let was = All-from_recursion (λ (p : FusedSpan). WasRight past (life_at past m) p) publications right (k - 1) no_publication (readable_place (length publications) (seen_of past (life_at past m) w) k good.publication_there) in
    let publication : FusedSpan = publication_at publications k in
    let clock_by : publication.clock ≤ clock = le_steps publication.clock (clock_of past (life_at past m)) clock was.clock_by_now reading.not_before in
    let on : was.fused_at ≤ at = le_steps was.fused_at (time_of past) at was.by_now good.not_before in
    aged_holds config.drift publication.span clock at publication.clock was.fused_at clock_by on good.in_time
    (holds_in (AgreesWith config.drift (record { clock = clock; time = at })) (record { clock = publication.clock; time = was.fused_at }) (moments_of past (life_at past m)) agree was.moment)
    was.held
  where
    le_steps : (a b c : ℕ) → a ≤ b → b ≤ c → a ≤ c
    le_steps a b c h k = omega arith

-- a run's clocks and sources, with its last event, where that is not bad
assumed : (configs : List Configuration) (past : List Event) (event : Event) → first_bad configs (accepted configs past) event ≡ None → MeetsAssumptions configs (event ∷ past) →
    ClocksKeepDrift configs (event ∷ accepted configs past) × FewLie configs (event ∷ accepted configs past)
assumed configs past event good meets =
    subst (λ (events : List Event). ClocksKeepDrift configs events × FewLie configs events) (accepted-good configs past event good) (meets.clocks, meets.sources)

-- what is known of the events that were not bad, where each answer's span is one of time
pub valid_accepted : (configs : List Configuration) (past : List Event) → AreEvents past → AllByRecursion (λ (e : Event). IsAction e.action) (accepted configs past)
valid_accepted configs past events = all_accepted (λ (e : Event). IsAction e.action) configs past (all_by_recursion (λ (e : Event). IsAction e.action) past events)

read_holds_at : (configs : List Configuration) → AreConfigurations configs → (past : List Event) → AreEvents past → (at m w clock k : ℕ) → first_bad configs (accepted configs past) (record { at = at; action = does.Read m w clock k }) ≡ None →
    MeetsAssumptions configs (record { at = at; action = does.Read m w clock k } ∷ past) →
    Holds (reading_at (config_at configs m).drift (publication_at (publications_of (config_at configs m) (accepted configs past) (life_at (accepted configs past) m)) k) clock) at
read_holds_at configs configurations past events at m w clock k not_bad meets =
    let event : Event = record { at = at; action = does.Read m w clock k } in
    let good = good_of configs (accepted configs past) event not_bad in
    let there = machine_of_worker configs m w good.named in
    let kept = assumed configs past event not_bad meets in
    let drift = kept.0 (life_at (accepted configs past) m) there in
    let before = drift_kept_before (config_at configs m).drift (record { clock = clock; time = at } ∷ []) (moments_of (accepted configs past) (life_at (accepted configs past) m))
    (subst (λ (ms : List Moment). KeepsDrift (config_at configs m).drift ms) (reading_of configs (accepted configs past) event (life_at (accepted configs past) m) clock good refl).moment drift) in
    read_holds configs (accepted configs past) at m w clock k there good drift
    (publications_right configs (accepted configs past) (life_at (accepted configs past) m) (configurations m there) (good_accepted configs past) (valid_accepted configs past events) before kept.1.1)

read_holds_by_action : (configs : List Configuration) → AreConfigurations configs → (past : List Event) → AreEvents past → (at : ℕ) (action : Action) (reading : Interval) →
    first_bad configs (accepted configs past) (record { at = at; action = action }) ≡ None → reply_to configs (accepted configs past) action ≡ Read reading → MeetsAssumptions configs (record { at = at; action = action } ∷ past) → Holds reading at
read_holds_by_action configs configurations past events at (does.Deliver p clock) reading not_bad h meets = absurd (no_reading_of_packet (accepted configs past) clock (slice_get (packets_of (accepted configs past)) p) reading h)
read_holds_by_action configs configurations past events at (does.Fuse m clock) reading not_bad h meets =
    absurd (no_reading_fused (length (publications_of (config_at configs m) (accepted configs past) (life_at (accepted configs past) m))) (fusion_of (config_at configs m) (accepted configs past) (life_at (accepted configs past) m) clock) reading h)
read_holds_by_action configs configurations past events at (does.Read m w clock k) reading not_bad h meets =
    subst (λ (i : Interval). Holds i at) (same_reading (reading_at (config_at configs m).drift (publication_at (publications_of (config_at configs m) (accepted configs past) (life_at (accepted configs past) m)) k) clock) reading h)
    (read_holds_at configs configurations past events at m w clock k not_bad meets)
read_holds_by_action configs configurations past events at (does.Stamp m w) reading not_bad h meets =
    absurd (no_reading_stamped (stamping_of (config_at configs m) (accepted configs past) (life_at (accepted configs past) m) w) reading h)
read_holds_by_action configs configurations past events at (does.Queue m w) reading not_bad h meets =
    absurd (no_reading_queued (queueing_of (config_at configs m) (accepted configs past) (life_at (accepted configs past) m) w) reading h)
read_holds_by_action configs configurations past events at _ reading not_bad h meets = absurd cc

-- a reading holds the true time, if the run keeps the assumptions up to then
pub reading_holds : (configs : List Configuration) → AreConfigurations configs → (past : List Event) → AreEvents past → (event : Event) (reading : Interval) → reply_of configs past event ≡ Read reading → MeetsAssumptions configs (event ∷ past) → Holds reading event.at
reading_holds configs configurations past events event reading h meets =
    let facts = read_not_bad (first_bad configs (accepted configs past) event) (reply_to configs (accepted configs past) event.action) reading h in
    read_holds_by_action configs configurations past events event.at event.action reading facts.0 facts.1 meets

-- ---- fusions

-- a span that is published is the least that holds every possible time
pub fusion_shortest : (configs : List Configuration) → AreConfigurations configs → (past : List Event) (at m clock number : ℕ) (span : Interval) →
    reply_of configs past (record { at = at; action = does.Fuse m clock }) ≡ Published number span → IsFusion (spans_of (config_at configs m) (accepted configs past) (life_at (accepted configs past) m) clock) (config_at configs m).faulty span
fusion_shortest configs configurations past at m clock number span h =
    let event : Event = record { at = at; action = does.Fuse m clock } in
    let config : Configuration = config_at configs m in
    let facts = published_not_bad (first_bad configs (accepted configs past) event) (reply_to configs (accepted configs past) (does.Fuse m clock)) number span h in
    let good = good_of configs (accepted configs past) event facts.0 in
    let there = machine_there configs m good.named in
    let made = published_made (length (publications_of config (accepted configs past) (life_at (accepted configs past) m))) (fusion_of config (accepted configs past) (life_at (accepted configs past) m) clock) number span facts.1 in
    let fusion = made_is_fusion configs (accepted configs past) config (life_at (accepted configs past) m) clock made.0 (configurations m there) (good_accepted configs past) made.1 in
    subst (λ (i : Interval). IsFusion (spans_of config (accepted configs past) (life_at (accepted configs past) m) clock) config.faulty i) made.2 fusion.0

-- a fusion that is not bad is not refused where all sources but as many as may lie are known, if the run keeps the assumptions up to then
pub fusion_not_refused : (configs : List Configuration) → AreConfigurations configs → (past : List Event) → AreEvents past → (at m clock : ℕ) →
    first_bad configs (accepted configs past) (record { at = at; action = does.Fuse m clock }) ≡ None →
    (config_at configs m).sources - (config_at configs m).faulty ≤ known_of (config_at configs m) (accepted configs past) (life_at (accepted configs past) m) →
    MeetsAssumptions configs (record { at = at; action = does.Fuse m clock } ∷ past) →
    (number : ℕ) × (span : Interval) × (reply_of configs past (record { at = at; action = does.Fuse m clock }) ≡ Published number span)
fusion_not_refused configs configurations past events at m clock not_bad known meets =
    let event : Event = record { at = at; action = does.Fuse m clock } in
    let config : Configuration = config_at configs m in
    let good = good_of configs (accepted configs past) event not_bad in
    let there = machine_there configs m good.named in
    let kept = assumed configs past event not_bad meets in
    let all_good = good_accepted configs past in
    let valid = valid_accepted configs past events in
    let possible = true_time_possible configs (accepted configs past) event config (life_at (accepted configs past) m) clock all_good valid good refl (kept.0 (life_at (accepted configs past) m) there) kept.1.0 in
    let made = fusion_made configs (accepted configs past) config (life_at (accepted configs past) m) clock at (configurations m there) all_good known possible in
    let count : ℕ = length (publications_of config (accepted configs past) (life_at (accepted configs past) m)) in (
      count + 1,
      made.0.span,
      ap (λ (reason : Option WorldFault). reply_unless_bad reason (reply_to configs (accepted configs past) (does.Fuse m clock))) not_bad ∙ ap (fusion_reply count) made.1,
    )
