-- The last poll of each source: when it was sent, and that its answers were put later.
use Rattle.std.proofs.Common.{◌≡◌, ℕ, ◌+◌, ◌≤◌, Bool, true, false, cond, eqb, ◌&&◌, List, [], ◌∷◌, length, Option, Some, None, inl, inr, refl, ap, subst, sym, ◌∙◌, arith}
use Rattle.std.specs.Prelude.{slice_get}
use Rattle.std.specs.Option.{option_or}
use Rattle.std.proofs.lemmas.Bool.{and_parts, cases_lt}
use Rattle.std.proofs.lemmas.Option.{slice_get_within}
use Rattle.tt_span.specs.Drift.{Moment}
use Rattle.tt_source.specs.Table.{Sending}
use Rattle.tt_world.proofs.Simulation.Lives.{same_life-true}
use Rattle.tt_world.specs.Life.{life_of, Life, life_at, is_of}
use Rattle.tt_world.specs.declared.events.Event.{Event}
use Rattle.tt_world.specs.declared.events.Action.{Action}
use Rattle.tt_world.specs.declared.events.Action.TheVariants.{Send}
use Rattle.tt_world.specs.declared.packets.Packet.{Packet}
use Rattle.tt_daemon.specs.Config.{Configuration}
use Rattle.tt_world.specs.Past.{sends_now, time_of, sends_of, put_by, packets_of, clock_reading, clock_of, moments_of}
use Rattle.tt_world.specs.Sources.{sent_by, last_send}
use Rattle.tt_world.specs.Assumptions.{origin_of}
use Rattle.tt_world.proofs.Histories.Places.{IsIn, get_front}
use Rattle.tt_world.proofs.Histories.Judging.{IsGood, AreGood}
use Rattle.tt_world.proofs.Histories.Clocks.{reading_on, clock_on, reading_of, moment_stays}
use Rattle.tt_world.proofs.Histories.Origins.{nonce_of, nonces_sent, origin-old, origin-new}

-- a poll of machine life: the true time when it was sent, and that no packet with its nonce or a later one was put before
pub record IsPoll (past : List Event) (life : Life) (sending : Sending) : Type 0 where
  pub sent_at : ℕ
  pub moment : IsIn (record { clock = sending.clock; time = sent_at }) (moments_of past life)
  pub by_now : sent_at ≤ time_of past
  pub clock_by_now : sending.clock ≤ clock_of past life
  pub before_answers : (p : ℕ) (packet : Packet) (origin : Event) → slice_get (packets_of past) p ≡ Some packet → origin_of past p ≡ Some origin → sending.nonce ≤ nonce_of life packet → sent_at ≤ origin.at

some_if : (b : Bool) (sending other : Sending) → cond b (Some sending) None ≡ Some other → (b ≡ true) × (sending ≡ other)
some_if true sending other h = (refl, cc)
some_if false sending other h = absurd cc

-- what an event is that sends a poll
sending_of : (past : List Event) (life : Life) (i : ℕ) (action : Action) (sending : Sending) → sent_by past life i action ≡ Some sending → (clock_reading past action ≡ reading_on life sending.clock) × (sending.nonce ≡ sends_of past life + 1)
sending_of past life i (Send machine source clock) sending h =
    let parts = some_if (is_of past life machine && eqb source i) (record { nonce = sends_of past life + 1; clock = clock }) sending h in
    let here = and_parts (is_of past life machine) (eqb source i) parts.0 in
    let same : life_at past machine ≡ life = same_life-true (life_at past machine) life here.0 in
    let clock_is : clock ≡ sending.clock = ap (λ (s : Sending). s.clock) parts.1 in
    let nonce_is : sends_of past life + 1 ≡ sending.nonce = ap (λ (s : Sending). s.nonce) parts.1 in
    (ap (λ (k : Life). reading_on k clock) same ∙ ap (λ (c : ℕ). reading_on life c) clock_is, sym nonce_is)
sending_of past life i _ sending h = absurd cc

same_event : (a b : Event) (o : Option Event) → o ≡ Some a → o ≡ Some b → a ≡ b
same_event a b o h k = cc

-- a poll that an event sends
poll_sent : (configs : List Configuration) (past : List Event) (event : Event) (life : Life) (i : ℕ) (sending : Sending) → IsGood configs past event → sent_by past life i event.action ≡ Some sending → IsPoll (event ∷ past) life sending
poll_sent configs past event life i sending good h =
    let facts = sending_of past life i event.action sending h in
    let reading = reading_of configs past event life sending.clock good facts.0 in
    let nonce : sending.nonce ≡ sends_of past life + 1 = facts.1 in
    record {
      sent_at = event.at;
      moment = subst (λ (ms : List Moment). IsIn (record { clock = sending.clock; time = event.at }) ms) (sym reading.moment) (inl refl);
      by_now = omega arith;
      clock_by_now = omega (arith, reading.shows);
      before_answers = λ p packet origin there is later. elim (cases_lt p (length (packets_of past))) [
        | inl lt ↦
            let old : nonce_of life packet ≤ sends_of past life = nonces_sent past life p packet (sym (get_front (packets_of past) (put_by (life_of past) (sends_now past) (packets_of past) event.action) p lt) ∙ there) in
            absurd (omega arith)
        | inr ge ↦
            let new = origin-new past event p ge (slice_get_within (packets_of (event ∷ past)) p packet there) in
            subst (λ (o : Event). event.at ≤ o.at) (same_event event origin (origin_of (event ∷ past) p) new is) (omega arith)
      ];
    }

-- a poll that was sent before
pub poll_stays : (configs : List Configuration) (past : List Event) (event : Event) (life : Life) (sending : Sending) → IsGood configs past event → IsPoll past life sending → IsPoll (event ∷ past) life sending
poll_stays configs past event life sending good poll =
    let on : time_of past ≤ event.at = good.not_before in
    let clock : clock_of past life ≤ clock_of (event ∷ past) life = clock_on configs past event life good in
    let by : poll.sent_at ≤ time_of past = poll.by_now in
    let clock_by : sending.clock ≤ clock_of past life = poll.clock_by_now in
    record {
      sent_at = poll.sent_at;
      moment = moment_stays past event life (record { clock = sending.clock; time = poll.sent_at }) poll.moment;
      by_now = omega arith;
      clock_by_now = omega arith;
      before_answers = λ p packet origin there is later. elim (cases_lt p (length (packets_of past))) [
        | inl lt ↦ poll.before_answers p packet origin (sym (get_front (packets_of past) (put_by (life_of past) (sends_now past) (packets_of past) event.action) p lt) ∙ there) (sym (origin-old past event p lt) ∙ is) later
        | inr ge ↦
            let new = origin-new past event p ge (slice_get_within (packets_of (event ∷ past)) p packet there) in
            subst (λ (o : Event). poll.sent_at ≤ o.at) (same_event event origin (origin_of (event ∷ past) p) new is) (omega arith)
      ];
    }

poll_after : (configs : List Configuration) (past : List Event) (event : Event) (life : Life) (i : ℕ) (sending : Sending) (sent : Option Sending) → IsGood configs past event → ((s : Sending) → last_send past life i ≡ Some s → IsPoll past life s) →
    sent_by past life i event.action ≡ sent → option_or sent (last_send past life i) ≡ Some sending → IsPoll (event ∷ past) life sending
poll_after configs past event life i sending None good polls h e = poll_stays configs past event life sending good (polls sending e)
poll_after configs past event life i sending (Some new) good polls h e = poll_sent configs past event life i sending good (h ∙ e)

-- the last poll of a source is one
pub last_poll : (configs : List Configuration) (past : List Event) → AreGood configs past → (life : Life) (i : ℕ) (sending : Sending) → last_send past life i ≡ Some sending → IsPoll past life sending
last_poll configs [] good life i sending e = absurd cc
last_poll configs (event ∷ past) good life i sending e =
    poll_after configs past event life i sending (sent_by past life i event.action) good.0 (last_poll configs past good.1 life i) refl e
