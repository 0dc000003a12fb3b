-- What holds after every run.
use Rattle.std.proofs.Common.{◌||◌, ◌≡◌, ℕ, ◌+◌, ◌≤◌, Bool, true, false, cond, eqb, ltb, ◌&&◌, List, [], ◌∷◌, ◌++◌, length, slice_get, is_some, All, Option, Some, None, refl, sym, subst, arith, length-append, ltb-false}
use Rattle.std.specs.Option.{option_map}
use Rattle.std.specs.Result.{result_ok}
use Rattle.std.proofs.lemmas.Bool.{or_parts, not-false, cond_both}
use Rattle.std.proofs.lemmas.List.{length_push}
use Rattle.std.proofs.lemmas.List.Elements.{All-append, All-nil, All-cons}
use Rattle.std.proofs.lemmas.Option.{slice_get_within, get_or_from_slice_get}
use Rattle.tt_span.specs.Time.{max_time}
use Rattle.tt_span.specs.Interval.{Interval}
use Rattle.tt_poll.specs.Reading.{read_of2}
use Rattle.tt_source.specs.Table.{statement_of_message}
use Rattle.tt_world.proofs.Simulation.Lives.{same_life-true}
use Rattle.tt_world.specs.Life.{next_life, life_of, Life, life_at, same_life, is_of}
use Rattle.tt_world.specs.declared.faults.WorldFault.{WorldFault}
use Rattle.tt_world.specs.declared.faults.WorldFault.TheVariants as bad
use Rattle.tt_world.specs.declared.events.Event.{Event}
use Rattle.tt_world.specs.declared.events.Action.{Action}
use Rattle.tt_world.specs.declared.events.Action.TheVariants.{Send, Answer, Forge, Deliver, Fuse, Read, Restart}
use Rattle.tt_world.specs.declared.packets.Packet.{Packet}
use Rattle.tt_world.specs.declared.packets.Packet.TheVariants.{Asked, Answered, Forged}
use Rattle.tt_daemon.specs.Config.{Configuration}
use Rattle.tt_world.specs.Packet.{machine_of_packet, source_of_packet, bytes_of, answer_to}
use Rattle.tt_world.specs.Past.{sends_now, is_send_of, sends_of, put_by, packets_of, clock_reading, clock_after, clock_of}
use Rattle.tt_world.specs.Sources.{outstanding_poll}
use Rattle.tt_world.specs.Bad.{has_source, names_unknown, goes_back, first_bad, accepted}
use Rattle.tt_world.specs.Private.Machine.{is_taken, polled_clock_of}
use Rattle.tt_world.proofs.Simulation.Waiting.{happens}

-- ---- polls are packets

one_more : (n : ℕ) (packets : List Packet) (p : Packet) (b : Bool) → n ≤ length packets → cond b (n + 1) n ≤ length (packets ++ p ∷ [])
one_more n packets p true h = omega (arith, length_push packets p)
one_more n packets p false h = omega (arith, length_push packets p)

no_fewer : (n : ℕ) (packets more : List Packet) → n ≤ length packets → n ≤ length (packets ++ more)
no_fewer n packets more h = omega (arith, length-append packets more)

sends_more : (past : List Event) (life : Life) (action : Action) → sends_of past life ≤ length (packets_of past)
    → cond (is_send_of past life action) (sends_of past life + 1) (sends_of past life) ≤ length (packets_of past ++ put_by (life_of past) (sends_now past) (packets_of past) action)
sends_more past life (Send machine source clock) h = one_more (sends_of past life) (packets_of past) _ (is_of past life machine) h
sends_more past life _ h = no_fewer (sends_of past life) (packets_of past) _ h

pub sends_of-le-packets : (past : List Event) (life : Life) → sends_of past life ≤ length (packets_of past)
sends_of-le-packets [] life = omega arith
sends_of-le-packets (event ∷ past) life = sends_more past life event.action (sends_of-le-packets past life)

-- ---- what the clock showed at the last poll or taking, it has not fallen below

below_reading : (q : Bool → Bool) (b : Bool) (c polled clock : ℕ) → q false ≡ false → (b ≡ true → clock ≤ c) → polled ≤ clock → cond (q b) c polled ≤ cond b c clock
below_reading q false c polled clock none rises h = subst (λ (t : Bool). cond t c polled ≤ clock) (sym none) h
below_reading q true c polled clock none rises h =
    let risen = rises refl in
    cond_both (q true) c polled (λ x. x ≤ c) (λ e. omega arith) (λ e. omega arith)

not_below : (clocks : Life → ℕ) (a : Life) (c : ℕ) (b : Life) → (ltb c (clocks a) || ltb max_time c) ≡ false → same_life a b ≡ true → clocks b ≤ c
not_below clocks a c b fresh same =
    subst (λ (j : Life). clocks j ≤ c) (same_life-true a b same) (ltb-false c (clocks a) (or_parts _ _ fresh).0)

below_delivery : (past : List Event) (life : Life) (c : ℕ) (o : Option Packet)
    → goes_back (clock_of past) (option_map (λ p. record { life = life_at past (machine_of_packet p); clock = c }) o) ≡ false
    → polled_clock_of past life ≤ clock_of past life
    → cond (is_taken past life (outstanding_poll past life) c o) c (polled_clock_of past life) ≤ clock_after life (option_map (λ p. record { life = life_at past (machine_of_packet p); clock = c }) o) (clock_of past life)
below_delivery past life c None fresh h = h
below_delivery past life c (Some p) fresh h =
    let s = source_of_packet p in
    below_reading (λ b. is_some (cond (b && eqb s s) (result_ok (statement_of_message life.machine life.number s (outstanding_poll past life s) c (read_of2 (bytes_of p)))) None))
    (is_of past life (machine_of_packet p)) c (polled_clock_of past life) (clock_of past life) refl (not_below (clock_of past) (life_at past (machine_of_packet p)) c life fresh) h

polled_more : (past : List Event) (life : Life) (at : ℕ) (action : Action) → goes_back (clock_of past) (clock_reading past action) ≡ false
    → polled_clock_of past life ≤ clock_of past life → polled_clock_of (happens at action ∷ past) life ≤ clock_of (happens at action ∷ past) life
polled_more past life at (Send machine source clock) fresh h =
    below_reading (λ b. b) (is_of past life machine) clock (polled_clock_of past life) (clock_of past life) refl (not_below (clock_of past) (life_at past machine) clock life fresh) h
polled_more past life at (Deliver packet clock) fresh h = below_delivery past life clock (slice_get (packets_of past) packet) fresh h
polled_more past life at (Fuse machine clock) fresh h =
    below_reading (λ b. false) (is_of past life machine) clock (polled_clock_of past life) (clock_of past life) refl (not_below (clock_of past) (life_at past machine) clock life fresh) h
polled_more past life at (Read machine worker clock publication) fresh h =
    below_reading (λ b. false) (is_of past life machine) clock (polled_clock_of past life) (clock_of past life) refl (not_below (clock_of past) (life_at past machine) clock life fresh) h
polled_more past life at (Restart machine clock) fresh h =
    below_reading (λ b. false) (same_life (next_life past machine) life) clock (polled_clock_of past life) (clock_of past life) refl (not_below (clock_of past) (next_life past machine) clock life fresh) h
polled_more past life at _ fresh h = h

-- ---- packets go to machines that are there, from sources that they ask

-- the machine of a packet is there, and asks the source of the packet
abbrev pub HasItsSource : List Configuration → Packet → Type 0
HasItsSource configs p = has_source configs (machine_of_packet p) (source_of_packet p) ≡ true

All-one : (P : Packet → Type 0) (p : Packet) → P p → All P (p ∷ [])
All-one P p h = All-cons P p [] h (All-nil P)

pub All-slice_get : (P : Packet → Type 0) (packets : List Packet) (k : ℕ) (p : Packet) → All P packets → slice_get packets k ≡ Some p → P p
All-slice_get P packets k p all is = subst P (get_or_from_slice_get packets k p p is) (all k p (slice_get_within packets k p is))

module _ (configs : List Configuration) where
  known_answer : (packets : List Packet) (k : ℕ) (span : Interval) (o : Option Packet) → slice_get packets k ≡ o → All (HasItsSource configs) packets → All (HasItsSource configs) (answer_to o span)
  known_answer packets k span None is all = All-nil (HasItsSource configs)
  known_answer packets k span (Some (Asked request)) is all = All-one (HasItsSource configs) _ (All-slice_get (HasItsSource configs) packets k (Asked request) all is)
  known_answer packets k span (Some (Answered answer)) is all = All-nil (HasItsSource configs)
  known_answer packets k span (Some (Forged machine source payload)) is all = All-nil (HasItsSource configs)

  known_put : (lives sends : ℕ → ℕ) (packets : List Packet) (action : Action) → names_unknown configs action ≡ false → All (HasItsSource configs) packets
      → All (HasItsSource configs) (put_by lives sends packets action)
  known_put lives sends packets (Send machine source clock) named all = All-one (HasItsSource configs) _ (not-false (has_source configs machine source) named)
  known_put lives sends packets (Answer packet span) named all = known_answer packets packet span (slice_get packets packet) refl all
  known_put lives sends packets (Forge machine source payload) named all = All-one (HasItsSource configs) _ (not-false (has_source configs machine source) named)
  known_put lives sends packets _ named all = All-nil (HasItsSource configs)

  -- ---- both, after every run

  -- what holds after every run without bad events
  pub record Lasts (past : List Event) : Type 0 where
    pub rises : (life : Life) → polled_clock_of past life ≤ clock_of past life
    pub known : All (HasItsSource configs) (packets_of past)

  -- the first test that an event fails
  abbrev first_failed : Bool → Bool → Bool → Bool → Bool → Bool → Bool → Option WorldFault
  first_failed t u v w x y z =
      cond t (Some bad.TimeBack) (cond u (Some bad.UnknownNumber) (cond v (Some bad.NoPacket) (cond w (Some bad.ClockBack) (cond x (Some bad.NoPublication) (cond y (Some bad.NothingThere) (cond z (Some bad.LivesUsedUp) None))))))

  -- an event that passes every test passes these two
  tests_passed : (t u v w x y z : Bool) → first_failed t u v w x y z ≡ None → (u ≡ false) × (w ≡ false)
  tests_passed true u v w x y z h = absurd cc
  tests_passed false true v w x y z h = absurd cc
  tests_passed false false true w x y z h = absurd cc
  tests_passed false false false true x y z h = absurd cc
  tests_passed false false false false x y z h = (refl, refl)

  lasts_more : (past : List Event) (event : Event) → first_bad configs past event ≡ None → Lasts past → Lasts (event ∷ past)
  lasts_more past event good before =
      let passed = tests_passed _ _ _ _ _ _ _ good in
      record {
        rises = λ life. polled_more past life event.at event.action passed.1 (before.rises life);
        known = All-append (HasItsSource configs) (packets_of past) (put_by (life_of past) (sends_now past) (packets_of past) event.action) before.known
            (known_put (life_of past) (sends_now past) (packets_of past) event.action passed.0 before.known);
      }

  lasts_unless_bad : (past : List Event) (event : Event) (o : Option WorldFault) → first_bad configs past event ≡ o → Lasts past → Lasts (cond (is_some o) past (event ∷ past))
  lasts_unless_bad past event None is before = lasts_more past event is before
  lasts_unless_bad past event (Some number) is before = before

  pub Lasts-accepted : (past : List Event) → Lasts (accepted configs past)
  Lasts-accepted [] = record { rises = λ life. omega arith; known = All-nil (HasItsSource configs) }
  Lasts-accepted (event ∷ past) =
      lasts_unless_bad (accepted configs past) event (first_bad configs (accepted configs past) event) refl (Lasts-accepted past)
