-- The packets that were put: their nonces, and the events that put them.
use Rattle.std.proofs.Common.{◌≡◌, ℕ, ◌+◌, ◌-◌, ◌<◌, ◌≤◌, Bool, true, false, not, cond, leb, ◌&&◌, List, [], ◌∷◌, length, Option, Some, None, inl, inr, refl, subst, sym, ◌∙◌, arith, ◌^◌, eqb, ap}
use Rattle.std.specs.Prelude.{slice_get}
use Rattle.std.specs.List.{AllByRecursion}
use Rattle.std.proofs.lemmas.Bool.{and_parts, not-false, leb-true, cases_lt, lt-ltb, le-ltb}
use Rattle.std.proofs.lemmas.Option.{slice_get_within}
use Rattle.tt_span.specs.Interval.{Interval, Holds, IsInterval}
use Rattle.tt_world.proofs.Simulation.Lives.{same_life-true}
use Rattle.std.proofs.lemmas.Bool.{eqb-true, eqb-false}
use Rattle.tt_world.specs.Bad.{uses_up_lives}
use Rattle.tt_world.specs.Life.{restarts, life_of, Life, life_at, same_life, is_of}
use Rattle.tt_world.specs.declared.events.Event.{Event}
use Rattle.tt_world.specs.declared.events.Action.{Action}
use Rattle.tt_world.specs.declared.events.Action.TheVariants.{Send, Answer, Forge, Restart}
use Rattle.tt_world.specs.declared.packets.Packet.{Packet}
use Rattle.tt_world.specs.declared.packets.Packet.TheVariants.{Asked, Answered, Forged}
use Rattle.tt_daemon.specs.Config.{Configuration}
use Rattle.tt_world.specs.Packet.{answer_to}
use Rattle.tt_world.specs.Past.{sends_now, time_of, is_send_of, sends_of, put_by, packets_of}
use Rattle.tt_world.specs.Assumptions.{origin_of, is_lie}
use Rattle.tt_world.specs.Headline.{IsAction}
use Rattle.tt_world.proofs.Histories.Places.{get_front, get_back, get_one}
use Rattle.tt_world.proofs.Histories.Judging.{AreGood}

-- the nonce in a packet of a life, 0 in any other
abbrev pub nonce_of : Life → Packet → ℕ
nonce_of life (Asked request) = cond (same_life (record { machine = request.machine; number = request.epoch }) life) request.nonce 0
nonce_of life (Answered answer) = cond (same_life (record { machine = answer.machine; number = answer.epoch }) life) answer.nonce 0
nonce_of life (Forged machine source payload) = 0

sends_grow : (b : Bool) (n : ℕ) → n ≤ cond b (n + 1) n
sends_grow true n = omega arith
sends_grow false n = omega arith

sent_nonce : (past : List Event) (life : Life) (machine : ℕ) (b : Bool) → is_of past life machine ≡ b → cond b (sends_now past machine + 1) 0 ≤ cond b (sends_of past life + 1) (sends_of past life)
sent_nonce past life machine true e = subst (λ (k : Life). sends_now past machine + 1 ≤ sends_of past k + 1) (same_life-true (life_at past machine) life e) (omega arith)
sent_nonce past life machine false e = omega arith

answered_nonce : (life : Life) (bound k : ℕ) (asked : Option Packet) (span : Interval) (packet : Packet) → ((p : Packet) → asked ≡ Some p → nonce_of life p ≤ bound) → slice_get (answer_to asked span) k ≡ Some packet → nonce_of life packet ≤ bound
answered_nonce life bound k None span packet h e = absurd cc
answered_nonce life bound k (Some (Asked request)) span packet h e = subst (λ (p : Packet). nonce_of life p ≤ bound) (get_one _ packet k e) (h (Asked request) refl)
answered_nonce life bound k (Some (Answered answer)) span packet h e = absurd cc
answered_nonce life bound k (Some (Forged machine source payload)) span packet h e = absurd cc

new_nonce : (past : List Event) (life : Life) (action : Action) (k : ℕ) (packet : Packet) →
    ((p : ℕ) (asked : Packet) → slice_get (packets_of past) p ≡ Some asked → nonce_of life asked ≤ sends_of past life) →
    slice_get (put_by (life_of past) (sends_now past) (packets_of past) action) k ≡ Some packet → nonce_of life packet ≤ cond (is_send_of past life action) (sends_of past life + 1) (sends_of past life)
new_nonce past life (Send machine source clock) k packet h e =
    subst (λ (p : Packet). nonce_of life p ≤ cond (is_of past life machine) (sends_of past life + 1) (sends_of past life)) (get_one _ packet k e)
    (sent_nonce past life machine (is_of past life machine) refl)
new_nonce past life (Answer p span) k packet h e = answered_nonce life (sends_of past life) k (slice_get (packets_of past) p) span packet (h p) e
new_nonce past life (Forge machine source payload) k packet h e = subst (λ (p : Packet). nonce_of life p ≤ sends_of past life) (get_one _ packet k e) (omega arith)
new_nonce past life _ k packet h e = absurd cc

-- a packet that an event put, by its place among those that the event put
pub put_place : (past : List Event) (event : Event) (p : ℕ) (packet : Packet) → length (packets_of past) ≤ p → slice_get (packets_of (event ∷ past)) p ≡ Some packet →
    slice_get (put_by (life_of past) (sends_now past) (packets_of past) event.action) (p - length (packets_of past)) ≡ Some packet
put_place past event p packet h e = sym (get_back (packets_of past) (put_by (life_of past) (sends_now past) (packets_of past) event.action) p (p - length (packets_of past)) (omega arith)) ∙ e

-- no packet has a nonce that its machine has not sent
pub nonces_sent : (past : List Event) (life : Life) (p : ℕ) (packet : Packet) → slice_get (packets_of past) p ≡ Some packet → nonce_of life packet ≤ sends_of past life
nonces_sent [] life p packet e = absurd cc
nonces_sent (event ∷ past) life p packet e =
    elim (cases_lt p (length (packets_of past))) [
      | inl lt ↦
          let old : nonce_of life packet ≤ sends_of past life = nonces_sent past life p packet (sym (get_front (packets_of past) (put_by (life_of past) (sends_now past) (packets_of past) event.action) p lt) ∙ e) in
          let grow = sends_grow (is_send_of past life event.action) (sends_of past life) in
          omega arith
      | inr ge ↦ new_nonce past life event.action (p - length (packets_of past)) packet (nonces_sent past life) (put_place past event p packet ge e)
    ]

next_fits : (past : List Event) (machine m n : ℕ) (b : Bool) → eqb machine m ≡ b → eqb (life_of past machine) (2 ^ 64 - 1) ≡ false → life_of past m ≡ n → n < 2 ^ 64 → cond b (n + 1) n < 2 ^ 64
next_fits past machine m n true e left is fits =
    let same : machine ≡ m = eqb-true machine m e in
    let other : life_of past machine ≡ 2 ^ 64 - 1 → ⊥ = eqb-false _ _ left in
    let here : life_of past machine ≡ n = ap (life_of past) same ∙ is in
    omega arith
next_fits past machine m n false e left is fits = fits

lives_fit_after : (past : List Event) (action : Action) (m : ℕ) → uses_up_lives past action ≡ false → life_of past m < 2 ^ 64 → cond (restarts m action) (life_of past m + 1) (life_of past m) < 2 ^ 64
lives_fit_after past (Restart machine clock) m left fits = next_fits past machine m (life_of past m) (eqb machine m) refl left refl fits
lives_fit_after past _ m left fits = fits

-- the numbers of lives fit eight bytes
lives_fit : (configs : List Configuration) (past : List Event) → AreGood configs past → (m : ℕ) → life_of past m < 2 ^ 64
lives_fit configs [] good m = omega arith
lives_fit configs (event ∷ past) good m = lives_fit_after past event.action m good.0.life_left (lives_fit configs past good.1 m)

-- the epoch in a packet, 0 in one that was made up
abbrev pub epoch_of : Packet → ℕ
epoch_of (Asked request) = request.epoch
epoch_of (Answered answer) = answer.epoch
epoch_of (Forged machine source payload) = 0

answered_epoch : (k : ℕ) (asked : Option Packet) (span : Interval) (packet : Packet) → ((p : Packet) → asked ≡ Some p → epoch_of p < 2 ^ 64) → slice_get (answer_to asked span) k ≡ Some packet → epoch_of packet < 2 ^ 64
answered_epoch k None span packet h e = absurd cc
answered_epoch k (Some (Asked request)) span packet h e = subst (λ (p : Packet). epoch_of p < 2 ^ 64) (get_one _ packet k e) (h (Asked request) refl)
answered_epoch k (Some (Answered answer)) span packet h e = absurd cc
answered_epoch k (Some (Forged machine source payload)) span packet h e = absurd cc

new_epoch : (past : List Event) (action : Action) (k : ℕ) (packet : Packet) → ((m : ℕ) → life_of past m < 2 ^ 64) →
    ((p : ℕ) (asked : Packet) → slice_get (packets_of past) p ≡ Some asked → epoch_of asked < 2 ^ 64) →
    slice_get (put_by (life_of past) (sends_now past) (packets_of past) action) k ≡ Some packet → epoch_of packet < 2 ^ 64
new_epoch past (Send machine source clock) k packet lives h e = subst (λ (p : Packet). epoch_of p < 2 ^ 64) (get_one _ packet k e) (lives machine)
new_epoch past (Answer p span) k packet lives h e = answered_epoch k (slice_get (packets_of past) p) span packet (h p) e
new_epoch past (Forge machine source payload) k packet lives h e = subst (λ (p : Packet). epoch_of p < 2 ^ 64) (get_one _ packet k e) (omega arith)
new_epoch past _ k packet lives h e = absurd cc

-- the epochs in packets fit eight bytes
pub epochs_fit : (configs : List Configuration) (past : List Event) → AreGood configs past → (p : ℕ) (packet : Packet) → slice_get (packets_of past) p ≡ Some packet → epoch_of packet < 2 ^ 64
epochs_fit configs [] good p packet e = absurd cc
epochs_fit configs (event ∷ past) good p packet e =
    elim (cases_lt p (length (packets_of past))) [
      | inl lt ↦ epochs_fit configs past good.1 p packet (sym (get_front (packets_of past) (put_by (life_of past) (sends_now past) (packets_of past) event.action) p lt) ∙ e)
      | inr ge ↦ new_epoch past event.action (p - length (packets_of past)) packet (lives_fit configs past good.1) (epochs_fit configs past good.1) (put_place past event p packet ge e)
    ]

-- what a packet says where its event sent no lie at this true time
abbrev pub IsHonest : ℕ → Packet → Type 0
IsHonest at (Asked request) = Unit {0}
IsHonest at (Answered answer) = Holds answer.span at × IsInterval answer.span
IsHonest at (Forged machine source payload) = ⊥

honest_answer : (at k : ℕ) (asked : Option Packet) (span : Interval) (packet : Packet) → IsInterval span → not (leb span.lo at && leb at span.hi) ≡ false → slice_get (answer_to asked span) k ≡ Some packet → IsHonest at packet
honest_answer at k None span packet valid h e = absurd cc
honest_answer at k (Some (Asked request)) span packet valid h e =
    let parts = and_parts (leb span.lo at) (leb at span.hi) (not-false _ h) in
    subst (IsHonest at) (get_one _ packet k e) ((leb-true span.lo at parts.0, leb-true at span.hi parts.1), valid)
honest_answer at k (Some (Answered answer)) span packet valid h e = absurd cc
honest_answer at k (Some (Forged machine source payload)) span packet valid h e = absurd cc

honest_put : (lives sends : ℕ → ℕ) (packets : List Packet) (at : ℕ) (action : Action) (k : ℕ) (packet : Packet) → IsAction action → slice_get (put_by lives sends packets action) k ≡ Some packet → is_lie at action ≡ false → IsHonest at packet
honest_put lives sends packets at (Send machine source clock) k packet valid e h = subst (IsHonest at) (get_one _ packet k e) tt
honest_put lives sends packets at (Answer p span) k packet valid e h = honest_answer at k (slice_get packets p) span packet valid h e
honest_put lives sends packets at _ k packet valid e h = absurd cc

-- the event that put packet p, and what the packet says where that was no lie
pub record HasOrigin (past : List Event) (p : ℕ) (packet : Packet) : Type 0 where
  pub origin : Event
  pub is : origin_of past p ≡ Some origin
  pub by_now : origin.at ≤ time_of past
  pub honest : is_lie origin.at origin.action ≡ false → IsHonest origin.at packet

-- an event puts no packet in the place of another
pub origin-old : (past : List Event) (event : Event) (p : ℕ) → p < length (packets_of past) → origin_of (event ∷ past) p ≡ origin_of past p
origin-old past event p h = rw (lt-ltb p (length (packets_of past)) h) refl

pub origin-new : (past : List Event) (event : Event) (p : ℕ) → length (packets_of past) ≤ p → p < length (packets_of (event ∷ past)) → origin_of (event ∷ past) p ≡ Some event
origin-new past event p h k = rw (le-ltb p (length (packets_of past)) h, lt-ltb p (length (packets_of (event ∷ past))) k) refl

pub has_origin : (configs : List Configuration) (past : List Event) → AreGood configs past → AllByRecursion (λ (event : Event). IsAction event.action) past → (p : ℕ) (packet : Packet) → slice_get (packets_of past) p ≡ Some packet → HasOrigin past p packet
has_origin configs [] good valid p packet e = absurd cc
has_origin configs (event ∷ past) good valid p packet e =
    elim (cases_lt p (length (packets_of past))) [
      | inl lt ↦
          let old = has_origin configs past good.1 valid.1 p packet (sym (get_front (packets_of past) (put_by (life_of past) (sends_now past) (packets_of past) event.action) p lt) ∙ e) in
          let on : time_of past ≤ event.at = good.0.not_before in
          record { origin = old.origin; is = origin-old past event p lt ∙ old.is; by_now = omega (arith, old.by_now); honest = old.honest }
      | inr ge ↦ record {
        origin = event;
        is = origin-new past event p ge (slice_get_within (packets_of (event ∷ past)) p packet e);
        by_now = omega arith;
        honest = honest_put (life_of past) (sends_now past) (packets_of past) event.at event.action (p - length (packets_of past)) packet valid.0 (put_place past event p packet ge e);
      }
    ]
