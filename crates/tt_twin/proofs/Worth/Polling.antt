-- The polls of a twin.
use Rattle.std.proofs.Common.{◌≡◌, ℕ, zero, suc, ◌+◌, ◌<◌, ◌≤◌, Bool, true, false, cond, eqb, ltb, ◌&&◌, ◌||◌, not, List, [], ◌∷◌, ◌++◌, length, map, Option, Some, None, inl, inr, refl, ap, sym, ◌∙◌, arith, eq-eqb, ne_eqb}
use Rattle.std.specs.List.{range_with_len}
use Rattle.std.proofs.lemmas.Bool.{cases_eq, lt-ltb, le-ltb}
use Rattle.std.proofs.lemmas.List.FromFn.{length-map-range_with_len}
use Rattle.tt_span.specs.Time.{max_time}
use Rattle.tt_source.specs.Table.{Sending}
use Rattle.tt_daemon.specs.Config.{Configuration}
use Rattle.tt_world.specs.Config.{config_at}
use Rattle.tt_world.specs.Life.{Life, life_of, life_at, is_of}
use Rattle.tt_world.specs.declared.packets.Packet.{Packet}
use Rattle.tt_world.specs.declared.packets.Packet.TheVariants.{Asked}
use Rattle.tt_world.specs.Past.{sends_of, sends_now, packets_of, clock_of}
use Rattle.tt_world.specs.Sources.{outstanding_poll, statement_of}
use Rattle.tt_world.specs.Assumptions.{packet_of_statement}
use Rattle.tt_world.proofs.Simulation.Waiting.{outstanding-send}
use Rattle.tt_world.proofs.Histories.Judging.{AreGood}
use Rattle.tt_twin.proofs.Worth.Quiet.{still-life, still-clock, still-time}
use Rattle.tt_twin.proofs.Worth.Planning.{Plan, IsPlan, home, polled, more_made, still-polled, at_home, is_home}

-- the packet of a poll
abbrev pub request : Plan → ℕ → Packet
request p k = Asked (record { machine = p.machine; source = p.source k; nonce = k + 1; epoch = 1 })

-- so many polls have been sent
pub polled-sends : (p : Plan) (j : ℕ) → sends_of (polled p j) (home p) ≡ j
polled-sends p zero = refl
polled-sends p (suc j) =
    let own : is_of (polled p j) (home p) p.machine ≡ true = is_home p (polled p j) (still-polled p j) in
    let before = polled-sends p j in
    ap (λ (b : Bool). cond b (sends_of (polled p j) (home p) + 1) (sends_of (polled p j) (home p))) own ∙ omega arith

-- the packets are the requests, in their order
pub polled-packets : (p : Plan) (j : ℕ) → packets_of (polled p j) ≡ map (request p) (range_with_len 0 j)
polled-packets p zero = refl
polled-packets p (suc j) =
    let asked : ℕ → ℕ → Packet = λ nonce epoch. Asked (record { machine = p.machine; source = p.source j; nonce = nonce; epoch = epoch }) in
    let nonce : sends_now (polled p j) p.machine + 1 ≡ j + 1 = ap (λ (k : Life). sends_of (polled p j) k + 1) (at_home p (polled p j) (still-polled p j)) ∙ ap (λ n. n + 1) (polled-sends p j) in
    let epoch : life_of (polled p j) p.machine ≡ 1 = still-life p.clock p.time (polled p j) p.machine (still-polled p j) in
    ap (λ l. l ++ asked (sends_now (polled p j) p.machine + 1) (life_of (polled p j) p.machine) ∷ []) (polled-packets p j)
    ∙ ap (λ n. map (request p) (range_with_len 0 j) ++ asked n (life_of (polled p j) p.machine) ∷ []) nonce
    ∙ ap (λ e. map (request p) (range_with_len 0 j) ++ asked (j + 1) e ∷ []) epoch
    ∙ sym (more_made (request p) j)

pub length-polled : (p : Plan) (j : ℕ) → length (packets_of (polled p j)) ≡ j
length-polled p j = ap (λ (l : List Packet). length l) (polled-packets p j) ∙ length-map-range_with_len (request p) 0 j

-- each of them waits
pub polled-waits : (configs : List Configuration) (p : Plan) → IsPlan configs p → (j : ℕ) → j ≤ p.count → (k : ℕ) → k < j → outstanding_poll (polled p j) (home p) (p.source k) ≡ Some (record { nonce = k + 1; clock = p.clock })
polled-waits configs p plan zero few k h = absurd (omega arith)
polled-waits configs p plan (suc j) few k h =
    let own : is_of (polled p j) (home p) p.machine ≡ true = is_home p (polled p j) (still-polled p j) in
    let sent : ℕ → Option Sending = λ n. Some (record { nonce = n; clock = p.clock }) in
    outstanding-send (polled p j) p.time p.machine (p.source j) p.clock (home p) (p.source k)
    ∙ ap (λ (b : Bool). cond (b && eqb (p.source j) (p.source k)) (sent (sends_of (polled p j) (home p) + 1)) (outstanding_poll (polled p j) (home p) (p.source k))) own
    ∙ elim (cases_eq k j) [
      | inl here ↦
          let same : eqb (p.source j) (p.source k) ≡ true = eq-eqb _ _ (ap p.source (sym here)) in
          let nonce : sends_of (polled p j) (home p) + 1 ≡ k + 1 = ap (λ n. n + 1) (polled-sends p j ∙ sym here) in
          ap (λ (b : Bool). cond b (sent (sends_of (polled p j) (home p) + 1)) (outstanding_poll (polled p j) (home p) (p.source k))) same ∙ ap sent nonce
      | inr other ↦
          let earlier : k < j = omega arith in
          let differ : eqb (p.source j) (p.source k) ≡ false = ne_eqb _ _ (λ e. other (plan.apart k j (omega arith) (omega arith) (sym e))) in
          ap (λ (b : Bool). cond b (sent (sends_of (polled p j) (home p) + 1)) (outstanding_poll (polled p j) (home p) (p.source k))) differ
          ∙ polled-waits configs p plan j (omega arith) k earlier
    ]

-- nothing has been stated
pub polled-statement : (p : Plan) (j : ℕ) (life : Life) (i : ℕ) → statement_of (polled p j) life i ≡ None
polled-statement p zero life i = refl
polled-statement p (suc j) life i = polled-statement p j life i

pub polled-packet : (p : Plan) (j : ℕ) (life : Life) (i : ℕ) → packet_of_statement (polled p j) life i ≡ None
polled-packet p zero life i = refl
polled-packet p (suc j) life i = polled-packet p j life i

-- a clock that is read again
pub clock_stays : (before c : ℕ) → before ≤ c → c ≤ max_time → (ltb c before || ltb max_time c) ≡ false
clock_stays before c h k =
    let a : ltb c before ≡ false = le-ltb c before h in
    let b : ltb max_time c ≡ false = le-ltb max_time c k in
    rw (a, b) refl

source_named : (configs : List Configuration) (m i : ℕ) → m < length configs → i < (config_at configs m).sources → not (ltb m (length configs) && ltb i (config_at configs m).sources) ≡ false
source_named configs m i h k =
    let a : ltb m (length configs) ≡ true = lt-ltb m (length configs) h in
    let b : ltb i (config_at configs m).sources ≡ true = lt-ltb i (config_at configs m).sources k in
    rw (a, b) refl

-- no poll is bad
pub polled-good : (configs : List Configuration) (p : Plan) → IsPlan configs p → (j : ℕ) → j ≤ p.count → AreGood configs (polled p j)
polled-good configs p plan zero few = tt
polled-good configs p plan (suc j) few = (
  record {
    not_before = still-time p.clock p.time (polled p j) (still-polled p j);
    in_time = plan.time_in;
    named = source_named configs p.machine (p.source j) plan.machine_there (plan.source_there j (omega arith));
    packet_there = refl;
    clock_on = clock_stays (clock_of (polled p j) (life_at (polled p j) p.machine)) p.clock (still-clock p.clock p.time (polled p j) (life_at (polled p j) p.machine) (still-polled p j)) plan.clock_in;
    publication_there = refl;
    thing_there = refl;
    life_left = refl;
  },
  polled-good configs p plan j (omega arith),
)
