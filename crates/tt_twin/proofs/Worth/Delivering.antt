-- The deliveries of a twin.
use Rattle.std.proofs.Common.{◌≡◌, ℕ, zero, suc, ◌+◌, ◌<◌, ◌≤◌, Bool, true, false, cond, eqb, ◌&&◌, not, List, length, slice_get, Option, Some, None, Result, Ok, inl, inr, refl, ap, subst, sym, ◌∙◌, arith, eq-eqb, ne_eqb, append-nil}
use Rattle.std.specs.Prelude.{is_some}
use Rattle.std.specs.Option.{option_or, option_map}
use Rattle.std.specs.Result.{result_ok}
use Rattle.std.proofs.lemmas.Bool.{cases_eq}
use Rattle.tt_span.specs.Interval.{Interval}
use Rattle.tt_poll.specs.declared.faults.PollFault.{PollFault}
use Rattle.tt_poll.specs.declared.messages.Message2.{Message2}
use Rattle.tt_poll.specs.declared.messages.Message2.TheVariants as says
use Rattle.tt_poll.specs.Message.{PollAnswer2}
use Rattle.tt_poll.specs.Spelling.{spelling_of2}
use Rattle.tt_poll.specs.Reading.{read_of2}
use Rattle.tt_poll.proofs.Taking.{read_of2-spelling_of2}
use Rattle.tt_source.specs.Statement.{Statement}
use Rattle.tt_source.specs.Table.{Sending, statement_of_message}
use Rattle.tt_source.specs.declared.faults.SourceFault.{SourceFault}
use Rattle.tt_daemon.specs.Config.{Configuration}
use Rattle.tt_world.specs.Life.{life_at, is_of}
use Rattle.tt_world.specs.declared.events.Event.{Event}
use Rattle.tt_world.specs.declared.packets.Packet.{Packet}
use Rattle.tt_world.specs.Packet.{machine_of_packet, bytes_of}
use Rattle.tt_world.specs.Past.{packets_of, clock_of}
use Rattle.tt_world.specs.Sources.{stated_in, outstanding_poll, statement_of}
use Rattle.tt_world.specs.Bad.{can_be_delivered, goes_back}
use Rattle.tt_world.specs.Assumptions.{origin_of, packet_of_statement}
use Rattle.tt_world.proofs.Simulation.Waiting.{outstanding-deliver}
use Rattle.tt_world.proofs.Histories.Origins.{origin-old}
use Rattle.tt_world.proofs.Histories.Judging.{AreGood}
use Rattle.tt_twin.proofs.Worth.Quiet.{still-clock, still-time}
use Rattle.tt_twin.proofs.Worth.Planning.{Plan, IsPlan, home, reply, delivery, answered, delivered, still-delivered, is_home}
use Rattle.tt_twin.proofs.Worth.Polling.{polled-waits, clock_stays}
use Rattle.tt_twin.proofs.Worth.Replying.{answer, answer_there, length-answered, answered-waits, answered-statement, answered-packet, answered-origin, answered-good}

-- a delivery puts no packet
pub delivered-packets : (p : Plan) (j : ℕ) → packets_of (delivered p j) ≡ packets_of (answered p p.count)
delivered-packets p zero = refl
delivered-packets p (suc j) = append-nil (packets_of (delivered p j)) ∙ delivered-packets p j

pub delivered-there : (p : Plan) (j k : ℕ) → k < p.count → slice_get (packets_of (delivered p j)) (p.count + k) ≡ Some (answer p k)
delivered-there p j k h = ap (λ (l : List Packet). slice_get l (p.count + k)) (delivered-packets p j) ∙ answer_there p k h

pub delivered-origin : (p : Plan) (j k : ℕ) → k < p.count → origin_of (delivered p j) (p.count + k) ≡ Some (reply p k)
delivered-origin p zero k h = answered-origin p p.count (omega arith) k h
delivered-origin p (suc j) k h =
    let long : length (packets_of (delivered p j)) ≡ p.count + p.count = ap (λ (l : List Packet). length l) (delivered-packets p j) ∙ length-answered p p.count (omega arith) in
    origin-old (delivered p j) (delivery p j) (p.count + k) (omega arith) ∙ delivered-origin p j k h

-- ---- what an answer states

-- what the answer of the k-th source states
abbrev pub statement : Plan → ℕ → Statement
statement p k = record { span = p.span k; sent = p.clock; got = p.clock }

-- the poll of the k-th source
abbrev pub sending : Plan → ℕ → Sending
sending p k = record { nonce = k + 1; clock = p.clock }

abbrev answer_of : Plan → ℕ → PollAnswer2
answer_of p k = record { machine = p.machine; source = p.source k; nonce = k + 1; epoch = 1; span = p.span k }

answer_read : (configs : List Configuration) (p : Plan) → IsPlan configs p → (k : ℕ) → k < p.count → read_of2 (spelling_of2 (says.Answer (answer_of p k))) ≡ Ok (says.Answer (answer_of p k))
answer_read configs p plan k h =
    let there = plan.source_there k h in
    let few = plan.sources_in in
    let count = plan.count_in in
    read_of2-spelling_of2 (says.Answer (answer_of p k)) (record {
      poll = record { machine_in = plan.machine_in; source_in = omega arith; nonce_in = omega arith; nonce_fits = omega arith };
      epoch_in = record { from_one = omega arith; fits = omega arith };
      span_in = plan.span_is k h;
    })

message_told : (m i e n c : ℕ) (span : Interval) → statement_of_message m e i (Some (record { nonce = n; clock = c })) c (Ok (says.Answer (record { machine = m; source = i; nonce = n; epoch = e; span = span }))) ≡ Ok (record { span = span; sent = c; got = c })
message_told m i e n c span =
    let mm : eqb m m ≡ true = eq-eqb m m refl in
    let ii : eqb i i ≡ true = eq-eqb i i refl in
    let ee : eqb e e ≡ true = eq-eqb e e refl in
    let nn : eqb n n ≡ true = eq-eqb n n refl in
    rw (mm, ii, ee, nn) refl

-- what the machine makes of the k-th answer, which it waits for
pub answer_told : (configs : List Configuration) (p : Plan) → IsPlan configs p → (k : ℕ) → k < p.count →
    statement_of_message p.machine 1 (p.source k) (Some (sending p k)) p.clock (read_of2 (bytes_of (answer p k))) ≡ Ok (statement p k)
answer_told configs p plan k h =
    ap (λ (r : Result Message2 PollFault). statement_of_message p.machine 1 (p.source k) (Some (sending p k)) p.clock r) (answer_read configs p plan k h)
    ∙ message_told p.machine (p.source k) 1 (k + 1) p.clock (p.span k)

stated-own : (configs : List Configuration) (p : Plan) → IsPlan configs p → (past : List Event) → is_of past (home p) p.machine ≡ true → (k : ℕ) → k < p.count →
    stated_in past (home p) (p.source k) (Some (sending p k)) p.clock (Some (answer p k)) ≡ Some (statement p k)
stated-own configs p plan past own k h =
    let own_source : eqb (p.source k) (p.source k) ≡ true = eq-eqb _ _ refl in
    let told : Option Statement = result_ok (statement_of_message p.machine 1 (p.source k) (Some (sending p k)) p.clock (read_of2 (bytes_of (answer p k)))) in
    ap (λ (b : Bool). cond (b && eqb (p.source k) (p.source k)) told None) own
    ∙ ap (λ (b : Bool). cond b told None) own_source
    ∙ ap (λ (r : Result Statement SourceFault). result_ok r) (answer_told configs p plan k h)

no_and : (b : Bool) → (b && false) ≡ false
no_and true = refl
no_and false = refl

stated-other : (p : Plan) (past : List Event) (k i : ℕ) (waiting : Option Sending) → (p.source k ≡ i → ⊥) → stated_in past (home p) i waiting p.clock (Some (answer p k)) ≡ None
stated-other p past k i waiting other =
    let differ : eqb (p.source k) i ≡ false = ne_eqb _ _ other in
    let told : Option Statement = result_ok (statement_of_message p.machine 1 i waiting p.clock (read_of2 (bytes_of (answer p k)))) in
    ap (λ (b : Bool). cond (is_of past (home p) p.machine && b) told None) differ
    ∙ ap (λ (b : Bool). cond b told None) (no_and (is_of past (home p) p.machine))

-- ---- after j deliveries

-- what the next delivery states for source i, where this poll waits
abbrev stated_next : Plan → ℕ → ℕ → Option Sending → Option Statement
stated_next p j i waiting = stated_in (delivered p j) (home p) i waiting p.clock (slice_get (packets_of (delivered p j)) (p.count + j))

next-own : (configs : List Configuration) (p : Plan) → IsPlan configs p → (j : ℕ) → j < p.count → (waiting : Option Sending) → waiting ≡ Some (sending p j) → stated_next p j (p.source j) waiting ≡ Some (statement p j)
next-own configs p plan j h waiting is =
    ap (λ (o : Option Packet). stated_in (delivered p j) (home p) (p.source j) waiting p.clock o) (delivered-there p j j h)
    ∙ ap (λ (w : Option Sending). stated_in (delivered p j) (home p) (p.source j) w p.clock (Some (answer p j))) is
    ∙ stated-own configs p plan (delivered p j) (is_home p (delivered p j) (still-delivered p j)) j h

next-other : (p : Plan) (j i : ℕ) → j < p.count → (waiting : Option Sending) → (p.source j ≡ i → ⊥) → stated_next p j i waiting ≡ None
next-other p j i h waiting other =
    ap (λ (o : Option Packet). stated_in (delivered p j) (home p) i waiting p.clock o) (delivered-there p j j h)
    ∙ stated-other p (delivered p j) j i waiting other

-- what is known after j deliveries
pub record IsDelivered (p : Plan) (j : ℕ) : Type 0 where
  pub waits : (k : ℕ) → j ≤ k → k < p.count → outstanding_poll (delivered p j) (home p) (p.source k) ≡ Some (sending p k)
  pub states : (k : ℕ) → k < j → statement_of (delivered p j) (home p) (p.source k) ≡ Some (statement p k)
  pub packets : (k : ℕ) → k < j → packet_of_statement (delivered p j) (home p) (p.source k) ≡ Some (p.count + k)
  pub no_statement : (i : ℕ) → ((k : ℕ) → k < j → p.source k ≡ i → ⊥) → statement_of (delivered p j) (home p) i ≡ None
  pub no_packet : (i : ℕ) → ((k : ℕ) → k < j → p.source k ≡ i → ⊥) → packet_of_statement (delivered p j) (home p) i ≡ None

-- what one more delivery leaves of a source, by what it states for it
statement_next : (p : Plan) (j i : ℕ) (o : Option Statement) → stated_next p j i (outstanding_poll (delivered p j) (home p) i) ≡ o → statement_of (delivered p (suc j)) (home p) i ≡ option_or o (statement_of (delivered p j) (home p) i)
statement_next p j i o h = ap (λ (s : Option Statement). option_or s (statement_of (delivered p j) (home p) i)) h

packet_next : (p : Plan) (j i : ℕ) (o : Option Statement) → stated_next p j i (outstanding_poll (delivered p j) (home p) i) ≡ o → packet_of_statement (delivered p (suc j)) (home p) i ≡ cond (is_some o) (Some (p.count + j)) (packet_of_statement (delivered p j) (home p) i)
packet_next p j i o h = ap (λ (s : Option Statement). cond (is_some s) (Some (p.count + j)) (packet_of_statement (delivered p j) (home p) i)) h

waits_next : (p : Plan) (j i : ℕ) (o : Option Statement) → stated_next p j i (outstanding_poll (delivered p j) (home p) i) ≡ o → outstanding_poll (delivered p (suc j)) (home p) i ≡ cond (is_some o) None (outstanding_poll (delivered p j) (home p) i)
waits_next p j i o h =
    outstanding-deliver (delivered p j) p.time (p.count + j) p.clock (home p) i ∙ ap (λ (s : Option Statement). cond (is_some s) None (outstanding_poll (delivered p j) (home p) i)) h

delivered-next : (configs : List Configuration) (p : Plan) → IsPlan configs p → (j : ℕ) → j < p.count → IsDelivered p j → IsDelivered p (suc j)
delivered-next configs p plan j h d =
    let own : stated_next p j (p.source j) (outstanding_poll (delivered p j) (home p) (p.source j)) ≡ Some (statement p j) = next-own configs p plan j h (outstanding_poll (delivered p j) (home p) (p.source j)) (d.waits j (omega arith) h) in
    let other : (i : ℕ) → (p.source j ≡ i → ⊥) → stated_next p j i (outstanding_poll (delivered p j) (home p) i) ≡ None = λ i differ. next-other p j i h (outstanding_poll (delivered p j) (home p) i) differ in
    let differs : (k : ℕ) → k < p.count → (k ≡ j → ⊥) → p.source j ≡ p.source k → ⊥ = λ k below not_same e. not_same (plan.apart k j below h (sym e)) in
    let at_own : (k : ℕ) → k ≡ j → p.source j ≡ p.source k = λ k e. ap p.source (sym e) in
    record {
      waits = λ k from below. let differ : k ≡ j → ⊥ = λ e. omega arith in waits_next p j (p.source k) None (other (p.source k) (differs k below differ)) ∙ d.waits k (omega arith) below;
      states = λ k below. elim (cases_eq k j) [
        | inl here ↦
            let P : ℕ → Type 0 = λ n. statement_of (delivered p (suc j)) (home p) (p.source n) ≡ Some (statement p n) in
            subst P (sym here) (statement_next p j (p.source j) (Some (statement p j)) own)
        | inr not_here ↦ let earlier : k < j = omega arith in statement_next p j (p.source k) None (other (p.source k) (differs k (omega arith) not_here)) ∙ d.states k earlier
      ];
      packets = λ k below. elim (cases_eq k j) [
        | inl here ↦
            let P : ℕ → Type 0 = λ n. packet_of_statement (delivered p (suc j)) (home p) (p.source n) ≡ Some (p.count + n) in
            subst P (sym here) (packet_next p j (p.source j) (Some (statement p j)) own)
        | inr not_here ↦ let earlier : k < j = omega arith in packet_next p j (p.source k) None (other (p.source k) (differs k (omega arith) not_here)) ∙ d.packets k earlier
      ];
      no_statement = λ i none. statement_next p j i None (other i (none j (omega arith))) ∙ d.no_statement i (λ k below e. none k (omega arith) e);
      no_packet = λ i none. packet_next p j i None (other i (none j (omega arith))) ∙ d.no_packet i (λ k below e. none k (omega arith) e);
    }

pub delivered-all : (configs : List Configuration) (p : Plan) → IsPlan configs p → (j : ℕ) → j ≤ p.count → IsDelivered p j
delivered-all configs p plan zero few = record {
  waits = λ k from below. answered-waits p p.count (home p) (p.source k) ∙ polled-waits configs p plan p.count (omega arith) k below;
  states = λ k below. absurd (omega arith);
  packets = λ k below. absurd (omega arith);
  no_statement = λ i none. answered-statement p p.count (home p) i;
  no_packet = λ i none. answered-packet p p.count (home p) i;
}
delivered-all configs p plan (suc j) few = delivered-next configs p plan j (omega arith) (delivered-all configs p plan j (omega arith))

-- no delivery is bad
pub delivered-good : (configs : List Configuration) (p : Plan) → IsPlan configs p → (j : ℕ) → j ≤ p.count → AreGood configs (delivered p j)
delivered-good configs p plan zero few = answered-good configs p plan p.count (omega arith)
delivered-good configs p plan (suc j) few = (
  record {
    not_before = still-time p.clock p.time (delivered p j) (still-delivered p j);
    in_time = plan.time_in;
    named = refl;
    packet_there = ap (λ (o : Option Packet). not (can_be_delivered o)) (delivered-there p j j (omega arith));
    clock_on =
        ap (λ (o : Option Packet). goes_back (clock_of (delivered p j)) (option_map (λ q. record { life = life_at (delivered p j) (machine_of_packet q); clock = p.clock }) o)) (delivered-there p j j (omega arith))
        ∙ clock_stays (clock_of (delivered p j) (life_at (delivered p j) p.machine)) p.clock (still-clock p.clock p.time (delivered p j) (life_at (delivered p j) p.machine) (still-delivered p j)) plan.clock_in;
    publication_there = refl;
    thing_there = refl;
    life_left = refl;
  },
  delivered-good configs p plan j (omega arith),
)
