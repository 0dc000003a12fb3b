-- What each source has stated: when it was true, where it is not false.
use Rattle.std.proofs.Common.{◌≡◌, ℕ, ◌<◌, ◌≤◌, Bool, true, false, not, cond, eqb, ◌&&◌, List, [], ◌∷◌, length, Option, Some, None, Result, Ok, Err, inl, refl, ap, subst, sym, ◌∙◌, arith, ◌^◌}
use Rattle.std.specs.Prelude.{slice_get, is_some}
use Rattle.std.specs.List.{AllByRecursion}
use Rattle.std.specs.Option.{option_or, option_and_then, option_map}
use Rattle.std.specs.Result.{result_ok}
use Rattle.std.proofs.lemmas.Bool.{and_parts, eqb-true, eq-eqb, not-false, not-true}
use Rattle.std.proofs.lemmas.List.{length-append}
use Rattle.std.proofs.lemmas.Option.{slice_get_within}
use Rattle.tt_span.specs.Interval.{Interval, IsInterval, Holds}
use Rattle.tt_span.specs.Drift.{Moment}
use Rattle.tt_poll.specs.Message.{PollAnswer2}
use Rattle.tt_poll.specs.Reading.{read_of2}
use Rattle.tt_poll.specs.declared.faults.PollFault.{PollFault}
use Rattle.tt_poll.specs.declared.messages.Message2.{Message2}
use Rattle.tt_poll.specs.declared.messages.Message2.TheVariants as says
use Rattle.tt_source.specs.Statement.{Statement}
use Rattle.tt_source.specs.Table.{Sending, waiting_for, statement_of_answer, statement_of_message}
use Rattle.tt_source.specs.declared.faults.SourceFault.{SourceFault}
use Rattle.tt_source.specs.declared.faults.SourceFault.TheVariants.{NotMine, OtherEpoch}
use Rattle.tt_world.proofs.Simulation.Lives.{same_life-true}
use Rattle.tt_world.specs.Life.{life_of, Life, life_at, is_of}
use Rattle.tt_world.specs.declared.events.Event.{Event}
use Rattle.tt_world.specs.declared.events.Action.{Action}
use Rattle.tt_world.specs.declared.events.Action.TheVariants.{Deliver}
use Rattle.tt_world.specs.declared.packets.Packet.{Packet}
use Rattle.tt_world.specs.declared.packets.Packet.TheVariants.{Asked, Answered, Forged}
use Rattle.tt_daemon.specs.Config.{Configuration}
use Rattle.tt_world.specs.Packet.{machine_of_packet, source_of_packet, bytes_of, is_asked}
use Rattle.tt_world.specs.Past.{sends_now, time_of, put_by, packets_of, clock_reading, clock_of, moments_of}
use Rattle.tt_world.specs.Sources.{last_send, stated_in, stated_by, is_answered, outstanding_poll, statement_of}
use Rattle.tt_world.specs.Bad.{can_be_delivered, lacks_packet}
use Rattle.tt_world.specs.Assumptions.{origin_of, delivered_by, packet_of_statement, is_lie, is_lying, is_false_statement}
use Rattle.tt_world.specs.Headline.{IsAction}
use Rattle.tt_world.proofs.Histories.Places.{IsIn}
use Rattle.tt_world.proofs.Histories.Judging.{IsGood, AreGood}
use Rattle.tt_world.proofs.Histories.Clocks.{reading_on, clock_on, reading_of, moment_stays}
use Rattle.tt_world.proofs.Histories.Origins.{epoch_of, epochs_fit, nonce_of, IsHonest, has_origin, origin-old}
use Rattle.tt_world.proofs.Histories.Answering.{answer_valid, answer_back}
use Rattle.tt_world.proofs.Histories.PollTimes.{last_poll}

-- what was said where a message made a statement
record IsSaid (life : Life) (i : ℕ) (waiting : Option Sending) (clock : ℕ) (message : Result Message2 PollFault) (s : Statement) : Type 0 where
  answer : PollAnswer2
  sending : Sending
  says_so : message ≡ Ok (says.Answer answer)
  waits : waiting ≡ Some sending
  epoch : answer.epoch ≡ life.number
  nonce : sending.nonce ≡ answer.nonce
  span : s.span ≡ answer.span
  sent : s.sent ≡ sending.clock
  got : s.got ≡ clock

mine : (b c : Bool) (r : Result Statement SourceFault) (s : Statement) → result_ok (cond (not b) (Err NotMine) (cond (not c) (Err OtherEpoch) r)) ≡ Some s → (c ≡ true) × (result_ok r ≡ Some s)
mine true true r s h = (refl, h)
mine true false r s h = absurd cc
mine false c r s h = absurd cc

awaited : (b : Bool) (sending : Sending) (answer : PollAnswer2) (clock : ℕ) (s : Statement) → result_ok (statement_of_answer (cond b (Some sending) None) answer clock) ≡ Some s → (b ≡ true) × (s ≡ record { span = answer.span; sent = sending.clock; got = clock })
awaited true sending answer clock s h = (refl, cc)
awaited false sending answer clock s h = absurd cc

said_by_answer : (life : Life) (i : ℕ) (waiting : Option Sending) (clock : ℕ) (answer : PollAnswer2) (s : Statement) → answer.epoch ≡ life.number → result_ok (statement_of_answer (waiting_for waiting answer.nonce) answer clock) ≡ Some s → IsSaid life i waiting clock (Ok (says.Answer answer)) s
said_by_answer life i None clock answer s same h = absurd cc
said_by_answer life i (Some sending) clock answer s same h =
    let facts = awaited (eqb sending.nonce answer.nonce) sending answer clock s h in
    record {
      answer = answer;
      sending = sending;
      says_so = refl;
      waits = refl;
      epoch = same;
      nonce = eqb-true sending.nonce answer.nonce facts.0;
      span = ap (λ (x : Statement). x.span) facts.1;
      sent = ap (λ (x : Statement). x.sent) facts.1;
      got = ap (λ (x : Statement). x.got) facts.1;
    }

said : (life : Life) (i : ℕ) (waiting : Option Sending) (clock : ℕ) (message : Result Message2 PollFault) (s : Statement) → result_ok (statement_of_message life.machine life.number i waiting clock message) ≡ Some s → IsSaid life i waiting clock message s
said life i waiting clock (Err e) s h = absurd cc
said life i waiting clock (Ok (says.Request request)) s h = absurd cc
said life i waiting clock (Ok (says.Answer answer)) s h =
    let facts = mine (eqb answer.machine life.machine && eqb answer.source i) (eqb answer.epoch life.number) (statement_of_answer (waiting_for waiting answer.nonce) answer clock) s h in
    said_by_answer life i waiting clock answer s (eqb-true answer.epoch life.number facts.0) facts.1

-- what an event is that states something for source i of machine life
record IsTaken (past : List Event) (life : Life) (i : ℕ) (waiting : Option Sending) (action : Action) (s : Statement) : Type 0 where
  place : ℕ
  packet : Packet
  delivers : delivered_by action ≡ Some place
  there : slice_get (packets_of past) place ≡ Some packet
  machine : life_at past (machine_of_packet packet) ≡ life
  reading : clock_reading past action ≡ reading_on life s.got
  not_asked : lacks_packet (packets_of past) action ≡ false → is_asked packet ≡ false
  is_said : IsSaid life i waiting s.got (read_of2 (bytes_of packet)) s

only_if : (b : Bool) (o : Option Statement) (s : Statement) → cond b o None ≡ Some s → (b ≡ true) × (o ≡ Some s)
only_if true o s h = (refl, h)
only_if false o s h = absurd cc

not_a_request : (o : Option Packet) (packet : Packet) → o ≡ Some packet → not (can_be_delivered o) ≡ false → is_asked packet ≡ false
not_a_request o packet e h =
    let k = subst (λ (x : Option Packet). not (can_be_delivered x) ≡ false) e h in
    not-true (is_asked packet) (not-false _ k)

taken_of_packet : (past : List Event) (life : Life) (i : ℕ) (waiting : Option Sending) (place clock : ℕ) (s : Statement) (there : Option Packet) → slice_get (packets_of past) place ≡ there → stated_in past life i waiting clock there ≡ Some s → IsTaken past life i waiting (Deliver place clock) s
taken_of_packet past life i waiting place clock s None e h = absurd cc
taken_of_packet past life i waiting place clock s (Some packet) e h =
    let mine = only_if (is_of past life (machine_of_packet packet) && eqb (source_of_packet packet) i) (result_ok (statement_of_message life.machine life.number i waiting clock (read_of2 (bytes_of packet)))) s h in
    let here = and_parts (is_of past life (machine_of_packet packet)) (eqb (source_of_packet packet) i) mine.0 in
    let same : life_at past (machine_of_packet packet) ≡ life = same_life-true (life_at past (machine_of_packet packet)) life here.0 in
    let facts = said life i waiting clock (read_of2 (bytes_of packet)) s mine.1 in
    record {
      place = place;
      packet = packet;
      delivers = refl;
      there = e;
      machine = same;
      reading = ap (λ (o : Option Packet). option_map (λ (p : Packet). record { life = life_at past (machine_of_packet p); clock = clock }) o) e ∙ ap (λ (k : Life). reading_on k clock) same ∙ ap (λ (c : ℕ). reading_on life c) (sym facts.got);
      not_asked = not_a_request (slice_get (packets_of past) place) packet e;
      is_said = subst (λ (c : ℕ). IsSaid life i waiting c (read_of2 (bytes_of packet)) s) (sym facts.got) facts;
    }

taken_of : (past : List Event) (life : Life) (i : ℕ) (waiting : Option Sending) (action : Action) (s : Statement) → stated_by past life i waiting action ≡ Some s → IsTaken past life i waiting action s
taken_of past life i waiting (Deliver place clock) s h = taken_of_packet past life i waiting place clock s (slice_get (packets_of past) place) refl h
taken_of past life i waiting _ s h = absurd cc

-- the packet of a statement was put
packet_put_after : (past : List Event) (event : Event) (life : Life) (i p : ℕ) (stated : Option Statement) → stated_by past life i (outstanding_poll past life i) event.action ≡ stated → (packet_of_statement past life i ≡ Some p → p < length (packets_of past)) →
    cond (is_some stated) (delivered_by event.action) (packet_of_statement past life i) ≡ Some p → p < length (packets_of (event ∷ past))
packet_put_after past event life i p None h old e =
    let before : p < length (packets_of past) = old e in
    omega (arith, length-append (packets_of past) (put_by (life_of past) (sends_now past) (packets_of past) event.action))
packet_put_after past event life i p (Some s) h old e =
    let taken = taken_of past life i (outstanding_poll past life i) event.action s h in
    let within : taken.place < length (packets_of past) = slice_get_within (packets_of past) taken.place taken.packet taken.there in
    let same : taken.place ≡ p = same_some taken.place p (delivered_by event.action) taken.delivers e in
    omega (arith, length-append (packets_of past) (put_by (life_of past) (sends_now past) (packets_of past) event.action))
  where
    same_some : (a b : ℕ) (o : Option ℕ) → o ≡ Some a → o ≡ Some b → a ≡ b
    same_some a b o h k = cc

packet_put : (past : List Event) (life : Life) (i p : ℕ) → packet_of_statement past life i ≡ Some p → p < length (packets_of past)
packet_put [] life i p e = absurd cc
packet_put (event ∷ past) life i p e = packet_put_after past event life i p (stated_by past life i (outstanding_poll past life i) event.action) refl (packet_put past life i p) e

-- the true times of a statement: its span held the true time when it was given, from the sending to the receipt
pub record WasTrue (past : List Event) (life : Life) (s : Statement) : Type 0 where
  pub sending : ℕ
  pub giving : ℕ
  pub receipt : ℕ
  pub sent : IsIn (record { clock = s.sent; time = sending }) (moments_of past life)
  pub got : IsIn (record { clock = s.got; time = receipt }) (moments_of past life)
  pub given_after_sending : sending ≤ giving
  pub received_after_giving : giving ≤ receipt
  pub by_now : receipt ≤ time_of past
  pub held : Holds s.span giving

-- what is known of the statement of source i
pub record IsStated (past : List Event) (life : Life) (i : ℕ) (s : Statement) : Type 0 where
  pub valid : IsInterval s.span
  pub ordered : s.sent ≤ s.got
  pub by_now : s.got ≤ clock_of past life
  pub true_unless_false : AllByRecursion (λ (e : Event). IsAction e.action) past → is_false_statement past life i ≡ false → WasTrue past life s

was_true_stays : (configs : List Configuration) (past : List Event) (event : Event) (life : Life) (s : Statement) → IsGood configs past event → WasTrue past life s → WasTrue (event ∷ past) life s
was_true_stays configs past event life s good t =
    let on : time_of past ≤ event.at = good.not_before in
    record {
      sending = t.sending;
      giving = t.giving;
      receipt = t.receipt;
      sent = moment_stays past event life (record { clock = s.sent; time = t.sending }) t.sent;
      got = moment_stays past event life (record { clock = s.got; time = t.receipt }) t.got;
      given_after_sending = t.given_after_sending;
      received_after_giving = t.received_after_giving;
      by_now = omega (arith, t.by_now);
      held = t.held;
    }

lying_stays : (past : List Event) (event : Event) (place : Option ℕ) → ((p : ℕ) → place ≡ Some p → p < length (packets_of past)) → is_lying (option_and_then (origin_of (event ∷ past)) place) ≡ is_lying (option_and_then (origin_of past) place)
lying_stays past event None h = refl
lying_stays past event (Some p) h = ap is_lying (origin-old past event p (h p refl))

-- an event that states nothing leaves a statement as it was
stated_stays : (configs : List Configuration) (past : List Event) (event : Event) (life : Life) (i : ℕ) (s : Statement) → IsGood configs past event → stated_by past life i (outstanding_poll past life i) event.action ≡ None → IsStated past life i s → IsStated (event ∷ past) life i s
stated_stays configs past event life i s good none old =
    let clock : clock_of past life ≤ clock_of (event ∷ past) life = clock_on configs past event life good in
    let place : packet_of_statement (event ∷ past) life i ≡ packet_of_statement past life i = ap (λ (o : Option Statement). cond (is_some o) (delivered_by event.action) (packet_of_statement past life i)) none in
    let same : is_false_statement (event ∷ past) life i ≡ is_false_statement past life i = ap (λ (o : Option ℕ). is_lying (option_and_then (origin_of (event ∷ past)) o)) place ∙ lying_stays past event (packet_of_statement past life i) (packet_put past life i) in
    record {
      valid = old.valid;
      ordered = old.ordered;
      by_now = omega (arith, old.by_now);
      true_unless_false = λ valid h. was_true_stays configs past event life s good (old.true_unless_false valid.1 (sym same ∙ h));
    }

-- an honest packet that is read as an answer: its span held the true time, and it has the nonce of the answer or a later one
honest_said : (past : List Event) (life : Life) (at : ℕ) (packet : Packet) (answer : PollAnswer2) → epoch_of packet < 2 ^ 64 → answer.epoch ≡ life.number → IsHonest at packet → is_asked packet ≡ false → life_at past (machine_of_packet packet) ≡ life → read_of2 (bytes_of packet) ≡ Ok (says.Answer answer) → (answer.nonce ≤ nonce_of life packet) × Holds answer.span at
honest_said past life at (Asked request) answer fits epoch honest not_asked machine read = absurd cc
honest_said past life at (Answered given) answer fits epoch honest not_asked machine read =
    let back = answer_back given answer honest.1 read in
    let here : eqb given.machine life.machine ≡ true = eq-eqb _ _ (ap (λ (k : Life). k.machine) machine) in
    let now : eqb given.epoch life.number ≡ true = eq-eqb _ _ (sym (back.epoch fits) ∙ epoch) in (
      rw (here, now) back.nonce,
      subst (λ (span : Interval). Holds span at) (sym back.span) honest.0,
    )
honest_said past life at (Forged machine source payload) answer fits epoch honest not_asked same read = absurd honest

unless_answered : (b : Bool) (last : Option Sending) (sending : Sending) → cond b None last ≡ Some sending → last ≡ Some sending
unless_answered true last sending h = absurd cc
unless_answered false last sending h = h

-- an event that makes a statement
stated_new : (configs : List Configuration) (past : List Event) (event : Event) (life : Life) (i : ℕ) (s : Statement) → IsGood configs past event → AreGood configs past →
    stated_by past life i (outstanding_poll past life i) event.action ≡ Some s → IsStated (event ∷ past) life i s
stated_new configs past event life i s good all_good h =
    let taken = taken_of past life i (outstanding_poll past life i) event.action s h in
    let said_so = taken.is_said in
    let poll = last_poll configs past all_good life i said_so.sending (unless_answered (is_answered past life i) (last_send past life i) said_so.sending said_so.waits) in
    let reading = reading_of configs past event life s.got good taken.reading in
    let sent : s.sent ≡ said_so.sending.clock = said_so.sent in
    let clock_by : said_so.sending.clock ≤ clock_of past life = poll.clock_by_now in
    let clock_to : clock_of past life ≤ s.got = reading.not_before in
    let within : taken.place < length (packets_of past) = slice_get_within (packets_of past) taken.place taken.packet taken.there in
    let place : packet_of_statement (event ∷ past) life i ≡ Some taken.place = ap (λ (o : Option Statement). cond (is_some o) (delivered_by event.action) (packet_of_statement past life i)) h ∙ taken.delivers in
    let on : time_of past ≤ event.at = good.not_before in
    record {
      valid = subst IsInterval (sym said_so.span) (answer_valid (bytes_of taken.packet) said_so.answer said_so.says_so);
      ordered = omega arith;
      by_now = omega (arith, reading.shows);
      true_unless_false = λ valid honest_if.
          let from = has_origin configs past all_good valid.1 taken.place taken.packet taken.there in
          let lies : is_false_statement (event ∷ past) life i ≡ is_lie from.origin.at from.origin.action =
          ap (λ (o : Option ℕ). is_lying (option_and_then (origin_of (event ∷ past)) o)) place ∙ ap is_lying (origin-old past event taken.place within ∙ from.is) in
          let honest = honest_said past life from.origin.at taken.packet said_so.answer (epochs_fit configs past all_good taken.place taken.packet taken.there) said_so.epoch (from.honest (sym lies ∙ honest_if)) (taken.not_asked good.packet_there) taken.machine said_so.says_so in
          record {
            sending = poll.sent_at;
            giving = from.origin.at;
            receipt = event.at;
            sent = subst (λ (c : ℕ). IsIn (record { clock = c; time = poll.sent_at }) (moments_of (event ∷ past) life)) (sym sent) (moment_stays past event life (record { clock = said_so.sending.clock; time = poll.sent_at }) poll.moment);
            got = subst (λ (ms : List Moment). IsIn (record { clock = s.got; time = event.at }) ms) (sym reading.moment) (inl refl);
            given_after_sending = poll.before_answers taken.place taken.packet from.origin taken.there from.is (omega (arith, said_so.nonce, honest.0));
            received_after_giving = omega (arith, from.by_now);
            by_now = omega arith;
            held = subst (λ (span : Interval). Holds span from.origin.at) (sym said_so.span) honest.1;
          };
    }

stated_after : (configs : List Configuration) (past : List Event) (event : Event) (life : Life) (i : ℕ) (s : Statement) (stated : Option Statement) → IsGood configs past event → AreGood configs past →
    ((old : Statement) → statement_of past life i ≡ Some old → IsStated past life i old) → stated_by past life i (outstanding_poll past life i) event.action ≡ stated → option_or stated (statement_of past life i) ≡ Some s → IsStated (event ∷ past) life i s
stated_after configs past event life i s None good all_good old h e = stated_stays configs past event life i s good h (old s e)
stated_after configs past event life i s (Some new) good all_good old h e = stated_new configs past event life i s good all_good (h ∙ e)

-- what is known of each statement
pub statement_known : (configs : List Configuration) (past : List Event) → AreGood configs past → (life : Life) (i : ℕ) (s : Statement) → statement_of past life i ≡ Some s → IsStated past life i s
statement_known configs [] good life i s e = absurd cc
statement_known configs (event ∷ past) good life i s e =
    stated_after configs past event life i s (stated_by past life i (outstanding_poll past life i) event.action) good.0 good.1 (statement_known configs past good.1 life i) refl e
