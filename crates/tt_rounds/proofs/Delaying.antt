-- Answers that come late, again, or from elsewhere.
use Rattle.std.proofs.Common.{◌≡◌, ℕ, ◌+◌, ◌-◌, ◌<◌, ◌≤◌, ◌^◌, min, ltb, eqb, List, ◌∷◌, length, Bool, true, false, cond, not, ◌&&◌, Option, Some, None, Result, Ok, Err, IsOk, refl, ap, ◌∙◌, sym, subst, arith}
use Rattle.std.specs.Prelude.{slice_set}
use Rattle.std.proofs.lemmas.List.{get_or-set_same}
use Rattle.std.proofs.lemmas.Bool.{eqb-true, ltb-true}
use Rattle.tt_span.specs.Time.{max_time}
use Rattle.tt_span.specs.Interval.{Interval}
use Rattle.tt_span.specs.Drift.{max_drift, widening}
use Rattle.tt_span.proofs.Widening.{rises-widening, subadditive-widening, bound-widening}
use Rattle.tt_poll.specs.Message.{PollAnswer2}
use Rattle.tt_poll.specs.Spelling.{spelling_of2}
use Rattle.tt_poll.specs.Reading.{read_of2}
use Rattle.tt_poll.specs.declared.messages.Message2.{Message2}
use Rattle.tt_poll.specs.declared.messages.Message2.TheVariants.{Request, Answer}
use Rattle.tt_poll.specs.declared.faults.PollFault.{PollFault}
use Rattle.tt_source.specs.Statement.{Statement, statement_at}
use Rattle.tt_source.specs.Table.{TableState, Sending, SourceState, source_at, unknown_source, take_of, after_statement, statement_of_message, statement_of_answer, waiting_for}
use Rattle.tt_source.specs.declared.faults.SourceFault.{SourceFault}
use Rattle.tt_seal.specs.Sealing.{SealKey, IsBytes, sealing_of, key_with}
use Rattle.tt_wire.specs.declared.wires.Incoming.{Incoming}
use Rattle.tt_wire.specs.Moving.{moved, moved_nonce, respelled}
use Rattle.tt_wire.specs.Wire.{Wiring, IsWiring, keys_of, incoming_of}
use Rattle.tt_wire.proofs.Sealing.{incoming_of-came_sealed}
use Rattle.tt_rounds.specs.Delaying.{IsSealedAnswer, IsDelayed, CostsDelay}

-- ---- what a delay costs

pub CostsDelay-late : (ppm d c : ℕ) (first second : Statement) → ppm ≤ max_drift → IsDelayed d first second → second.got ≤ c → CostsDelay ppm d first second c
CostsDelay-late ppm d c first second drift late later =
    let e1 = c - first.got in
    let e2 = c - second.got in
    let parts : e1 ≡ e2 + d = omega (arith, late.later) in
    let rises : widening ppm e2 ≤ widening ppm e1 = rises-widening ppm e2 e1 (omega arith) in
    let sub : widening ppm e1 ≤ widening ppm e2 + widening ppm d = subst (λ (e : ℕ). widening ppm e ≤ widening ppm e2 + widening ppm d) (sym parts) (subadditive-widening ppm e2 d) in
    let bound : widening ppm d ≤ d = bound-widening ppm d drift in
    let bound1 : widening ppm e1 ≤ e1 = bound-widening ppm e1 drift in
    let bound2 : widening ppm e2 ≤ e2 = bound-widening ppm e2 drift in
    let lo : second.span.lo ≡ first.span.lo = ap (λ i. i.lo) late.same_span in
    let hi : second.span.hi ≡ first.span.hi = ap (λ i. i.hi) late.same_span in
    let upper : (statement_at ppm second c).hi ≡ (statement_at ppm first c).hi = ap (λ (x : ℕ). min (x + (c - second.sent) + widening ppm (c - second.sent)) max_time) hi
    ∙ ap (λ (s : ℕ). min (first.span.hi + (c - s) + widening ppm (c - s)) max_time) late.same_poll in
    record {
      upper = upper;
      lower = omega (arith, parts, rises, sub, bound, bound1, bound2, lo);
      holds = (omega (arith, parts, rises, sub, bound, bound1, bound2, lo), omega (arith, upper));
      at_most = omega (arith, parts, rises, sub, bound, bound1, bound2, lo);
      at_least = omega (arith, parts, rises, sub, bound, bound1, bound2, lo);
    }

-- ---- what the table takes

-- a packet that makes a statement is the answer to the poll that waits
record Awaited (machine epoch i : ℕ) (waiting : Option Sending) (answer : PollAnswer2) : Type 0 where
  same_machine : answer.machine ≡ machine
  same_source : answer.source ≡ i
  same_epoch : answer.epoch ≡ epoch
  sending : Sending
  waits : waiting ≡ Some sending
  nonce : answer.nonce ≡ sending.nonce

both : (a b : Bool) → (a && b) ≡ true → (a ≡ true) × (b ≡ true)
both true b h = (refl, h)
both false b h = cc

-- a test that was not refused passed
passed : {A : Type 0} (test : Bool) (fault : SourceFault) (rest : Result A SourceFault) (value : A) → cond (not test) (Err fault) rest ≡ Ok value → (test ≡ true) × (rest ≡ Ok value)
passed true fault rest value h = (refl, h)
passed false fault rest value h = cc

not_refused : {A : Type 0} (test : Bool) (fault : SourceFault) (rest : Result A SourceFault) (value : A) → cond test (Err fault) rest ≡ Ok value → rest ≡ Ok value
not_refused true fault rest value h = cc
not_refused false fault rest value h = h

same_nonce : (test : Bool) (sending : Sending) (answer : PollAnswer2) (clock : ℕ) (statement : Statement) → statement_of_answer (cond test (Some sending) None) answer clock ≡ Ok statement → test ≡ true
same_nonce true sending answer clock statement h = refl
same_nonce false sending answer clock statement h = cc

answered : (waiting : Option Sending) (answer : PollAnswer2) (clock : ℕ) (statement : Statement) → statement_of_answer (waiting_for waiting answer.nonce) answer clock ≡ Ok statement
    → (sending : Sending) × (waiting ≡ Some sending) × (answer.nonce ≡ sending.nonce)
answered None answer clock statement h = cc
answered (Some sending) answer clock statement h =
    (sending, refl, sym (eqb-true sending.nonce answer.nonce (same_nonce (eqb sending.nonce answer.nonce) sending answer clock statement h)))

awaited : (machine epoch i : ℕ) (waiting : Option Sending) (clock : ℕ) (answer : PollAnswer2) (statement : Statement)
    → statement_of_message machine epoch i waiting clock (Ok (Answer answer)) ≡ Ok statement → Awaited machine epoch i waiting answer
awaited machine epoch i waiting clock answer statement h =
    let mine = passed (eqb answer.machine machine && eqb answer.source i) SourceFault.NotMine _ statement h in
    let life = passed (eqb answer.epoch epoch) SourceFault.OtherEpoch _ statement mine.1 in
    let parts = both (eqb answer.machine machine) (eqb answer.source i) mine.0 in
    let (sending, waits, nonce) = answered waiting answer clock statement life.1 in
    record {
      same_machine = eqb-true answer.machine machine parts.0;
      same_source = eqb-true answer.source i parts.1;
      same_epoch = eqb-true answer.epoch epoch life.0;
      sending = sending;
      waits = waits;
      nonce = nonce;
    }

-- the statement that a take makes
stated : (table : TableState) (i clock : ℕ) (r : Result Statement SourceFault) (after : TableState) → after_statement table i clock r ≡ Ok after → (statement : Statement) × (r ≡ Ok statement)
stated table i clock (Ok statement) after h = (statement, refl)
stated table i clock (Err fault) after h = cc

statement_taken : (table after : TableState) (i clock : ℕ) (bytes : List ℕ) → take_of table i clock bytes ≡ Ok after
    → (statement : Statement) × (statement_of_message table.machine table.epoch i (source_at table i).waiting clock (read_of2 bytes) ≡ Ok statement)
statement_taken table after i clock bytes h =
    let there = passed (ltb i (length table.sources)) SourceFault.NoSource _ after h in
    let timely = not_refused _ SourceFault.ClockBack _ after there.1 in
    stated table i clock _ after timely

-- the answer with these numbers
abbrev answer_with : ℕ → ℕ → ℕ → ℕ → Interval → PollAnswer2
answer_with machine source nonce epoch span = record { machine = machine; source = source; nonce = nonce; epoch = epoch; span = span }

same_answer : (machine machine' source source' nonce nonce' epoch epoch' : ℕ) (span : Interval) → machine ≡ machine' → source ≡ source' → nonce ≡ nonce' → epoch ≡ epoch'
    → answer_with machine source nonce epoch span ≡ answer_with machine' source' nonce' epoch' span
same_answer machine machine' source source' nonce nonce' epoch epoch' span m s n e = cc

sealed_answer : (keys : List SealKey) (ahead : ℕ) (table : TableState) (i clock : ℕ) (bytes message : List ℕ) (key : SealKey) (statement : Statement) (r : Result Message2 PollFault)
    → statement_of_message table.machine table.epoch i (source_at table i).waiting clock r ≡ Ok statement → key_with keys key.number ≡ Some key → bytes ≡ sealing_of (respelled (moved_nonce ahead) r message) key
    → IsSealedAnswer keys ahead table i bytes
sealed_answer keys ahead table i clock bytes message key statement (Err fault) states known sealed = cc
sealed_answer keys ahead table i clock bytes message key statement (Ok (Request request)) states known sealed = cc
sealed_answer keys ahead table i clock bytes message key statement (Ok (Answer answer)) states known sealed =
    let is = awaited table.machine table.epoch i (source_at table i).waiting clock answer statement states in
    let same = same_answer answer.machine table.machine answer.source i (moved_nonce ahead answer.nonce) (moved_nonce ahead is.sending.nonce) answer.epoch table.epoch answer.span
    is.same_machine is.same_source (ap (moved_nonce ahead) is.nonce) is.same_epoch in
    record {
      key = key;
      known = known;
      sending = is.sending;
      waits = is.waits;
      span = answer.span;
      sealed = sealed ∙ ap (λ (a : PollAnswer2). sealing_of (spelling_of2 (Answer a)) key) same;
    }

pub sealed_answer-taken : (wire : Wiring) (table after : TableState) (i clock : ℕ) (first : SealKey) (others : List SealKey) (bytes : List ℕ) (incoming : Incoming) → IsWiring wire → IsBytes bytes
    → keys_of wire i ≡ first ∷ others → incoming_of wire i bytes ≡ Ok incoming → take_of table i clock incoming.message.items ≡ Ok after → IsSealedAnswer (first ∷ others) wire.ahead table i bytes
unfolding moved
sealed_answer-taken wire table after i clock first others bytes incoming valid small keys came takes =
    let fits : wire.ahead < 2 ^ 64 = omega (arith, valid.ahead_fits) in
    let sealed = incoming_of-came_sealed wire i first others bytes incoming fits small keys came in
    let (statement, states) = statement_taken table after i clock incoming.message.items takes in
    sealed_answer (first ∷ others) wire.ahead table i clock bytes incoming.message.items sealed.key statement (read_of2 incoming.message.items) states sealed.known sealed.sealed

-- ---- only one is taken

-- nothing makes a statement where no poll waits
none_waits : (machine epoch i : ℕ) (waiting : Option Sending) (clock : ℕ) (r : Result Message2 PollFault) (statement : Statement) → waiting ≡ None → statement_of_message machine epoch i waiting clock r ≡ Ok statement → ⊥
none_waits machine epoch i waiting clock (Err fault) statement none h = cc
none_waits machine epoch i waiting clock (Ok (Request request)) statement none h = cc
none_waits machine epoch i waiting clock (Ok (Answer answer)) statement none h =
    let is = awaited machine epoch i waiting clock answer statement h in
    let waits = is.waits in cc

ok_value : {A : Type 0} (r : Result A SourceFault) → IsOk r → (value : A) × (r ≡ Ok value)
ok_value (Ok value) is = (value, refl)
ok_value (Err fault) is = cc

-- after a statement no poll of the source waits
waits_none : (table after : TableState) (i clock : ℕ) (r : Result Statement SourceFault) → i < length table.sources → after_statement table i clock r ≡ Ok after → (source_at after i).waiting ≡ None
waits_none table after i clock (Err fault) there h = cc
waits_none table after i clock (Ok statement) there h =
    let same : record table { clock = clock; sources = slice_set table.sources i (record { waiting = None; statement = Some statement }) } ≡ after = cc in
    subst (λ (t : TableState). (source_at t i).waiting ≡ None) same (ap (λ (s : SourceState). s.waiting) (get_or-set_same table.sources i (record { waiting = None; statement = Some statement }) unknown_source there))

pub once-taken : (table after : TableState) (i clock clock' : ℕ) (bytes bytes' : List ℕ) → take_of table i clock bytes ≡ Ok after → ¬ IsOk (take_of after i clock' bytes')
once-taken table after i clock clock' bytes bytes' first second =
    let there = passed (ltb i (length table.sources)) SourceFault.NoSource _ after first in
    let timely = not_refused _ SourceFault.ClockBack _ after there.1 in
    let none = waits_none table after i clock _ (ltb-true i (length table.sources) there.0) timely in
    let (later, takes) = ok_value (take_of after i clock' bytes') second in
    let (statement, states) = statement_taken after later i clock' bytes' takes in
    none_waits after.machine after.epoch i (source_at after i).waiting clock' (read_of2 bytes') statement none states
