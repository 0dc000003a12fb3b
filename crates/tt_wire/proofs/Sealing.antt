-- What is handed up came sealed, and what is sent opens.
use Rattle.std.proofs.Common.{◌≡◌, ℕ, ◌<◌, ◌≤◌, ◌^◌, ltb, List, [], ◌∷◌, ◌++◌, length, take, Bool, true, false, cond, Option, Some, None, Result, Ok, Err, refl, ap, ◌∙◌, sym, subst, arith, append_assoc}
use Rattle.std.specs.Prelude.{Contains, IsSome}
use Rattle.std.specs.Int.{w32, to_be_bytes}
use Rattle.std.proofs.lemmas.Bool.{ltb-false, lt-ltb, le-ltb}
use Rattle.std.proofs.lemmas.List.{take_at}
use Rattle.tt_span.specs.Interval.{Interval, IsInterval}
use Rattle.tt_poll.specs.declared.messages.Message2.TheVariants.{Request, Answer}
use Rattle.tt_poll.specs.Message.{PollRequest2, PollAnswer2, IsRequest2, answer_to2}
use Rattle.tt_poll.specs.Spelling.{IsMessage2, spelling_of2}
use Rattle.tt_poll.proofs.Bytes.{IsBytes-take, IsBytes-spelling_of2}
use Rattle.tt_seal.specs.Sealing.{SealKey, IsKey, IsBytes, tag_of, sealing_of, key_with, HaveOwnNumbers, opened_as, opened_of}
use Rattle.tt_seal.specs.declared.faults.SealFault.{SealFault}
use Rattle.tt_seal.specs.declared.sealing.Opened.{Opened}
use Rattle.tt_seal.proofs.Finding.{found_own}
use Rattle.tt_seal.proofs.Opening.{opened_of-found, opened_of-taken}
use Rattle.tt_wire.specs.declared.wires.Incoming.{Incoming}
use Rattle.tt_wire.specs.Moving.{moved, moved_back, moved_request}
use Rattle.tt_wire.specs.Wire.{Wiring, open_wire, keys_of, sent_under, outgoing_of, incoming_as, handed_up, came_under, incoming_of, CameSealed, Asking, asked_after, sealed_with, answer_under, answer_of, IsPolled}
use Rattle.tt_wire.proofs.Moving.{moved-moved_back, length-moved, length-moved_back, moved-zero, moved_back-zero, moved-long, moved_request-in, moved-request, moved_back-answer}

-- ---- what is sent

pub sent_under-long : (keys : List SealKey) (bytes : List ℕ) → 64 < length bytes → sent_under keys bytes ≡ None
sent_under-long [] bytes long = rw (lt-ltb 64 (length bytes) long) refl
sent_under-long (first ∷ others) bytes long = let longer : 40 < length bytes = omega arith in rw (lt-ltb 40 (length bytes) longer) refl

-- nothing is sent for more bytes than a packet has
pub outgoing_of-long : (wire : Wiring) (peer : ℕ) (message : List ℕ) → 64 < length message → outgoing_of wire peer message ≡ None
unfolding outgoing_of
outgoing_of-long wire peer message long =
    ap (sent_under (keys_of wire peer)) (moved-long wire.ahead message (omega arith)) ∙ sent_under-long (keys_of wire peer) message long

sent_under-short : (keys : List SealKey) (bytes : List ℕ) → length bytes ≤ 40 → IsSome (sent_under keys bytes)
sent_under-short [] bytes short = let shorter : length bytes ≤ 64 = omega arith in rw (le-ltb 64 (length bytes) shorter) refl
sent_under-short (first ∷ others) bytes short = rw (le-ltb 40 (length bytes) short) refl

pub outgoing_of-short : (wire : Wiring) (peer : ℕ) (message : List ℕ) → IsBytes message → length message ≤ 40 → IsSome (outgoing_of wire peer message)
unfolding outgoing_of
outgoing_of-short wire peer message small short =
    sent_under-short (keys_of wire peer) (moved wire.ahead message) (omega (arith, length-moved wire.ahead message small))

-- ---- an open wire

pub outgoing_of-open : (peer : ℕ) (message : List ℕ) → IsBytes message → length message ≤ 64 → outgoing_of open_wire peer message ≡ Some message
unfolding outgoing_of
outgoing_of-open peer message small short =
    ap (sent_under []) (moved-zero message small) ∙ rw (le-ltb 64 (length message) short) refl

pub incoming_of-open : (peer : ℕ) (bytes : List ℕ) → IsBytes bytes → incoming_of open_wire peer bytes ≡ Ok (incoming_as None bytes)
unfolding incoming_of
incoming_of-open peer bytes small = ap (λ (message : List ℕ). Ok (incoming_as None message)) (moved_back-zero bytes small)

-- ---- what is handed up came sealed

-- the message of a sealing is bytes where the sealing is
pub IsBytes-sealed : (message : List ℕ) (key : SealKey) → IsBytes (sealing_of message key) → IsBytes message
unfolding sealing_of
IsBytes-sealed message key small =
    let four = to_be_bytes w32 key.number in
    let tag = tag_of key.bytes (message ++ four) in
    let front : take (length message) ((message ++ four) ++ tag) ≡ message =
    ap (take (length message)) (append_assoc message four tag) ∙ take_at message (four ++ tag) (length message) refl in
    subst IsBytes front (IsBytes-take (length message) ((message ++ four) ++ tag) small)

was_sealed : (keys : List SealKey) (ahead : ℕ) (bytes : List ℕ) (incoming : Incoming) (r : Result Opened SealFault) → ahead < 2 ^ 64 → IsBytes bytes
    → r ≡ opened_of bytes keys → handed_up ahead r ≡ Ok incoming → CameSealed keys ahead bytes incoming
was_sealed keys ahead bytes incoming (Err fault) fits small is given = cc
was_sealed keys ahead bytes incoming (Ok opened) fits small is given =
    let found = opened_of-found bytes keys opened small (sym is) in
    let message = opened.message.items in
    let inner : IsBytes message = IsBytes-sealed message found.key (subst IsBytes found.sealed small) in
    let same : incoming_as (Some opened.number) (moved_back ahead message) ≡ incoming = cc in
    let P : Incoming → Type 0 = λ i. CameSealed keys ahead bytes i in
    subst P same (record {
      key = found.key;
      known = ap (key_with keys) found.numbered ∙ found.known;
      numbered = ap (λ (n : ℕ). Some n) (sym found.numbered);
      fits = omega (arith, found.fits, length-moved_back ahead message inner);
      sealed = found.sealed ∙ ap (λ (m : List ℕ). sealing_of m found.key) (sym (moved-moved_back ahead message fits inner));
    })

pub incoming_of-came_sealed : (wire : Wiring) (peer : ℕ) (first : SealKey) (others : List SealKey) (bytes : List ℕ) (incoming : Incoming) → wire.ahead < 2 ^ 64 → IsBytes bytes
    → keys_of wire peer ≡ first ∷ others → incoming_of wire peer bytes ≡ Ok incoming → CameSealed (first ∷ others) wire.ahead bytes incoming
unfolding incoming_of
incoming_of-came_sealed wire peer first others bytes incoming fits small keys given =
    was_sealed (first ∷ others) wire.ahead bytes incoming (opened_of bytes (first ∷ others)) fits small refl
    (ap (λ (ks : List SealKey). came_under ks wire.ahead bytes) (sym keys) ∙ given)

-- ---- what is sent opens

unsealed : (b : Bool) (x y : List ℕ) → cond b None (Some x) ≡ Some y → (b ≡ false) × (x ≡ y)
unsealed true x y h = cc
unsealed false x y h = (refl, cc)

sealing-opens : (keys : List SealKey) (key : SealKey) (message sent : List ℕ) → IsKey key → HaveOwnNumbers keys → Contains keys key
    → cond (ltb 40 (length message)) None (Some (sealing_of message key)) ≡ Some sent → opened_of sent keys ≡ Ok (opened_as message key.number)
sealing-opens keys key message sent is own has given =
    let parts = unsealed (ltb 40 (length message)) (sealing_of message key) sent given in
    let short : length message ≤ 40 = ltb-false 40 (length message) parts.0 in
    ap (λ (bytes : List ℕ). opened_of bytes keys) (sym parts.1) ∙ opened_of-taken message keys key short is.number_fits own has

pub outgoing_of-opens : (wire : Wiring) (peer : ℕ) (first : SealKey) (others keys : List SealKey) (message sent : List ℕ) → IsKey first → keys_of wire peer ≡ first ∷ others
    → HaveOwnNumbers keys → Contains keys first → outgoing_of wire peer message ≡ Some sent → opened_of sent keys ≡ Ok (opened_as (moved wire.ahead message) first.number)
unfolding outgoing_of
outgoing_of-opens wire peer first others keys message sent is ring own has given =
    sealing-opens keys first (moved wire.ahead message) sent is own has (ap (λ (ks : List SealKey). sent_under ks (moved wire.ahead message)) (sym ring) ∙ given)

-- ---- a whole poll

length-request : (r : PollRequest2) → length (spelling_of2 (Request r)) ≤ 40
unfolding spelling_of2
length-request r = omega arith

length-answer : (a : PollAnswer2) → length (spelling_of2 (Answer a)) ≤ 40
unfolding spelling_of2
length-answer a = omega arith

outgoing_of-ring : (wire : Wiring) (peer : ℕ) (first : SealKey) (others : List SealKey) (message bytes : List ℕ) → keys_of wire peer ≡ first ∷ others
    → moved wire.ahead message ≡ bytes → length bytes ≤ 40 → outgoing_of wire peer message ≡ Some (sealing_of bytes first)
unfolding outgoing_of
outgoing_of-ring wire peer first others message bytes ring is short =
    ap (λ (ks : List SealKey). sent_under ks (moved wire.ahead message)) ring
    ∙ ap (sent_under (first ∷ others)) is
    ∙ rw (le-ltb 40 (length bytes) short) refl

answer_of-asked : (requests : Asking) (asked : Option ℕ) (key : SealKey) (message : List ℕ) → asked ≡ Some key.number → HaveOwnNumbers requests.keys → Contains requests.keys key
    → length message ≤ 40 → answer_of (record requests { asked = asked }) message ≡ Some (sealing_of message key)
unfolding answer_of
answer_of-asked requests asked key message is own has short =
    ap (λ (a : Option ℕ). answer_under requests.keys a message) is
    ∙ ap (λ (found : Option SealKey). sealed_with found message) (found_own requests.keys key own has)
    ∙ rw (le-ltb 40 (length message) short) refl

-- an answer under the first key of the ring is handed up
incoming_of-ring : (wire : Wiring) (peer : ℕ) (first : SealKey) (others : List SealKey) (message : List ℕ) → IsKey first → keys_of wire peer ≡ first ∷ others
    → HaveOwnNumbers (first ∷ others) → length message ≤ 40 → incoming_of wire peer (sealing_of message first) ≡ Ok (incoming_as (Some first.number) (moved_back wire.ahead message))
unfolding incoming_of
incoming_of-ring wire peer first others message is ring own short =
    ap (λ (ks : List SealKey). came_under ks wire.ahead (sealing_of message first)) ring
    ∙ ap (handed_up wire.ahead) (opened_of-taken message (first ∷ others) first short is.number_fits own (0, omega arith, refl))

-- a request opens at the master, and its answer is handed up as the answer to it
pub polled : (wire : Wiring) (peer : ℕ) (first : SealKey) (others : List SealKey) (requests : Asking) (r : PollRequest2) (span : Interval)
    → wire.ahead < 2 ^ 64 → IsKey first → keys_of wire peer ≡ first ∷ others → HaveOwnNumbers (first ∷ others) → HaveOwnNumbers requests.keys → Contains requests.keys first
    → IsRequest2 r → IsInterval span → IsPolled wire peer requests first r span
polled wire peer first others requests r span fits is ring own own' has asks time =
    let there = moved_request-in wire.ahead r fits asks in
    let request = spelling_of2 (Request (moved_request wire.ahead r)) in
    let answer = spelling_of2 (Answer (answer_to2 (moved_request wire.ahead r) span)) in
    let in_range : IsMessage2 (Answer (answer_to2 (moved_request wire.ahead r) span)) = record { poll = there.poll; epoch_in = there.epoch_in; span_in = time } in
    let opens = opened_of-taken request requests.keys first (length-request (moved_request wire.ahead r)) is.number_fits own' has in
    let back_is = (moved_back-answer wire.ahead r span answer fits asks time (IsBytes-spelling_of2 (Answer (answer_to2 (moved_request wire.ahead r) span)) in_range)).1 refl in
    record {
      sent = sealing_of request first;
      back = sealing_of answer first;
      goes = outgoing_of-ring wire peer first others (spelling_of2 (Request r)) request ring (moved-request wire.ahead r asks) (length-request (moved_request wire.ahead r));
      opens = opens;
      answers = answer_of-asked requests (asked_after (opened_of (sealing_of request first) requests.keys) requests.asked) first answer
          (ap (λ (o : Result Opened SealFault). asked_after o requests.asked) opens) own' has (length-answer (answer_to2 (moved_request wire.ahead r) span));
      arrives = incoming_of-ring wire peer first others answer is ring own (length-answer (answer_to2 (moved_request wire.ahead r) span))
          ∙ ap (λ (m : List ℕ). Ok (incoming_as (Some first.number) m)) back_is;
    }
