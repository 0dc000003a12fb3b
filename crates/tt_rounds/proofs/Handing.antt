-- How many packets of a peer are handed up, and which.
use Rattle.std.proofs.Common.{◌≡◌, ℕ, zero, suc, ◌+◌, ◌-◌, ◌≤◌, nat_lt, Bool, true, false, ◌||◌, if◌then◌else◌, List, [], ◌∷◌, is_some, Option, Some, None, Result, Ok, Err, IsOk, ◌↔◌, arith, refl, sym, subst}
use Rattle.std.proofs.lemmas.Bool.Decides.{nat_tests}
use Rattle.tt_poll.specs.Message.{PollRequest2}
use Rattle.tt_poll.specs.Reading.{read_of2}
use Rattle.tt_poll.specs.declared.messages.Message2.{Message2}
use Rattle.tt_poll.specs.declared.messages.Message2.TheVariants.{Request, Answer}
use Rattle.tt_poll.specs.declared.faults.PollFault.{PollFault}
use Rattle.tt_source.specs.Table.{TableState, Sending, CanBeCalled, source_at, take_of, statement_of_message}
use Rattle.tt_rounds.specs.Awaiting.{full_slot, answers, poll_in, slot_sent, is_handed, slot_after, one_where, turns_left, handed_in, slot_after_all, NoneAnswers, poll_waiting}
use Rattle.tt_rounds.specs.declared.awaiting.Fate.TheVariants.{Went}
use Rattle.tt_rounds.specs.declared.awaiting.PeerSlot.{PeerSlot}

-- what answers a poll answers one that is there
is_some-answered : (poll : Option PollRequest2) (r : Result Message2 PollFault) → answers poll r ≡ true → is_some poll ≡ true
is_some-answered (Some poll) r is = refl
is_some-answered None r is = grind arith

more-than-none : (n : ℕ) → nat_lt 0 (suc n) ≡ true
more-than-none n = grind (arith, nat_tests)

-- a packet that is handed up costs one of the turns that are left
turns-one : (answered : Bool) (poll : Option PollRequest2) (spare n : ℕ) → (answered ≡ true → is_some poll ≡ true)
    → n ≤ turns_left (if answered then record { poll = None; spare = spare } else record { poll = poll; spare = spare - 1 })
    → one_where (answered || nat_lt 0 spare) + n ≤ one_where (is_some poll) + spare
turns-one true poll spare n awaited few = rw (awaited refl) (omega (arith, few))
turns-one false poll zero n awaited few = omega (arith, few)
turns-one false poll (suc spare) n awaited few = rw (more-than-none spare) (omega (arith, few))

-- so no more are handed up than turns are left
pub handed_in-few : (packets : List (List ℕ)) (slot : PeerSlot) → handed_in packets slot ≤ turns_left slot
handed_in-few [] slot = omega arith
handed_in-few (bytes ∷ packets) slot =
    turns-one (answers slot.poll (read_of2 bytes)) slot.poll slot.spare (handed_in packets (slot_after bytes slot))
    (is_some-answered slot.poll (read_of2 bytes)) (handed_in-few packets (slot_after bytes slot))

one_where-few : (is : Bool) → one_where is ≤ 1
one_where-few true = omega arith
one_where-few false = omega arith

-- four at most, in a round
pub handed_in-sent : (sent : List ℕ) (packets : List (List ℕ)) → handed_in packets (slot_sent Went sent full_slot) ≤ 4
handed_in-sent sent packets =
    let few : handed_in packets (slot_sent Went sent full_slot) ≤ turns_left (slot_sent Went sent full_slot) = handed_in-few packets (slot_sent Went sent full_slot) in
    let one : one_where (is_some (poll_in (read_of2 sent))) ≤ 1 = one_where-few (is_some (poll_in (read_of2 sent))) in
    omega (arith, few, one)

-- a packet that does not answer the poll leaves it awaited
poll-kept : (answered : Bool) (slot : PeerSlot) → answered ≡ false → (if answered then record slot { poll = None } else record slot { spare = slot.spare - 1 }).poll ≡ slot.poll
poll-kept true slot is = grind arith
poll-kept false slot is = refl

pub poll-after_all : (packets : List (List ℕ)) (slot : PeerSlot) → NoneAnswers slot.poll packets → (slot_after_all packets slot).poll ≡ slot.poll
poll-after_all [] slot none = refl
poll-after_all (bytes ∷ packets) slot none =
    let same : (slot_after bytes slot).poll ≡ slot.poll = poll-kept (answers slot.poll (read_of2 bytes)) slot none.0 in
    subst (λ poll. (slot_after_all packets (slot_after bytes slot)).poll ≡ poll) same
    (poll-after_all packets (slot_after bytes slot) (subst (λ poll. NoneAnswers poll packets) (sym same) none.1))

-- so the answer is handed up
pub handed-answer : (slot : PeerSlot) (packets : List (List ℕ)) (answer : List ℕ) → NoneAnswers slot.poll packets → answers slot.poll (read_of2 answer) ≡ true → is_handed answer (slot_after_all packets slot) ≡ true
handed-answer slot packets answer none is = rw (poll-after_all packets slot none, is) refl

-- a message makes a statement exactly if it answers the poll that waits
statement-answers : (machine epoch i clock : ℕ) (sending : Sending) (r : Result Message2 PollFault)
    → IsOk (statement_of_message machine epoch i (Some sending) clock r) ↔ (answers (Some (record { machine = machine; source = i; nonce = sending.nonce; epoch = epoch })) r ≡ true)
statement-answers machine epoch i clock sending (Err fault) = grind arith
statement-answers machine epoch i clock sending (Ok (Request request)) = grind arith
statement-answers machine epoch i clock sending (Ok (Answer answer)) = grind arith

-- so the daemon takes it
pub taken-answers : (table : TableState) (i clock : ℕ) (bytes : List ℕ) (sending : Sending) → CanBeCalled table i clock → (source_at table i).waiting ≡ Some sending
    → IsOk (take_of table i clock bytes) ↔ (answers (Some (poll_waiting table i sending)) (read_of2 bytes) ≡ true)
taken-answers table i clock bytes sending can waits = rw waits (grind arith)
