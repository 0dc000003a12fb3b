-- The answer that is waited for is the one that makes a statement.
use Rattle.std.proofs.Common.{◌≡◌, ℕ, ◌<◌, List, length, Some, Result, Ok, arith}
use Rattle.std.proofs.lemmas.List.Elements.{All-get_or}
use Rattle.tt_span.specs.Interval.{Interval}
use Rattle.tt_poll.specs.Message.{PollAnswer2}
use Rattle.tt_poll.specs.Spelling.{IsMessage2, spelling_of2}
use Rattle.tt_poll.specs.declared.messages.Message2.{Message2}
use Rattle.tt_poll.specs.declared.messages.Message2.TheVariants.{Answer}
use Rattle.tt_poll.specs.declared.faults.PollFault.{PollFault}
use Rattle.tt_source.specs.Table.{Sending, TableState, IsTable, IsSourceState, IsSending, unknown_source, source_at, IsAwaitedAnswer, statement_of_message}

-- the answer with this span to a poll
abbrev pub answer_to : TableState → ℕ → Sending → Interval → Message2
answer_to t i sending span = Answer (record { machine = t.machine; source = i; nonce = sending.nonce; epoch = t.epoch; span = span })

-- a poll that waits has a nonce that was used, and was sent in the table's past
IsSending-waiting : (t : TableState) (i : ℕ) (sending : Sending) → IsTable t → i < length t.sources → (source_at t i).waiting ≡ Some sending → IsSending t.last t.clock sending
IsSending-waiting t i sending table there waits =
    let source : IsSourceState t.last t.clock (source_at t i) = All-get_or (IsSourceState t.last t.clock) t.sources i unknown_source there table.past in
    rw waits at source.sent

-- an answer that is waited for is a message
IsMessage-awaited : (t : TableState) (i : ℕ) (bytes : List ℕ) (sending : Sending) (span : Interval) → IsTable t → i < length t.sources → IsAwaitedAnswer t i bytes sending span → IsMessage2 (answer_to t i sending span)
IsMessage-awaited t i bytes sending span table there awaited =
    let sent : IsSending t.last t.clock sending = IsSending-waiting t i sending table there awaited.waits in
    record {
      poll = record { machine_in = table.machine_in; source_in = omega arith; nonce_in = sent.used_from; nonce_fits = omega arith };
      epoch_in = table.epoch_in;
      span_in = awaited.span_in;
    }

-- so it is what is read where such an answer came
pub read_of2-awaited : (t : TableState) (i : ℕ) (bytes : List ℕ) (r : Result Message2 PollFault) → IsTable t → i < length t.sources → ((m : Message2) → IsMessage2 m → bytes ≡ spelling_of2 m → r ≡ Ok m) → (sending : Sending) (span : Interval) → IsAwaitedAnswer t i bytes sending span → r ≡ Ok (answer_to t i sending span)
read_of2-awaited t i bytes r table there reads sending span awaited =
    reads (answer_to t i sending span) (IsMessage-awaited t i bytes sending span table there awaited) awaited.spells

-- an answer that is waited for makes a statement
pub statement-awaited : (t : TableState) (i clock : ℕ) (a : PollAnswer2) (sending : Sending) (span : Interval) → (source_at t i).waiting ≡ Some sending → a ≡ record { machine = t.machine; source = i; nonce = sending.nonce; epoch = t.epoch; span = span } → statement_of_message t.machine t.epoch i (source_at t i).waiting clock (Ok (Answer a)) ≡ Ok (record { span = span; sent = sending.clock; got = clock })
statement-awaited t i clock a sending span waits same = rw (same, waits) (grind arith)
