-- What a machine knows of all its sources, and what each call makes of it.
use Rattle.std.specs.Prelude.{ℕ, ◌≡◌, ◌<◌, ◌≤◌, ◌+◌, ◌-◌, ◌^◌, Bool, nat_lt, ◌==◌, ◌&&◌, ◌||◌, not, if◌then◌else◌, List, length, replicate, count_by, All, slice_index_or, slice_set, Option, Some, None, is_some, IfSome, Result, Ok, Err}
use Rattle.tt_span.specs.Time.{max_time}
use Rattle.tt_span.specs.Interval.{Interval, IsInterval}
use Rattle.tt_span.specs.Sources.{max_sources}
use Rattle.tt_poll.specs.Message.{PollAnswer2, IsEpoch, max_machine}
use Rattle.tt_poll.specs.Spelling.{spelling_of2}
use Rattle.tt_poll.specs.Reading.{read_of2}
use Rattle.tt_poll.specs.declared.messages.Message2.{Message2}
use Rattle.tt_poll.specs.declared.messages.Message2.TheVariants.{Request, Answer}
use Rattle.tt_poll.specs.declared.faults.PollFault.{PollFault}
use Rattle.tt_source.specs.Statement.{Statement}
pub use Rattle.tt_span.specs.Statement.{stated_at}
use Rattle.tt_source.specs.declared.faults.SourceFault.{SourceFault}
use Rattle.tt_source.specs.declared.faults.SourceFault.TheVariants.{NoSource, ClockBack, NoncesUsedUp, BadMessage, NotMine, OtherEpoch, NotOutstanding}

-- a poll that waits for its answer: its nonce, and the clock reading at which it was sent
pub record Sending : Type 0 where
  pub nonce : ℕ
  pub clock : ℕ

-- what is known of one source: the poll that waits for its answer, and the last answer that was taken
pub record SourceState : Type 0 where
  pub waiting : Option Sending
  pub statement : Option Statement

-- what is known of all sources in one life of a machine, which its epoch tells from the others, the last nonce that was used, and the clock reading of the last call that was not refused
pub record TableState : Type 0 where
  pub machine : ℕ
  pub epoch : ℕ
  pub drift : ℕ
  pub last : ℕ
  pub clock : ℕ
  pub sources : List SourceState

-- a poll that waits has a nonce that was used, and was sent at the table's clock or before
pub record IsSending (last clock : ℕ) (sending : Sending) : Type 0 where
  pub used_from : 0 < sending.nonce
  pub used_to : sending.nonce ≤ last
  pub sent : sending.clock ≤ clock

-- what is known of a source is of the table's past
pub record IsSourceState (last clock : ℕ) (source : SourceState) : Type 0 where
  pub sent : IfSome source.waiting (λ sending. IsSending last clock sending)
  pub got : IfSome source.statement (λ statement. statement.got ≤ clock)

-- the machine, the epoch and the count of sources are in range, the clock is in time, and all that is known is of the past
pub record IsTable (table : TableState) : Type 0 where
  pub machine_in : table.machine ≤ max_machine
  pub epoch_in : IsEpoch table.epoch
  pub some_source : 0 < length table.sources
  pub sources_in : length table.sources ≤ max_sources
  pub last_fits : table.last < 2 ^ 64
  pub in_time : table.clock ≤ max_time
  pub past : All (λ source. IsSourceState table.last table.clock source) table.sources

-- a source of which nothing is known
abbrev pub unknown_source : SourceState
unknown_source = record { waiting = None; statement = None }

-- a table of n sources of which nothing is known
abbrev pub new_table : ℕ → ℕ → ℕ → ℕ → ℕ → TableState
new_table machine n drift last epoch = record { machine = machine; epoch = epoch; drift = drift; last = last; clock = 0; sources = replicate n unknown_source }

-- what is known of source i
abbrev pub source_at : TableState → ℕ → SourceState
source_at table i = slice_index_or table.sources i unknown_source

-- source i is there
abbrev pub has_source : TableState → ℕ → Bool
has_source table i = nat_lt i (length table.sources)

-- a clock reading that is refused: it lies before that of the last call, or past the greatest time
abbrev pub is_back : TableState → ℕ → Bool
is_back table clock = nat_lt clock table.clock || nat_lt max_time clock

-- the table after a poll of source i, or its refusal
abbrev pub poll_of : TableState → ℕ → ℕ → Result TableState SourceFault
poll_of table i clock =
    if not (has_source table i) then Err NoSource
    else if is_back table clock then Err ClockBack
    else if table.last == 2 ^ 64 - 1 then Err NoncesUsedUp
    else Ok (record table {
      last = table.last + 1;
      clock = clock;
      sources = slice_set table.sources i (record (source_at table i) { waiting = Some (record { nonce = table.last + 1; clock = clock }) });
    })

-- the poll that waits for an answer with this nonce
abbrev pub waiting_for : Option Sending → ℕ → Option Sending
waiting_for None nonce = None
waiting_for (Some sending) nonce = if sending.nonce == nonce then Some sending else None

-- the statement of an answer that was waited for
abbrev pub statement_of_answer : Option Sending → PollAnswer2 → ℕ → Result Statement SourceFault
statement_of_answer None answer clock = Err NotOutstanding
statement_of_answer (Some sending) answer clock = Ok (record { span = answer.span; sent = sending.clock; got = clock })

-- what a packet from source i states that came in this life of this machine at this clock reading, by what its bytes say and the poll that waits, or its refusal: an answer to another life is told before the nonce is looked at
abbrev pub statement_of_message : ℕ → ℕ → ℕ → Option Sending → ℕ → Result Message2 PollFault → Result Statement SourceFault
statement_of_message machine epoch i waiting clock (Err e) = Err BadMessage
statement_of_message machine epoch i waiting clock (Ok (Request request)) = Err NotMine
statement_of_message machine epoch i waiting clock (Ok (Answer answer)) =
    if not (answer.machine == machine && answer.source == i) then Err NotMine
    else if not (answer.epoch == epoch) then Err OtherEpoch
    else statement_of_answer (waiting_for waiting answer.nonce) answer clock

-- the table once source i has made a statement, which ends the wait for it
abbrev pub after_statement : TableState → ℕ → ℕ → Result Statement SourceFault → Result TableState SourceFault
after_statement table i clock (Err e) = Err e
after_statement table i clock (Ok statement) =
    Ok (record table { clock = clock; sources = slice_set table.sources i (record { waiting = None; statement = Some statement }) })

-- the table after a packet from source i came, or its refusal
abbrev pub take_of : TableState → ℕ → ℕ → List ℕ → Result TableState SourceFault
take_of table i clock bytes =
    if not (has_source table i) then Err NoSource
    else if is_back table clock then Err ClockBack
    else after_statement table i clock (statement_of_message table.machine table.epoch i (source_at table i).waiting clock (read_of2 bytes))

-- how many sources have made a statement
abbrev pub known_of : TableState → ℕ
known_of table = count_by (λ source. is_some source.statement) table.sources

-- the span of source i at a clock reading, or the refusal
abbrev pub aged_of : TableState → ℕ → ℕ → Result Interval SourceFault
aged_of table i clock =
    if not (has_source table i) then Err NoSource
    else if is_back table clock then Err ClockBack
    else Ok (stated_at table.drift (source_at table i).statement clock)

-- source i has made a statement
abbrev pub is_known_of : TableState → ℕ → Bool
is_known_of table i = is_some (source_at table i).statement

-- the source is there, and the clock reading is not refused
pub record CanBeCalled (table : TableState) (i clock : ℕ) : Type 0 where
  pub there : i < length table.sources
  pub not_back : table.clock ≤ clock
  pub in_time : clock ≤ max_time

-- the bytes are the spelling of source i's answer, with this span, to the poll of this machine that waits, in this life of it
pub record IsAwaitedAnswer (table : TableState) (i : ℕ) (bytes : List ℕ) (sending : Sending) (span : Interval) : Type 0 where
  pub waits : (source_at table i).waiting ≡ Some sending
  pub spells : bytes ≡ spelling_of2 (Answer (record { machine = table.machine; source = i; nonce = sending.nonce; epoch = table.epoch; span = span }))
  pub span_in : IsInterval span
