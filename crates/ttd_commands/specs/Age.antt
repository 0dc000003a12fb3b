-- What `age` answers to its words and its input.
use Rattle.std.specs.Prelude.{ℕ, List, [], ◌∷◌, ◌++◌, ◌-◌, length, take, nat_eq, nat_lt, ◌||◌, Result, Ok, Err, codes, decimal, if◌then◌else◌}
use Rattle.std.specs.List.{ends_with}
use Rattle.hex.specs.Hex.{decode_of}
use Rattle.tt_span.specs.Time.{max_time}
use Rattle.tt_span.specs.Interval.{Interval}
use Rattle.tt_poll.specs.declared.format.Format.{Format}
use Rattle.tt_poll.specs.declared.format.Format.TheVariants.{Ttp1, Ttp2}
use Rattle.tt_poll.specs.declared.messages.Message.{Message}
use Rattle.tt_poll.specs.declared.messages.Message.TheVariants.{Request, Answer}
use Rattle.tt_poll.specs.declared.messages.Message2.{Message2}
use Rattle.tt_poll.specs.declared.messages.Message2.TheVariants as two
use Rattle.tt_poll.specs.declared.faults.PollFault.{PollFault}
use Rattle.tt_poll.specs.Format.{format_of}
use Rattle.tt_poll.specs.Reading.{read_of, read_of2}
use Rattle.tt_source.specs.declared.faults.SourceFault.TheVariants.{ClockBack, NotMine}
use Rattle.tt_source.specs.Statement.{statement_at}
use Rattle.hex.specs.declared.error.FromHexError.{FromHexError}
use Rattle.ttd_commands.specs.declared.faults.Fault.{Fault}
use Rattle.ttd_commands.specs.declared.faults.Fault.TheVariants.{BadHex, Poll, Source}
use Rattle.ttd_commands.specs.declared.age.Ageing.{Ageing}

-- A text without the line feed at its end, if there is one.
abbrev pub without_line_feed : List ℕ → List ℕ
without_line_feed text = if ends_with nat_eq text (10 ∷ []) then take (length text - 1) text else text

-- The span at the clock reading of a statement of this span, or 402 where the poll was sent after the answer came, the answer came
-- after the clock reading, or that is past the greatest time.
abbrev pub aged_of : Ageing → Interval → Result Interval Fault
aged_of a span = if nat_lt a.got a.sent || (nat_lt a.clock a.got || nat_lt max_time a.clock) then Err (Source ClockBack)
    else Ok (statement_at a.drift (record { span = span; sent = a.sent; got = a.got }) a.clock)

-- The span of an answer of TTP1; a request is refused with 405, and what is no message with the number of the decoder's refusal.
abbrev pub answered_in : Result Message PollFault → Result Interval Fault
answered_in (Ok (Answer answer)) = Ok answer.span
answered_in (Ok (Request request)) = Err (Source NotMine)
answered_in (Err fault) = Err (Poll fault)

-- The same of TTP2.
abbrev pub answered_in2 : Result Message2 PollFault → Result Interval Fault
answered_in2 (Ok (two.Answer answer)) = Ok answer.span
answered_in2 (Ok (two.Request request)) = Err (Source NotMine)
answered_in2 (Err fault) = Err (Poll fault)

-- The span of the answer that the bytes spell in a format.
abbrev pub answer_span_in : Format → List ℕ → Result Interval Fault
answer_span_in Ttp1 bytes = answered_in (read_of bytes)
answer_span_in Ttp2 bytes = answered_in2 (read_of2 bytes)

-- The span of the answer that the bytes spell, in the format in which they are read.
abbrev pub answer_span_of : List ℕ → Result Interval Fault
answer_span_of bytes = answer_span_in (format_of bytes) bytes

-- The aged span of an answer, or its refusal.
abbrev pub aged_answer : Ageing → Result Interval Fault → Result Interval Fault
aged_answer a (Ok span) = aged_of a span
aged_answer a (Err fault) = Err fault

-- The aged span of the bytes that the hex digits write; bad hex is refused with 1602.
abbrev pub aged_hex : Ageing → Result (List ℕ) FromHexError → Result Interval Fault
aged_hex a (Ok bytes) = aged_answer a (answer_span_of bytes)
aged_hex a (Err error) = Err BadHex

-- The line that tells an aged span.
abbrev pub aged_line : Interval → List ℕ
aged_line span = codes "aged " ++ (decimal span.lo ++ (codes " " ++ (decimal span.hi ++ 10 ∷ [])))

-- The line, unless there is a refusal.
abbrev pub aged_text : Result Interval Fault → Result (List ℕ) Fault
aged_text (Ok span) = Ok (aged_line span)
aged_text (Err fault) = Err fault

-- What `age` answers to an input: the aged line, or the first refusal.
abbrev pub age_of : Ageing → List ℕ → Result (List ℕ) Fault
age_of a input = aged_text (aged_hex a (decode_of (without_line_feed input)))
