-- At which times an answer is true.
use Rattle.std.proofs.Common.{◌≡◌, ◌↔◌, ◌∙◌, ℕ, List, sym, ap, subst}
use Rattle.tt_span.specs.Interval.{Interval, IsInterval, Holds}
use Rattle.tt_poll.specs.declared.messages.Message.TheVariants as message
use Rattle.tt_poll.specs.declared.messages.Message2.TheVariants as message2
use Rattle.tt_poll.specs.Message.{PollRequest, PollAnswer, IsRequest, IsAnswer, answer_to, PollRequest2, PollAnswer2, IsRequest2, IsAnswer2, answer_to2}
use Rattle.tt_poll.proofs.Taking.{same_from_spelling, same_from_spelling2}
use Rattle.tt_master.specs.Packet.{packet_to, packet_to2, IsTrueAnswer, IsTrueAnswer2}

-- answers that are equal as messages have equal spans
span_of_same : (a b : PollAnswer) → message.Answer a ≡ message.Answer b → a.span ≡ b.span
span_of_same a b e = let same : a ≡ b = cc in ap (λ (x : PollAnswer). x.span) same

span_of_same2 : (a b : PollAnswer2) → message2.Answer a ≡ message2.Answer b → a.span ≡ b.span
span_of_same2 a b e = let same : a ≡ b = cc in ap (λ (x : PollAnswer2). x.span) same

-- the answer to a request with a span is in range
answer_in : (request : PollRequest) (span : Interval) → IsRequest request → IsInterval span → IsAnswer (answer_to request span)
answer_in request span asked in_time = record { poll = asked; span_in = in_time }

answer_in2 : (request : PollRequest2) (span : Interval) → IsRequest2 request → IsInterval span → IsAnswer2 (answer_to2 request span)
answer_in2 request span asked in_time = record { poll = asked.poll; epoch_in = asked.epoch_in; span_in = in_time }

-- the packet that answers a request with a span is a true answer at exactly the times that the span holds
pub true_exactly : (request : PollRequest) (span : Interval) (packet : List ℕ) → IsRequest request → IsInterval span → packet ≡ packet_to request span
    → (time : ℕ) → IsTrueAnswer packet time ↔ Holds span time
true_exactly request span packet asked in_time e time =
    let answers : IsAnswer (answer_to request span) = answer_in request span asked in_time in (
      λ is. subst (λ (i : Interval). Holds i time)
          (span_of_same is.0 (answer_to request span) (same_from_spelling (message.Answer is.0) (message.Answer (answer_to request span)) is.1 answers (sym is.2 ∙ e))) is.3,
      λ holds. (answer_to request span, answers, e, holds),
    )

-- the same of TTP2
pub true_exactly2 : (request : PollRequest2) (span : Interval) (packet : List ℕ) → IsRequest2 request → IsInterval span → packet ≡ packet_to2 request span
    → (time : ℕ) → IsTrueAnswer2 packet time ↔ Holds span time
true_exactly2 request span packet asked in_time e time =
    let answers : IsAnswer2 (answer_to2 request span) = answer_in2 request span asked in_time in (
      λ is. subst (λ (i : Interval). Holds i time)
          (span_of_same2 is.0 (answer_to2 request span) (same_from_spelling2 (message2.Answer is.0) (message2.Answer (answer_to2 request span)) is.1 answers (sym is.2 ∙ e))) is.3,
      λ holds. (answer_to2 request span, answers, e, holds),
    )
