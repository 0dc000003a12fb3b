-- What requests and answers are: machines ask the sources of time, and sources answer.
use Rattle.std.specs.Prelude.{ℕ, ◌<◌, ◌≤◌, ◌^◌}
use Rattle.tt_span.specs.Interval.{Interval, IsInterval}

-- the greatest number of a machine
abbrev pub max_machine : ℕ
max_machine = 7

-- the greatest number of a source
abbrev pub max_source : ℕ
max_source = 15

-- the numbers by which a poll is known are in range, and its nonce is not 0
pub record IsPoll (machine source nonce : ℕ) : Type 0 where
  pub machine_in : machine ≤ max_machine
  pub source_in : source ≤ max_source
  pub nonce_in : 0 < nonce
  pub nonce_fits : nonce < 2 ^ 64

-- the number of a life of a machine: lives are counted from 1, so it is not 0
pub record IsEpoch (epoch : ℕ) : Type 0 where
  pub from_one : 0 < epoch
  pub fits : epoch < 2 ^ 64

-- what a machine asks a source: which of them they are, and a number by which the answer is known
pub record PollRequest : Type 0 where
  pub machine : ℕ
  pub source : ℕ
  pub nonce : ℕ

-- its numbers are in range, and its nonce is not 0
abbrev pub IsRequest : PollRequest → Type 0
IsRequest r = IsPoll r.machine r.source r.nonce

-- what a source answers: the numbers of the request, and a span that it says holds the true time
pub record PollAnswer : Type 0 where
  pub machine : ℕ
  pub source : ℕ
  pub nonce : ℕ
  pub span : Interval

-- its numbers are in range, its nonce is not 0, and its span is one of time
pub record IsAnswer (a : PollAnswer) : Type 0 where
  pub poll : IsPoll a.machine a.source a.nonce
  pub span_in : IsInterval a.span

-- the answer to the request that the true time lies in the span
abbrev pub answer_to : PollRequest → Interval → PollAnswer
answer_to request span = record { machine = request.machine; source = request.source; nonce = request.nonce; span = span }

-- a request that also names the machine's life, its epoch
pub record PollRequest2 : Type 0 where
  pub machine : ℕ
  pub source : ℕ
  pub nonce : ℕ
  pub epoch : ℕ

-- its numbers are in range, and neither its nonce nor its epoch is 0
pub record IsRequest2 (r : PollRequest2) : Type 0 where
  pub poll : IsPoll r.machine r.source r.nonce
  pub epoch_in : IsEpoch r.epoch

-- an answer that also names the machine's life, its epoch
pub record PollAnswer2 : Type 0 where
  pub machine : ℕ
  pub source : ℕ
  pub nonce : ℕ
  pub epoch : ℕ
  pub span : Interval

-- its numbers are in range, neither its nonce nor its epoch is 0, and its span is one of time
pub record IsAnswer2 (a : PollAnswer2) : Type 0 where
  pub poll : IsPoll a.machine a.source a.nonce
  pub epoch_in : IsEpoch a.epoch
  pub span_in : IsInterval a.span

-- the answer to a request with an epoch: it has the same epoch
abbrev pub answer_to2 : PollRequest2 → Interval → PollAnswer2
answer_to2 request span = record { machine = request.machine; source = request.source; nonce = request.nonce; epoch = request.epoch; span = span }
