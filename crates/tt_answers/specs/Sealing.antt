-- What a turn of a master does over a link that hands up sealed requests alone.
use Rattle.std.specs.Prelude.{◌≡◌, ◌⊎◌, ℕ, List, Some, Result, Ok}
use Rattle.tt_span.specs.Interval.{Interval}
use Rattle.tt_poll.specs.Message.{PollRequest, IsRequest, PollRequest2, IsRequest2}
use Rattle.tt_poll.specs.Spelling.{spelling_of, spelling_of2}
use Rattle.tt_poll.specs.declared.messages.Message.TheVariants as one
use Rattle.tt_poll.specs.declared.messages.Message2.TheVariants as two
use Rattle.tt_seal.specs.Sealing.{SealKey, key_with, sealing_of}
use Rattle.tt_master.specs.Packet.{packet_to, packet_to2}
use Rattle.tt_master.specs.SpanMaster.{SpanMasterState}
use Rattle.tt_master.specs.declared.silences.Silence.{Silence}
use Rattle.tt_rounds.specs.Link.{Call, Send, Receive, Gift, Went, Came}

-- a message is this request to this source
abbrev pub Spells : ℕ → PollRequest → List ℕ → Type 0
Spells source request message = IsRequest request × (request.source ≡ source) × (message ≡ spelling_of (one.Request request))

-- the same of TTP2
abbrev pub Spells2 : ℕ → PollRequest2 → List ℕ → Type 0
Spells2 source request message = IsRequest2 request × (request.source ≡ source) × (message ≡ spelling_of2 (two.Request request))

-- a request came sealed under one of these keys; the reference gave this span after it came, and then its answer went to the peer that asked, sealed under the same key
pub record SealsAnswerTo {Q L R : Type 0} (gives : R → Result Interval Silence → R → Type 0) (does : L → Call → Gift → L → Type 0) (asks : Q → List ℕ → Type 0) (packet_of : Q → Interval → List ℕ)
    (keys : List SealKey) (span : Interval) (before : L) (reference : R) (after : L) (reference' : R) : Type 0 where
  pub key : SealKey
  pub known : key_with keys key.number ≡ Some key
  pub request : Q
  pub message : List ℕ
  pub asked : asks request message
  pub peer : ℕ
  pub received : L
  pub came : does before Receive (Came (record { peer = peer; bytes = sealing_of message key })) received
  pub gave : gives reference (Ok span) reference'
  pub sent : does received (Send (record { peer = peer; bytes = sealing_of (packet_of request span) key })) Went after

-- this is so of a request of either format to a master's source
abbrev pub SealsAnswer : {L R : Type 0} → (R → Result Interval Silence → R → Type 0) → (L → Call → Gift → L → Type 0) → List SealKey → Interval → L → SpanMasterState R → L → SpanMasterState R → Type 0
SealsAnswer gives does keys span before master after master' =
    SealsAnswerTo gives does (Spells master.source) packet_to keys span before master.reference after master'.reference
    ⊎ SealsAnswerTo gives does (Spells2 master.source) packet_to2 keys span before master.reference after master'.reference
