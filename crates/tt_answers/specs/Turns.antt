-- What one turn of a master over a reference of intervals does.
use Rattle.std.specs.Prelude.{◌≡◌, ℕ, List, Result, Ok, Err}
use Rattle.tt_span.specs.Interval.{Interval}
use Rattle.tt_poll.specs.Format.{format_of}
use Rattle.tt_poll.specs.declared.format.Format.{Format}
use Rattle.tt_poll.specs.declared.format.Format.TheVariants.{Ttp1, Ttp2}
use Rattle.tt_master.specs.Packet.{request_to, request_to2, packet_to, packet_to2}
use Rattle.tt_master.specs.Silence.{unheard_as}
use Rattle.tt_master.specs.SpanMaster.{SpanMasterState, AnswersBySpan}
use Rattle.tt_master.specs.declared.faults.MasterFault.{MasterFault}
use Rattle.tt_master.specs.declared.silences.Silence.{Silence}
use Rattle.tt_master.specs.declared.silences.NoAnswer.{NoAnswer}
use Rattle.tt_rounds.specs.Link.{Call, Send, Receive, Gift, Went, Came, NothingCame, Broke}
use Rattle.tt_rounds.specs.declared.faults.LinkFault.{LinkFault}
use Rattle.tt_rounds.specs.declared.faults.LinkFault.TheVariants.{Failed}
use Rattle.tt_answers.specs.declared.turns.Turn.{Turn}
use Rattle.tt_answers.specs.declared.turns.Turn.TheVariants.{Nothing, Answered, Unanswered}

-- what is answered to bytes in which this request was read, or that are refused, and the reference before and after; packets are made so
abbrev pub AnswersTo : {Q R : Type 0} → (R → Result Interval Silence → R → Type 0) → (Q → Interval → List ℕ) → Result Q MasterFault → R → Result (Interval × List ℕ) NoAnswer → R → Type 0
AnswersTo gives to (Err fault) before answer after = (answer ≡ Err (unheard_as fault)) × (after ≡ before)
AnswersTo gives to (Ok request) before answer after = AnswersBySpan (λ gave. gives before gave after) (to request) answer

-- what a master answers to bytes of this format; nothing of it changes but its reference
abbrev pub AnswersIn : {R : Type 0} → (R → Result Interval Silence → R → Type 0) → Format → List ℕ → SpanMasterState R → Result (Interval × List ℕ) NoAnswer → SpanMasterState R → Type 0
AnswersIn gives Ttp1 bytes before answer after =
    AnswersTo gives packet_to (request_to before.source bytes) before.reference answer after.reference × (after ≡ record before { reference = after.reference })
AnswersIn gives Ttp2 bytes before answer after =
    AnswersTo gives packet_to2 (request_to2 before.source bytes) before.reference answer after.reference × (after ≡ record before { reference = after.reference })

-- the turn after a packet with this span was sent: it is answered, or the link failed
abbrev pub EndsSent : Gift → Interval → Result Turn LinkFault → Type 0
EndsSent Went span turn = turn ≡ Ok (Answered span)
EndsSent Broke span turn = turn ≡ Err Failed
EndsSent _ span turn = ⊥

-- the packet of an answer goes to the peer that asked; where there is none, nothing is sent
abbrev pub SendsAnswer : {L : Type 0} → (L → Call → Gift → L → Type 0) → ℕ → Result (Interval × List ℕ) NoAnswer → L → Result Turn LinkFault → L → Type 0
SendsAnswer does peer (Ok answer) before turn after = (gift : Gift) × does before (Send (record { peer = peer; bytes = answer.1 })) gift after × EndsSent gift answer.0 turn
SendsAnswer does peer (Err why) before turn after = (turn ≡ Ok (Unanswered why)) × (after ≡ before)

-- bytes of this format that came from a peer are answered, and the answer is sent
abbrev pub AnswersPacket : {L R : Type 0} → (R → Result Interval Silence → R → Type 0) → (L → Call → Gift → L → Type 0) → Format → ℕ → List ℕ → L → SpanMasterState R → Result Turn LinkFault → L → SpanMasterState R → Type 0
AnswersPacket gives does format peer bytes link master turn link' master' =
    (answer : Result (Interval × List ℕ) NoAnswer) × AnswersIn gives format bytes master answer master' × SendsAnswer does peer answer link turn link'

-- what was received is answered, in its own format; where nothing came, nothing is done
abbrev pub AnswersWhatCame : {L R : Type 0} → (R → Result Interval Silence → R → Type 0) → (L → Call → Gift → L → Type 0) → Gift → L → SpanMasterState R → Result Turn LinkFault → L → SpanMasterState R → Type 0
AnswersWhatCame gives does (Came packet) link master turn link' master' = AnswersPacket gives does (format_of packet.bytes) packet.peer packet.bytes link master turn link' master'
AnswersWhatCame gives does NothingCame link master turn link' master' = (turn ≡ Ok Nothing) × (link' ≡ link) × (master' ≡ master)
AnswersWhatCame gives does Broke link master turn link' master' = (turn ≡ Err Failed) × (link' ≡ link) × (master' ≡ master)
AnswersWhatCame gives does Went link master turn link' master' = ⊥

-- one turn: the link is asked once for a packet, and what it gave is answered
abbrev pub TakesTurn : {L R : Type 0} → (R → Result Interval Silence → R → Type 0) → (L → Call → Gift → L → Type 0) → L → SpanMasterState R → Result Turn LinkFault → L → SpanMasterState R → Type 0
TakesTurn {L} gives does link master turn link' master' =
    (gift : Gift) × (received : L) × does link Receive gift received × AnswersWhatCame gives does gift received master turn link' master'
