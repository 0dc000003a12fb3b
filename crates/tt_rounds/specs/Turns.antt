-- The course of a master's turns: which act was played for which packet, and what was sent.
use Rattle.std.specs.Prelude.{◌≡◌, ◌<◌, ℕ, zero, suc, ◌+◌, ◌-◌, min, Bool, true, false, List, length, slice_index_or, Option, Some, None, Result, Ok, Err}
use Rattle.tt_span.specs.Interval.{Interval}
use Rattle.tt_poll.specs.Format.{format_of}
use Rattle.tt_poll.specs.declared.format.Format.{Format}
use Rattle.tt_poll.specs.declared.format.Format.TheVariants.{Ttp1, Ttp2}
use Rattle.tt_master.specs.Act.{span_played}
use Rattle.tt_master.specs.Packet.{request_to, request_to2, packet_to, packet_to2, garbage}
use Rattle.tt_master.specs.Master.{MasterState, AnswersByTime, played_after}
use Rattle.tt_master.specs.declared.acts.Act.{Act}
use Rattle.tt_master.specs.declared.acts.Act.TheVariants.{Silent, Garbage, Repeat}
use Rattle.tt_master.specs.declared.faults.MasterFault.{MasterFault}
use Rattle.tt_master.specs.declared.faults.MasterFault.TheVariants.{Reference}
use Rattle.tt_rounds.specs.Link.{Call, Send, Receive, Gift, Went, Came, NothingCame, Broke}
use Rattle.tt_rounds.specs.declared.faults.NodeFault.{NodeFault}
use Rattle.tt_rounds.specs.declared.faults.NodeFault.TheVariants.{LinkFailed, ReferenceFailed}

-- what an act answers to a request, and the reference before and after: packets are made so, garbage is so long, and this was played last
abbrev pub Acts : {Q R : Type 0} → (R → Option ℕ → R → Type 0) → (Q → Interval → List ℕ) → ℕ → ℕ → Option (List ℕ) → Act → Q → R → Result (Option (List ℕ)) MasterFault → R → Type 0
Acts gives to len uncertainty played Silent request before answer after = (answer ≡ Ok None) × (after ≡ before)
Acts gives to len uncertainty played Garbage request before answer after = (answer ≡ Ok (Some (garbage len))) × (after ≡ before)
Acts gives to len uncertainty played Repeat request before answer after = (answer ≡ Ok played) × (after ≡ before)
Acts gives to len uncertainty played act request before answer after =
    AnswersByTime (λ time. gives before time after) (λ time. Some (to request (span_played uncertainty act time))) answer

-- what an act answers to bytes in which this request was read, or that are refused
abbrev pub ActsOn : {Q R : Type 0} → (R → Option ℕ → R → Type 0) → (Q → Interval → List ℕ) → ℕ → ℕ → Option (List ℕ) → Act → Result Q MasterFault → R → Result (Option (List ℕ)) MasterFault → R → Type 0
ActsOn gives to len uncertainty played act (Err fault) before answer after = (answer ≡ Err fault) × (after ≡ before)
ActsOn gives to len uncertainty played act (Ok request) before answer after = Acts gives to len uncertainty played act request before answer after

-- a master plays an act for bytes of this format, and keeps what it sent
abbrev pub PlaysIn : {R : Type 0} → (R → Option ℕ → R → Type 0) → Format → Act → List ℕ → MasterState R → Result (Option (List ℕ)) MasterFault → MasterState R → Type 0
PlaysIn gives Ttp1 act bytes before answer after =
    ActsOn gives packet_to 32 before.uncertainty before.played act (request_to before.source bytes) before.reference answer after.reference
    × (after ≡ record before { reference = after.reference; played = played_after answer before.played })
PlaysIn gives Ttp2 act bytes before answer after =
    ActsOn gives packet_to2 40 before.uncertainty before.played2 act (request_to2 before.source bytes) before.reference answer after.reference
    × (after ≡ record before { reference = after.reference; played2 = played_after answer before.played2 })

-- the answer after a packet was sent: an act was done, or the link failed
abbrev pub AnswersSent : Gift → Result Bool NodeFault → Type 0
AnswersSent Went answer = answer ≡ Ok true
AnswersSent Broke answer = answer ≡ Err LinkFailed
AnswersSent _ answer = ⊥

-- what an act gave goes to the peer that the packet came from; where it gives nothing it is done too, and where the packet was refused none is
abbrev pub SendsPlayed : {L : Type 0} → (L → Call → Gift → L → Type 0) → ℕ → Result (Option (List ℕ)) MasterFault → L → Result Bool NodeFault → L → Type 0
SendsPlayed does peer (Ok (Some bytes)) before answer after = (gift : Gift) × does before (Send (record { peer = peer; bytes = bytes })) gift after × AnswersSent gift answer
SendsPlayed does peer (Ok None) before answer after = (answer ≡ Ok true) × (after ≡ before)
SendsPlayed does peer (Err Reference) before answer after = (answer ≡ Err ReferenceFailed) × (after ≡ before)
SendsPlayed does peer (Err _) before answer after = (answer ≡ Ok false) × (after ≡ before)

-- the act is played for bytes of this format that came from a peer, and what it gave is sent
abbrev pub Plays : {L R : Type 0} → (R → Option ℕ → R → Type 0) → (L → Call → Gift → L → Type 0) → Format → Act → ℕ → List ℕ → L → MasterState R → Result Bool NodeFault → L → MasterState R → Type 0
Plays gives does format act peer bytes link master answer link' master' =
    (played : Result (Option (List ℕ)) MasterFault) × PlaysIn gives format act bytes master played master' × SendsPlayed does peer played link answer link'

-- what was received is played for, in its own format; where nothing came, nothing is done
abbrev pub PlaysFor : {L R : Type 0} → (R → Option ℕ → R → Type 0) → (L → Call → Gift → L → Type 0) → Act → Gift → L → MasterState R → Result Bool NodeFault → L → MasterState R → Type 0
PlaysFor gives does act (Came packet) link master answer link' master' = Plays gives does (format_of packet.bytes) act packet.peer packet.bytes link master answer link' master'
PlaysFor gives does act NothingCame link master answer link' master' = (answer ≡ Ok false) × (link' ≡ link) × (master' ≡ master)
PlaysFor gives does act Broke link master answer link' master' = (answer ≡ Err LinkFailed) × (link' ≡ link) × (master' ≡ master)
PlaysFor gives does act Went link master answer link' master' = ⊥

-- one turn with this act: whether it was done
abbrev pub TakesTurn : {L R : Type 0} → (R → Option ℕ → R → Type 0) → (L → Call → Gift → L → Type 0) → Act → L → MasterState R → Result Bool NodeFault → L → MasterState R → Type 0
TakesTurn {L} gives does act link master answer link' master' =
    (gift : Gift) × (received : L) × does link Receive gift received × PlaysFor gives does act gift received master answer link' master'

-- the act for the next request where so many were done: the next of the list, and its last one again and again
abbrev pub act_at : List Act → ℕ → Act
act_at acts played = slice_index_or acts (min played (length acts - 1)) Silent

-- so many acts are done after a turn
abbrev pub counted : ℕ → Bool → ℕ
counted played true = played + 1
counted played false = played

-- so many turns went well, and so many acts were done in them
abbrev pub TakesTurns : {L R : Type 0} → (R → Option ℕ → R → Type 0) → (L → Call → Gift → L → Type 0) → List Act → ℕ → L → MasterState R → ℕ → L → MasterState R → Type 0
TakesTurns gives does acts zero link master played link' master' = (played ≡ 0) × (link' ≡ link) × (master' ≡ master)
TakesTurns {L} {R} gives does acts (suc n) link master played link' master' =
    (mid : L) × (known : MasterState R) × (before : ℕ) × (did : Bool) × TakesTurns gives does acts n link master before mid known
    × TakesTurn gives does (act_at acts before) mid known (Ok did) link' master' × (played ≡ counted before did)

-- the turns of a master: all of them went well, or a fault ended one, after those before it
abbrev pub DoesTurns : {L R : Type 0} → (R → Option ℕ → R → Type 0) → (L → Call → Gift → L → Type 0) → List Act → ℕ → L → MasterState R → Result ℕ NodeFault → L → MasterState R → Type 0
DoesTurns gives does acts turns link master (Ok played) link' master' = TakesTurns gives does acts turns link master played link' master'
DoesTurns {L} {R} gives does acts turns link master (Err fault) link' master' =
    (n : ℕ) × (mid : L) × (known : MasterState R) × (before : ℕ) × (n < turns) × TakesTurns gives does acts n link master before mid known
    × TakesTurn gives does (act_at acts before) mid known (Err fault) link' master'
