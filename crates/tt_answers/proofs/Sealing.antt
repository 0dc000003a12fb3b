-- A turn over a link of sealed requests answers one that came sealed, under its key.
use Rattle.std.proofs.Common.{◌≡◌, ℕ, Bool, true, false, cond, eqb, List, Option, Some, None, Result, Ok, Err, refl, ap, ◌∙◌, sym, subst, inl, inr}
use Rattle.std.proofs.lemmas.Bool.{eqb-true}
use Rattle.tt_span.specs.Interval.{Interval}
use Rattle.tt_poll.specs.Format.{format_of}
use Rattle.tt_poll.specs.Message.{PollRequest, PollRequest2}
use Rattle.tt_poll.specs.Reading.{read_of, read_of2}
use Rattle.tt_poll.specs.declared.faults.PollFault.{PollFault}
use Rattle.tt_poll.specs.declared.format.Format.{Format}
use Rattle.tt_poll.specs.declared.format.Format.TheVariants.{Ttp1, Ttp2}
use Rattle.tt_poll.specs.declared.messages.Message.{Message}
use Rattle.tt_poll.specs.declared.messages.Message.TheVariants as one
use Rattle.tt_poll.specs.declared.messages.Message2.{Message2}
use Rattle.tt_poll.specs.declared.messages.Message2.TheVariants as two
use Rattle.tt_poll.proofs.Finding.{spelling_of-read, spelling_of2-read}
use Rattle.tt_seal.specs.Sealing.{SealKey, IsBytes, key_with, sealing_of}
use Rattle.tt_wire.specs.Wire.{Asking, answer_of, answer_under, sealed_with}
use Rattle.tt_wire.proofs.Sealing.{IsBytes-sealed}
use Rattle.tt_master.specs.Packet.{heard_as, heard_as2, heard_in, packet_to, packet_to2, request_heard, request_to, request_to2, unless_answer}
use Rattle.tt_master.specs.SpanMaster.{SpanMasterState}
use Rattle.tt_master.specs.declared.faults.MasterFault.{MasterFault}
use Rattle.tt_master.specs.declared.silences.NoAnswer.{NoAnswer}
use Rattle.tt_master.specs.declared.silences.Silence.{Silence}
use Rattle.tt_rounds.specs.Answering.{AnswersSealed, AreBytes, AskedSealed, Desk, HandsOn, Sends, desk_after}
use Rattle.tt_rounds.specs.Link.{Broke, Call, Came, Gift, NothingCame, Packet, Receive, Send, Went}
use Rattle.tt_rounds.proofs.Answering.{HandsOn-sealed}
use Rattle.tt_answers.specs.Sealing.{SealsAnswer, SealsAnswerTo, Spells, Spells2}
use Rattle.tt_answers.specs.Turns.{AnswersIn, AnswersTo, AnswersWhatCame, EndsSent, SendsAnswer, TakesTurn}
use Rattle.tt_answers.specs.declared.turns.Turn.TheVariants.{Answered}

-- ---- the request that is answered
asked-of : {Q : Type 0} (same : Bool) (wanted : Option Q) (fault : MasterFault) (request : Q) → cond same (unless_answer wanted) (Err fault) ≡ Ok request → (same ≡ true) × (wanted ≡ Some request)
asked-of true (Some other) fault request is = (refl, cc)
asked-of true None fault request is = cc
asked-of false wanted fault request is = cc

spells : (source : ℕ) (bytes : List ℕ) (r : Result Message PollFault) (request : PollRequest) → IsBytes bytes → r ≡ read_of bytes → request_heard source (heard_in heard_as r) ≡ Ok request → Spells source request bytes
spells source bytes (Err fault) request small is heard = cc
spells source bytes (Ok (one.Request asked)) request small is heard =
    let parts = asked-of (eqb asked.source source) (Some asked) _ request heard in
    let same : asked ≡ request = cc in
    let found = spelling_of-read bytes (one.Request asked) small (sym is) in
    subst (λ (q : PollRequest). Spells source q bytes) same (found.0, eqb-true asked.source source parts.0, found.1)
spells source bytes (Ok (one.Answer answer)) request small is heard =
    let parts = asked-of (eqb answer.source source) None _ request heard in
    cc

spells2 : (source : ℕ) (bytes : List ℕ) (r : Result Message2 PollFault) (request : PollRequest2) → IsBytes bytes → r ≡ read_of2 bytes → request_heard source (heard_in heard_as2 r) ≡ Ok request → Spells2 source request bytes
spells2 source bytes (Err fault) request small is heard = cc
spells2 source bytes (Ok (two.Request asked)) request small is heard =
    let parts = asked-of (eqb asked.source source) (Some asked) _ request heard in
    let same : asked ≡ request = cc in
    let found = spelling_of2-read bytes (two.Request asked) small (sym is) in
    subst (λ (q : PollRequest2). Spells2 source q bytes) same (found.0, eqb-true asked.source source parts.0, found.1)
spells2 source bytes (Ok (two.Answer answer)) request small is heard =
    let parts = asked-of (eqb answer.source source) None _ request heard in
    cc

-- ---- what is sent
sealed-with : {L : Type 0} (does : L → Call → Gift → L → Type 0) (found : Option SealKey) (key : SealKey) (message : List ℕ) (peer : ℕ) (before after : L) → found ≡ Some key
    → Sends does (sealed_with found message) peer before Went after → does before (Send (record { peer = peer; bytes = sealing_of message key })) Went after
sealed-with does None key message peer before after is sends = cc
sealed-with {L} does (Some other) key message peer before after is sends =
    let same : other ≡ key = cc in
    subst (λ (k : SealKey). does before (Send (record { peer = peer; bytes = sealing_of message k })) Went after) same (went _ sends)
  where
    went : (long : Bool) → Sends does (cond long None (Some (sealing_of message other))) peer before Went after → does before (Send (record { peer = peer; bytes = sealing_of message other })) Went after
    went true sends = let no : Went ≡ Broke = sends.0 in cc
    went false sends = sends

sent-sealed : {L : Type 0} (does : L → Call → Gift → L → Type 0) (asking : Asking) (key : SealKey) (message : List ℕ) (peer : ℕ) (before after : L) → asking.asked ≡ Some key.number → key_with asking.keys key.number ≡ Some key
    → Sends does (answer_of asking message) peer before Went after → does before (Send (record { peer = peer; bytes = sealing_of message key })) Went after
unfolding answer_of
sent-sealed does asking key message peer before after asks known sends =
    sealed-with does (key_with asking.keys key.number) key message peer before after known
    (subst (λ (asked : Option ℕ). Sends does (answer_under asking.keys asked message) peer before Went after) asks sends)

keys-kept : (came : Gift) (desk : Desk) → (desk_after came desk).asking.keys ≡ desk.asking.keys
keys-kept Went desk = refl
keys-kept (Came packet) desk = refl
keys-kept NothingCame desk = refl
keys-kept Broke desk = refl

-- ---- a turn
module _ {S L R : Type 0} (gives : R → Result Interval Silence → R → Type 0) (does : L → Call → Gift → L → Type 0) (link_of : S → L) (desk_of : S → Desk) where
  abbrev doing : S → Call → Gift → S → Type 0
  doing from call gift to = AnswersSealed does (link_of from) (desk_of from) call gift (link_of to) (desk_of to)

  module _ (before after : S) (master master' : SpanMasterState R) (span : Interval) where
    abbrev Goal : Type 0
    Goal = SealsAnswer gives does (desk_of before).asking.keys span (link_of before) master (link_of after) master'

    module _ (packet : Packet) (received : S) (came : Gift) (link_came : does (link_of before) Receive came (link_of received)) (hands : HandsOn (desk_of before) came (Came packet) (desk_of received)) where
      asked : AskedSealed (desk_of before).asking.keys came packet (desk_of received).asking.asked
      asked = HandsOn-sealed (desk_of before) (desk_of received) came (Came packet) packet hands refl

      from_link : does (link_of before) Receive (Came (record { peer = packet.peer; bytes = sealing_of packet.bytes asked.key })) (link_of received)
      from_link = subst (λ (gift : Gift). does (link_of before) Receive gift (link_of received)) asked.was link_came

      small : IsBytes packet.bytes
      small = IsBytes-sealed packet.bytes asked.key (subst AreBytes asked.was hands.small)

      known-then : key_with (desk_of received).asking.keys asked.key.number ≡ Some asked.key
      known-then = ap (λ (desk : Desk). key_with desk.asking.keys asked.key.number) hands.kept ∙ ap (λ (keys : List SealKey). key_with keys asked.key.number) (keys-kept came (desk_of before)) ∙ asked.known

      to_link : (bytes : List ℕ) → doing received (Send (record { peer = packet.peer; bytes = bytes })) Went after → does (link_of received) (Send (record { peer = packet.peer; bytes = sealing_of bytes asked.key })) Went (link_of after)
      to_link bytes sent = sent-sealed does (desk_of received).asking asked.key bytes packet.peer (link_of received) (link_of after) asked.asks known-then sent.0

      module _ {Q : Type 0} (asks : Q → List ℕ → Type 0) (packet_of : Q → Interval → List ℕ) where
        answers-to : (r : Result Q MasterFault) (answer : Interval × List ℕ) → ((request : Q) → r ≡ Ok request → asks request packet.bytes) → AnswersTo gives packet_of r master.reference (Ok answer) master'.reference
            → doing received (Send (record { peer = packet.peer; bytes = answer.1 })) Went after → SealsAnswerTo gives does asks packet_of (desk_of before).asking.keys answer.0 (link_of before) master.reference (link_of after) master'.reference
        answers-to (Err fault) answer spelled is sent = let no = is.0 in cc
        answers-to (Ok request) answer spelled is sent = record {
          key = asked.key;
          known = asked.known;
          request = request;
          message = packet.bytes;
          asked = spelled request refl;
          peer = packet.peer;
          received = link_of received;
          came = from_link;
          gave = is.0;
          sent = subst (λ (bytes : List ℕ). does (link_of received) (Send (record { peer = packet.peer; bytes = sealing_of bytes asked.key })) Went (link_of after)) is.1 (to_link answer.1 sent);
        }

      in-format : (format : Format) (answer : Interval × List ℕ) → AnswersIn gives format packet.bytes master (Ok answer) master' → doing received (Send (record { peer = packet.peer; bytes = answer.1 })) Went after
          → SealsAnswer gives does (desk_of before).asking.keys answer.0 (link_of before) master (link_of after) master'
      in-format Ttp1 answer is sent =
          inl (answers-to (Spells master.source) packet_to (request_to master.source packet.bytes) answer (λ request heard. spells master.source packet.bytes (read_of packet.bytes) request small refl heard) is.0 sent)
      in-format Ttp2 answer is sent =
          inr (answers-to (Spells2 master.source) packet_to2 (request_to2 master.source packet.bytes) answer (λ request heard. spells2 master.source packet.bytes (read_of2 packet.bytes) request small refl heard) is.0 sent)

      by-gift : (answer : Interval × List ℕ) (gift : Gift) → AnswersIn gives (format_of packet.bytes) packet.bytes master (Ok answer) master' → doing received (Send (record { peer = packet.peer; bytes = answer.1 })) gift after
          → EndsSent gift answer.0 (Ok (Answered span)) → Goal
      by-gift answer Went is sent ends =
          let same : answer.0 ≡ span = cc in
          subst (λ (s : Interval). SealsAnswer gives does (desk_of before).asking.keys s (link_of before) master (link_of after) master') same (in-format (format_of packet.bytes) answer is sent)
      by-gift answer Broke is sent ends = cc
      by-gift answer (Came other) is sent ends = absurd ends
      by-gift answer NothingCame is sent ends = absurd ends

      by-answer : (answer : Result (Interval × List ℕ) NoAnswer) → AnswersIn gives (format_of packet.bytes) packet.bytes master answer master' → SendsAnswer doing packet.peer answer received (Ok (Answered span)) after → Goal
      by-answer (Ok answer) is sends = by-gift answer sends.0 is sends.1 sends.2
      by-answer (Err why) is sends = let no = sends.0 in cc

    by-came : (gift : Gift) (received : S) → doing before Receive gift received → AnswersWhatCame gives doing gift received master (Ok (Answered span)) after master' → Goal
    by-came (Came packet) received did answers = by-answer packet received did.0 did.1 did.2 answers.0 answers.1 answers.2
    by-came NothingCame received did answers = let no = answers.0 in cc
    by-came Broke received did answers = let no = answers.0 in cc
    by-came Went received did answers = absurd answers

    pub seals-answer : TakesTurn gives doing before master (Ok (Answered span)) after master' → Goal
    seals-answer turn = by-came turn.0 turn.1 turn.2 turn.3
