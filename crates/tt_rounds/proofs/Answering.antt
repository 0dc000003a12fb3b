-- What a master's link hands up came sealed, and what it sends opens.
use Rattle.std.proofs.Common.{◌≡◌, ℕ, ◌≤◌, ltb, List, ◌∷◌, length, Bool, true, false, cond, Option, Some, None, Result, Ok, Err, refl, ap, ◌∙◌, sym, subst}
use Rattle.std.specs.Prelude.{Contains}
use Rattle.std.proofs.lemmas.Bool.{ltb-false}
use Rattle.tt_seal.specs.declared.faults.SealFault.{SealFault}
use Rattle.tt_seal.specs.declared.sealing.Opened.{Opened}
use Rattle.tt_seal.specs.Sealing.{SealKey, IsKey, IsBytes, HaveOwnNumbers, sealing_of, key_with, opened_of}
use Rattle.tt_seal.proofs.Opening.{opened_of-found, opened_of-taken}
use Rattle.tt_wire.specs.Moving.{moved_back}
use Rattle.tt_wire.specs.Wire.{Wiring, Asking, keys_of, incoming_as, handed_up, came_under, incoming_of, sealed_with, answer_of, asked_after}
use Rattle.tt_rounds.specs.Link.{Packet, Gift, Went, Came, NothingCame, Broke}
use Rattle.tt_rounds.specs.Answering.{Desk, handed_as, handed_on, desk_asked, desk_after, AreBytes, HandsOn, AskedSealed}
use Rattle.tt_rounds.specs.Hearing.{counted_by}

-- ---- what is handed up

asked_sealed : (keys : List SealKey) (came packet : Packet) (asked : Option ℕ) (r : Result Opened SealFault) → IsBytes came.bytes → r ≡ opened_of came.bytes keys → handed_as came.peer r ≡ Came packet
    → AskedSealed keys (Came came) packet (asked_after r asked)
asked_sealed keys came packet asked (Err fault) small is given = cc
asked_sealed keys came packet asked (Ok opened) small is given =
    let found = opened_of-found came.bytes keys opened small (sym is) in
    let same : record { peer = came.peer; bytes = opened.message.items } ≡ packet = cc in
    subst (λ (p : Packet). AskedSealed keys (Came came) p (Some opened.number)) same (record {
      key = found.key;
      known = ap (key_with keys) found.numbered ∙ found.known;
      asks = ap (λ (n : ℕ). Some n) (sym found.numbered);
      was = ap (λ (bytes : List ℕ). Came (record { peer = came.peer; bytes = bytes })) found.sealed;
    })

handed-sealed : (before : Desk) (came : Gift) (packet : Packet) → AreBytes came → handed_on before.asking.keys came ≡ Came packet → AskedSealed before.asking.keys came packet (desk_after came before).asking.asked
handed-sealed before Went packet small given = cc
handed-sealed before NothingCame packet small given = cc
handed-sealed before Broke packet small given = cc
handed-sealed before (Came came) packet small given = asked_sealed before.asking.keys came packet before.asking.asked (opened_of came.bytes before.asking.keys) small refl given

pub HandsOn-sealed : (before after : Desk) (came gift : Gift) (packet : Packet) → HandsOn before came gift after → gift ≡ Came packet → AskedSealed before.asking.keys came packet after.asking.asked
HandsOn-sealed before after came gift packet h is =
    subst (λ (d : Desk). AskedSealed before.asking.keys came packet d.asking.asked) (sym h.kept) (handed-sealed before came packet h.small (sym h.given ∙ is))

-- ---- what is sent

-- an answer that was sealed was short enough
unsealed : (long : Bool) (sealing sealed : List ℕ) → cond long None (Some sealing) ≡ Some sealed → (long ≡ false) × (sealing ≡ sealed)
unsealed true sealing sealed h = cc
unsealed false sealing sealed h = (refl, cc)

came_under-sealed : (ahead : ℕ) (first key : SealKey) (others : List SealKey) (message sealed : List ℕ) → IsKey key → HaveOwnNumbers (first ∷ others) → Contains (first ∷ others) key
    → cond (ltb 40 (length message)) None (Some (sealing_of message key)) ≡ Some sealed → came_under (first ∷ others) ahead sealed ≡ Ok (incoming_as (Some key.number) (moved_back ahead message))
came_under-sealed ahead first key others message sealed is own has given =
    let parts = unsealed (ltb 40 (length message)) (sealing_of message key) sealed given in
    let short : length message ≤ 40 = ltb-false 40 (length message) parts.0 in
    ap (λ (bytes : List ℕ). handed_up ahead (opened_of bytes (first ∷ others))) (sym parts.1)
    ∙ ap (handed_up ahead) (opened_of-taken message (first ∷ others) key short is.number_fits own has)

pub answer-opens : (asking : Asking) (number : ℕ) (key : SealKey) (message sealed : List ℕ) (wire : Wiring) (peer : ℕ) (first : SealKey) (others : List SealKey)
    → asking.asked ≡ Some number → key_with asking.keys number ≡ Some key → answer_of asking message ≡ Some sealed → keys_of wire peer ≡ first ∷ others → IsKey key
    → HaveOwnNumbers (first ∷ others) → Contains (first ∷ others) key → incoming_of wire peer sealed ≡ Ok (incoming_as (Some key.number) (moved_back wire.ahead message))
unfolding answer_of incoming_of
answer-opens asking number key message sealed wire peer first others asked known given keys is own has =
    let under : sealed_with (Some key) message ≡ Some sealed = rw (asked, known) at given in
    ap (λ (ks : List SealKey). came_under ks wire.ahead sealed) keys
    ∙ came_under-sealed wire.ahead first key others message sealed is own has under

-- ---- what a receive does

pub hands_message : (desk : Desk) (peer : ℕ) (bytes : List ℕ) (opened : Opened) (front : List ℕ) → IsBytes bytes → Ok opened ≡ opened_of bytes desk.asking.keys → front ≡ opened.message.items
    → HandsOn desk (Came (record { peer = peer; bytes = bytes })) (Came (record { peer = peer; bytes = front }))
    (record { asking = record { keys = desk.asking.keys; asked = Some opened.number }; dropped = desk.dropped; counts = desk.counts })
hands_message desk peer bytes opened front small exact is = record {
  small = small;
  given = ap (λ (message : List ℕ). Came (record { peer = peer; bytes = message })) is ∙ ap (handed_as peer) exact;
  kept = ap (λ (r : Result Opened SealFault). desk_asked r desk) exact;
}

pub hands_nothing : (desk : Desk) (peer : ℕ) (bytes : List ℕ) (fault : SealFault) → IsBytes bytes → Err fault ≡ opened_of bytes desk.asking.keys
    → HandsOn desk (Came (record { peer = peer; bytes = bytes })) NothingCame (record { asking = desk.asking; dropped = counted_by fault desk.dropped; counts = desk.counts })
hands_nothing desk peer bytes fault small exact = record {
  small = small;
  given = ap (handed_as peer) exact;
  kept = ap (λ (r : Result Opened SealFault). desk_asked r desk) exact;
}
