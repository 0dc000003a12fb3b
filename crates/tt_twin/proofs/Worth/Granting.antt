-- No event of a twin is refused.
use Rattle.std.proofs.Common.{◌≡◌, ℕ, zero, suc, ◌+◌, ◌<◌, ◌≤◌, List, [], ◌∷◌, ◌++◌, reverse, slice_get, Option, Result, Ok, refl, ap, subst, sym, ◌∙◌, arith, append-nil}
use Rattle.std.specs.List.{All}
use Rattle.std.proofs.lemmas.List.{append_assoc, reverse-append, reverse-reverse}
use Rattle.std.proofs.lemmas.List.Elements.{All-nil, All-cons, All-append}
use Rattle.tt_source.specs.Statement.{Statement}
use Rattle.tt_source.specs.Table.{Sending, statement_of_message}
use Rattle.tt_poll.specs.Reading.{read_of2}
use Rattle.tt_source.specs.declared.faults.SourceFault.{SourceFault}
use Rattle.tt_daemon.specs.Config.{Configuration}
use Rattle.tt_world.specs.Life.{Life, life_of}
use Rattle.tt_world.specs.declared.faults.WorldFault.{WorldFault}
use Rattle.tt_world.specs.declared.events.Event.{Event}
use Rattle.tt_world.specs.declared.events.Reply.{Reply}
use Rattle.tt_world.specs.declared.packets.Packet.{Packet}
use Rattle.tt_world.specs.Packet.{bytes_of}
use Rattle.tt_world.specs.Past.{packets_of}
use Rattle.tt_world.specs.Sources.{outstanding_poll}
use Rattle.tt_world.specs.Bad.{first_bad, accepted}
use Rattle.tt_world.specs.Reply.{delivery_reply, reply_to_packet, reply_to, reply_unless_bad, reply_of, replies_from}
use Rattle.tt_world.proofs.Histories.Judging.{AreGood}
use Rattle.tt_twin.specs.Alike.{IsGranted}
use Rattle.tt_twin.proofs.Worth.Accepting.{first_bad-good, accepted-all}
use Rattle.tt_twin.proofs.Worth.Quiet.{still-life}
use Rattle.tt_twin.proofs.Worth.Planning.{Plan, IsPlan, home, poll, polled, reply, answered, delivery, delivered, still-delivered, at_home}
use Rattle.tt_twin.proofs.Worth.Polling.{polled-good}
use Rattle.tt_twin.proofs.Worth.Replying.{answer, answered-good}
use Rattle.tt_twin.proofs.Worth.Delivering.{statement, answer_told, delivered-there, delivered-all, delivered-good}

-- the reply to each event, the newest first, is no refusal
abbrev pub AreGranted : List Configuration → List Event → Type 0
AreGranted configs [] = Unit {0}
AreGranted configs (event ∷ past) = IsGranted (reply_of configs past event) × AreGranted configs past

-- the reply to a good event after good ones
pub granted-good : (configs : List Configuration) (past : List Event) (event : Event) → AreGood configs (event ∷ past) → IsGranted (reply_to configs past event.action) → IsGranted (reply_of configs past event)
granted-good configs past event good h =
    let same : accepted configs past ≡ past = accepted-all configs past good.1 in
    let P : Option WorldFault → Type 0 = λ reason. IsGranted (reply_unless_bad reason (reply_to configs past event.action)) in
    let Q : List Event → Type 0 = λ before. IsGranted (reply_unless_bad (first_bad configs before event) (reply_to configs before event.action)) in
    subst Q (sym same) (subst P (sym (first_bad-good configs past event good.0)) h)

-- replies to one list after another
replies-append : (configs : List Configuration) (past events more : List Event) → replies_from configs past (events ++ more) ≡ replies_from configs past events ++ replies_from configs (reverse events ++ past) more
replies-append configs past [] more = refl
replies-append configs past (event ∷ events) more =
    ap (λ (l : List Reply). reply_of configs past event ∷ l) (
    replies-append configs (event ∷ past) events more
    ∙ ap (λ (l : List Event). replies_from configs (event ∷ past) events ++ replies_from configs l more) (
    sym (append_assoc (reverse events) (event ∷ []) past) ∙ ap (λ (l : List Event). l ++ past) (sym (reverse-append (event ∷ []) events))
    )
    )

-- the replies to all events, the oldest first
pub replies-granted : (configs : List Configuration) (past : List Event) → AreGranted configs past → All IsGranted (replies_from configs [] (reverse past))
replies-granted configs [] h = All-nil IsGranted
replies-granted configs (event ∷ past) h =
    let split : replies_from configs [] (reverse (event ∷ past)) ≡ replies_from configs [] (reverse past) ++ reply_of configs past event ∷ [] =
    ap (λ (l : List Event). replies_from configs [] l) (reverse-append (event ∷ []) past)
    ∙ replies-append configs [] (reverse past) (event ∷ [])
    ∙ ap (λ (l : List Event). replies_from configs [] (reverse past) ++ reply_of configs l event ∷ []) (append-nil (reverse (reverse past)) ∙ reverse-reverse {A = Event} past) in
    subst (λ (l : List Reply). All IsGranted l) (sym split)
    (All-append IsGranted (replies_from configs [] (reverse past)) (reply_of configs past event ∷ []) (replies-granted configs past h.1) (All-cons IsGranted (reply_of configs past event) [] h.0 (All-nil IsGranted)))

-- ---- the beginning of a twin

pub polled-granted : (configs : List Configuration) (p : Plan) → IsPlan configs p → (j : ℕ) → j ≤ p.count → AreGranted configs (polled p j)
polled-granted configs p plan zero few = tt
polled-granted configs p plan (suc j) few = (granted-good configs (polled p j) (poll p j) (polled-good configs p plan (suc j) few) tt, polled-granted configs p plan j (omega arith))

pub answered-granted : (configs : List Configuration) (p : Plan) → IsPlan configs p → (j : ℕ) → j ≤ p.count → AreGranted configs (answered p j)
answered-granted configs p plan zero few = polled-granted configs p plan p.count (omega arith)
answered-granted configs p plan (suc j) few = (granted-good configs (answered p j) (reply p j) (answered-good configs p plan (suc j) few) tt, answered-granted configs p plan j (omega arith))

-- the machine takes each answer
taken : (configs : List Configuration) (p : Plan) → IsPlan configs p → (j : ℕ) → j < p.count → reply_to_packet (delivered p j) p.clock (slice_get (packets_of (delivered p j)) (p.count + j)) ≡ delivery_reply (Ok (statement p j))
taken configs p plan j h =
    let d = delivered-all configs p plan j (omega arith) in
    let live = at_home p (delivered p j) (still-delivered p j) in
    let life = still-life p.clock p.time (delivered p j) p.machine (still-delivered p j) in
    ap (λ (o : Option Packet). reply_to_packet (delivered p j) p.clock o) (delivered-there p j j h)
    ∙ ap (λ (k : Life). delivery_reply (statement_of_message p.machine (life_of (delivered p j) p.machine) (p.source j) (outstanding_poll (delivered p j) k (p.source j)) p.clock (read_of2 (bytes_of (answer p j))))) live
    ∙ ap (λ (n : ℕ). delivery_reply (statement_of_message p.machine n (p.source j) (outstanding_poll (delivered p j) (home p) (p.source j)) p.clock (read_of2 (bytes_of (answer p j))))) life
    ∙ ap (λ (w : Option Sending). delivery_reply (statement_of_message p.machine 1 (p.source j) w p.clock (read_of2 (bytes_of (answer p j))))) (d.waits j (omega arith) h)
    ∙ ap (λ (r : Result Statement SourceFault). delivery_reply r) (answer_told configs p plan j h)

pub delivered-granted : (configs : List Configuration) (p : Plan) → IsPlan configs p → (j : ℕ) → j ≤ p.count → AreGranted configs (delivered p j)
delivered-granted configs p plan zero few = answered-granted configs p plan p.count (omega arith)
delivered-granted configs p plan (suc j) few = (
  granted-good configs (delivered p j) (delivery p j) (delivered-good configs p plan (suc j) few) (subst IsGranted (sym (taken configs p plan j (omega arith))) tt),
  delivered-granted configs p plan j (omega arith),
)
