-- Packets that are put behind others: where the last that passes a test then stands, and whether it is a lie.
use Rattle.std.proofs.Common.{◌≡◌, ℕ, suc, ◌+◌, ◌<◌, ◌^◌, Bool, true, false, cond, eqb, ◌&&◌, List, [], ◌∷◌, ◌++◌, length, slice_get, Option, Some, None, Ok, refl, ap, ap₂, sym, subst, ◌∙◌, arith, eq-eqb, zero}
use Rattle.std.specs.List.{AllByRecursion}
use Rattle.std.specs.Option.{option_map, option_or}
use Rattle.std.proofs.lemmas.Bool.{and_parts}
use Rattle.std.proofs.lemmas.Nat.{from_be_bytes-to_be_bytes_8}
use Rattle.std.proofs.lemmas.Option.{slice_get_within}
use Rattle.tt_span.specs.Interval.{Interval}
use Rattle.tt_poll.specs.Message.{PollRequest2, PollAnswer2}
use Rattle.tt_poll.specs.Reading.{request_at2, answer_at2, read_of2}
use Rattle.tt_poll.specs.Spelling.{spelling_of2}
use Rattle.tt_poll.specs.declared.messages.Message2.TheVariants.{Request, Answer}
use Rattle.tt_poll.proofs.Refusing.{fields_of_read2}
use Rattle.tt_world.specs.Assumptions.{origin_of, is_lying}
use Rattle.tt_world.specs.Life.{Life, life_of, same_life, is_of}
use Rattle.tt_world.specs.Packet.{bytes_of, answer_to}
use Rattle.tt_world.specs.Past.{packets_of, put_by, is_send_of, sends_of, sends_now}
use Rattle.tt_world.specs.declared.events.Event.{Event}
use Rattle.tt_world.specs.declared.events.Action.{Action}
use Rattle.tt_world.specs.declared.events.Action.TheVariants as does
use Rattle.tt_world.specs.declared.packets.Packet.{Packet}
use Rattle.tt_world.specs.declared.packets.Packet.TheVariants.{Asked, Answered, Forged}
use Rattle.tt_world.proofs.Histories.Origins.{epoch_of, origin-old}
use Rattle.tt_world.proofs.Histories.Places.{all_append}
use Rattle.tt_consistency.specs.Timeline.{last_place, is_request_in, are_same, is_answer_with}
use Rattle.tt_consistency.proofs.Running.{place-stands, same_bytes}

-- ---- one more packet

pub last_place-one : (test : Packet → Bool) (packets : List Packet) (p : Packet) → last_place test (packets ++ p ∷ []) ≡ cond (test p) (Some (length packets)) (last_place test packets)
last_place-one test [] p = refl
last_place-one test (q ∷ packets) p =
    ap (λ (o : Option ℕ). option_or (option_map suc o) (cond (test q) (Some 0) None)) (last_place-one test packets p) ∙ by_test (test p)
  where
    by_test : (b : Bool) → option_or (option_map suc (cond b (Some (length packets)) (last_place test packets))) (cond (test q) (Some 0) None)
        ≡ cond b (Some (suc (length packets))) (option_or (option_map suc (last_place test packets)) (cond (test q) (Some 0) None))
    by_test true = refl
    by_test false = refl

pub place-within : (test : Packet → Bool) (packets : List Packet) (k : ℕ) → last_place test packets ≡ Some k → k < length packets
place-within test packets k is = let (p, stands, passes) = place-stands test packets k is in slice_get_within packets k p stands

-- where no packet passes, there is no place
pub place-none : (test : Packet → Bool) (packets : List Packet) → ((k : ℕ) (p : Packet) → slice_get packets k ≡ Some p → test p ≡ false) → last_place test packets ≡ None
place-none test packets none = by_place (last_place test packets) refl
  where
    by_place : (o : Option ℕ) → last_place test packets ≡ o → last_place test packets ≡ None
    by_place None is = is
    by_place (Some k) is =
        let (p, stands, passes) = place-stands test packets k is in
        let fails : test p ≡ false = none k p stands in
        absurd cc

-- ---- whether a packet is a lie

-- whether the packet at this place was put by a lie, or there is none
abbrev pub is_lie_at : List Event → Option ℕ → Bool
is_lie_at past None = true
is_lie_at past (Some k) = is_lying (origin_of past k)

pub lie-old : (past : List Event) (event : Event) (o : Option ℕ) → ((k : ℕ) → o ≡ Some k → k < length (packets_of past)) → is_lie_at (event ∷ past) o ≡ is_lie_at past o
lie-old past event None within = refl
lie-old past event (Some k) within = ap is_lying (origin-old past event k (within k refl))

-- an event that puts nothing that passes
pub lie-same : (test : Packet → Bool) (past : List Event) (event : Event) → last_place test (packets_of (event ∷ past)) ≡ last_place test (packets_of past)
    → is_lie_at (event ∷ past) (last_place test (packets_of (event ∷ past))) ≡ is_lie_at past (last_place test (packets_of past))
lie-same test past event same =
    ap (is_lie_at (event ∷ past)) same
    ∙ lie-old past event (last_place test (packets_of past)) (λ k is. place-within test (packets_of past) k is)

-- ---- packets of a life in which nothing was polled

-- whether a packet names this life
abbrev names_life : Life → Packet → Bool
names_life life (Asked request) = same_life (record { machine = request.machine; number = request.epoch }) life
names_life life (Answered answer) = same_life (record { machine = answer.machine; number = answer.epoch }) life
names_life life (Forged machine source payload) = false

-- none of the packets does
abbrev NoneNames : Life → List Packet → Type 0
NoneNames life packets = AllByRecursion (λ (p : Packet). names_life life p ≡ false) packets

get_all : (P : Packet → Type 0) (packets : List Packet) (k : ℕ) (p : Packet) → AllByRecursion P packets → slice_get packets k ≡ Some p → P p
get_all P [] k p all is = absurd cc
get_all P (q ∷ packets) zero p all is = let same : q ≡ p = cc in subst P same all.0
get_all P (q ∷ packets) (suc k) p all is = get_all P packets k p all.1 is

answer_none : (life : Life) (packets : List Packet) (k : ℕ) (span : Interval) (o : Option Packet) → slice_get packets k ≡ o → NoneNames life packets → NoneNames life (answer_to o span)
answer_none life packets k span None is none = tt
answer_none life packets k span (Some (Asked request)) is none = (get_all (λ (p : Packet). names_life life p ≡ false) packets k (Asked request) none is, tt)
answer_none life packets k span (Some (Answered answer)) is none = tt
answer_none life packets k span (Some (Forged machine source payload)) is none = tt

not_one : (b : Bool) (n : ℕ) → cond b (n + 1) n ≡ 0 → b ≡ false
not_one true n h = absurd (omega arith)
not_one false n h = refl

none_before : (b : Bool) (n : ℕ) → cond b (n + 1) n ≡ 0 → n ≡ 0
none_before true n h = absurd (omega arith)
none_before false n h = h

put_none : (past : List Event) (life : Life) (action : Action) → NoneNames life (packets_of past) → cond (is_send_of past life action) (sends_of past life + 1) (sends_of past life) ≡ 0
    → NoneNames life (put_by (life_of past) (sends_now past) (packets_of past) action)
put_none past life (does.Send machine source clock) none no_sends = (not_one (is_of past life machine) (sends_of past life) no_sends, tt)
put_none past life (does.Answer k span) none no_sends = answer_none life (packets_of past) k span (slice_get (packets_of past) k) refl none
put_none past life (does.Forge machine source payload) none no_sends = (refl, tt)
put_none past life _ none no_sends = tt

none-named : (past : List Event) (life : Life) → sends_of past life ≡ 0 → NoneNames life (packets_of past)
none-named [] life no_sends = tt
none-named (event ∷ past) life no_sends =
    let before : NoneNames life (packets_of past) = none-named past life (none_before (is_send_of past life event.action) (sends_of past life) no_sends) in
    all_append (λ (p : Packet). names_life life p ≡ false) (packets_of past) (put_by (life_of past) (sends_now past) (packets_of past) event.action) before (put_none past life event.action before no_sends)

request_not : (life : Life) (source nonce : ℕ) (p : Packet) → names_life life p ≡ false → is_request_in life source nonce p ≡ false
request_not life source nonce (Asked request) none = ap (λ (b : Bool). b && eqb request.source source && eqb request.nonce nonce) none
request_not life source nonce (Answered answer) none = refl
request_not life source nonce (Forged machine s payload) none = refl

-- no request of the life was put
pub no-request : (past : List Event) (life : Life) (source nonce : ℕ) → sends_of past life ≡ 0 → last_place (is_request_in life source nonce) (packets_of past) ≡ None
no-request past life source nonce no_sends =
    place-none (is_request_in life source nonce) (packets_of past)
    (λ k p is. request_not life source nonce p (get_all (λ (q : Packet). names_life life q ≡ false) (packets_of past) k p (none-named past life no_sends) is))

-- bytes say an answer to a request of this life
pub record IsOfLife (life : Life) (bytes : List ℕ) : Type 0 where
  pub answer : PollAnswer2
  pub reads : read_of2 bytes ≡ Ok (Answer answer)
  pub epoch : answer.epoch ≡ life.number

is_answer : (b : Bool) (r : PollRequest2) (a c : PollAnswer2) → cond b (Request r) (Answer a) ≡ Answer c → a ≡ c
is_answer true r a c h = absurd cc
is_answer false r a c h = cc

spelled_epoch : (a : PollAnswer2) → a.epoch < 2 ^ 64 → (answer_at2 (spelling_of2 (Answer a))).epoch ≡ a.epoch
unfolding spelling_of2
spelled_epoch a fits = from_be_bytes-to_be_bytes_8 a.epoch fits

epoch_back : (a b : PollAnswer2) → a.epoch < 2 ^ 64 → read_of2 (spelling_of2 (Answer a)) ≡ Ok (Answer b) → b.epoch ≡ a.epoch
epoch_back a b fits h =
    let bytes = spelling_of2 (Answer a) in
    let fields = fields_of_read2 bytes (Answer b) h in
    subst (λ (c : PollAnswer2). c.epoch ≡ a.epoch) (is_answer (eqb (length bytes) 24) (request_at2 bytes) (answer_at2 bytes) b fields.1) (spelled_epoch a fits)

answer_not : (life : Life) (source : ℕ) (bytes : List ℕ) (p : Packet) → IsOfLife life bytes → epoch_of p < 2 ^ 64 → names_life life p ≡ false → is_answer_with life.machine source bytes p ≡ false
answer_not life source bytes (Asked request) says fits none = refl
answer_not life source bytes (Forged machine s payload) says fits none = refl
answer_not life source bytes (Answered a) says fits none = by_test (is_answer_with life.machine source bytes (Answered a)) refl
  where
    by_test : (b : Bool) → is_answer_with life.machine source bytes (Answered a) ≡ b → b ≡ false
    by_test false e = refl
    by_test true e =
        let parts = and_parts (eqb a.machine life.machine && eqb a.source source) (are_same (bytes_of (Answered a)) bytes) e in
        let more = and_parts (eqb a.machine life.machine) (eqb a.source source) parts.0 in
        let reads : read_of2 (spelling_of2 (Answer a)) ≡ Ok (Answer says.answer) = ap read_of2 (same_bytes (bytes_of (Answered a)) bytes parts.1) ∙ says.reads in
        let own : eqb a.epoch life.number ≡ true = eq-eqb a.epoch life.number (sym (epoch_back a says.answer fits reads) ∙ says.epoch) in
        let both : (eqb a.machine life.machine && eqb a.epoch life.number) ≡ true = ap₂ (λ (x y : Bool). x && y) more.0 own in
        absurd cc

-- no answer to a request of the life was put
pub no-answer : (past : List Event) (life : Life) (source : ℕ) (bytes : List ℕ) → sends_of past life ≡ 0
    → ((k : ℕ) (p : Packet) → slice_get (packets_of past) k ≡ Some p → epoch_of p < 2 ^ 64) → IsOfLife life bytes
    → last_place (is_answer_with life.machine source bytes) (packets_of past) ≡ None
no-answer past life source bytes no_sends fit says =
    place-none (is_answer_with life.machine source bytes) (packets_of past)
    (λ k p is. answer_not life source bytes p says (fit k p is) (get_all (λ (q : Packet). names_life life q ≡ false) (packets_of past) k p (none-named past life no_sends) is))
