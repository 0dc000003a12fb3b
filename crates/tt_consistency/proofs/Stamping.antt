-- The stamps of a conversation, in the order in which its seat gave them.
use Rattle.std.proofs.Common.{◌≡◌, ℕ, zero, suc, ◌<◌, List, [], ◌∷◌, ◌++◌, Contains, Bool, true, Option, Ok, ⊎_elim, refl, sym, ap, ◌∙◌, subst, arith}
use Rattle.std.proofs.lemmas.List.Elements.{All-contains}
use Rattle.std.proofs.lemmas.Option.{same_Some, none-some}
use Rattle.tt_span.specs.Interval.{Interval}
use Rattle.tt_stamp.specs.Stamping.{SeatState, stamps_of, is_in, IsLegalRun, MayAdd, Continues, Gives}
use Rattle.tt_stamp.specs.declared.stampings.Stamping.{Stamping}
use Rattle.tt_stamp.proofs.Ids.{Contains-here, Contains-there, Contains-nil, Contains-cases}
use Rattle.tt_session.specs.Conversation.{Conversation}
use Rattle.tt_session.specs.declared.calls.Call.{Call}
use Rattle.tt_session.specs.declared.calls.Call.TheVariants as call
use Rattle.tt_connections.specs.Station.{StationState, new_station, room_of}
use Rattle.tt_connections.specs.Turns.{AllowsOn}
use Rattle.tt_connections.specs.declared.presence.Question.{Question}
use Rattle.tt_connections.proofs.Turning.{turn-goes_on, calls-go_on}
use Rattle.tt_consistency.specs.Timed.{TimedSession}
use Rattle.tt_consistency.specs.Order.{BeginsAt, ShareSequencer}
use Rattle.tt_consistency.proofs.Calls.{begin-call}

-- ---- what was seen stays seen
entry_behind : (later seen : List Stamping) (entry : Stamping) → Contains seen entry → Contains (later ++ seen) entry
entry_behind [] seen entry there = there
entry_behind (first ∷ later) seen entry there = Contains-there first (later ++ seen) entry (entry_behind later seen entry there)

entry_later : (old new : List Stamping) → Continues old new → (entry : Stamping) → Contains old entry → Contains new entry
entry_later old new after entry there =
    subst (λ (run : List Stamping). Contains run entry) (sym after.1) (entry_behind after.0 old entry there)

stamp_there : (run : List Stamping) (entry : Stamping) → Contains run entry → Contains (stamps_of run) entry.stamp
stamp_there [] entry there = absurd (Contains-nil entry there)
stamp_there (first ∷ run) entry there =
    ⊎_elim
    (λ here. subst (λ (e : Stamping). Contains (stamps_of (first ∷ run)) e.stamp) here (Contains-here first.stamp (stamps_of run)))
    (λ more. Contains-there first.stamp (stamps_of run) entry.stamp (stamp_there run entry more))
    (Contains-cases first run entry there)

-- ---- a stamp that a seat gives is above all that it has seen
module _ (old new : SeatState) (latest floor : ℕ) (lease : Interval) (stamp : ℕ) (gave : Gives old new latest floor lease stamp) where
  abbrev given : Stamping
  given = record { number = gave.number; latest = latest; floor = floor; lease = lease; stamp = stamp }

  gave_there : Contains new.seen given
  gave_there = subst (λ (run : List Stamping). Contains run given) (sym gave.after) (Contains-here given (gave.between ++ old.seen))

  gave_may : MayAdd new.seats (gave.between ++ old.seen) given
  gave_may = (subst (IsLegalRun new.seats) gave.after gave.same.legal).0

  gave_above : (entry : Stamping) → Contains old.seen entry → entry.stamp < stamp
  gave_above entry there =
      All-contains (λ (t : ℕ). t < stamp) (stamps_of (gave.between ++ old.seen)) entry.stamp gave_may.least.may_give.above_all
      (stamp_there (gave.between ++ old.seen) entry (entry_behind gave.between old.seen entry there))

-- a stamp that a seat under these numbers gave stands in what it has seen
pub record IsGiven (seat : SeatState) (numbers : List ℕ) (stamp : ℕ) : Type 0 where
  pub entry : Stamping
  pub there : Contains seat.seen entry
  pub stamp_is : entry.stamp ≡ stamp
  pub of_seat : is_in numbers entry.number ≡ true

given_later : (old new : SeatState) (numbers : List ℕ) (stamp : ℕ) → Continues old.seen new.seen → IsGiven old numbers stamp → IsGiven new numbers stamp
given_later old new numbers stamp after given =
    record { entry = given.entry; there = entry_later old.seen new.seen after given.entry given.there; stamp_is = given.stamp_is; of_seat = given.of_seat }

given_by : (old new : SeatState) (latest floor : ℕ) (lease : Interval) (stamp : ℕ) → Gives old new latest floor lease stamp → IsGiven new old.numbers stamp
given_by old new latest floor lease stamp gave =
    record { entry = given old new latest floor lease stamp gave; there = gave_there old new latest floor lease stamp gave; stamp_is = refl; of_seat = gave.of_seat }

module _ {C V : Type 0} (gives : C → Option ℕ → C → Type 0) (failed : C → ℕ) (says : V → Question → Bool → Type 0) where
  -- each stamp that a conversation gave stands in what its seat has seen at the end
  given_in : (calls : List Call) (before after : StationState C V) → Conversation (AllowsOn gives failed says) before calls after → (place number s : ℕ) → BeginsAt calls place number s → IsGiven after.post.seat before.post.seat.numbers s
  given_in [] before after talked place number s begins = absurd (none-some _ begins.1)
  given_in (first ∷ calls) before after talked zero number s begins =
      let began = begin-call gives failed says (record before { post = talked.1.post }) talked.0 first number begins.0 s (same_Some first (call.Begin number begins.0 (Ok s)) begins.1) talked.1.allowed in
      given_later talked.0.post.seat after.post.seat before.post.seat.numbers s (calls-go_on gives failed says calls talked.0 after talked.2).seat.seen
      (subst (λ (numbers : List ℕ). IsGiven talked.0.post.seat numbers s) talked.1.goes.seat.numbers
      (given_by talked.1.post.seat talked.0.post.seat began.0.hi begins.0 (room_of (record before { post = talked.1.post }) begins.0 began.0) s began.1.gave))
  given_in (first ∷ calls) before after talked (suc place) number s begins =
      subst (λ (numbers : List ℕ). IsGiven after.post.seat numbers s) (turn-goes_on gives failed says before first talked.0 talked.1).seat.numbers
      (given_in calls talked.0 after talked.2 place number s begins)

  -- a stamp of a conversation is above each that its seat had seen
  above_seen : (calls : List Call) (before after : StationState C V) → Conversation (AllowsOn gives failed says) before calls after → (entry : Stamping) → Contains before.post.seat.seen entry → (place number s : ℕ) → BeginsAt calls place number s → entry.stamp < s
  above_seen [] before after talked entry there place number s begins = absurd (none-some _ begins.1)
  above_seen (first ∷ calls) before after talked entry there zero number s begins =
      let began = begin-call gives failed says (record before { post = talked.1.post }) talked.0 first number begins.0 s (same_Some first (call.Begin number begins.0 (Ok s)) begins.1) talked.1.allowed in
      gave_above talked.1.post.seat talked.0.post.seat began.0.hi begins.0 (room_of (record before { post = talked.1.post }) begins.0 began.0) s began.1.gave entry
      (entry_later before.post.seat.seen talked.1.post.seat.seen talked.1.goes.seat.seen entry there)
  above_seen (first ∷ calls) before after talked entry there (suc place) number s begins =
      above_seen calls talked.0 after talked.2 entry
      (entry_later before.post.seat.seen talked.0.post.seat.seen (turn-goes_on gives failed says before first talked.0 talked.1).seat.seen entry there) place number s begins

  above_given : (calls : List Call) (before after : StationState C V) → Conversation (AllowsOn gives failed says) before calls after → (numbers : List ℕ) (r : ℕ) → IsGiven before.post.seat numbers r → (place number s : ℕ) → BeginsAt calls place number s → r < s
  above_given calls before after talked numbers r given place number s begins =
      let above = above_seen calls before after talked given.entry given.there place number s begins in
      omega (arith, above, given.stamp_is)

  rises : (calls : List Call) (before after : StationState C V) → Conversation (AllowsOn gives failed says) before calls after → (place number s later other_number t : ℕ) → BeginsAt calls place number s → BeginsAt calls later other_number t → place < later → s < t
  rises [] before after talked place number s later other_number t begins other is_later = absurd (none-some _ begins.1)
  rises (first ∷ calls) before after talked zero number s zero other_number t begins other is_later = absurd (omega (arith, is_later))
  rises (first ∷ calls) before after talked zero number s (suc later) other_number t begins other is_later =
      let began = begin-call gives failed says (record before { post = talked.1.post }) talked.0 first number begins.0 s (same_Some first (call.Begin number begins.0 (Ok s)) begins.1) talked.1.allowed in
      above_given calls talked.0 after talked.2 talked.1.post.seat.numbers s (given_by talked.1.post.seat talked.0.post.seat began.0.hi begins.0 (room_of (record before { post = talked.1.post }) begins.0 began.0) s began.1.gave) later other_number t other
  rises (first ∷ calls) before after talked (suc place) number s zero other_number t begins other is_later = absurd (omega (arith, is_later))
  rises (first ∷ calls) before after talked (suc place) number s (suc later) other_number t begins other is_later =
      rises calls talked.0 after talked.2 place number s later other_number t begins other (omega (arith, is_later))

  -- ---- of sessions
  pub session-rises : (session : TimedSession gives failed says) (place number stamp later other_number other_stamp : ℕ) → BeginsAt session.calls place number stamp → BeginsAt session.calls later other_number other_stamp → place < later → stamp < other_stamp
  session-rises session place number stamp later other_number other_stamp begins other is_later =
      rises session.calls (new_station session.post session.client) session.after session.talked place number stamp later other_number other_stamp begins other is_later

  pub session-given : (session : TimedSession gives failed says) (place number stamp : ℕ) → BeginsAt session.calls place number stamp → IsGiven session.after.post.seat session.post.seat.numbers stamp
  session-given session place number stamp begins =
      given_in session.calls (new_station session.post session.client) session.after session.talked place number stamp begins

  pub session-numbers : (session : TimedSession gives failed says) → session.after.post.seat.numbers ≡ session.post.seat.numbers
  session-numbers session = (calls-go_on gives failed says session.calls (new_station session.post session.client) session.after session.talked).seat.numbers

  pub session-above : (session : TimedSession gives failed says) (old : SeatState) → Continues old.seen session.post.seat.seen → (numbers : List ℕ) (r : ℕ) → IsGiven old numbers r → (place number stamp : ℕ) → BeginsAt session.calls place number stamp → r < stamp
  session-above session old after numbers r given place number stamp begins =
      above_given session.calls (new_station session.post session.client) session.after session.talked numbers r (given_later old session.post.seat numbers r after given) place number stamp begins

-- ---- a stamp stands once in a legal run
below_first : (seats : ℕ) (entry : Stamping) (run : List Stamping) → IsLegalRun seats (entry ∷ run) → (other : Stamping) → Contains run other → other.stamp < entry.stamp
below_first seats entry run legal other there =
    All-contains (λ (t : ℕ). t < entry.stamp) (stamps_of run) other.stamp legal.0.least.may_give.above_all (stamp_there run other there)

stands_once : (seats : ℕ) (run : List Stamping) → IsLegalRun seats run → (one other : Stamping) → Contains run one → Contains run other → one.stamp ≡ other.stamp → one ≡ other
stands_once seats [] legal one other there there_too same = absurd (Contains-nil one there)
stands_once seats (first ∷ run) legal one other there there_too same =
    ⊎_elim
    (λ here. ⊎_elim
    (λ here_too. sym here ∙ here_too)
    (λ more. let below = below_first seats first run legal other more in absurd (omega (arith, below, same, ap (λ (e : Stamping). e.stamp) here)))
    (Contains-cases first run other there_too))
    (λ more. ⊎_elim
    (λ here_too. let below = below_first seats first run legal one more in absurd (omega (arith, below, same, ap (λ (e : Stamping). e.stamp) here_too)))
    (λ more_too. stands_once seats run legal.1 one other more more_too same)
    (Contains-cases first run other there_too))
    (Contains-cases first run one there)

pub given-apart : (one other : SeatState) → ShareSequencer one other → (s t : ℕ) → IsGiven one one.numbers s → IsGiven other other.numbers t → s ≡ t → ⊥
given-apart one other share s t given given_too same =
    let first : Contains share.log given.entry = entry_later one.seen share.log share.from_one given.entry given.there in
    let second : Contains share.log given_too.entry = entry_later other.seen share.log share.from_other given_too.entry given_too.there in
    let entry : given.entry ≡ given_too.entry = stands_once share.seats share.log share.legal given.entry given_too.entry first second (given.stamp_is ∙ same ∙ sym given_too.stamp_is) in
    share.apart given_too.entry.number (subst (λ (e : Stamping). is_in one.numbers e.number ≡ true) entry given.of_seat) given_too.of_seat

module _ {C V D W : Type 0} (gives : C → Option ℕ → C → Type 0) (failed : C → ℕ) (says : V → Question → Bool → Type 0) (gives' : D → Option ℕ → D → Type 0) (failed' : D → ℕ) (says' : W → Question → Bool → Type 0) where
  pub sessions-rise : (session : TimedSession gives failed says) (after : TimedSession gives' failed' says') (place number stamp later other_number other_stamp : ℕ) → Continues session.after.post.seat.seen after.post.seat.seen → BeginsAt session.calls place number stamp → BeginsAt after.calls later other_number other_stamp → stamp < other_stamp
  sessions-rise session after place number stamp later other_number other_stamp goes begins other =
      session-above gives' failed' says' after session.after.post.seat goes session.post.seat.numbers stamp (session-given gives failed says session place number stamp begins) later other_number other_stamp other

  pub sessions-apart : (one : TimedSession gives failed says) (other : TimedSession gives' failed' says') (place number stamp other_place other_number other_stamp : ℕ) → ShareSequencer one.after.post.seat other.after.post.seat → BeginsAt one.calls place number stamp → BeginsAt other.calls other_place other_number other_stamp → stamp ≡ other_stamp → ⊥
  sessions-apart one other place number stamp other_place other_number other_stamp share begins other_begins same =
      given-apart one.after.post.seat other.after.post.seat share stamp other_stamp
      (subst (λ (numbers : List ℕ). IsGiven one.after.post.seat numbers stamp) (sym (session-numbers gives failed says one)) (session-given gives failed says one place number stamp begins))
      (subst (λ (numbers : List ℕ). IsGiven other.after.post.seat numbers other_stamp) (sym (session-numbers gives' failed' says' other)) (session-given gives' failed' says' other other_place other_number other_stamp other_begins)) same
