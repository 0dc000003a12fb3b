-- What a conversation says of its commits, in true time.
use Rattle.std.proofs.Common.{ℕ, zero, suc, ◌<◌, ◌≤◌, List, [], ◌∷◌, Bool, true, Option, Ok, ◌⊎◌, inl, inr, ⊎_elim, sym, subst, arith}
use Rattle.std.proofs.lemmas.Option.{same_Some, none-some}
use Rattle.tt_stamp.specs.History.{IsLegalHistory, Waits}
use Rattle.tt_stamp.specs.declared.commits.Entry.{Entry}
use Rattle.tt_session.specs.Conversation.{Conversation}
use Rattle.tt_session.specs.declared.calls.Call.{Call}
use Rattle.tt_session.specs.declared.calls.Call.TheVariants as call
use Rattle.tt_connections.specs.Station.{StationState, new_station, id_at, book_before}
use Rattle.tt_connections.specs.Turns.{AllowsOn}
use Rattle.tt_connections.specs.declared.presence.Question.{Question}
use Rattle.tt_judge.specs.declared.history.Commit.{Commit}
use Rattle.tt_consistency.specs.Timed.{CallTimes, AreInOrder, ReadingsHold, times_at, TimedSession, IsTimed}
use Rattle.tt_consistency.specs.Order.{BeginsAt, ReleasesAt, IsCommitted, IsSeen, IsWithin}
use Rattle.tt_consistency.proofs.Books.{Keeps, waits-first}
use Rattle.tt_consistency.proofs.Calls.{keeps-call, begin-call, pass-call, stamp-call}

-- the times of a call, in order
pub record IsCall (times : CallTimes) : Type 0 where
  pub reads : times.came ≤ times.read
  pub answers : times.read ≤ times.answered

pub ordered-at : (from : ℕ) (times : List CallTimes) → AreInOrder from times → (place : ℕ) → IsCall (times_at times place)
ordered-at from [] order place = record { reads = omega arith; answers = omega arith }
ordered-at from (first ∷ times) order zero = record { reads = order.1; answers = order.2 }
ordered-at from (first ∷ times) order (suc place) = ordered-at first.answered times order.3 place

-- the commit waits, or its stamp lies below this time
abbrev Pends : List Entry → ℕ → ℕ → ℕ → Type 0
Pends book number s time = Waits book (id_at number) s ⊎ (s < time)

pends_later : (book : List Entry) (number s time later : ℕ) → time ≤ later → Pends book number s time → Pends book number s later
pends_later book number s time later order pends =
    ⊎_elim (λ waits. inl waits) (λ below. inr (omega (arith, below, order))) pends

pends_after : (old new : List Entry) (number s from time : ℕ) → from ≤ time → Keeps old new time → Pends old number s from → Pends new number s time
pends_after old new number s from time order keeps pends =
    ⊎_elim (λ waits. keeps.waits (id_at number) s waits) (λ below. inr (omega (arith, below, order))) pends

module _ {C V : Type 0} (gives : C → Option ℕ → C → Type 0) (failed : C → ℕ) (says : V → Question → Bool → Type 0) where
  -- a stamp is no less than the time of its reading
  pub begun : (calls : List Call) (before after : StationState C V) (talked : Conversation (AllowsOn gives failed says) before calls after) (times : List CallTimes) → ReadingsHold gives failed says before calls after talked times → (place number s : ℕ) → BeginsAt calls place number s → (times_at times place).read ≤ s
  begun [] before after talked times hold place number s begins = absurd (none-some _ begins.1)
  begun (first ∷ calls) before after talked [] hold place number s begins = absurd hold
  begun (first ∷ calls) before after talked (t ∷ times) hold zero number s begins =
      stamp-call gives failed says (record before { post = talked.1.post }) talked.0 first talked.1.allowed number begins.0 s t.read (same_Some first (call.Begin number begins.0 (Ok s)) begins.1) hold.0
  begun (first ∷ calls) before after talked (t ∷ times) hold (suc place) number s begins =
      begun calls talked.0 after talked.2 times hold.1 place number s begins

  -- a commit that waits, or whose stamp has passed, has passed once it is said to be released
  passed : (calls : List Call) (before after : StationState C V) (talked : Conversation (AllowsOn gives failed says) before calls after) (from : ℕ) (times : List CallTimes) → AreInOrder from times → ReadingsHold gives failed says before calls after talked times → IsLegalHistory before.book → (number s place : ℕ) → Pends before.book number s from → ReleasesAt calls place number → s < (times_at times place).read
  passed [] before after talked from times order hold legal number s place pends releases = absurd (none-some _ releases)
  passed (first ∷ calls) before after talked from [] order hold legal number s place pends releases = absurd hold
  passed (first ∷ calls) before after talked from (t ∷ times) order hold legal number s zero pends releases =
      let keeps = keeps-call gives failed says (record before { post = talked.1.post }) talked.0 first talked.1.allowed t.read legal hold.0 in
      let until : from ≤ t.read = omega (arith, order.0, order.1) in
      ⊎_elim
      (λ waits. absurd (pass-call gives failed says (record before { post = talked.1.post }) talked.0 first number s (same_Some first (call.Pass number (Ok true)) releases) talked.1.allowed keeps.legal waits))
      (λ below. below)
      (pends_after before.book talked.0.book number s from t.read until keeps pends)
  passed (first ∷ calls) before after talked from (t ∷ times) order hold legal number s (suc place) pends releases =
      let keeps = keeps-call gives failed says (record before { post = talked.1.post }) talked.0 first talked.1.allowed t.read legal hold.0 in
      let until : from ≤ t.read = omega (arith, order.0, order.1) in
      passed calls talked.0 after talked.2 t.answered times order.3 hold.1 keeps.legal number s place
      (pends_later talked.0.book number s t.read t.answered order.2 (pends_after before.book talked.0.book number s from t.read until keeps pends)) releases

  -- a commit that began has a stamp below the time of the reading by which it is said to be released
  pub released : (calls : List Call) (before after : StationState C V) (talked : Conversation (AllowsOn gives failed says) before calls after) (from : ℕ) (times : List CallTimes) → AreInOrder from times → ReadingsHold gives failed says before calls after talked times → IsLegalHistory before.book → (number s place later : ℕ) → BeginsAt calls place number s → ReleasesAt calls later number → place < later → s < (times_at times later).read
  released [] before after talked from times order hold legal number s place later begins releases is_later = absurd (none-some _ releases)
  released (first ∷ calls) before after talked from [] order hold legal number s place later begins releases is_later = absurd hold
  released (first ∷ calls) before after talked from (t ∷ times) order hold legal number s zero zero begins releases is_later = absurd (omega (arith, is_later))
  released (first ∷ calls) before after talked from (t ∷ times) order hold legal number s zero (suc later) begins releases is_later =
      let keeps = keeps-call gives failed says (record before { post = talked.1.post }) talked.0 first talked.1.allowed t.read legal hold.0 in
      let began = begin-call gives failed says (record before { post = talked.1.post }) talked.0 first number begins.0 s (same_Some first (call.Begin number begins.0 (Ok s)) begins.1) talked.1.allowed in
      let waits : Waits talked.0.book (id_at number) s = subst (λ (book : List Entry). Waits book (id_at number) s) (sym began.1.book) (waits-first (book_before before.book) (id_at number) s) in
      passed calls talked.0 after talked.2 t.answered times order.3 hold.1 keeps.legal number s later (inl waits) releases
  released (first ∷ calls) before after talked from (t ∷ times) order hold legal number s (suc place) zero begins releases is_later = absurd (omega (arith, is_later))
  released (first ∷ calls) before after talked from (t ∷ times) order hold legal number s (suc place) (suc later) begins releases is_later =
      let keeps = keeps-call gives failed says (record before { post = talked.1.post }) talked.0 first talked.1.allowed t.read legal hold.0 in
      released calls talked.0 after talked.2 t.answered times order.3 hold.1 keeps.legal number s place later begins releases (omega (arith, is_later))

  -- ---- of a timed session
  pub session-begun : (session : TimedSession gives failed says) (place number stamp : ℕ) → IsTimed gives failed says session → BeginsAt session.calls place number stamp → (times_at session.times place).read ≤ stamp
  session-begun session place number stamp timed begins =
      begun session.calls (new_station session.post session.client) session.after session.talked session.times timed.hold place number stamp begins

  pub session-released : (session : TimedSession gives failed says) (number stamp begun released : ℕ) → IsTimed gives failed says session → IsCommitted session.calls number stamp begun released → stamp < (times_at session.times released).read
  session-released session number stamp place later timed committed =
      released session.calls (new_station session.post session.client) session.after session.talked 0 session.times timed.in_order timed.hold tt number stamp place later committed.begins committed.releases committed.later

  pub session-within : (session : TimedSession gives failed says) (commit : Commit) → IsTimed gives failed says session → IsSeen session.calls session.times commit → IsWithin commit
  session-within session commit timed seen =
      let first = ordered-at 0 session.times timed.in_order seen.begun in
      let last = ordered-at 0 session.times timed.in_order seen.released in
      let low = session-begun session seen.begun seen.number commit.stamp timed seen.committed.begins in
      let high = session-released session seen.number commit.stamp seen.begun seen.released timed seen.committed in
      record {
        begun = omega (arith, seen.began, first.reads, low);
        ended = omega (arith, high, last.answers, seen.ended);
      }
