-- The stamps of a conversation, and its leases.
use Rattle.std.proofs.Common.{◌≡◌, ℕ, zero, suc, ◌<◌, max, List, [], ◌∷◌, Bool, true, false, Option, Some, Result, Ok, Err, refl, sym, ap, ◌∙◌, subst, arith}
use Rattle.std.specs.Prelude.{if◌then◌else◌, nat_lt}
use Rattle.std.proofs.lemmas.Option.{same_Some, none-some}
use Rattle.tt_span.specs.Time.{max_time}
use Rattle.tt_span.specs.Interval.{Interval, Holds, Meets}
use Rattle.tt_span.specs.Fault.{number_of as span_number_of}
use Rattle.tt_span.specs.declared.spans.SpanFault.TheVariants.{Backwards, PastMax}
use Rattle.tt_session.specs.Conversation.{Conversation}
use Rattle.tt_session.specs.declared.calls.Call.{Call}
use Rattle.tt_session.specs.declared.calls.Call.TheVariants as call
use Rattle.tt_connections.specs.Station.{StationState, Allows, new_station, common, room_in}
use Rattle.tt_connections.specs.Turns.{AllowsOn}
use Rattle.tt_connections.specs.declared.presence.Question.{Question}
use Rattle.tt_connections.proofs.Leasing.{room_within, room_apart}
use Rattle.tt_connections.proofs.Turning.{turn-goes_on}
use Rattle.tt_consistency.specs.Timed.{TimedSession}
use Rattle.tt_consistency.specs.Order.{BeginsAt, LeasesAt, NoLeaseBetween, IsLeasedAt}
use Rattle.tt_consistency.proofs.Calls.{begin-call}

abbrev interval : ℕ → ℕ → Interval
interval lo hi = record { lo = lo; hi = hi }

-- ---- what an answer says of the lease after it
kept_if : (old new : Interval) (fault : ℕ) (back past : Bool)
    → ◌≡◌ {A = Result (Unit {0}) ℕ} (Err fault) (if back then Err (span_number_of Backwards) else (if past then Err (span_number_of PastMax) else Ok tt))
    → (if back then old else (if past then old else new)) ≡ old
kept_if old new fault true past is = refl
kept_if old new fault false true is = refl
kept_if old new fault false false is = absurd (cc)

set_if : (old new : Interval) (back past : Bool)
    → ◌≡◌ {A = Result (Unit {0}) ℕ} (Ok tt) (if back then Err (span_number_of Backwards) else (if past then Err (span_number_of PastMax) else Ok tt))
    → (if back then old else (if past then old else new)) ≡ new
set_if old new true past is = absurd (cc)
set_if old new false true is = absurd (cc)
set_if old new false false is = refl

-- no call before this place set a lease
abbrev NoLeaseBefore : List Call → ℕ → Type 0
NoLeaseBefore calls place = (before lo hi : ℕ) → before < place → LeasesAt calls before lo hi → ⊥

module _ {C V : Type 0} (gives : C → Option ℕ → C → Type 0) (failed : C → ℕ) (says : V → Question → Bool → Type 0) where
  -- ---- one call
  kept-call : (before after : StationState C V) (of : Call) → Allows gives failed says before of after → ((lo hi : ℕ) → of ≡ call.Lease lo hi (Ok tt) → ⊥) → after.lease ≡ before.lease
  kept-call before after (call.Now answer) allowed none = allowed.own
  kept-call before after (call.Begin number floor answer) allowed none = allowed.own
  kept-call before after (call.Lease lo hi (Ok tt)) allowed none = absurd (none lo hi refl)
  kept-call before after (call.Lease lo hi (Err fault)) allowed none =
      ap (λ (s : StationState C V). s.lease) allowed.set ∙ kept_if before.lease (interval lo hi) fault (nat_lt hi lo) (nat_lt max_time hi) allowed.says
  kept-call before after (call.Pass number answer) allowed none = allowed.own

  set-call : (before after : StationState C V) (lo hi : ℕ) → Allows gives failed says before (call.Lease lo hi (Ok tt)) after → after.lease ≡ interval lo hi
  set-call before after lo hi allowed =
      ap (λ (s : StationState C V). s.lease) allowed.set ∙ set_if before.lease (interval lo hi) (nat_lt hi lo) (nat_lt max_time hi) allowed.says

  -- the stamp lies in the lease of the session, and in that of the machine
  inside-both : (before after : StationState C V) (of : Call) (number floor s : ℕ) → of ≡ call.Begin number floor (Ok s) → Allows gives failed says before of after → Holds before.lease s × Holds before.post.lease s
  inside-both before after of number floor s is allowed =
      let began = begin-call gives failed says before after of number floor s is allowed in
      let inside = room_within before.post.stampers (common before.lease before.post.lease) (max began.0.hi floor) s began.1.inside in
      ((omega (arith, inside.0), omega (arith, inside.1)), (omega (arith, inside.0), omega (arith, inside.1)))

  -- and not in the interval of the stampers
  outside : (before after : StationState C V) (of : Call) (number floor s : ℕ) → of ≡ call.Begin number floor (Ok s) → Allows gives failed says before of after → (taken : Interval) → before.post.stampers ≡ Some taken → Holds taken s → ⊥
  outside before after of number floor s is allowed taken has =
      let began = begin-call gives failed says before after of number floor s is allowed in
      room_apart taken (common before.lease before.post.lease) (max began.0.hi floor) s
      (subst (λ (stampers : Option Interval). Holds (room_in stampers (common before.lease before.post.lease) (max began.0.hi floor)) s) has began.1.inside)

  -- ---- all calls
  inside-own : (calls : List Call) (before after : StationState C V) → Conversation (AllowsOn gives failed says) before calls after → (place number s : ℕ) → BeginsAt calls place number s → NoLeaseBefore calls place → Holds before.lease s
  inside-own [] before after talked place number s begins none = absurd (none-some _ begins.1)
  inside-own (first ∷ calls) before after talked zero number s begins none =
      (inside-both (record before { post = talked.1.post }) talked.0 first number begins.0 s (same_Some first (call.Begin number begins.0 (Ok s)) begins.1) talked.1.allowed).0
  inside-own (first ∷ calls) before after talked (suc place) number s begins none =
      let same : talked.0.lease ≡ before.lease = kept-call (record before { post = talked.1.post }) talked.0 first talked.1.allowed (λ lo hi is. none 0 lo hi (omega arith) (ap Some is)) in
      subst (λ (l : Interval). Holds l s) same
      (inside-own calls talked.0 after talked.2 place number s begins (λ k lo hi less at. none (suc k) lo hi (omega (arith, less)) at))

  inside-leased : (calls : List Call) (before after : StationState C V) → Conversation (AllowsOn gives failed says) before calls after → (place lo hi later number s : ℕ) → LeasesAt calls place lo hi → BeginsAt calls later number s → place < later → NoLeaseBetween calls place later → Holds (interval lo hi) s
  inside-leased [] before after talked place lo hi later number s leases begins is_later none = absurd (none-some _ begins.1)
  inside-leased (first ∷ calls) before after talked zero lo hi zero number s leases begins is_later none = absurd (omega (arith, is_later))
  inside-leased (first ∷ calls) before after talked zero lo hi (suc later) number s leases begins is_later none =
      let is : first ≡ call.Lease lo hi (Ok tt) = same_Some first (call.Lease lo hi (Ok tt)) leases in
      let set : talked.0.lease ≡ interval lo hi = set-call (record before { post = talked.1.post }) talked.0 lo hi (subst (λ (c : Call). Allows gives failed says (record before { post = talked.1.post }) c talked.0) is talked.1.allowed) in
      subst (λ (l : Interval). Holds l s) set
      (inside-own calls talked.0 after talked.2 later number s begins (λ k low high less at. none (suc k) low high (omega arith) (omega (arith, less)) at))
  inside-leased (first ∷ calls) before after talked (suc place) lo hi zero number s leases begins is_later none = absurd (omega (arith, is_later))
  inside-leased (first ∷ calls) before after talked (suc place) lo hi (suc later) number s leases begins is_later none =
      inside-leased calls talked.0 after talked.2 place lo hi later number s leases begins (omega (arith, is_later)) (λ k low high more less at. none (suc k) low high (omega (arith, more)) (omega (arith, less)) at)

  inside-machine : (calls : List Call) (before after : StationState C V) → Conversation (AllowsOn gives failed says) before calls after → (place number s : ℕ) → BeginsAt calls place number s → Holds before.post.lease s
  inside-machine [] before after talked place number s begins = absurd (none-some _ begins.1)
  inside-machine (first ∷ calls) before after talked zero number s begins =
      subst (λ (l : Interval). Holds l s) talked.1.goes.lease
      (inside-both (record before { post = talked.1.post }) talked.0 first number begins.0 s (same_Some first (call.Begin number begins.0 (Ok s)) begins.1) talked.1.allowed).1
  inside-machine (first ∷ calls) before after talked (suc place) number s begins =
      subst (λ (l : Interval). Holds l s) (turn-goes_on gives failed says before first talked.0 talked.1).lease (inside-machine calls talked.0 after talked.2 place number s begins)

  outside-stampers : (calls : List Call) (before after : StationState C V) → Conversation (AllowsOn gives failed says) before calls after → (place number s : ℕ) → BeginsAt calls place number s → (taken : Interval) → before.post.stampers ≡ Some taken → Holds taken s → ⊥
  outside-stampers [] before after talked place number s begins taken has = absurd (none-some _ begins.1)
  outside-stampers (first ∷ calls) before after talked zero number s begins taken has =
      outside (record before { post = talked.1.post }) talked.0 first number begins.0 s (same_Some first (call.Begin number begins.0 (Ok s)) begins.1) talked.1.allowed taken (talked.1.goes.stampers ∙ has)
  outside-stampers (first ∷ calls) before after talked (suc place) number s begins taken has =
      outside-stampers calls talked.0 after talked.2 place number s begins taken ((turn-goes_on gives failed says before first talked.0 talked.1).stampers ∙ has)

  -- ---- of a session
  pub session-leased : (session : TimedSession gives failed says) (place lo hi later number stamp : ℕ) → LeasesAt session.calls place lo hi → BeginsAt session.calls later number stamp → place < later → NoLeaseBetween session.calls place later → Holds (interval lo hi) stamp
  session-leased session place lo hi later number stamp leases begins is_later none =
      inside-leased session.calls (new_station session.post session.client) session.after session.talked place lo hi later number stamp leases begins is_later none

  pub session-machine : (session : TimedSession gives failed says) (place number stamp : ℕ) → BeginsAt session.calls place number stamp → Holds session.post.lease stamp
  session-machine session place number stamp begins =
      inside-machine session.calls (new_station session.post session.client) session.after session.talked place number stamp begins

  pub session-outside : (session : TimedSession gives failed says) (place number stamp : ℕ) (taken : Interval) → session.post.stampers ≡ Some taken → BeginsAt session.calls place number stamp → Holds taken stamp → ⊥
  session-outside session place number stamp taken has begins =
      outside-stampers session.calls (new_station session.post session.client) session.after session.talked place number stamp begins taken has

-- ---- of two sessions
pub leases-apart : {C V D W : Type 0} (gives : C → Option ℕ → C → Type 0) (failed : C → ℕ) (says : V → Question → Bool → Type 0) (gives' : D → Option ℕ → D → Type 0) (failed' : D → ℕ) (says' : W → Question → Bool → Type 0)
    (one : TimedSession gives failed says) (other : TimedSession gives' failed' says') (lease other_lease : Interval) (place later number stamp other_place other_later other_number other_stamp : ℕ)
    → (Meets lease other_lease → ⊥) → IsLeasedAt one.calls lease place later number stamp → IsLeasedAt other.calls other_lease other_place other_later other_number other_stamp → stamp ≡ other_stamp → ⊥
leases-apart gives failed says gives' failed' says' one other lease other_lease place later number stamp other_place other_later other_number other_stamp apart leased other_leased same =
    let here : Holds lease stamp = session-leased gives failed says one place lease.lo lease.hi later number stamp leased.leases leased.begins leased.after leased.none in
    let there : Holds other_lease other_stamp = session-leased gives' failed' says' other other_place other_lease.lo other_lease.hi other_later other_number other_stamp other_leased.leases other_leased.begins other_leased.after other_leased.none in
    apart (stamp, here, subst (Holds other_lease) (sym same) there)
