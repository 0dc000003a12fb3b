-- What is known where a server says a span.
use Rattle.std.proofs.Common.{◌≡◌, ℕ, ◌≤◌, Bool, true, false, cond, not, Option, Some, None, Ok, refl, subst}
use Rattle.std.specs.Prelude.{◌||◌, nat_lt, is_some, option_map}
use Rattle.std.proofs.lemmas.Bool.{or_parts, ltb-false}
use Rattle.tt_span.specs.Time.{max_time}
use Rattle.tt_span.specs.Interval.{Interval, Holds}
use Rattle.tt_span.specs.Statement.{statement_at, stated_at}
use Rattle.tt_upstream.specs.Leap.{is_near}
use Rattle.tt_upstream.specs.Server.{ServerState}
use Rattle.tt_upstream.specs.Span.{age_at, is_back, known_span, applies, unless_silent, span_at}
use Rattle.tt_master.specs.declared.silences.Silence.{Silence}
use Rattle.tt_master.specs.declared.silences.Silence.TheVariants.{Clock, Unanswered, Old, Refused, Stopped, Leap}
use Rattle.tt_upstream.specs.declared.news.Known.{Known}

-- what holds where the server says the span
pub record Says (server : ServerState) (now : ℕ) (span : Interval) : Type 0 where
  pub some : not (is_some server.known) ≡ false
  pub not_back : is_back server.known now ≡ false
  pub not_near : is_near server.leap (known_span server now) ≡ false
  pub is : known_span server now ≡ span

passes : (b : Bool) (silence : Silence) (rest : Option Silence) (i j : Interval) → unless_silent (cond b (Some silence) rest) i ≡ Ok j → (b ≡ false) × (unless_silent rest i ≡ Ok j)
passes false silence rest i j h = (refl, h)
passes true silence rest i j h = cc

pub says : (server : ServerState) (now : ℕ) (span : Interval) → span_at server now ≡ Ok span → Says server now span
unfolding span_at applies
says server now span h =
    let i = known_span server now in
    let near = cond (is_near server.leap i) (Some Leap) None in
    let back = cond (is_back server.known now) (Some Clock) near in
    let old = cond (nat_lt server.plan.max_age (age_at server.known now)) (Some Old) back in
    let unanswered = cond (not (is_some server.known)) (Some Unanswered) old in
    let refused = cond server.refused (Some Refused) unanswered in
    let p = passes server.stopped Stopped refused i span h in
    let q = passes server.refused Refused unanswered i span p.1 in
    let r = passes (not (is_some server.known)) Unanswered old i span q.1 in
    let s = passes (nat_lt server.plan.max_age (age_at server.known now)) Old back i span r.1 in
    let t = passes (is_back server.known now) Clock near i span s.1 in
    let u = passes (is_near server.leap i) Leap None i span t.1 in
    record { some = r.0; not_back = t.0; not_near = u.0; is = cc }

-- a clock reading that is not refused is not below the receipt
pub later : (now got : ℕ) → (nat_lt now got || nat_lt max_time now) ≡ false → got ≤ now
later now got h = ltb-false now got (or_parts (nat_lt now got) (nat_lt max_time now) h).0

-- what is known holds the time: so does the span
pub holds_of : (drift now x : ℕ) (o : Option Known) (span : Interval) → ((known : Known) → o ≡ Some known → known.statement.got ≤ now → Holds (statement_at drift known.statement now) x) → not (is_some o) ≡ false → is_back o now ≡ false → stated_at drift (option_map (λ (known : Known). known.statement) o) now ≡ span → Holds span x
holds_of drift now x None span h some back is = cc
holds_of drift now x (Some known) span h some back is = subst (λ (i : Interval). Holds i x) is (h known refl (later now known.statement.got back))
