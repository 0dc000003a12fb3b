-- Near a leap second a server stays silent until a reply shows that it is over, or has not begun.
use Rattle.std.proofs.Common.{◌≡◌, ℕ, ◌-◌, ◌≤◌, ◌<◌, Bool, true, false, cond, not, ◌⊎◌, inl, inr, ⊎_elim, List, [], ◌∷◌, Option, Some, None, Result, Ok, Err, refl, subst, arith}
use Rattle.std.specs.Prelude.{◌&&◌, nat_le, nat_lt, is_some, option_map, IsErr}
use Rattle.std.proofs.lemmas.Bool.{leb-true, leb-false, ltb-true}
use Rattle.tt_span.specs.Interval.{Interval}
use Rattle.tt_span.specs.Drift.{widening}
use Rattle.tt_span.specs.Statement.{Statement, stated_at}
use Rattle.tt_span.proofs.Widening.{rises-widening}
use Rattle.tt_ntp.specs.declared.faults.NtpFault.{NtpFault}
use Rattle.tt_upstream.specs.Leap.{eve, settling, is_near, is_put_off}
use Rattle.tt_upstream.specs.Refusal.{meaning_of}
use Rattle.tt_upstream.specs.Server.{ServerState, asked_at, news_at, unawaited, learned, refused_as, heard_as, heard_at}
use Rattle.tt_upstream.specs.Span.{known_span, span_at}
use Rattle.tt_upstream.specs.Run.{Event, after, IsFromBehind, IsFromBefore, AreNoRelease}
use Rattle.tt_upstream.specs.Run.Event.{Sent, Came}
use Rattle.tt_upstream.specs.declared.leaps.Announced.{Announced}
use Rattle.tt_upstream.specs.declared.news.Known.{Known}
use Rattle.tt_upstream.specs.declared.news.News.{News}
use Rattle.tt_upstream.specs.declared.refusals.Meaning.{Meaning}
use Rattle.tt_upstream.specs.declared.refusals.Meaning.TheVariants.{Stray, TooOften, Stop, NoTime}
use Rattle.tt_master.specs.declared.silences.Silence.{Silence}
use Rattle.tt_upstream.proofs.Saying.{Says, says}

-- ---- which replies are not put off

not_put_off : (announced : Announced) (news : News) (near behind : Bool) → nat_le (announced.moment - eve) news.known.statement.span.hi ≡ near → nat_lt announced.moment (news.known.statement.span.lo - settling news.leap) ≡ behind
    → (near && not behind) ≡ false → IsFromBehind announced news ⊎ IsFromBefore announced news
not_put_off announced news false behind n b h = inr (leb-false (announced.moment - eve) news.known.statement.span.hi n)
not_put_off announced news true true n b h = inl (ltb-true announced.moment (news.known.statement.span.lo - settling news.leap) b)
not_put_off announced news true false n b h = cc

pub shows : (leap : Option Announced) (announced : Announced) (news : News) → leap ≡ Some announced → is_put_off leap news.leap news.known.statement.span ≡ false → IsFromBehind announced news ⊎ IsFromBefore announced news
shows None announced news e h = cc
shows (Some other) announced news e h =
    let same : other ≡ announced = cc in
    subst (λ (a : Announced). IsFromBehind a news ⊎ IsFromBefore a news) same
    (not_put_off other news (nat_le (other.moment - eve) news.known.statement.span.hi) (nat_lt other.moment (news.known.statement.span.lo - settling news.leap)) refl refl h)

-- ---- what stays

-- the leap second is announced, and what is known reaches its last minute at the clock reading, if anything is known
abbrev pub Waits : Announced → ℕ → ServerState → Type 0
Waits announced c server = (server.leap ≡ Some announced) × ((server.known ≡ None) ⊎ (announced.moment - eve ≤ (known_span server c).hi))

waits-refused : (announced : Announced) (c : ℕ) (server : ServerState) (meaning : Meaning) (now : ℕ) → Waits announced c server → Waits announced c (refused_as server meaning now)
waits-refused announced c server Stray now h = h
waits-refused announced c server TooOften now h = h
waits-refused announced c server Stop now h = h
waits-refused announced c server NoTime now h = (h.0, inl refl)

waits-told : (announced : Announced) (c : ℕ) (server : ServerState) (news : News) (b : Bool) → (b ≡ false → ⊥) → Waits announced c server → Waits announced c (cond b (unawaited server) (learned (unawaited server) news))
waits-told announced c server news true kept h = h
waits-told announced c server news false kept h = absurd (kept refl)

waits-heard : (announced : Announced) (c : ℕ) (server : ServerState) (now : ℕ) (r : Result News NtpFault) → ((news : News) → r ≡ Ok news → IsFromBehind announced news ⊎ IsFromBefore announced news → ⊥)
    → Waits announced c server → Waits announced c (heard_as server r now)
waits-heard announced c server now (Ok news) none h =
    waits-told announced c server news (is_put_off server.leap news.leap news.known.statement.span) (λ free. none news refl (shows server.leap announced news h.0 free)) h
waits-heard announced c server now (Err fault) none h = waits-refused announced c server (meaning_of fault) now h

pub waits-after : (announced : Announced) (c : ℕ) (server : ServerState) (events : List Event) → AreNoRelease announced server events → Waits announced c server → Waits announced c (after server events)
waits-after announced c server [] none h = h
waits-after announced c server (Sent nonce now ∷ events) none h = waits-after announced c (asked_at server nonce now) events none.1 h
waits-after announced c server (Came key bytes now ∷ events) none h =
    waits-after announced c (heard_at server key bytes now) events none.1 (waits-heard announced c server now (news_at server.plan server.waiting key bytes now) none.0 h)

-- ---- silence

-- the upper end of a statement does not fall as the clock goes on
high-rises : (drift : ℕ) (s : Statement) (c d : ℕ) → c ≤ d → (stated_at drift (Some s) c).hi ≤ (stated_at drift (Some s) d).hi
high-rises drift s c d h =
    let wider : widening drift (c - s.sent) ≤ widening drift (d - s.sent) = rises-widening drift (c - s.sent) (d - s.sent) (omega arith) in
    omega arith

known-rises : (drift : ℕ) (o : Option Known) (c d : ℕ) → c ≤ d → (stated_at drift (option_map (λ (known : Known). known.statement) o) c).hi ≤ (stated_at drift (option_map (λ (known : Known). known.statement) o) d).hi
known-rises drift None c d h = omega arith
known-rises drift (Some known) c d h = high-rises drift known.statement c d h

nothing_known : (o : Option Known) → o ≡ None → not (is_some o) ≡ false → ⊥
nothing_known None e h = cc
nothing_known (Some known) e h = cc

near_still : (announced : Announced) (c d : ℕ) (server : ServerState) → c ≤ d → announced.moment - eve ≤ (known_span server c).hi → is_near (Some announced) (known_span server d) ≡ false → ⊥
near_still announced c d server later near far =
    let rises : (known_span server c).hi ≤ (known_span server d).hi = known-rises server.plan.drift server.known c d later in
    let below : (known_span server d).hi < announced.moment - eve = leb-false (announced.moment - eve) (known_span server d).hi far in
    omega arith

-- a server that waits says no span
says-none : (announced : Announced) (c d : ℕ) (server : ServerState) (span : Interval) → c ≤ d → Waits announced c server → Says server d span → ⊥
says-none announced c d server span later h s =
    let far : is_near (Some announced) (known_span server d) ≡ false = subst (λ (o : Option Announced). is_near o (known_span server d) ≡ false) h.0 s.not_near in
    ⊎_elim (λ (none : server.known ≡ None). nothing_known server.known none s.some) (λ (near : announced.moment - eve ≤ (known_span server c).hi). near_still announced c d server later near far) h.1

no_span : (r : Result Interval Silence) → ((span : Interval) → r ≡ Ok span → ⊥) → IsErr r
no_span (Ok span) h = absurd (h span refl)
no_span (Err silence) h = refl

near_known : (leap : Option Announced) (announced : Announced) (span : Interval) → leap ≡ Some announced → is_near leap span ≡ true → announced.moment - eve ≤ span.hi
near_known leap announced span e h = leb-true (announced.moment - eve) span.hi (subst (λ (o : Option Announced). is_near o span ≡ true) e h)

pub run-silent : (server : ServerState) (announced : Announced) (events : List Event) (c d : ℕ) → server.leap ≡ Some announced → is_near server.leap (known_span server c) ≡ true → c ≤ d → AreNoRelease announced server events
    → IsErr (span_at (after server events) d)
run-silent server announced events c d is near later none =
    let waits : Waits announced c (after server events) = waits-after announced c server events none (is, inr (near_known server.leap announced (known_span server c) is near)) in
    no_span (span_at (after server events) d) (λ span said. says-none announced c d (after server events) span later waits (says (after server events) d span said))
