-- What keeps holding the true time as the clock goes on.
use Rattle.std.proofs.Common.{◌≡◌, ℕ, ◌+◌, ◌-◌, ◌≤◌, List, [], ◌∷◌, ◌++◌, subst, arith}
use Rattle.tt_span.specs.Time.{max_time, cut}
use Rattle.tt_span.specs.Interval.{Interval, IsInterval, Holds}
use Rattle.tt_span.specs.Drift.{widening, distance, Moment, AgreesWith, KeepsDrift, aged}
use Rattle.tt_source.specs.Statement.{Statement, statement_at}

-- the lower end of what held s, after d: w is what the clock may have gone wrong by
low_holds : (lo s t d w : ℕ) → lo ≤ s → s ≤ t → distance d (t - s) ≤ w → cut (lo + d - w) ≤ t
low_holds lo s t d w a b h = omega arith

high_holds : (hi s t d w : ℕ) → s ≤ hi → s ≤ t → t ≤ max_time → distance d (t - s) ≤ w → t ≤ cut (hi + d + w)
high_holds hi s t d w a b c h = omega arith

distance-down : (a b : ℕ) → b ≤ a → distance a b ≡ a - b
distance-down a b h = omega arith

-- two moments of which the first is the later
agrees_down : (ppm c t b s : ℕ) → b ≤ c → s ≤ t → AgreesWith ppm (record { clock = c; time = t }) (record { clock = b; time = s }) → distance (c - b) (t - s) ≤ widening ppm (c - b)
agrees_down ppm c t b s h k e =
    subst (λ (u : ℕ). distance (c - b) u ≤ widening ppm (c - b)) (distance-down t s k)
    (subst (λ (d : ℕ). distance d (distance t s) ≤ widening ppm d) (distance-down c b h) e)

pub aged_holds : (ppm : ℕ) (span : Interval) (c t b s : ℕ) → b ≤ c → s ≤ t → t ≤ max_time → AgreesWith ppm (record { clock = c; time = t }) (record { clock = b; time = s }) → Holds span s → Holds (aged ppm span (c - b)) t
aged_holds ppm span c t b s h k in_time e held =
    let near = agrees_down ppm c t b s h k e in
    (low_holds span.lo s t (c - b) (widening ppm (c - b)) held.0 k near, high_holds span.hi s t (c - b) (widening ppm (c - b)) held.1 k in_time near)

-- a statement whose span held the true time at some moment from the sending to the receipt holds it now
pub statement_holds : (ppm : ℕ) (s : Statement) (c t sending giving receipt : ℕ) → s.sent ≤ c → s.got ≤ c → sending ≤ giving → giving ≤ receipt → receipt ≤ t → t ≤ max_time →
    AgreesWith ppm (record { clock = c; time = t }) (record { clock = s.sent; time = sending }) → AgreesWith ppm (record { clock = c; time = t }) (record { clock = s.got; time = receipt }) →
    Holds s.span giving → Holds (statement_at ppm s c) t
statement_holds ppm s c t sending giving receipt sent got one two three in_time at_sending at_receipt held =
    let near_sending = agrees_down ppm c t s.sent sending sent (omega arith) at_sending in
    let near_receipt = agrees_down ppm c t s.got receipt got (omega arith) at_receipt in (
      low_holds s.span.lo receipt t (c - s.got) (widening ppm (c - s.got)) (omega (arith, held.0)) three near_receipt,
      high_holds s.span.hi sending t (c - s.sent) (widening ppm (c - s.sent)) (omega (arith, held.1)) (omega arith) in_time near_sending,
    )

cuts_ordered : (lo hi d e w v : ℕ) → lo ≤ hi → d ≤ e → cut (lo + d - w) ≤ cut (hi + e + v)
cuts_ordered lo hi d e w v a b = omega arith

-- a statement at a clock reading is an interval
pub statement_valid : (ppm : ℕ) (s : Statement) (c : ℕ) → IsInterval s.span → s.sent ≤ s.got → IsInterval (statement_at ppm s c)
statement_valid ppm s c valid ordered =
    let fell : c - s.got ≤ c - s.sent = omega arith in
    record {
      ordered = cuts_ordered s.span.lo s.span.hi (c - s.got) (c - s.sent) (widening ppm (c - s.got)) (widening ppm (c - s.sent)) valid.ordered fell;
      in_time = omega arith;
    }

-- the moments of a run's beginning keep the bound that all its moments keep
pub drift_kept_before : (ppm : ℕ) (later before : List Moment) → KeepsDrift ppm (later ++ before) → KeepsDrift ppm before
drift_kept_before ppm [] before h = h
drift_kept_before ppm (m ∷ later) before h = drift_kept_before ppm later before h.1
