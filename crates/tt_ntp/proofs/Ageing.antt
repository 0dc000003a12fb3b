-- In a run in which the server is right, the statement of its reply is true, and holds the true time later.
use Rattle.std.proofs.Common.{◌≡◌, ℕ, ◌+◌, ◌-◌, ◌*◌, ◌≤◌, List, Ok, ap, sym, subst, arith}
use Rattle.tt_span.specs.Time.{max_time, cut}
use Rattle.tt_span.specs.Interval.{Interval, Holds}
use Rattle.tt_span.specs.Drift.{distance, widening, AgreesWith}
use Rattle.tt_source.specs.Statement.{Statement, statement_at, IsPossibleNow}
use Rattle.tt_ntp.specs.declared.queries.Query.{Query}
use Rattle.tt_ntp.specs.declared.replies.Reply.{Reply}
use Rattle.tt_ntp.specs.Packet.{transmit_at}
use Rattle.tt_ntp.specs.Time.{second, billion, time_of, radius_at, floor_of, ceiling_of, ends_at, IsServerTime}
use Rattle.tt_ntp.specs.Reading.{read_of}
use Rattle.tt_ntp.specs.Aged.{widened, statement_of, IsServerRight}
use Rattle.tt_ntp.proofs.Refusing.{read_of-reply}

-- ---- while the server reads its clock

low_holds : (t r margin x : ℕ) → distance (x * second) (t * billion) ≤ r * billion + margin * second → floor_of (t - r) - margin ≤ x
low_holds t r margin x h = omega arith

high_holds : (t r margin x : ℕ) → distance (x * second) (t * billion) ≤ r * billion + margin * second → x ≤ max_time → x ≤ cut (ceiling_of (t + r) + margin)
high_holds t r margin x h in_time = omega arith

-- the span with its margin holds the time at which a right server read its clock
pub widened-holds : (margin : ℕ) (bytes : List ℕ) (x : ℕ) → IsServerTime margin bytes (x * second) → x ≤ max_time → Holds (widened margin (ends_at bytes)) x
widened-holds margin bytes x h in_time =
    let t = time_of (transmit_at bytes) in
    let r = radius_at bytes in
    (low_holds t r margin x h, high_holds t r margin x h in_time)

-- the statement is true in each run in which the server is right
possible_at : (ppm margin : ℕ) (bytes : List ℕ) (reply : Reply) (sent got c x : ℕ) → reply.span ≡ ends_at bytes → IsServerRight ppm margin bytes sent got c x → IsPossibleNow ppm (statement_of margin reply sent got) c x
possible_at ppm margin bytes reply sent got c x is r = record {
  sending = r.sending;
  giving = r.reading;
  receipt = r.receipt;
  given_after_sending = r.read_after_sending;
  received_after_giving = r.received_after_reading;
  now_after_receipt = r.now_after_receipt;
  in_time = r.in_time;
  true_when_given = subst (λ (i : Interval). Holds (widened margin i) r.reading) (sym is) (widened-holds margin bytes r.reading r.right_when_read (omega (arith, r.received_after_reading, r.now_after_receipt, r.in_time)));
  keeps = r.keeps;
}

pub is_possible : (query : Query) (bytes : List ℕ) (reply : Reply) (ppm margin sent got c x : ℕ) → read_of query bytes ≡ Ok reply → IsServerRight ppm margin bytes sent got c x → IsPossibleNow ppm (statement_of margin reply sent got) c x
is_possible query bytes reply ppm margin sent got c x read r =
    possible_at ppm margin bytes reply sent got c x (sym (ap (λ (p : Reply). p.span) (read_of-reply query bytes reply read))) r

-- ---- later

distance-up : (a b : ℕ) → a ≤ b → distance a b ≡ b - a
distance-up a b h = omega arith

-- two moments, the second of which has the later clock reading
agrees-later : (ppm a b s t : ℕ) → a ≤ b → AgreesWith ppm (record { clock = a; time = s }) (record { clock = b; time = t }) → distance (b - a) (distance s t) ≤ widening ppm (b - a)
agrees-later ppm a b s t h agrees = subst (λ (d : ℕ). distance d (distance s t) ≤ widening ppm d) (distance-up a b h) agrees

low_later : (lo giving receipt x d w : ℕ) → lo ≤ giving → giving ≤ receipt → receipt ≤ x → distance d (distance receipt x) ≤ w → cut (lo + d - w) ≤ x
low_later lo giving receipt x d w a b e h = omega arith

high_later : (hi giving sending x d w : ℕ) → giving ≤ hi → sending ≤ giving → x ≤ max_time → distance d (distance sending x) ≤ w → x ≤ cut (hi + d + w)
high_later hi giving sending x d w a b e h = omega arith

-- a statement that is true holds the true time later
pub statement_at-holds : (ppm : ℕ) (s : Statement) (c x : ℕ) → s.sent ≤ s.got → s.got ≤ c → IsPossibleNow ppm s c x → Holds (statement_at ppm s c) x
statement_at-holds ppm s c x ordered later r =
    let since_receipt = agrees-later ppm s.got c r.receipt x later r.keeps.1.0.0 in
    let since_sending = agrees-later ppm s.sent c r.sending x (omega arith) r.keeps.0.1.0 in (
      low_later s.span.lo r.giving r.receipt x (c - s.got) (widening ppm (c - s.got)) r.true_when_given.0 r.received_after_giving r.now_after_receipt since_receipt,
      high_later s.span.hi r.giving r.sending x (c - s.sent) (widening ppm (c - s.sent)) r.true_when_given.1 r.given_after_sending r.in_time since_sending,
    )

pub reply-holds : (query : Query) (bytes : List ℕ) (reply : Reply) (ppm margin sent got c x : ℕ) → read_of query bytes ≡ Ok reply → sent ≤ got → got ≤ c → IsServerRight ppm margin bytes sent got c x → Holds (statement_at ppm (statement_of margin reply sent got) c) x
reply-holds query bytes reply ppm margin sent got c x read ordered later r =
    statement_at-holds ppm (statement_of margin reply sent got) c x ordered later (is_possible query bytes reply ppm margin sent got c x read r)
