-- What happens between a daemon and its sources does not touch what its workers have.
use Rattle.std.proofs.Common.{◌≡◌, ℕ, ◌+◌, ◌≤◌, Bool, true, false, cond, List, ◌++◌, length, Option, Some, None, refl, arith}
use Rattle.tt_span.specs.Interval.{Interval}
use Rattle.tt_daemon.specs.Config.{Configuration}
use Rattle.tt_world.specs.Commits.{arrival_of, is_queued, reading_since, stamp_held, stamps_of}
use Rattle.tt_world.specs.Life.{Life, is_of, life_at}
use Rattle.tt_world.specs.Past.{packets_of, sends_of}
use Rattle.tt_world.specs.Publications.{seen_of}
use Rattle.tt_world.specs.declared.events.Event.{Event}
use Rattle.tt_consistency.specs.Steps.{Fuses, Polls, Takes}
use Rattle.tt_consistency.specs.Timeline.{Answers, Does, Happening, answer_events, events_at, is_answer_with, is_request_in, last_place, take_events}

-- what the workers of a life have is the same after both lists
pub record AreSame (config : Configuration) (life : Life) (old new : List Event) : Type 0 where
  pub seen : (w : ℕ) → seen_of new life w ≡ seen_of old life w
  pub stamps : stamps_of config new life ≡ stamps_of config old life
  pub arrival : (w : ℕ) → arrival_of new life w ≡ arrival_of old life w
  pub reading : (w : ℕ) → reading_since config new life w ≡ reading_since config old life w
  pub held : (w : ℕ) → stamp_held config new life w ≡ stamp_held config old life w
  pub queued : (w : ℕ) → is_queued config new life w ≡ is_queued config old life w

module _ (config : Configuration) (life : Life) (past : List Event) (m at : ℕ) where
  took : (source clock count : ℕ) (bytes : List ℕ) (o : Option ℕ) → AreSame config life past (take_events m at source bytes clock count o ++ past)
  took source clock count bytes None = record { seen = λ w. refl; stamps = refl; arrival = λ w. refl; reading = λ w. refl; held = λ w. refl; queued = λ w. refl }
  took source clock count bytes (Some k) = record { seen = λ w. refl; stamps = refl; arrival = λ w. refl; reading = λ w. refl; held = λ w. refl; queued = λ w. refl }

  answered : (span : Interval) (o : Option ℕ) → AreSame config life past (answer_events at span o ++ past)
  answered span None = record { seen = λ w. refl; stamps = refl; arrival = λ w. refl; reading = λ w. refl; held = λ w. refl; queued = λ w. refl }
  answered span (Some k) = record { seen = λ w. refl; stamps = refl; arrival = λ w. refl; reading = λ w. refl; held = λ w. refl; queued = λ w. refl }

  pub happening-same : (happening : Happening) → AreSame config life past (events_at past m at happening ++ past)
  happening-same (Does (Polls source clock)) = record { seen = λ w. refl; stamps = refl; arrival = λ w. refl; reading = λ w. refl; held = λ w. refl; queued = λ w. refl }
  happening-same (Does (Takes source bytes clock)) = took source clock (length (packets_of past)) bytes (last_place (is_answer_with m source bytes) (packets_of past))
  happening-same (Does (Fuses clock)) = record { seen = λ w. refl; stamps = refl; arrival = λ w. refl; reading = λ w. refl; held = λ w. refl; queued = λ w. refl }
  happening-same (Answers source nonce span) = answered span (last_place (is_request_in (life_at past m) source nonce) (packets_of past))

-- ---- how many polls

one_poll : (b : Bool) (n : ℕ) → cond b (n + 1) n ≤ n + 1
one_poll true n = omega arith
one_poll false n = omega arith

module _ (life : Life) (past : List Event) (m at : ℕ) where
  took_sends : (source clock count : ℕ) (bytes : List ℕ) (o : Option ℕ) → sends_of (take_events m at source bytes clock count o ++ past) life ≤ sends_of past life + 1
  took_sends source clock count bytes None = omega arith
  took_sends source clock count bytes (Some k) = omega arith

  answered_sends : (span : Interval) (o : Option ℕ) → sends_of (answer_events at span o ++ past) life ≤ sends_of past life + 1
  answered_sends span None = omega arith
  answered_sends span (Some k) = omega arith

  pub happening-sends : (happening : Happening) → sends_of (events_at past m at happening ++ past) life ≤ sends_of past life + 1
  happening-sends (Does (Polls source clock)) = one_poll (is_of past life m) (sends_of past life)
  happening-sends (Does (Takes source bytes clock)) = took_sends source clock (length (packets_of past)) bytes (last_place (is_answer_with m source bytes) (packets_of past))
  happening-sends (Does (Fuses clock)) = omega arith
  happening-sends (Answers source nonce span) = answered_sends span (last_place (is_request_in (life_at past m) source nonce) (packets_of past))
