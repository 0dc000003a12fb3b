-- What watches of the real-time clock know after some looks.
use Rattle.std.proofs.Common.{◌≡◌, ◌↔◌, ℕ, ◌+◌, ◌-◌, ◌*◌, ◌≤◌, ◌<◌, min, max, Bool, true, false, nat_le, if◌then◌else◌, List, [], ◌∷◌, ◌++◌, map, refl, sym, subst, arith}
use Rattle.std.specs.List.{AllByRecursion}
use Rattle.std.specs.Bool.{IsTrue}
use Rattle.std.proofs.lemmas.Bool.{leb-true, leb-false}
use Rattle.std.proofs.Math.Nat.{le_refl}
use Rattle.tt_span.specs.Time.{max_time}
use Rattle.tt_span.specs.Interval.{Interval, Holds}
use Rattle.tt_span.specs.Drift.{widening, distance, AgreesWith, KeepsDrift}
use Rattle.tt_span.proofs.Widening.{rises-widening}
use Rattle.tt_master.specs.Watch.{Allowance, Look, IsLook, Sight, IsSight, IsSteady, IsSteadyAfter, IsLaterThan, AreTold, IsTrueIn, IsExplained, WatchState, shown_at, ahead_at, ahead_in, ahead_after, changed, changed_over, looks_in, moment_of, watched, watch_at, no_look}

-- after these looks and a last one a watch saw more than is allowed, where no distance explains them; else it keeps exactly the distances that do
pub record Knows (a : Allowance) (last : Look) (looks : List Look) (w : WatchState) : Type 0 where
  pub allowed : w.allowed ≡ a
  pub none : w.broken ≡ true → (d : ℕ) → IsExplained a (last ∷ looks) d → ⊥
  pub some : w.broken ≡ false → w.ahead.lo ≤ w.ahead.hi
  pub since : w.broken ≡ false → w.since ≡ last.before
  pub kept : w.broken ≡ false → (d : ℕ) → Holds w.ahead d → IsExplained a (last ∷ looks) d
  pub only : w.broken ≡ false → (d : ℕ) → IsExplained a (last ∷ looks) d → Holds w.ahead d

-- a watch that keeps an interval of exactly the distances that explain the looks, as the test of its ends turns out
knows_tested : (a : Allowance) (look : Look) (looks : List Look) (i : Interval) (w : WatchState) (b : Bool) → nat_le i.lo i.hi ≡ b → w.allowed ≡ a
    → ((d : ℕ) → Holds i d → IsExplained a (look ∷ looks) d) → ((d : ℕ) → IsExplained a (look ∷ looks) d → Holds i d)
    → Knows a look looks (if b then record w { broken = false; ahead = i; since = look.before } else record w { broken = true })
knows_tested a look looks i w true e same kept only = record {
  allowed = same;
  none = λ (is : false ≡ true). cc;
  some = λ _. leb-true i.lo i.hi e;
  since = λ _. refl;
  kept = λ _. kept;
  only = λ _. only;
}
knows_tested a look looks i w false e same kept only = record {
  allowed = same;
  none = λ _ d is. let past = leb-false i.lo i.hi e in let in_i = only d is in absurd (omega (arith, past, in_i.0, in_i.1));
  some = λ (is : true ≡ false). cc;
  since = λ (is : true ≡ false). cc;
  kept = λ (is : true ≡ false). cc;
  only = λ (is : true ≡ false). cc;
}

-- how far apart a distance and the nearest of an interval are
near : (lo hi change d : ℕ) → lo ≤ hi → lo - change ≤ d → d ≤ hi + change → (c : ℕ) × (lo ≤ c) × (c ≤ hi) × (distance c d ≤ change)
near lo hi change d ordered above below = (max lo (min d hi), omega arith, omega arith, omega arith)

-- a watch that saw more than is allowed says so after one more look
knows_still : (a : Allowance) (look last : Look) (looks : List Look) (w : WatchState) → w.broken ≡ true → Knows a last looks w → Knows a look (last ∷ looks) w
knows_still a look last looks w is knows = record {
  allowed = knows.allowed;
  none = λ _ d explained. knows.none is explained.1.0 explained.1.1;
  some = λ (isnt : w.broken ≡ false). cc;
  since = λ (isnt : w.broken ≡ false). cc;
  kept = λ (isnt : w.broken ≡ false). cc;
  only = λ (isnt : w.broken ≡ false). cc;
}

-- the first look
knows_first : (a : Allowance) (look : Look) → IsLook look → Knows a look [] (watched a (look ∷ []))
knows_first a look is =
    let i : Interval = ahead_after a look (no_look a).ahead (widening a.rate (look.after - 0) + 2) in
    knows_tested a look [] i (no_look a) (nat_le i.lo i.hi) refl refl
    (λ d holds. let h0 = holds.0 in let h1 = holds.1 in ((omega (arith, h0), omega (arith, h1)), (0, tt, tt)))
    (λ d explained. let h0 = explained.0.0 in let h1 = explained.0.1 in (omega (arith, is.ordered, is.in_time, is.real_in, h0), omega (arith, is.ordered, is.in_time, is.real_in, h1)))

-- a distance that this look allows, and that is no further from one before it than the change, is one after this look
holds_after : (a : Allowance) (look : Look) (ahead : Interval) (change c d : ℕ) → Holds (ahead_at a look) d → Holds ahead c → distance c d ≤ change
    → Holds (ahead_after a look ahead change) d
holds_after a look ahead change c d shown within close =
    let s0 = shown.0 in
    let s1 = shown.1 in
    let w0 = within.0 in
    let w1 = within.1 in
    (omega (arith, s0, w0, close), omega (arith, s1, w1, close))

-- a look after another one, where no more than is allowed was seen
knows_next : (a : Allowance) (look last : Look) (looks : List Look) (w : WatchState) → w.broken ≡ false → Knows a last looks w
    → Knows a look (last ∷ looks) (watch_at look (ahead_after a look w.ahead (changed a last look)) w)
knows_next a look last looks w unseen knows =
    let change : ℕ = changed a last look in
    let i : Interval = ahead_after a look w.ahead change in
    let some : w.ahead.lo ≤ w.ahead.hi = knows.some unseen in
    knows_tested a look (last ∷ looks) i w (nat_le i.lo i.hi) refl knows.allowed
    (λ d holds.
    let h0 = holds.0 in
    let h1 = holds.1 in
    let c = near w.ahead.lo w.ahead.hi change d some (omega (arith, h0)) (omega (arith, h1)) in
    ((omega (arith, h0), omega (arith, h1)), (c.0, knows.kept unseen c.0 (c.1, c.2), c.3)))
    (λ d explained.
    let within = knows.only unseen explained.1.0 explained.1.1 in
    holds_after a look w.ahead change explained.1.0 d explained.0 within explained.1.2)

-- a watch after one more look, as it saw more than is allowed before it or not
knows_looked : (a : Allowance) (look last : Look) (looks : List Look) (w : WatchState) (b : Bool) → w.broken ≡ b → Knows a last looks w
    → Knows a look (last ∷ looks) (if b then w else watch_at look (ahead_after w.allowed look w.ahead (widening w.allowed.rate (look.after - w.since) + 2)) w)
knows_looked a look last looks w true e knows = knows_still a look last looks w e knows
knows_looked a look last looks w false e knows =
    subst (λ (s : ℕ). Knows a look (last ∷ looks) (watch_at look (ahead_after w.allowed look w.ahead (widening w.allowed.rate (look.after - s) + 2)) w))
    (sym (knows.since e))
    (subst (λ (b : Allowance). Knows a look (last ∷ looks) (watch_at look (ahead_after b look w.ahead (widening b.rate (look.after - last.before) + 2)) w))
    (sym knows.allowed) (knows_next a look last looks w e knows))

-- what a watch knows after any looks
pub knows : (a : Allowance) (look : Look) (looks : List Look) → AllByRecursion IsLook (look ∷ looks) → Knows a look looks (watched a (look ∷ looks))
knows a look [] all = knows_first a look all.0
knows a look (last ∷ looks) all = knows_looked a look last looks (watched a (last ∷ looks)) (watched a (last ∷ looks)).broken refl (knows a last looks all.1)

-- more than is allowed was seen exactly where no distance explains the looks
exact_by : (a : Allowance) (look : Look) (looks : List Look) (w : WatchState) (b : Bool) → w.broken ≡ b → Knows a look looks w
    → IsTrue w.broken ↔ ((d : ℕ) → IsExplained a (look ∷ looks) d → ⊥)
exact_by a look looks w true e known = (λ is. known.none is, λ _. e)
exact_by a look looks w false e known = (λ is. known.none is, λ none. absurd (none w.ahead.lo (known.kept e w.ahead.lo (le_refl w.ahead.lo, known.some e))))

pub exact : (a : Allowance) (looks : List Look) → AllByRecursion IsLook looks → IsTrue (watched a looks).broken ↔ ((d : ℕ) → IsExplained a looks d → ⊥)
exact a [] all = (λ (is : false ≡ true). cc, λ none. absurd (none 0 tt))
exact a (look ∷ looks) all = exact_by a look looks (watched a (look ∷ looks)) (watched a (look ∷ looks)).broken refl (knows a look looks all)

-- the distance at the moment of a sight is one that its look allows
told_by : (a : Allowance) (sight : Sight) → IsSight a sight → Holds (ahead_at a sight.look) (ahead_in sight)
told_by a sight is = (omega (arith, is.to, is.near, is.look_in.in_time), omega (arith, is.from, is.near, is.to, is.look_in.in_time))

-- the distances at the moments of steady sights explain their looks
explained : (a : Allowance) (sight : Sight) (sights : List Sight) → IsSteady a (sight ∷ sights) → IsExplained a (looks_in (sight ∷ sights)) (ahead_in sight)
explained a sight [] is = (told_by a sight is.0, (0, tt, tt))
explained a sight (last ∷ sights) is =
    let rises = rises-widening a.rate (sight.moment - last.moment) (sight.look.after - last.look.before) (omega (arith, is.0.to, is.2.0.from)) in
    let change = is.1 in
    (told_by a sight is.0, (ahead_in last, explained a last sights is.2, omega (arith, rises, change)))

-- these sights are looks
looks_of : (a : Allowance) (sights : List Sight) → IsSteady a sights → AllByRecursion IsLook (looks_in sights)
looks_of a [] is = tt
looks_of a (sight ∷ sights) is = (is.0.look_in, looks_of a sights is.2)

-- a watch that saw no more than is allowed
unseen_by : (b : Bool) → (b ≡ true → ⊥) → b ≡ false
unseen_by true h = absurd (h refl)
unseen_by false h = refl

pub no_alarm : (a : Allowance) (sights : List Sight) → IsSteady a sights → (watched a (looks_in sights)).broken ≡ false
no_alarm a [] is = refl
no_alarm a (sight ∷ sights) is =
    unseen_by (watched a (looks_in (sight ∷ sights))).broken
    (λ seen. (exact a (looks_in (sight ∷ sights)) (looks_of a (sight ∷ sights) is)).0 seen (ahead_in sight) (explained a sight sights is))

-- a clock that keeps its drift from one moment to a later one changes its distance from the time by no more
change_of : (clock last_clock time last_time w : ℕ) → last_clock ≤ clock → clock ≤ max_time → last_time ≤ time
    → distance (distance clock last_clock) (distance time last_time) ≤ w
    → distance (last_time + max_time - last_clock) (time + max_time - clock) ≤ w + 2
change_of clock last_clock time last_time w clocks in_time times close = omega (arith, clocks, in_time, times, close)

-- how far a clock went between two moments that are in order
gone_of : (clock last_clock : ℕ) → last_clock ≤ clock → distance clock last_clock ≡ clock - last_clock
gone_of clock last_clock clocks = omega (arith, clocks)

-- a true statement is kept from the last sight to this one
steady_after : (a : Allowance) (sight : Sight) (sights : List Sight) → IsSight a sight → IsLaterThan sights sight
    → KeepsDrift a.rate (map moment_of (sight ∷ sights)) → IsSteadyAfter a sights sight
steady_after a sight [] is later keeps = tt
steady_after a sight (last ∷ sights) is later keeps =
    let agrees : AgreesWith a.rate (moment_of sight) (moment_of last) = keeps.0.0 in
    let close = subst (λ (gone : ℕ). distance (distance sight.moment last.moment) (distance sight.time last.time) ≤ widening a.rate gone)
    (gone_of sight.moment last.moment later.0) agrees in
    change_of sight.moment last.moment sight.time last.time (widening a.rate (sight.moment - last.moment)) later.0
    (omega (arith, is.to, is.look_in.in_time)) later.1 close

-- where a statement is true nothing happens that is not allowed
steady_of : (a : Allowance) (sights : List Sight) → AreTold a sights → KeepsDrift a.rate (map moment_of sights) → IsSteady a sights
steady_of a [] told keeps = tt
steady_of a (sight ∷ sights) told keeps = (told.0, steady_after a sight sights told.0 told.1 keeps, steady_of a sights told.2 keeps.1)

pub never_silenced : (a : Allowance) (sights : List Sight) → IsTrueIn a sights → (watched a (looks_in sights)).broken ≡ false
never_silenced a sights is = no_alarm a sights (steady_of a sights is.told is.drift)

-- where the looks are explained, the first of them allows a distance that is no further from the one at the newest than what is allowed between them
reaches : (a : Allowance) (look : Look) (between : List Look) (first : Look) (looks : List Look) (d : ℕ) → IsExplained a (look ∷ (between ++ (first ∷ looks))) d
    → (c : ℕ) × Holds (ahead_at a first) c × (distance c d ≤ changed_over a look between first)
reaches a look [] first looks d is = (is.1.0, is.1.1.0, is.1.2)
reaches a look (last ∷ between) first looks d is =
    let before = reaches a last between first looks is.1.0 is.1.1 in
    let close = before.2 in
    let step = is.1.2 in
    (before.0, before.1, omega (arith, close, step))

-- what the looks show is no further apart than what is allowed
close_by : (a : Allowance) (look first : Look) (c d x y w : ℕ) → IsLook look → IsLook first → Holds (shown_at first) c → Holds (shown_at look) d
    → Holds (ahead_at a first) x → Holds (ahead_at a look) y → distance x y ≤ w
    → distance c d ≤ 2 * a.slack + w + (first.after - first.before) + (look.after - look.before)
close_by a look first c d x y w is_look is_first at_first at_look x_in y_in close =
    let c0 = at_first.0 in
    let c1 = at_first.1 in
    let d0 = at_look.0 in
    let d1 = at_look.1 in
    let x0 = x_in.0 in
    let x1 = x_in.1 in
    let y0 = y_in.0 in
    let y1 = y_in.1 in
    omega (arith, is_look.ordered, is_look.in_time, is_first.ordered, is_first.in_time, c0, c1, d0, d1, x0, x1, y0, y1, close)

-- of such looks those are looks that end with the first
first_of : (look : Look) (between : List Look) (first : Look) (looks : List Look) → AllByRecursion IsLook (look ∷ (between ++ (first ∷ looks))) → IsLook first
first_of look [] first looks all = all.1.0
first_of look (last ∷ between) first looks all = first_of last between first looks all.1

pub seen : (a : Allowance) (look : Look) (between : List Look) (first : Look) (looks : List Look) (c d : ℕ)
    → AllByRecursion IsLook (look ∷ (between ++ (first ∷ looks))) → Holds (shown_at first) c → Holds (shown_at look) d
    → 2 * a.slack + changed_over a look between first + (first.after - first.before) + (look.after - look.before) < distance c d
    → IsTrue (watched a (look ∷ (between ++ (first ∷ looks)))).broken
seen a look between first looks c d all at_first at_look far =
    (exact a (look ∷ (between ++ (first ∷ looks))) all).1 (λ y is.
    let reached = reaches a look between first looks y is in
    let close = close_by a look first c d reached.0 y (changed_over a look between first) all.0 (first_of look between first looks all) at_first at_look
    reached.1 is.0 reached.2 in
    omega (arith, far, close))
