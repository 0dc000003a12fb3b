-- Two publications of a life that do not meet break an assumption.
use Rattle.std.specs.Prelude.{◌≡◌, ◌⊎◌, ℕ, ◌+◌, ◌-◌, ◌^◌, ◌<◌, ◌≤◌, List, [], ◌∷◌, ◌++◌, length, map, slice_get, Some}
use Rattle.std.proofs.Common.{zero, suc, ap, ◌∙◌, refl, subst, sym, arith}
use mathlib.Core.List.{IsPrefix}
use Rattle.tt_span.specs.Time.{max_time}
use Rattle.tt_span.specs.Drift.{KeepsDrift}
use Rattle.tt_publish.specs.Reading.{fused_span_of}
use Rattle.tt_publish.specs.declared.readings.FusedSpan.{FusedSpan}
use Rattle.tt_health.specs.Break.{IsUnmet}
use Rattle.tt_settings.specs.Settings.{Meaning}
use Rattle.tt_world.proofs.Histories.Meeting.{keeps_or_not, one_broken}
use Rattle.tt_consistency.specs.Calls.{AreInTurn, RoundsCall, calls_steps, kept_after}
use Rattle.tt_consistency.specs.Faulty.{FewFaulty}
use Rattle.tt_consistency.specs.Lives.{begun_in}
use Rattle.tt_consistency.specs.Steps.{Kept, new_kept}
use Rattle.tt_consistency.specs.Timeline.{AreOfTime, IsTimeline, Timed, moments_told, steps_told}
use Rattle.tt_consistency.proofs.Calling.{named-by_calls, made-by_calls}
use Rattle.tt_consistency.proofs.Comparing.{daemon-meets}
use Rattle.tt_consistency.proofs.Cutting.{calls-grow, in_turn-first}
use Rattle.tt_server.specs.Life.{ServerLife, TellsOf}
use Rattle.tt_server.specs.declared.lives.LifeEnd.{LifeEnd}

-- the first ones of a list are in it at their places
get-first : {A : Type 0} (xs ys : List A) (k : ℕ) → k < length xs → slice_get (xs ++ ys) k ≡ slice_get xs k
get-first [] ys k less = absurd (omega (arith, less))
get-first (x ∷ xs) ys zero less = refl
get-first (x ∷ xs) ys (suc k) less = get-first xs ys k (omega (arith, less))

-- of two publications that calls made and that do not meet
breaks-in : (settings : Meaning) (end : LifeEnd) (life : ServerLife) (calls : List RoundsCall) (i k : ℕ) (earlier later : FusedSpan) (at clock lives : ℕ) (timeline : List Timed) →
    TellsOf settings end life → AreInTurn (new_kept life.config life.number (lives + 1)) calls → i < k →
    slice_get (kept_after (new_kept life.config life.number (lives + 1)) calls).published i ≡ Some earlier → slice_get (kept_after (new_kept life.config life.number (lives + 1)) calls).published k ≡ Some later →
    IsUnmet life.config.drift earlier later →
    at ≤ max_time → clock ≤ max_time → lives < 2 ^ 64 - 1 → steps_told timeline ≡ calls_steps calls →
    IsTimeline at clock timeline → AreOfTime timeline → length timeline < 2 ^ 64 →
    (¬ KeepsDrift life.config.drift (moments_told timeline ++ record { clock = clock; time = at } ∷ []))
    ⊎ (¬ FewFaulty life.config (record { machine = life.number; number = lives + 1 }) timeline)
breaks-in settings end life calls i k earlier later at clock lives timeline tells turn in_order first second unmet in_time fits few are is valid short =
    let to : Kept = kept_after (new_kept life.config life.number (lives + 1)) calls in
    one_broken life.config.drift to.published (keeps_or_not life.config.drift (moments_told timeline ++ record { clock = clock; time = at } ∷ []))
    (λ drift right.
    daemon-meets life.config life.number at clock lives timeline to in_time fits few is short
    (named-by_calls life.config life.number (lives + 1) timeline calls turn are) (made-by_calls life.config life.number (lives + 1) timeline calls turn are)
    tells.is_life.configured valid drift right)
    (record {
      i = i;
      k = k;
      earlier = earlier;
      later = later;
      in_order = in_order;
      first = first;
      second = second;
      apart = unmet.apart;
    })

-- what the end tells was published by the calls of the life
told-published : (settings : Meaning) (end : LifeEnd) (life : ServerLife) (lives : ℕ) → TellsOf settings end life → life.epoch ≡ lives + 1
    → map fused_span_of end.published.items ≡ (kept_after (new_kept life.config life.number (lives + 1)) life.calls).published
told-published settings end life lives tells epoch =
    ap (map fused_span_of) (sym tells.published) ∙ tells.is_life.published ∙ ap (λ (n : ℕ). (kept_after (new_kept life.config life.number n) life.calls).published) epoch

turn-of : (settings : Meaning) (end : LifeEnd) (life : ServerLife) (lives : ℕ) → TellsOf settings end life → life.epoch ≡ lives + 1 → AreInTurn (new_kept life.config life.number (lives + 1)) life.calls
turn-of settings end life lives tells epoch = subst (λ (n : ℕ). AreInTurn (new_kept life.config life.number n) life.calls) epoch tells.is_life.in_turn

pub unmet_breaks : (settings : Meaning) (end : LifeEnd) (life : ServerLife) (i k : ℕ) (earlier later : FusedSpan) (at clock lives : ℕ) (timeline : List Timed) →
    TellsOf settings end life → i < k → slice_get (map fused_span_of end.published.items) i ≡ Some earlier → slice_get (map fused_span_of end.published.items) k ≡ Some later →
    IsUnmet life.config.drift earlier later →
    at ≤ max_time → clock ≤ max_time → life.epoch ≡ lives + 1 → lives < 2 ^ 64 - 1 → steps_told timeline ≡ calls_steps life.calls →
    IsTimeline at clock timeline → AreOfTime timeline → length timeline < 2 ^ 64 →
    (¬ KeepsDrift life.config.drift (moments_told timeline ++ record { clock = clock; time = at } ∷ []))
    ⊎ (¬ FewFaulty life.config (record { machine = life.number; number = lives + 1 }) timeline)
unmet_breaks settings end life i k earlier later at clock lives timeline tells in_order first second unmet in_time fits epoch few are is valid short =
    let told = told-published settings end life lives tells epoch in
    breaks-in settings end life life.calls i k earlier later at clock lives timeline tells (turn-of settings end life lives tells epoch) in_order
    (subst (λ (l : List FusedSpan). slice_get l i ≡ Some earlier) told first) (subst (λ (l : List FusedSpan). slice_get l k ≡ Some later) told second)
    unmet in_time fits few are is valid short

pub breaks_by_then : (settings : Meaning) (end : LifeEnd) (life : ServerLife) (more calls : List RoundsCall) (i k : ℕ) (earlier later : FusedSpan) (at clock lives : ℕ) (timeline : List Timed) →
    TellsOf settings end life → life.calls ≡ more ++ calls → i < k → k < length (kept_after (begun_in life) calls).published →
    slice_get (map fused_span_of end.published.items) i ≡ Some earlier → slice_get (map fused_span_of end.published.items) k ≡ Some later →
    IsUnmet life.config.drift earlier later →
    at ≤ max_time → clock ≤ max_time → life.epoch ≡ lives + 1 → lives < 2 ^ 64 - 1 → steps_told timeline ≡ calls_steps calls →
    IsTimeline at clock timeline → AreOfTime timeline → length timeline < 2 ^ 64 →
    (¬ KeepsDrift life.config.drift (moments_told timeline ++ record { clock = clock; time = at } ∷ []))
    ⊎ (¬ FewFaulty life.config (record { machine = life.number; number = lives + 1 }) timeline)
breaks_by_then settings end life more calls i k earlier later at clock lives timeline tells parts in_order within first second unmet in_time fits epoch few are is valid short =
    let begun : Kept = new_kept life.config life.number (lives + 1) in
    let told = told-published settings end life lives tells epoch in
    let all : AreInTurn begun (more ++ calls) = subst (AreInTurn begun) parts (turn-of settings end life lives tells epoch) in
    let early : List FusedSpan = (kept_after begun calls).published in
    let grown : IsPrefix early (kept_after begun (more ++ calls)).published = calls-grow begun more calls all in
    let same : map fused_span_of end.published.items ≡ early ++ grown.0 =
    told ∙ ap (λ (made : List RoundsCall). (kept_after begun made).published) parts ∙ sym grown.1 in
    let inside : k < length early = subst (λ (n : ℕ). k < length (kept_after (new_kept life.config life.number n) calls).published) epoch within in
    breaks-in settings end life calls i k earlier later at clock lives timeline tells (in_turn-first begun more calls all) in_order
    (sym (get-first early grown.0 i (omega (arith, in_order, inside))) ∙ subst (λ (l : List FusedSpan). slice_get l i ≡ Some earlier) same first)
    (sym (get-first early grown.0 k inside) ∙ subst (λ (l : List FusedSpan). slice_get l k ≡ Some later) same second)
    unmet in_time fits few are is valid short
