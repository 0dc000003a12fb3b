-- A reading of what held the true time holds the true time of its own moment.
use Rattle.std.proofs.Common.{◌≡◌, ℕ, ◌≤◌, List, [], ◌∷◌, ◌++◌, Option, Some, None, Result, Ok, Err, inl, inr, map, subst, sym, ◌∙◌}
use Rattle.std.specs.Prelude.{IfOk}
use Rattle.std.specs.List.{AllByRecursion, last_or}
use mathlib.Core.List.{IsPrefix}
use Rattle.tt_span.specs.Time.{max_time}
use Rattle.tt_span.specs.Interval.{Interval, Holds}
use Rattle.tt_span.specs.Drift.{Moment, AgreesWith, KeepsDrift}
use Rattle.tt_daemon.specs.Publication.{Publication}
use Rattle.tt_publish.specs.Known.{WatchState}
use Rattle.tt_publish.specs.Looks.{Looks}
use Rattle.tt_publish.specs.Reading.{fused_span_of, CanBeReadAt, reading_at}
use Rattle.tt_publish.specs.declared.faults.ReadFault.{ReadFault}
use Rattle.tt_publish.specs.declared.readings.FusedSpan.{FusedSpan}
use Rattle.tt_world.proofs.Histories.Ageing.{aged_holds}
use Rattle.tt_consistency.specs.Reads.{IsNoEarlier, IsTakenAt, IsReadAt}
use Rattle.tt_consistency.specs.Timeline.{IsAmong, HeldTrueTime}

-- what holds of each of some moments holds of one of them
of_one : (P : Moment → Type 0) (moment : Moment) (moments : List Moment) → AllByRecursion P moments → IsAmong moment moments → P moment
of_one P moment [] all is = absurd is
of_one P moment (other ∷ moments) all (inl same) = subst P same all.0
of_one P moment (other ∷ moments) all (inr later) = of_one P moment moments all.1 later

-- what holds of each of a list holds of each of its beginning
of_beginning : {X : Type 0} (P : X → Type 0) (xs rest : List X) → AllByRecursion P (xs ++ rest) → AllByRecursion P xs
of_beginning P [] rest all = tt
of_beginning P (x ∷ xs) rest all = (all.0, of_beginning P xs rest all.1)

-- what holds of what is read of a publication, if there is one
abbrev holds_of : (FusedSpan → Type 0) → Option Publication → Type 0
holds_of P None = Unit {0}
holds_of P (Some publication) = P (fused_span_of publication)

-- what holds of what is read of each of a list holds of what is read of the last
of_last : (P : FusedSpan → Type 0) (items : List Publication) (o : Option Publication) (last : Publication) → AllByRecursion P (map fused_span_of items) → holds_of P o → last_or o items ≡ Some last → P (fused_span_of last)
of_last P [] o last all first is = subst (holds_of P) is first
of_last P (item ∷ items) o last all first is = of_last P items (Some item) last all.1 all.0 is

pub reading-holds : (ppm : ℕ) (moments : List Moment) (publication : FusedSpan) (clock time : ℕ) → HeldTrueTime moments publication → KeepsDrift ppm (record { clock = clock; time = time } ∷ moments) → IsNoEarlier moments publication time → time ≤ max_time → CanBeReadAt publication clock →
    Holds (reading_at ppm publication clock) time
reading-holds ppm moments publication clock time held drift no_earlier in_time can =
    aged_holds ppm publication.span clock time publication.clock held.time can.0 (no_earlier held.time held.moment) in_time
    (of_one (AgreesWith ppm (record { clock = clock; time = time })) (record { clock = publication.clock; time = held.time }) moments drift.0 held.moment)
    held.held

-- a reading that was taken at a true time from what held the true time
taken-holds : {C : Type 0} (gives : C → Option ℕ → C → Type 0) (ppm : ℕ) (watch : WatchState) (before after : C) (reading : Interval) (moments : List Moment) (published : List FusedSpan) (time : ℕ) →
    watch.drift ≡ ppm → AllByRecursion (HeldTrueTime moments) published → IsPrefix (map fused_span_of watch.items) published → IsTakenAt gives ppm moments watch before after reading time → Holds reading time
taken-holds gives ppm watch before after reading moments published time same held begins taken =
    let seen : AllByRecursion (HeldTrueTime moments) (map fused_span_of watch.items) = of_beginning (HeldTrueTime moments) (map fused_span_of watch.items) begins.0 (subst (AllByRecursion (HeldTrueTime moments)) (sym begins.1) held) in
    let one : HeldTrueTime moments (fused_span_of taken.last) = of_last (HeldTrueTime moments) watch.items None taken.last seen tt taken.last_is in
    subst (λ (i : Interval). Holds i time) (sym taken.reading_is)
    (subst (λ (drift : ℕ). Holds (reading_at drift (fused_span_of taken.last) taken.clock) time) (sym same)
    (reading-holds ppm moments (fused_span_of taken.last) taken.clock time one taken.drift taken.no_earlier taken.in_time taken.can))

-- what was given of a look at what held the true time holds the true time
pub given-holds : {C Fault : Type 0} (gives : C → Option ℕ → C → Type 0) (ppm : ℕ) (old new : WatchState) (before after : C) (given : Result Interval Fault) (moments : List Moment) (published : List FusedSpan) (time : ℕ) →
    old.drift ≡ ppm → new.drift ≡ old.drift → AllByRecursion (HeldTrueTime moments) published → IsPrefix (map fused_span_of new.items) published → IsReadAt gives ppm moments new before after given time → IfOk given (λ reading. Holds reading time)
given-holds gives ppm old new before after (Err fault) moments published time same stays held begins at = tt
given-holds gives ppm old new before after (Ok reading) moments published time same stays held begins at =
    taken-holds gives ppm new before after reading moments published time (stays ∙ same) held begins at

pub look-holds : {C : Type 0} (gives : C → Option ℕ → C → Type 0) (failed : C → ℕ) (ppm : ℕ) (old new : WatchState) (before after : C) (answer : Result Interval ReadFault) (moments : List Moment) (published : List FusedSpan) (time : ℕ) →
    old.drift ≡ ppm → Looks gives failed old before answer new after → AllByRecursion (HeldTrueTime moments) published → IsPrefix (map fused_span_of new.items) published → IsReadAt gives ppm moments new before after answer time → IfOk answer (λ reading. Holds reading time)
look-holds gives failed ppm old new before after answer moments published time same looks held begins at =
    given-holds gives ppm old new before after answer moments published time same looks.same.1 held begins at
