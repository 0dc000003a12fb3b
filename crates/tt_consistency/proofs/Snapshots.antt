-- A snapshot that is readable holds every commit up to its time, and no later one becomes visible there.
use Rattle.std.proofs.Common.{◌≡◌, ◌⊎◌, ℕ, ◌<◌, ◌≤◌, List, [], ◌∷◌, ◌++◌, Ok, ⊎_elim, inl, inr, sym, refl, subst, arith, All, Contains}
use Rattle.std.proofs.lemmas.List.Elements.{All-contains, All-cons, All-nil, Contains-append_cases, Contains-append_left, Contains-append_right}
use Rattle.tt_span.specs.Interval.{Interval, Holds}
use Rattle.tt_stamp.proofs.Ids.{Contains-here, Contains-there, Contains-nil, Contains-cases}
use Rattle.tt_stamp.proofs.Stamps.{IsAnswer-stamp_of}
use Rattle.tt_consistency.specs.Stampers.{GivenStamp, FollowsRule, Stamper, IsRightStamper}
use Rattle.tt_consistency.specs.Snapshots.{CommitTable, IsEnded, AreEndedUpTo, IsMadeReadable, Becomes, ShowTheSame}
use Rattle.tt_consistency.proofs.BesideSessions.{stamper-latest}

-- a commit whose reading was taken later has a stamp above t
later-above : (stamper : Stamper) (table after : CommitTable) (t : ℕ) (made : IsMadeReadable table t) → IsRightStamper stamper → stamper.given ≡ after.begun → (becomes : Becomes made.read table after) → (given : GivenStamp) → Contains becomes.later given → t < given.stamp
later-above stamper table after t made right all becomes given there =
    let of_after : Contains (becomes.later ++ table.begun) given = Contains-append_left becomes.later table.begun given there in
    let of_stamper : Contains stamper.given given = subst (λ (l : List GivenStamp). Contains l given) (sym all) (subst (λ (l : List GivenStamp). Contains l given) (sym becomes.begun) of_after) in
    let holds : Holds given.reading given.read = All-contains (λ (g : GivenStamp). Holds g.reading g.read) stamper.given given right.hold of_stamper in
    let since : made.read ≤ given.read = All-contains (λ (g : GivenStamp). made.read ≤ g.read) becomes.later given becomes.since there in
    omega (arith, made.is_past, made.holds.0, since, holds.1, stamper-latest stamper given right.rule of_stamper)

-- each commit that is ever begun with a stamp up to t was ended when the snapshot was made readable
pub snapshot-whole : (stamper : Stamper) (table after : CommitTable) (t : ℕ) (made : IsMadeReadable table t) → IsRightStamper stamper → stamper.given ≡ after.begun → Becomes made.read table after → AreEndedUpTo table after.begun t
snapshot-whole stamper table after t made right all becomes given there up_to =
    ⊎_elim
    (λ later. absurd (omega (arith, later-above stamper table after t made right all becomes given later, up_to)))
    (λ before. made.ended given before up_to)
    (Contains-append_cases becomes.later table.begun given (subst (λ (l : List GivenStamp). Contains l given) becomes.begun there))

back : (table after : CommitTable) (s : ℕ) → ((g : ℕ) → Contains table.given_up g → ¬ Contains after.written g) → Contains after.written s → IsEnded table s → Contains table.written s
back table after s never written ended =
    ⊎_elim (λ there. there) (λ given_up. absurd (never s given_up written)) ended

-- so the snapshot shows the same for ever
pub snapshot-stays : (stamper : Stamper) (table after : CommitTable) (t : ℕ) (made : IsMadeReadable table t) → IsRightStamper stamper → stamper.given ≡ after.begun → Becomes made.read table after → ShowTheSame table after t
snapshot-stays stamper table after t made right all becomes s up_to = (
  becomes.stays s,
  λ written.
      let of : (given : GivenStamp) × Contains after.begun given × (given.stamp ≡ s) = becomes.of_begun s written in
      let from : of.0.stamp ≤ t = omega (arith, of.2, up_to) in
      back table after s becomes.never written (subst (IsEnded table) of.2 (snapshot-whole stamper table after t made right all becomes of.0 of.1 from)),
)
