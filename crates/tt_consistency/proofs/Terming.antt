-- The commits that are made in the terms of a shard.
use Rattle.std.proofs.Common.{◌≡◌, ℕ, ◌<◌, ◌≤◌, List, [], ◌∷◌, Bool, Option, Some, ⊎_elim, inr, refl, sym, ap, ◌∙◌, subst, arith, All}
use Rattle.std.specs.Prelude.{slice_get}
use Rattle.std.proofs.lemmas.Bool.{cases_order}
use Rattle.std.proofs.lemmas.List.Elements.{All-contains, All-nil, All-cons}
use Rattle.std.proofs.lemmas.Option.{same_Some}
use Rattle.tt_span.specs.Interval.{Interval, IsInterval, Holds, Meets}
use Rattle.tt_span.specs.Time.{max_time}
use Rattle.tt_judge.specs.Terms.{CrossesTerm, HasNoConflict}
use Rattle.tt_judge.specs.declared.history.ShardCommit.{ShardCommit}
use Rattle.tt_judge.specs.declared.terms.Rule.TheVariants.{Terms}
use Rattle.tt_stamp.proofs.Ids.{Contains-here}
use Rattle.tt_connections.specs.declared.presence.Question.{Question}
use Rattle.tt_consistency.specs.Stampers.{GivenStamp}
use Rattle.tt_consistency.specs.Terms.{Grant, AreGrantedInTurn, IsGrantedTo, IsGivenBySession, IsGivenByStamper, IsGivenUnder, IsGivenAt, IsMadeInTerm}
use Rattle.tt_consistency.proofs.BesideSessions.{stamper-leased}
use Rattle.tt_consistency.proofs.Leasing.{session-leased}

-- ---- two grants of a shard
-- at one place stands one grant
same-grant : (grants : List Grant) (place other_place : ℕ) (one other : Grant) → slice_get grants place ≡ Some one → slice_get grants other_place ≡ Some other → place ≡ other_place → one ≡ other
same-grant grants place other_place one other at other_at same =
    same_Some one other (sym at ∙ (ap (slice_get grants) same ∙ other_at))

-- the lease of a later term begins above the end of an earlier term's
terms-apart : (grants : List Grant) (place other_place : ℕ) (one other : Grant) → AreGrantedInTurn grants → slice_get grants place ≡ Some one → slice_get grants other_place ≡ Some other → one.term < other.term → one.lease.hi < other.lease.lo
terms-apart grants place other_place one other in_turn at other_at less =
    ⊎_elim
    (λ same. let is : one.term ≡ other.term = ap (λ (g : Grant). g.term) (same-grant grants place other_place one other at other_at same) in absurd (omega (arith, is, less)))
    (λ apart.
    ⊎_elim
    (λ before. (in_turn place other_place one other before at other_at).lease)
    (λ behind. let falls : other.term ≤ one.term = (in_turn other_place place other one behind other_at at).term in absurd (omega (arith, falls, less)))
    apart)
    (cases_order place other_place)

-- so of times in leases that were granted to two terms the one of the later term is greater
terms-ordered : (grants : List Grant) (term later_term time later_time : ℕ) (lease later_lease : Interval) → AreGrantedInTurn grants → IsGrantedTo grants term lease → IsGrantedTo grants later_term later_lease → Holds lease time → Holds later_lease later_time → term < later_term → time < later_time
terms-ordered grants term later_term time later_time lease later_lease in_turn granted later_granted inside later_inside less =
    let one = granted time inside in
    let other = later_granted later_time later_inside in
    let ends : one.1.lease.hi < other.1.lease.lo = terms-apart grants one.0 other.0 one.1 other.1 in_turn one.2 other.2 (omega (arith, one.3, other.3, less)) in
    omega (arith, one.4.1, other.4.0, ends)

-- ---- a stamp
module _ {C V : Type 0} (gives : C → Option ℕ → C → Type 0) (failed : C → ℕ) (says : V → Question → Bool → Type 0) where
  -- it lies in the lease under which it was given
  under-lease : (lease : Interval) (stamp : ℕ) → IsGivenUnder gives failed says lease stamp → Holds lease stamp
  under-lease lease stamp given =
      ⊎_elim
      (λ (by : IsGivenBySession gives failed says lease stamp). session-leased gives failed says by.session by.place lease.lo lease.hi by.later by.number stamp by.leased.leases by.leased.begins by.leased.after by.leased.none)
      (λ (by : IsGivenByStamper lease stamp). subst (Holds lease) by.is (stamper-leased (record { lease = lease; given = by.all }) by.given by.rule by.there))
      given

  -- and in that of the grant
  in-grant : (grants : List Grant) (place stamp : ℕ) (at : IsGivenAt gives failed says grants place stamp) → Holds at.grant.lease stamp
  in-grant grants place stamp at =
      let inside = under-lease at.lease stamp at.given in
      (omega (arith, at.part.0, inside.0), omega (arith, at.part.1, inside.1))

-- ---- two stamps, of any sessions and stampers
module _ {C V D W : Type 0} (gives : C → Option ℕ → C → Type 0) (failed : C → ℕ) (says : V → Question → Bool → Type 0) (gives' : D → Option ℕ → D → Type 0) (failed' : D → ℕ) (says' : W → Question → Bool → Type 0) where
  pub terms-rise : (grants : ℕ → List Grant) (earlier later : ShardCommit) → AreGrantedInTurn (grants earlier.shard) → IsMadeInTerm gives failed says grants earlier → IsMadeInTerm gives' failed' says' grants later → earlier.shard ≡ later.shard → earlier.term < later.term → earlier.stamp < later.stamp
  terms-rise grants earlier later in_turn made later_made same less =
      let granted : IsGrantedTo (grants earlier.shard) later.term later_made.lease = subst (λ (shard : ℕ). IsGrantedTo (grants shard) later.term later_made.lease) (sym same) later_made.granted in
      terms-ordered (grants earlier.shard) earlier.term later.term earlier.stamp later.stamp made.lease later_made.lease in_turn made.granted granted
      (under-lease gives failed says made.lease earlier.stamp made.given) (under-lease gives' failed' says' later_made.lease later.stamp later_made.given) less

  pub grants-rise : (grants : List Grant) (place stamp later_place later_stamp : ℕ) → AreGrantedInTurn grants → IsGivenAt gives failed says grants place stamp → IsGivenAt gives' failed' says' grants later_place later_stamp → place < later_place → stamp < later_stamp
  grants-rise grants place stamp later_place later_stamp in_turn at later_at before =
      let inside = in-grant gives failed says grants place stamp at in
      let later_inside = in-grant gives' failed' says' grants later_place later_stamp later_at in
      let ends : at.grant.lease.hi < later_at.grant.lease.lo = (in_turn place later_place at.grant later_at.grant before at.there later_at.there).lease in
      omega (arith, inside.1, later_inside.0, ends)

pub grants-apart : {C V D W : Type 0} (gives : C → Option ℕ → C → Type 0) (failed : C → ℕ) (says : V → Question → Bool → Type 0) (gives' : D → Option ℕ → D → Type 0) (failed' : D → ℕ) (says' : W → Question → Bool → Type 0)
    (grants : List Grant) (place stamp other_place other_stamp : ℕ) → AreGrantedInTurn grants → IsGivenAt gives failed says grants place stamp → IsGivenAt gives' failed' says' grants other_place other_stamp → (place ≡ other_place → ⊥) → stamp ≡ other_stamp → ⊥
grants-apart gives failed says gives' failed' says' grants place stamp other_place other_stamp in_turn at other_at differ same =
    ⊎_elim
    differ
    (λ apart.
    ⊎_elim
    (λ before. let less : stamp < other_stamp = grants-rise gives failed says gives' failed' says' grants place stamp other_place other_stamp in_turn at other_at before in omega (arith, less, same))
    (λ behind. let less : other_stamp < stamp = grants-rise gives' failed' says' gives failed says grants other_place other_stamp place stamp in_turn other_at at behind in omega (arith, less, same))
    apart)
    (cases_order place other_place)

-- ---- a history
pub terms-judged : {C V : Type 0} (gives : C → Option ℕ → C → Type 0) (failed : C → ℕ) (says : V → Question → Bool → Type 0) (grants : ℕ → List Grant) (commits : List ShardCommit) → ((shard : ℕ) → AreGrantedInTurn (grants shard)) → All (IsMadeInTerm gives failed says grants) commits → HasNoConflict Terms commits
terms-judged gives failed says grants commits in_turn made later among conflict =
    let earlier = conflict.0 in
    let earlier_made : IsMadeInTerm gives failed says grants earlier = All-contains (IsMadeInTerm gives failed says grants) commits earlier made conflict.1 in
    let later_made : IsMadeInTerm gives failed says grants later = All-contains (IsMadeInTerm gives failed says grants) commits later made among in
    let rises : earlier.stamp < later.stamp = terms-rise gives failed says gives failed says grants earlier later (in_turn earlier.shard) earlier_made later_made conflict.2.shard conflict.2.terms in
    omega (arith, rises, conflict.2.stamps)

-- ---- a stamper that gives one stamp: the least that is no less than its reading's latest and the beginning of its lease
pub gives-one : (lease reading : Interval) (read stamp : ℕ) → stamp ≤ max_time → reading.hi ≤ stamp → lease.lo ≤ stamp → stamp ≤ lease.hi → ((t : ℕ) → reading.hi ≤ t → lease.lo ≤ t → stamp ≤ t) → IsGivenByStamper lease stamp
gives-one lease reading read stamp in_time latest begins ends least =
    let given : GivenStamp = record { reading = reading; read = read; floor = 0; stamp = stamp } in
    record {
      all = given ∷ [];
      rule = (
        (
          λ far. omega (arith, far),
          record {
            may_give = record { in_time = in_time; from_latest = latest; from_floor = omega arith; from_lease = begins; above_all = All-nil (λ (t : ℕ). t < stamp) };
            least = λ t may. least t may.from_latest may.from_lease;
          },
          ends,
        ),
        tt,
      );
      given = given;
      there = Contains-here given [];
      is = refl;
    }

-- so under leases that meet each of two terms may have a commit with a stamp that lies in both
pub terms-crossing : {C V : Type 0} (gives : C → Option ℕ → C → Type 0) (failed : C → ℕ) (says : V → Question → Bool → Type 0) (one other : Grant) → IsInterval one.lease → one.term < other.term → Meets one.lease other.lease
    → (earlier : ShardCommit) × (later : ShardCommit) × All (IsMadeInTerm gives failed says (λ (shard : ℕ). one ∷ other ∷ [])) (earlier ∷ later ∷ []) × CrossesTerm earlier later
terms-crossing gives failed says one other valid less (time, here, there) =
    let Made : ShardCommit → Type 0 = IsMadeInTerm gives failed says (λ (shard : ℕ). one ∷ other ∷ []) in
    let in_time : time ≤ max_time = omega (arith, here.1, valid.in_time) in
    let commit : ℕ → ShardCommit = λ term. record { shard = 0; term = term; stamp = time; number = term } in
    let given : (lease : Interval) → Holds lease time → IsGivenByStamper lease time = λ lease inside. gives-one lease (record { lo = time; hi = time }) time time in_time (omega arith) inside.0 inside.1 (λ t latest begins. latest) in
    let made : Made (commit one.term) = record { lease = one.lease; granted = λ at inside. (0, one, refl, refl, inside); given = inr (given one.lease here) } in
    let other_made : Made (commit other.term) = record { lease = other.lease; granted = λ at inside. (1, other, refl, refl, inside); given = inr (given other.lease there) } in
    (commit one.term, commit other.term, All-cons Made (commit one.term) (commit other.term ∷ []) made (All-cons Made (commit other.term) [] other_made (All-nil Made)), record { shard = refl; terms = less; stamps = omega arith })
