-- A history that is swept in the order in which its commits began.
use Rattle.std.proofs.Common.{◌≡◌, ℕ, ◌+◌, ◌<◌, ◌≤◌, inl, inr, List, length, take, refl, sym, subst, ap, arith, ◌∙◌, Option, Some, None}
use Rattle.std.specs.Prelude.{Bool, false, count_by, is_some, MatchOption}
use Rattle.std.specs.Int.{from_bool}
use Rattle.std.specs.Option.{option_or}
use Rattle.std.proofs.lemmas.Bool.{cases_lt}
use Rattle.std.proofs.lemmas.List.{take_all}
use Rattle.std.proofs.lemmas.List.Sums.{count_by_more_yes, count_by_more_no}
use Rattle.tt_judge.specs.declared.history.Commit.{Commit}
use Rattle.tt_judge.specs.declared.judging.Violation.{Violation}
use Rattle.tt_judge.specs.declared.order.Moment.TheVariants.{Began, Ended}
use Rattle.tt_judge.specs.Consistency.{commit_at, Contradicts, IsConsistent, is_violated, violations_of, IsGreatestBefore, IsFirstViolation}
use Rattle.tt_judge.specs.Order.{entry_at, IsOrderOf, IsGreatestIfAny}
use Rattle.tt_judge.specs.Sweep.{IsLeader, IsPassed, IsVerdict, IsFirstSoFar}
use Rattle.tt_judge.proofs.Deciding.{is_violated-true, is_violated-false, not-IsViolated}

-- the leader of the ends that lie before a time
module _ (history : List Commit) (endings : List (ℕ × ℕ)) (order : IsOrderOf Ended history endings) (time count : ℕ)
    (before : (place : ℕ) → place < count → (entry_at endings place).0 < time)
    (after : (place : ℕ) → count ≤ place → place < length endings → time ≤ (entry_at endings place).0) where
  -- a commit that ended before the time is among those that were passed
  passed_place : (number : ℕ) → number < length history → (commit_at history number).ended < time → (place : ℕ) × (place < count) × ((entry_at endings place).1 ≡ number)
  passed_place number inside early =
      let w = order.all number inside in
      let timed : (entry_at endings w.0).0 ≡ (commit_at history number).ended = order.timed w.0 w.1 ∙ ap (λ (n : ℕ). (commit_at history n).ended) w.2 in
      elim (cases_lt w.0 count) [
        | inl passed ↦ (w.0, passed, w.2)
        | inr late ↦ absurd (omega (arith, after w.0 late w.1, timed))
      ]

  pub greatest-passed : (greatest : Option ℕ) → IsPassed history endings count greatest → IsGreatestIfAny history time greatest
  greatest-passed None passed = λ number inside early.
      let w = passed_place number inside early in
      let none : count ≡ 0 = passed.leader in
      absurd (omega (arith, w.1))
  greatest-passed (Some number) passed =
      let leader : IsLeader history endings count number = passed.leader in
      let within : leader.place < length endings = omega (arith, leader.among, passed.within) in
      let timed : (entry_at endings leader.place).0 ≡ (commit_at history number).ended = order.timed leader.place within ∙ ap (λ (n : ℕ). (commit_at history n).ended) leader.is in
      record {
        inside = subst (λ (n : ℕ). n < length history) leader.is (order.inside leader.place within);
        before = omega (arith, before leader.place leader.among, timed);
        greatest = λ other inside early.
            let w = passed_place other inside early in
            subst (λ (n : ℕ). (commit_at history n).stamp ≤ (commit_at history number).stamp) w.2 (leader.leads w.0 w.1).stamps;
        lowest = λ other inside early.
            let w = passed_place other inside early in
            subst (λ (n : ℕ). (commit_at history n).stamp ≡ (commit_at history number).stamp → number ≤ n) w.2 (leader.leads w.0 w.1).ties;
      }

-- ends from a place on lie no earlier than one there
pub after-ascends : (history : List Commit) (endings : List (ℕ × ℕ)) (time count : ℕ) → IsOrderOf Ended history endings → (count < length endings → time ≤ (entry_at endings count).0) →
    (place : ℕ) → count ≤ place → place < length endings → time ≤ (entry_at endings place).0
after-ascends history endings time count order here place from inside =
    let step = order.ascends count place from inside in
    omega (arith, step.keys, here (omega arith))

-- no end has been passed before the first
pub IsPassed-none : (history : List Commit) (endings : List (ℕ × ℕ)) → IsPassed history endings 0 None
IsPassed-none history endings = record { within = omega arith; leader = refl }

-- a commit that no other contradicts
module _ (history : List Commit) (later : ℕ) where
  pub verdict-none : IsGreatestIfAny history (commit_at history later).began None → is_violated history (commit_at history later) ≡ false
  verdict-none none = is_violated-false history (commit_at history later) (λ w. none w.0 w.1 w.2.before)

  pub verdict-above : (earlier : ℕ) → IsGreatestBefore history (commit_at history later).began earlier → (commit_at history earlier).stamp < (commit_at history later).stamp → is_violated history (commit_at history later) ≡ false
  verdict-above earlier greatest above =
      is_violated-false history (commit_at history later) (λ w. omega (arith, greatest.greatest w.0 w.1 w.2.before, w.2.stamps))

  -- and one that the greatest before it contradicts
  pub verdict-some : (earlier : ℕ) → IsGreatestBefore history (commit_at history later).began earlier → (commit_at history later).stamp ≤ (commit_at history earlier).stamp →
      IsVerdict history later (Some (record { later = later; earlier = earlier }))
  verdict-some earlier greatest below =
      let against : Contradicts (commit_at history earlier) (commit_at history later) = record { before = greatest.before; stamps = below } in
      (refl, is_violated-true history (commit_at history later) (earlier, greatest.inside, against), against, greatest)

abbrev pub entry_fails : List Commit → ℕ × ℕ → Bool
entry_fails history entry = is_violated history (commit_at history entry.1)

-- the first commits of an order have been judged
pub record IsJudged (history : List Commit) (arrivals endings : List (ℕ × ℕ)) (judged count : ℕ) (greatest : Option ℕ) (violations : ℕ) (first : Option Violation) : Type 0 where
  pub passed : IsPassed history endings count greatest
  pub before : (place : ℕ) → place < count → (later : ℕ) → judged ≤ later → later < length arrivals → (entry_at endings place).0 < (entry_at arrivals later).0
  pub counted : violations ≡ count_by (entry_fails history) (take judged arrivals)
  pub few : violations ≤ judged
  pub found : IsFirstSoFar history arrivals judged first

module _ (history : List Commit) (arrivals endings : List (ℕ × ℕ)) (order : IsOrderOf Began history arrivals) where
  first_more : (judged : ℕ) (first verdict : Option Violation) → IsFirstSoFar history arrivals judged first → IsVerdict history (entry_at arrivals judged).1 verdict →
      IsFirstSoFar history arrivals (judged + 1) (option_or first verdict)
  first_more judged (Some violation) verdict (place, among, is, none) now = (place, omega arith, is, none)
  first_more judged None (Some violation) none now = (judged, omega arith, now, none)
  first_more judged None None none now = λ place inside.
      elim (cases_lt place judged) [
        | inl before ↦ none place before
        | inr here ↦
            let same : judged ≡ place = omega arith in
            subst (λ (p : ℕ). is_violated history (commit_at history (entry_at arrivals p).1) ≡ false) same now
      ]

  counted_more : (judged : ℕ) (verdict : Option Violation) → judged < length arrivals → IsVerdict history (entry_at arrivals judged).1 verdict →
      count_by (entry_fails history) (take (judged + 1) arrivals) ≡ count_by (entry_fails history) (take judged arrivals) + from_bool (is_some verdict)
  counted_more judged None inside now = count_by_more_no (entry_fails history) arrivals judged (0, 0) inside now ∙ omega arith
  counted_more judged (Some violation) inside now = count_by_more_yes (entry_fails history) arrivals judged (0, 0) inside now.1

  one_at_most : (verdict : Option Violation) → from_bool (is_some verdict) ≤ 1
  one_at_most None = omega arith
  one_at_most (Some violation) = omega arith

  pub IsJudged-more : (judged count violations count' : ℕ) (greatest greatest' : Option ℕ) (first verdict : Option Violation) (time : ℕ) → judged < length arrivals → time ≡ (entry_at arrivals judged).0 →
      IsJudged history arrivals endings judged count greatest violations first → IsPassed history endings count' greatest' →
      ((place : ℕ) → place < count' → (entry_at endings place).0 < time) → IsVerdict history (entry_at arrivals judged).1 verdict →
      IsJudged history arrivals endings (judged + 1) count' greatest' (violations + from_bool (is_some verdict)) (option_or first verdict)
  IsJudged-more judged count violations count' greatest greatest' first verdict time inside is so_far passed before now = record {
    passed = passed;
    before = λ place among later from within.
        let step = order.ascends judged later (omega arith) within in
        omega (arith, before place among, step.keys);
    counted = omega (arith, counted_more judged verdict inside now, so_far.counted);
    few = omega (arith, one_at_most verdict, so_far.few);
    found = first_more judged first verdict so_far.found now;
  }

  -- all have been judged
  pub violations-whole : (violations : ℕ) → violations ≡ count_by (entry_fails history) (take (length arrivals) arrivals) → violations ≡ violations_of history
  violations-whole violations counted =
      let all : take (length arrivals) arrivals ≡ arrivals = take_all (length arrivals) arrivals (omega arith) in
      counted ∙ (ap (λ (es : List (ℕ × ℕ)). count_by (entry_fails history) es) all ∙ order.counts (is_violated history))

  pub first-whole : (first : Option Violation) → IsFirstSoFar history arrivals (length arrivals) first → MatchOption first (IsConsistent history) (IsFirstViolation history)
  first-whole None none = λ number inside violated.
      let w = order.all number inside in
      let fails : is_violated history (commit_at history number) ≡ false = subst (λ (n : ℕ). is_violated history (commit_at history n) ≡ false) w.2 (none w.0 w.1) in
      not-IsViolated history (commit_at history number) fails violated
  first-whole (Some violation) (place, among, (same, fails, against, greatest), none) =
      let timed : (entry_at arrivals place).0 ≡ (commit_at history violation.later).began = order.timed place among ∙ ap (λ (n : ℕ). (commit_at history n).began) (sym same) in
      record {
        inside = subst (λ (n : ℕ). n < length history) (sym same) (order.inside place among);
        contradicts = subst (λ (n : ℕ). Contradicts (commit_at history violation.earlier) (commit_at history n)) (sym same) against;
        earlier = subst (λ (n : ℕ). IsGreatestBefore history (commit_at history n).began violation.earlier) (sym same) greatest;
        first = λ other inside violated.
            let w = order.all other inside in
            let other_timed : (entry_at arrivals w.0).0 ≡ (commit_at history other).began = order.timed w.0 w.1 ∙ ap (λ (n : ℕ). (commit_at history n).began) w.2 in
            let not_before : w.0 < place → ⊥ = λ less.
            not-IsViolated history (commit_at history other) (subst (λ (n : ℕ). is_violated history (commit_at history n) ≡ false) w.2 (none w.0 less)) violated in
            let le : place ≤ w.0 = elim (cases_lt w.0 place) [ inl less ↦ absurd (not_before less) | inr more ↦ more ] in
            let step = order.ascends place w.0 le w.1 in
            let key : (entry_at arrivals place).0 ≤ (entry_at arrivals w.0).0 = step.keys in
            let tie : (entry_at arrivals place).0 ≡ (entry_at arrivals w.0).0 → (entry_at arrivals place).1 ≤ (entry_at arrivals w.0).1 = step.ties in
            record {
              keys = omega (arith, key, timed, other_timed);
              ties = λ equal.
                  let entries : (entry_at arrivals place).0 ≡ (entry_at arrivals w.0).0 = omega (arith, timed, other_timed) in
                  let number : (entry_at arrivals w.0).1 ≡ other = w.2 in
                  omega (arith, tie entries, same, number);
            };
      }

-- nothing has been judged at first
pub IsJudged-none : (history : List Commit) (arrivals endings : List (ℕ × ℕ)) → IsJudged history arrivals endings 0 0 None 0 None
IsJudged-none history arrivals endings = record {
  passed = IsPassed-none history endings;
  before = λ place among. absurd (omega arith);
  counted = refl;
  few = omega arith;
  found = λ place among. absurd (omega arith);
}
