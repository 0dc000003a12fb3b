-- How a schedule lets rounds begin.
use Rattle.std.proofs.Common.{◌≡◌, ◌↔◌, ℕ, zero, suc, ◌+◌, ◌<◌, ◌≤◌, inl, inr, Bool, true, false, IsTrue, List, Option, Result, Ok, Err, IfOk, OnErr, refl, sym, ◌∙◌, subst, arith, add-one}
use Rattle.tt_rounds.specs.Link.{Call, Gift, Exchange}
use Rattle.tt_rounds.specs.Course.{Stand, each_below, round_of, rounds_of}
use Rattle.tt_rounds.specs.Tallies.{refused_in}
use Rattle.tt_rounds.specs.declared.tallies.Tally.{Tally}
use Rattle.tt_rounds.specs.Making.{answer_of}
use Rattle.tt_rounds.specs.Reports.{Report, events_below, round_events, rounds_events, Reports}
use Rattle.tt_rounds.specs.Scheduling.{LetsBegin, EndsAfter}
use Rattle.tt_rounds.specs.declared.faults.NodeFault.{NodeFault}
use Rattle.tt_rounds.specs.declared.rounds.Rounds.{Rounds}
use Rattle.tt_rounds.specs.declared.schedules.CountedSchedule.{CountedSchedule}
use Rattle.tt_rounds.proofs.Leading.{Reports-ends_below}

-- one more round
pub Lets-more : {P : Type 0} (says : P → Rounds → Bool → P → Type 0) (before mid after : P) (n : ℕ) (did : Rounds) (goes : Bool)
    → LetsBegin says before n mid → did.done ≡ n → says mid did goes after → goes ≡ true → LetsBegin says before (n + 1) after
Lets-more says before mid after n did goes lets is said on =
    rw add-one (mid, did, lets, is, subst (λ b. says mid did b after) on said)

-- a schedule that counts
abbrev pub counts : CountedSchedule → Rounds → Bool → CountedSchedule → Type 0
counts schedule did goes after = (IsTrue goes ↔ did.done < schedule.rounds) × (after ≡ schedule)

-- it lets so many rounds begin at most, and stays as it is
pub counts-few : (n : ℕ) (before after : CountedSchedule) → LetsBegin counts before n after → (after ≡ before) × (n ≤ before.rounds)
counts-few zero before after is = (is, omega arith)
counts-few (suc n) before after (mid, did, lets, done, said) =
    let (unchanged, few) = counts-few n before mid lets in
    (said.1 ∙ unchanged, omega (arith, subst (λ p. did.done < p.rounds) unchanged (said.0.0 refl), done))

untrue : IsTrue false → ⊥
untrue is = cc

-- and ends after just so many
pub counts-all : (rounds : ℕ) (before after : CountedSchedule) (did : Rounds) → before.rounds ≡ rounds → rounds ≤ 4294967295 → EndsAfter counts before did after → did.done ≡ rounds
counts-all rounds before after did is most (mid, lets, inl said) =
    let (unchanged, few) = counts-few did.done before mid lets in
    omega (arith, few, is, subst (λ p. did.done < p.rounds → ⊥) unchanged (λ below. untrue (said.0.1 below)))
counts-all rounds before after did is most (mid, lets, inr (full, same)) =
    let (unchanged, few) = counts-few did.done before mid lets in
    omega (arith, few, is, full, most)

-- what is told of the counts, and how many rounds it lets
pub told-counts : (tally : Tally) (n : ℕ) (result : Result Rounds NodeFault) → IfOk result (λ did. (did.tally ≡ tally) × (did.refused ≡ refused_in tally) × (did.done ≡ n)) → IfOk result (λ did. (did.tally ≡ tally) × (did.refused ≡ refused_in tally))
told-counts tally n (Ok did) told = (told.0, told.1)
told-counts tally n (Err fault) told = tt

pub counted-done : (rounds : ℕ) (schedule schedule' : CountedSchedule) (result : Result Rounds NodeFault) → schedule.rounds ≡ rounds → rounds ≤ 4294967295
    → IfOk result (λ did. EndsAfter counts schedule did schedule') → IfOk result (λ did. did.done ≡ rounds)
counted-done rounds schedule schedule' (Ok did) is most ends = counts-all rounds schedule schedule' did is most ends
counted-done rounds schedule schedule' (Err fault) is most ends = tt

-- so many rounds that this schedule let begin are the course of the rounds that it counts
module _ {C L : Type 0} (gives : C → Option ℕ → C → Type 0) (does : L → Call → Gift → L → Type 0) where
  pub counted-course : (rounds turns n : ℕ) (tally : Tally) (schedule schedule' : CountedSchedule) (clock clock' : C) (link link' : L) (from to : List Exchange → Stand) (result : Result Rounds NodeFault) (old new : Report)
      → schedule.rounds ≡ rounds → rounds ≤ 4294967295 → IfOk result (λ did. (did.tally ≡ tally) × (did.refused ≡ refused_in tally) × (did.done ≡ n)) → OnErr result (LetsBegin counts schedule n schedule')
      → IfOk result (λ did. EndsAfter counts schedule did schedule')
      → Reports gives does (rounds_of n turns) (rounds_events n turns) clock clock' link link' from to (answer_of result) old new
      → Reports gives does (rounds_of rounds turns) (rounds_events rounds turns) clock clock' link link' from to (answer_of result) old new
  unfolding rounds_of rounds_events
  counted-course rounds turns n tally schedule schedule' clock clock' link link' from to (Ok did) old new is most done lets ends made =
      subst (λ k. Reports gives does (each_below k (λ _. round_of turns)) (events_below k (λ _. round_of turns) (λ _. round_events turns)) clock clock' link link' from to (Ok tt) old new) (sym done.2 ∙ counts-all rounds schedule schedule' did is most ends) made
  counted-course rounds turns n tally schedule schedule' clock clock' link link' from to (Err fault) old new is most done lets ends made =
      Reports-ends_below gives does n rounds _ _ _ _ _ _ _ _ _ _ _ (omega (arith, (counts-few n schedule schedule' lets).1, is)) made
