-- A course, one call after the other.
use Rattle.std.specs.Prelude.{◌≡◌, ℕ, List, [], ◌∷◌, ◌++◌, Option, Some, Result, Ok, Err}
use Rattle.std.proofs.Common.{refl, sym, subst, ap, ◌∙◌}
use Rattle.tt_files.specs.declared.reasons.Reason.{Reason}
use Rattle.tt_epoch.specs.Disk.{Call, Gift, Gave, Done, Broke, Read, gave_as, done_as, number_of}
use Rattle.tt_epoch.specs.Course.{Stage, Reads, Writes, Over, call_at, step_of, next_of, stage_after, GivesAt, Does, Takes}
use Rattle.tt_epoch.specs.declared.faults.EpochFault.{EpochFault}
use Rattle.tt_epoch.specs.declared.faults.EpochFault.TheVariants.{WriteFailed, UsedUp}
use Rattle.tt_epoch.specs.declared.stores.ReadFault.{ReadFault}

-- some gifts lead from one stage to another
abbrev pub Goes : {S : Type 0} → (S → Call → Gift → S → Type 0) → Stage → S → S → Stage → Type 0
Goes does start before after stage = (gifts : List Gift) × Does does start before gifts after × (stage_after start gifts ≡ stage)

does_more : {S : Type 0} (does : S → Call → Gift → S → Type 0) (stage : Stage) (before : S) (gifts : List Gift) (mid : S) (gift : Gift) (after : S)
    → Does does stage before gifts mid → GivesAt does (call_at (stage_after stage gifts)) mid gift after
    → Does does stage before (gifts ++ gift ∷ []) after
does_more does stage before [] mid gift after is gave = (after, subst (λ m. GivesAt does (call_at stage) m gift after) is gave, refl)
does_more does stage before (g ∷ gifts) mid gift after did gave =
    (did.0, did.1, does_more does (step_of stage g) did.0 gifts mid gift after did.2 gave)

stage_more : (stage : Stage) (gifts : List Gift) (gift : Gift) → stage_after stage (gifts ++ gift ∷ []) ≡ step_of (stage_after stage gifts) gift
stage_more stage [] gift = refl
stage_more stage (g ∷ gifts) gift = stage_more (step_of stage g) gifts gift

-- one call more
on : {S : Type 0} (does : S → Call → Gift → S → Type 0) (start : Stage) (before mid after : S) (stage next : Stage) (gift : Gift)
    → Goes does start before mid stage → GivesAt does (call_at stage) mid gift after → step_of stage gift ≡ next → Goes does start before after next
on does start before mid after stage next gift goes gave is = (
  goes.0 ++ gift ∷ [],
  does_more does start before goes.0 mid gift after goes.1 (subst (λ s. GivesAt does (call_at s) mid gift after) (sym goes.2) gave),
  stage_more start goes.0 gift ∙ (ap (λ s. step_of s gift) goes.2 ∙ is),
)

-- a call was done
pub done : {S : Type 0} (does : S → Call → Gift → S → Type 0) (start : Stage) (before mid after : S) (stage next : Stage) (call : Call) (result : Result (Unit {0}) Reason) (u : Unit {0})
    → Goes does start before mid stage → does mid call (done_as result) after → result ≡ Ok u → call_at stage ≡ Some call → step_of stage Done ≡ next
    → Goes does start before after next
done does start before mid after stage next call result u goes gave ok called is =
    on does start before mid after stage next Done goes
    (subst (λ c. GivesAt does c mid Done after) (sym called) (subst (λ r. does mid call (done_as r) after) ok gave)) is

-- a call failed
pub broke : {S : Type 0} (does : S → Call → Gift → S → Type 0) (start : Stage) (before mid after : S) (stage : Stage) (call : Call) (result : Result (Unit {0}) Reason) (reason : Reason)
    → Goes does start before mid stage → does mid call (done_as result) after → result ≡ Err reason → call_at stage ≡ Some call → step_of stage (Broke reason) ≡ Over (WriteFailed reason)
    → Goes does start before after (Over (WriteFailed reason))
broke does start before mid after stage call result reason goes gave err called is =
    on does start before mid after stage (Over (WriteFailed reason)) (Broke reason) goes
    (subst (λ c. GivesAt does c mid (Broke reason) after) (sym called) (subst (λ r. does mid call (done_as r) after) err gave)) is

-- nothing was read
pub unread : {S : Type 0} (does : S → Call → Gift → S → Type 0) (before after : S) (fault : ReadFault) (refusal : EpochFault)
    → does before Read (gave_as (Err fault)) after → step_of Reads (gave_as (Err fault)) ≡ Over refusal → Takes does Reads before after (Err refusal)
unread does before after fault refusal gave is = (gave_as (Err fault) ∷ [], (after, gave, refl), is)

-- no number is left
pub used_up : {S : Type 0} (does : S → Call → Gift → S → Type 0) (before after : S) (file : Option ℕ)
    → does before Read (Gave file) after → next_of (number_of file) ≡ Over UsedUp → Takes does Reads before after (Err UsedUp)
used_up does before after file gave is = (Gave file ∷ [], (after, gave, refl), is)

-- a number was read, and the next was taken
pub taken : {S : Type 0} (does : S → Call → Gift → S → Type 0) (before mid after : S) (file : Option ℕ) (next : ℕ) (result : Result ℕ EpochFault)
    → does before Read (Gave file) mid → next_of (number_of file) ≡ Writes next → Takes does (Writes next) mid after result → Takes does Reads before after result
taken does before mid after file next result gave is took =
    let there : Takes does (next_of (number_of file)) mid after result = subst (λ (s : Stage). Takes does s mid after result) (sym is) took in
    (Gave file ∷ there.0, (mid, gave, there.1), there.2)
