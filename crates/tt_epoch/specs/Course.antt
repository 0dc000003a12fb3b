-- What is done to take the next epoch: one call after the other, each once the one before it is done.
use Rattle.std.specs.Prelude.{◌≡◌, ℕ, ◌+◌, ◌==◌, if◌then◌else◌, List, [], ◌∷◌, Option, Some, None, Result, MatchResult}
use Rattle.tt_files.specs.declared.reasons.Reason.TheVariants.{Other}
use Rattle.tt_epoch.specs.Disk.{Call, Read, Write, SyncDraft, Install, SyncFolder, Gift, Gave, NotOwn, Done, Broke, number_of}
use Rattle.tt_epoch.specs.declared.faults.EpochFault.{EpochFault}
use Rattle.tt_epoch.specs.declared.faults.EpochFault.TheVariants.{ReadFailed, WriteFailed, NotAnEpochFile, UsedUp}

-- what comes next: a call, or the end, with the epoch that is answered or the refusal
pub data Stage : Type 0 where
  Reads : Stage
  Writes : ℕ → Stage
  Syncs : ℕ → Stage
  Installs : ℕ → Stage
  Fixes : ℕ → Stage
  Answered : ℕ → Stage
  Over : EpochFault → Stage

-- the call of a stage, if it is not the end
abbrev pub call_at : Stage → Option Call
call_at Reads = Some Read
call_at (Writes n) = Some (Write n)
call_at (Syncs n) = Some SyncDraft
call_at (Installs n) = Some Install
call_at (Fixes n) = Some SyncFolder
call_at (Answered n) = None
call_at (Over fault) = None

-- one more is written, unless no number is left
abbrev pub next_of : ℕ → Stage
next_of n = if n == 18446744073709551615 then Over UsedUp else Writes (n + 1)

-- the stage after a gift: a call that was not done ends the start, with the reason that it gave
abbrev pub step_of : Stage → Gift → Stage
step_of Reads (Gave file) = next_of (number_of file)
step_of Reads NotOwn = Over NotAnEpochFile
step_of Reads (Broke reason) = Over (ReadFailed reason)
step_of Reads Done = Over (ReadFailed Other)
step_of (Writes n) Done = Syncs n
step_of (Syncs n) Done = Installs n
step_of (Installs n) Done = Fixes n
step_of (Fixes n) Done = Answered n
step_of _ (Broke reason) = Over (WriteFailed reason)
step_of _ _ = Over (WriteFailed Other)

-- the stage after some gifts, one after the other
abbrev pub stage_after : Stage → List Gift → Stage
stage_after stage [] = stage
stage_after stage (gift ∷ gifts) = stage_after (step_of stage gift) gifts

-- a call, where there is one, was given this
abbrev pub GivesAt : {S : Type 0} → (S → Call → Gift → S → Type 0) → Option Call → S → Gift → S → Type 0
GivesAt does None before gift after = ⊥
GivesAt does (Some call) before gift after = does before call gift after

-- from this stage on, a store that does so gave these, one after the other
abbrev pub Does : {S : Type 0} → (S → Call → Gift → S → Type 0) → Stage → S → List Gift → S → Type 0
Does does stage before [] after = after ≡ before
Does {S} does stage before (gift ∷ gifts) after = (mid : S) × GivesAt does (call_at stage) before gift mid × Does does (step_of stage gift) mid gifts after

-- from this stage on, a store gave what leads to this result: the epoch that is answered, or the refusal
abbrev pub Takes : {S : Type 0} → (S → Call → Gift → S → Type 0) → Stage → S → S → Result ℕ EpochFault → Type 0
Takes does stage before after result = (gifts : List Gift) × Does does stage before gifts after
    × MatchResult result (λ epoch. stage_after stage gifts ≡ Answered epoch) (λ fault. stage_after stage gifts ≡ Over fault)
