-- A file with one number as its owner sees it, what a crash may leave of it, and what the calls of a store do.
use Rattle.std.specs.Prelude.{◌≡◌, ◌⊎◌, ◌≤◌, ℕ, List, [], ◌∷◌, Option, Some, None, Result, Ok, Err}
use Rattle.tt_files.specs.declared.reasons.Reason.{Reason}
use Rattle.tt_epoch.specs.declared.stores.ReadFault.{ReadFault}
use Rattle.tt_epoch.specs.declared.stores.ReadFault.TheVariants.{Failed, Foreign}

-- what is known of the draft: nothing, that it was written, or that it was written and synced
pub data Draft : Type 0 where
  Unknown : Draft
  Loose : ℕ → Draft
  Firm : ℕ → Draft

-- what a read gives, each file that a crash may leave, and the draft
pub record Disk : Type 0 where
  pub shown : Option ℕ
  pub left : List (Option ℕ)
  pub draft : Draft

-- what a store is asked for
pub data Call : Type 0 where
  Read : Call
  Write : ℕ → Call
  SyncDraft : Call
  Install : Call
  SyncFolder : Call

-- what a store gives: a number or none, that what it holds is not its own, that a call was done, or why it failed
pub data Gift : Type 0 where
  Gave : Option ℕ → Gift
  NotOwn : Gift
  Done : Gift
  Broke : Reason → Gift

-- what a read gave
abbrev pub gave_as : Result (Option ℕ) ReadFault → Gift
gave_as (Ok file) = Gave file
gave_as (Err Foreign) = NotOwn
gave_as (Err (Failed reason)) = Broke reason

-- what another call gave
abbrev pub done_as : Result (Unit {0}) Reason → Gift
done_as (Ok _) = Done
done_as (Err reason) = Broke reason

-- the number of a file: 0 where there is none
abbrev pub number_of : Option ℕ → ℕ
number_of None = 0
number_of (Some n) = n

-- a draft that was synced is what was written
abbrev pub synced_draft : Draft → Draft
synced_draft (Loose n) = Firm n
synced_draft draft = draft

-- a synced draft takes the place of the file, and until the folder is synced a crash may leave either; of another draft nothing is known
abbrev pub Replaces : Draft → Disk → Disk → Type 0
Replaces (Firm n) before after = after ≡ record { shown = Some n; left = Some n ∷ before.left; draft = Unknown }
Replaces _ before after = Unit {0}

-- it may have taken the place of the file, or a crash may show that it has
abbrev pub MayReplace : Draft → Disk → Disk → Type 0
MayReplace (Firm n) before after = (after ≡ record { shown = Some n; left = Some n ∷ before.left; draft = Unknown })
    ⊎ (after ≡ record { shown = before.shown; left = Some n ∷ before.left; draft = Unknown })
MayReplace _ before after = Unit {0}

-- what a disk may give to a call, and the disk after it
abbrev pub Gives : Disk → Call → Gift → Disk → Type 0
Gives before Read (Gave file) after = (file ≡ before.shown) × (after ≡ before)
Gives before Read NotOwn after = after ≡ before
Gives before Read (Broke reason) after = after ≡ before
Gives before (Write n) Done after = after ≡ record before { draft = Loose n }
Gives before (Write n) (Broke reason) after = after ≡ record before { draft = Unknown }
Gives before SyncDraft Done after = after ≡ record before { draft = synced_draft before.draft }
Gives before SyncDraft (Broke reason) after = after ≡ record before { draft = Unknown }
Gives before Install Done after = Replaces before.draft before after
Gives before Install (Broke reason) after = MayReplace before.draft before after
Gives before SyncFolder Done after = after ≡ record before { left = before.shown ∷ [] }
Gives before SyncFolder (Broke reason) after = after ≡ before
Gives _ _ _ _ = ⊥

-- none of these files has a number below k
abbrev pub AllFrom : ℕ → List (Option ℕ) → Type 0
AllFrom k [] = Unit {0}
AllFrom k (file ∷ files) = (k ≤ number_of file) × AllFrom k files

-- neither a read nor a crash gives a number below k
pub record Bound (k : ℕ) (disk : Disk) : Type 0 where
  pub shown : k ≤ number_of disk.shown
  pub left : AllFrom k disk.left
