-- What the program writes, and how it ends.
use Rattle.std.specs.Prelude.{◌≡◌, ◌⊎◌, ℕ, Bool, true, List, [], ◌∷◌, ◌++◌, codes, decimal, take, Option}
use Rattle.std.specs.Io.KnownBytes.{Appends}
use Rattle.tt_stream.specs.Counts.{HasFailed}
use Rattle.tt_stream.specs.declared.device.ByteWriter as writer
use Rattle.ttd_words.specs.declared.ending.Status.{Status}
use Rattle.ttd_words.specs.declared.ending.Status.TheVariants.{Fine, Memory, Bad, Broken, Device, Pending}

-- The status as a number.
abbrev pub code_of : Status → ℕ
code_of Fine = 0
code_of Memory = 1
code_of Bad = 2
code_of Broken = 3
code_of Device = 4
code_of Pending = 5

-- What is written to the output, and the status with which the program ends.
pub record Answer : Type 0 where
  pub text : List ℕ
  pub status : Status

-- The text after which the program ends as fine.
abbrev pub fine : List ℕ → Answer
fine text = record { text = text; status = Fine }

-- The one line of a refusal.
abbrev pub refusal_line : ℕ → List ℕ
refusal_line number = codes "refused " ++ (decimal number ++ 10 ∷ [])

-- Of a refusal the one line is written, and the program ends so.
abbrev pub refusal : ℕ → Status → Answer
refusal number status = record { text = refusal_line number; status = status }

-- What the output shows: the bytes that were written, where the device keeps them, its failures so far, and whether it holds none of the
-- bytes back.
pub record Output : Type 0 where
  pub taken : Option (List ℕ)
  pub failed : ℕ
  pub flushed : Bool

-- What a writer shows.
abbrev pub output_of : {W : Type 0} → writer.Ghosts W → W → Output
output_of shows device = record { taken = shows.taken device; failed = shows.failed device; flushed = shows.flushed device }

-- The output gained exactly the answer's text and was flushed, no write failed, and the program ends with the answer's status.
pub record IsWritten (answer : Answer) (old new : Output) (status : Status) : Type 0 where
  pub status_is : status ≡ answer.status
  pub text : Appends old.taken new.taken answer.text
  pub flushed : new.flushed ≡ true
  pub sound : new.failed ≡ old.failed

-- A write or the flush failed: the output gained a front of the answer's text, and the program ends with a device fault.
pub record IsCutShort (answer : Answer) (old new : Output) (status : Status) : Type 0 where
  pub status_is : status ≡ Device
  pub front : (n : ℕ) × Appends old.taken new.taken (take n answer.text)
  pub failed : HasFailed old.failed new.failed

-- The answer was written, unless the output failed.
abbrev pub Gives : Answer → Output → Output → Status → Type 0
Gives answer old new status = IsWritten answer old new status ⊎ IsCutShort answer old new status
