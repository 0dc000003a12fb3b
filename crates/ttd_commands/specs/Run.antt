-- What a run does to its input and its output.
use Rattle.std.specs.Prelude.{◌≡◌, ◌⊎◌, ◌<◌, ℕ, Bool, true, List, length, take, Option, IfSome, Result, Err}
use Rattle.std.specs.Io.KnownBytes.{Appends, IsAtEnd}
use Rattle.tt_stream.specs.Counts.{HasFailed}
use Rattle.tt_stream.specs.declared.device.ByteReader as reader
use Rattle.tt_stream.specs.declared.device.ByteWriter as writer
use Rattle.ttd_words.specs.declared.ending.Status.{Status}
use Rattle.ttd_words.specs.declared.ending.Status.TheVariants.{Device}
use Rattle.ttd_commands.specs.declared.faults.Fault.{Fault}
use Rattle.ttd_commands.specs.declared.faults.Fault.TheVariants.{BadWords, ReadFailed, Memory}
use Rattle.ttd_commands.specs.Answer.{Answer, answer_of, fine}
pub use Rattle.ttd_words.specs.Answer.{Gives, IsCutShort, IsWritten, Output, output_of}

-- What the input shows: the bytes that are still to come, where the device keeps them, and its failures and reads so far.
pub record Input : Type 0 where
  pub left : Option (List ℕ)
  pub failed : ℕ
  pub asked : ℕ

-- What a reader shows.
abbrev pub input_of : {R : Type 0} → reader.Ghosts R → R → Input
input_of shows device = record { left = shows.left device; failed = shows.failed device; asked = shows.asked device }

-- The refusal of out of memory.
abbrev pub memory_answer : Answer
memory_answer = answer_of (Err Memory)

-- The same, or memory ran out before there was this answer, and that is the answer.
abbrev pub GivesUnlessMemory : Answer → Output → Output → Status → Type 0
GivesUnlessMemory answer old new status = Gives answer old new status ⊎ Gives memory_answer old new status

-- Nothing was read, and it was written that the words are bad, or that memory ran out in reading them.
abbrev pub RefusesWords : Input → Input → Output → Output → Status → Type 0
RefusesWords old_in new_in old_out new_out status = (new_in ≡ old_in) × GivesUnlessMemory (answer_of (Err BadWords)) old_out new_out status

-- Nothing was read, and some help was written, or that memory ran out in reading the words or making the help.
abbrev pub GivesHelp : Input → Input → Output → Output → Status → Type 0
GivesHelp old_in new_in old_out new_out status = (new_in ≡ old_in) × ((text : List ℕ) × GivesUnlessMemory (fine text) old_out new_out status)

-- Words that are a mistake and ask for help too are answered with the one or the other.
abbrev pub RefusesOrHelps : Input → Input → Output → Output → Status → Type 0
RefusesOrHelps old_in new_in old_out new_out status =
    RefusesWords old_in new_in old_out new_out status ⊎ GivesHelp old_in new_in old_out new_out status

-- These are the bytes that the input still had, and it is read to its end, unless they are more than are allowed; no read failed.
pub record IsRead (most : ℕ) (bytes : List ℕ) (old new : Input) : Type 0 where
  pub whole : IfSome old.left (λ all. all ≡ bytes)
  pub end : IsAtEnd new.left ⊎ (most < length bytes)
  pub sound : new.failed ≡ old.failed

-- The input, of which so many bytes are allowed, was read, and the answer is the one for a reply to its bytes; or reading failed, and that is the
-- answer; or memory ran out before there was a reply, with no read that failed, and that is the answer.
abbrev pub Answers : ℕ → (List ℕ → Result Answer Fault → Type 0) → Input → Input → Output → Output → Status → Type 0
Answers most IsReplyOf old_in new_in old_out new_out status =
    ((bytes : List ℕ) × (reply : Result Answer Fault) × IsRead most bytes old_in new_in × IsReplyOf bytes reply
    × Gives (answer_of reply) old_out new_out status)
    ⊎ ((HasFailed old_in.failed new_in.failed × Gives (answer_of (Err ReadFailed)) old_out new_out status)
    ⊎ ((new_in.failed ≡ old_in.failed) × Gives memory_answer old_out new_out status))
