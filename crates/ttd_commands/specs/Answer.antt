-- What the program writes, and how it ends.
use Rattle.std.specs.Prelude.{◌≡◌, ℕ, List, string_bytes, Result, Ok, Err}
pub use Rattle.ttd_words.specs.Answer.{Answer, fine, refusal, refusal_line}
use Rattle.ttd_commands.specs.declared.ending.CommandOutput.{CommandOutput}
use Rattle.ttd_commands.specs.declared.ending.CommandOutput.TheVariants as reply
use Rattle.ttd_words.specs.declared.ending.Status.TheVariants.{Fine, Broken}
use Rattle.ttd_commands.specs.declared.faults.Fault.{Fault}
use Rattle.ttd_commands.specs.Fault.{number_of, status_of}

-- The answer that a command's reply is.
abbrev pub answer_in : CommandOutput → Answer
answer_in (reply.Fine text) = fine (string_bytes text)
answer_in (reply.Broken text) = record { text = string_bytes text; status = Broken }

-- The reply is a text of this kind, after which the program ends as fine, or a refusal of this kind.
abbrev pub EndsFine : (Result (List ℕ) Fault → Type 0) → Result Answer Fault → Type 0
EndsFine IsSuch (Ok answer) = IsSuch (Ok answer.text) × (answer.status ≡ Fine)
EndsFine IsSuch (Err fault) = IsSuch (Err fault)

-- An answer is written as it is; of a refusal the one line is written, with its status.
abbrev pub answer_of : Result Answer Fault → Answer
answer_of (Ok answer) = answer
answer_of (Err fault) = refusal (number_of fault) (status_of fault)
