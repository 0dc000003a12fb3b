use Rattle.std.proofs.Common.{◌≡◌, List, ℕ, Result, Ok, Err, sym, ap, ◌∙◌, arith}
use Rattle.std.specs.Prelude.{IfOk}
use Rattle.tt_poll.specs.declared.messages.Message.{Message}
use Rattle.tt_poll.specs.declared.faults.PollFault.{PollFault}
use Rattle.tt_poll.specs.Spelling.{IsMessage, spelling_of}
use Rattle.tt_poll.specs.Reading.{IsBytes, read_of}
use Rattle.tt_poll.proofs.Refusing.{read_of-refused}
use Rattle.tt_poll.proofs.Finding.{spelling_of-read}
use Rattle.tt_poll.proofs.Taking.{read_of-spelling_of}
use Rattle.tt_poll.proofs.decoding.decode.Goals as goal

is_found : (bytes : List ℕ) (r : Result Message PollFault) → IsBytes bytes → r ≡ read_of bytes → IfOk r (λ m. IsMessage m × (bytes ≡ spelling_of m))
is_found bytes (Ok m) fits given = spelling_of-read bytes m fits (sym given)
is_found bytes (Err e) fits given = tt

pub returns-clause-found : goal.returns-clause-found
returns-clause-found c = is_found c.args.bytes.now c.read.result (λ i. omega (arith, c.type_inv.bytes i)) c.read.ensures

pub returns-clause-taken : goal.returns-clause-taken
returns-clause-taken c = λ m fits e. c.read.ensures ∙ ap read_of e ∙ read_of-spelling_of m fits

pub returns-clause-refused : goal.returns-clause-refused
returns-clause-refused c = λ e.
    let same = read_of-refused c.args.bytes.now e in
    (λ h. same.0 (sym c.read.ensures ∙ h), λ h. c.read.ensures ∙ same.1 h)
