use Rattle.std.proofs.Common.{◌≡◌, List, ℕ, Result, Ok, Err, sym, ap, ◌∙◌, arith}
use Rattle.std.specs.Prelude.{IfOk}
use Rattle.tt_poll.specs.declared.messages.Message2.{Message2}
use Rattle.tt_poll.specs.declared.faults.PollFault.{PollFault}
use Rattle.tt_poll.specs.Spelling.{IsMessage2, spelling_of2}
use Rattle.tt_poll.specs.Reading.{IsBytes, read_of2}
use Rattle.tt_poll.proofs.Refusing.{read_of2-refused}
use Rattle.tt_poll.proofs.Finding.{spelling_of2-read}
use Rattle.tt_poll.proofs.Taking.{read_of2-spelling_of2}
use Rattle.tt_poll.proofs.decoding.decode2.Goals as goal

is_found : (bytes : List ℕ) (r : Result Message2 PollFault) → IsBytes bytes → r ≡ read_of2 bytes → IfOk r (λ m. IsMessage2 m × (bytes ≡ spelling_of2 m))
is_found bytes (Ok m) fits given = spelling_of2-read bytes m fits (sym given)
is_found bytes (Err e) fits given = tt

pub returns-clause-found : goal.returns-clause-found
returns-clause-found c = is_found c.args.bytes.now c.read2.result (λ i. omega (arith, c.type_inv.bytes i)) c.read2.ensures

pub returns-clause-taken : goal.returns-clause-taken
returns-clause-taken c = λ m fits e. c.read2.ensures ∙ ap read_of2 e ∙ read_of2-spelling_of2 m fits

pub returns-clause-refused : goal.returns-clause-refused
returns-clause-refused c = λ e.
    let same = read_of2-refused c.args.bytes.now e in
    (λ h. same.0 (sym c.read2.ensures ∙ h), λ h. c.read2.ensures ∙ same.1 h)
