use Rattle.std.proofs.Common.{ap, ◌∙◌, arith}
use Rattle.tt_seal.specs.Sealing.{opened_of}
use Rattle.tt_seal.proofs.Opening.{found_as, opened_of-taken}
use Rattle.tt_seal.proofs.sealing.open.Goals as goal

pub returns-clause-found : goal.returns-clause-found
returns-clause-found c = found_as c.args.bytes.now c.args.keys.now c.read.result (λ i. omega (arith, c.type_inv.bytes i)) c.read.ensures

pub returns-clause-taken : goal.returns-clause-taken
returns-clause-taken c = λ message key short is own has sealed.
    c.read.ensures ∙ ap (λ bytes. opened_of bytes c.args.keys.now) sealed ∙ opened_of-taken message c.args.keys.now key short is.number_fits own has
