use Rattle.std.proofs.Common.{◌≡◌, Err, sym, ◌∙◌, arith}
use Rattle.std.proofs.lemmas.Grind.{common_steps}
use Rattle.tt_poll.specs.Reading.{read_of}
use Rattle.tt_poll.proofs.Refusing.{read_of-head_refused, read_of-head}
use Rattle.tt_poll.proofs.decoding.read.Goals as goal

pub returns-in_err-request : goal.returns-in_err-request
returns-in_err-request c =
    let whole : read_of c.args.bytes.now ≡ Err c.in_err-request.field-0.0 = read_of-head_refused c.args.bytes.now _ (sym c.read_head.ensures.value ∙ c.in_err-request.was) in
    grind (arith, common_steps)

pub returns-in_err-span : goal.returns-in_err-span
returns-in_err-span c =
    let whole = read_of-head c.args.bytes.now c.in_ok-request.request (sym c.read_head.ensures.value ∙ c.in_ok-request.was) in
    grind (arith, common_steps)
