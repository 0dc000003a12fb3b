use Rattle.std.proofs.Common.{◌≡◌, Err, sym, ◌∙◌, arith}
use Rattle.std.proofs.lemmas.Grind.{common_steps}
use Rattle.tt_poll.specs.Reading.{read_of2}
use Rattle.tt_poll.proofs.Refusing.{read_of2-head_refused, read_of2-head, fields_of_head}
use Rattle.tt_poll.specs.declared.format.Format.TheVariants.{Ttp2}
use Rattle.tt_poll.proofs.decoding.read2.Goals as goal

pub returns-in_err-head : goal.returns-in_err-head
returns-in_err-head c =
    let whole : read_of2 c.args.bytes.now ≡ Err c.in_err-head.field-0.0 = read_of2-head_refused c.args.bytes.now _ (sym c.read_head.ensures.value ∙ c.in_err-head.was) in
    grind (arith, common_steps)

pub returns-in_err-request : goal.returns-in_err-request
returns-in_err-request c =
    let whole = read_of2-head c.args.bytes.now c.in_ok-head.head (sym c.read_head.ensures.value ∙ c.in_ok-head.was) in
    grind (arith, common_steps)

pub returns-in_err-span : goal.returns-in_err-span
returns-in_err-span c =
    let whole = read_of2-head c.args.bytes.now c.in_ok-head.head (sym c.read_head.ensures.value ∙ c.in_ok-head.was) in
    grind (arith, common_steps)

pub returns : goal.returns
returns c =
    let head = sym c.read_head.ensures.value ∙ c.in_ok-head.was in
    let whole = read_of2-head c.args.bytes.now c.in_ok-head.head head in
    let fields = fields_of_head Ttp2 c.args.bytes.now c.in_ok-head.head head in
    grind (arith, common_steps)
