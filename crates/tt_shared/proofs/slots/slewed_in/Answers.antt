use Rattle.std.proofs.Common.{sym, ◌∙◌}
use Rattle.tt_shared.specs.Reading.{base_at, slewed_at, is_out}
use Rattle.tt_shared.proofs.Spelling.{passed_on, err_step, base_slewed}
use Rattle.tt_shared.proofs.slots.slewed_in.Goals as goal

pub returns-in_err-base : goal.returns-in_err-base
returns-in_err-base c =
    passed_on c.from_residual.result c.in_err-base.field-0.0 c.from_residual.ensures.1
    ∙ err_step (is_out (base_at c.args.bytes.now 72 96)) (base_at c.args.bytes.now 72 96) (slewed_at c.args.bytes.now) c.in_err-base.field-0.0 (sym c.base_in.ensures ∙ c.in_err-base.was)

pub returns : goal.returns
returns c = base_slewed c.args.bytes.now c.in_ok-base.base c.number_at.result c.number_at-2.result (sym c.base_in.ensures ∙ c.in_ok-base.was) c.number_at.ensures c.number_at-2.ensures
