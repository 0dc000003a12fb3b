use Rattle.std.specs.Prelude.{string_bytes}
use Rattle.std.proofs.lemmas.Result.{err_from_is_err_and}
use Rattle.ttd_commands.proofs.Checking.{check-refused, check-valid}
use Rattle.ttd_commands.proofs.check.check_text.Goals as goal

pub returns-in_err-judge-clause-value : goal.returns-in_err-judge-clause-value
returns-in_err-judge-clause-value c =
    let read = c.in_ok-read.read in
    let p = err_from_is_err_and c.from_residual-in_err-judge.result c.from_residual-in_err-judge.ensures.1 in
    check-refused string_bytes c.args.input.now c.claim_place.result c.claim_place.ensures.place c.split_at.result.0.now c.split_at.result.1.now c.split_at.ensures.front c.split_at.ensures.back
    read.faulty read.spans.items c.in_ok-read.ensures.found c.in_ok-read.ensures.only c.in_err-judge.field-0.0 c.from_residual-in_err-judge.result c.in_err-judge.ensures.judged (cc (p.1, p.2))

pub returns-clause-value : goal.returns-clause-value
returns-clause-value c =
    let read = c.in_ok-read.read in
    check-valid string_bytes c.args.input.now c.claim_place.result c.claim_place.ensures.place c.split_at.result.0.now c.split_at.result.1.now c.split_at.ensures.front c.split_at.ensures.back
    read.faulty read.spans.items c.in_ok-read.ensures.found c.in_ok-read.ensures.only c.valid_text.result c.in_ok-judge.ensures.judged c.valid_text.ensures.ok c.valid_text.ensures.memory
