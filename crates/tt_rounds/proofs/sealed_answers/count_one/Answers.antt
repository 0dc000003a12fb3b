use Rattle.std.proofs.Common.{◌<◌, get_or, length, arith}
use Rattle.std.proofs.lemmas.List.{get_or_default}
use Rattle.std.proofs.lemmas.List.Edits.{map_over_more}
use Rattle.tt_rounds.specs.Answering.{count_with}
use Rattle.tt_rounds.specs.declared.sealed_answers.KeyCount.{KeyCount}
use Rattle.tt_rounds.proofs.sealed_answers.count_one.Goals as goal

pub counts-preserved : goal.counts-preserved
counts-preserved c =
    let none : KeyCount = record { number = 0; answers = 0 } in
    let here : KeyCount = get_or c.counts.counts c.counts.place none in
    let below : c.counts.place < length c.counts.counts = omega arith in
    rw c.counted.ensures (map_over_more (count_with c.args.number) c.args.counts.now c.counts.counts c.counts.place here (omega arith) c.counts.invariant (get_or_default c.counts.counts c.counts.place none here below))
