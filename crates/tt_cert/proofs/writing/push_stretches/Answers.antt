use Rattle.std.proofs.Common.{◌≤◌, arith, get_or}
use Rattle.std.proofs.lemmas.Grind.{common_steps}
use Rattle.std.proofs.lemmas.List.Elements.{All-more}
use Rattle.tt_cert.specs.declared.certificate.Stretch.{Stretch}
use Rattle.tt_cert.proofs.writing.push_stretches.Goals as goal

pub loop-stretch-preserved : goal.loop-stretch-preserved
loop-stretch-preserved c =
    let at = c.loop-stretch.stretch-index in
    let zero : Stretch = record { from = 0; to = 0; depth = 0 } in
    let byte : (get_or c.args.stretches.now at zero).depth ≤ 255 = omega arith in (
      grind (arith, common_steps, c.loop-stretch.invariant.0),
      All-more (λ s. s.depth ≤ 255) c.args.stretches.now at zero c.loop-stretch-test.true c.loop-stretch.invariant.1 byte,
    )
