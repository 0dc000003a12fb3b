use Rattle.std.proofs.Common.{◌≡◌, ◌<◌, take, get_or, rules, tests, arith}
use Rattle.std.proofs.lemmas.List.{take_all}
use Rattle.std.proofs.lemmas.List.Elements.{All-more}
use Rattle.tt_cert.specs.declared.certificate.Stretch.{Stretch}
use Rattle.tt_cert.specs.Valid.{meeting}
use Rattle.tt_cert.proofs.Judging.{exact-more}
use Rattle.tt_cert.proofs.checking.are_named.Goals as goal
use Rattle.tt_cert.proofs.checking.are_named.Goals.{then-named, else-named}

pub loop-stretch-preserved : goal.loop-stretch-preserved
loop-stretch-preserved c =
    let spans = c.args.spans.now in
    let xs = c.args.stretches.now in
    let i = c.loop-stretch.stretch-index in
    let zero : Stretch = record { from = 0; to = 0; depth = 0 } in
    let Names : Stretch → Type 0 = λ s. s.depth ≡ meeting spans s in
    let met : c.met_by-met.result ≡ meeting spans (get_or xs i zero) = c.met_by-met.ensures in
    record {
      shallow = All-more (λ s. meeting spans s < c.args.need) xs i zero c.loop-stretch-test.true c.loop-stretch.invariant.shallow (omega (arith, met, c.if-met-need.false));
      exact = exact-more Names xs i zero c.loop-stretch-test.true c.loop-stretch.named c.if-named.named c.loop-stretch.invariant.exact
          (λ now. elim c.if-named.branch [
            | then-named w ↦ (w.if-named.true, search (rules, tests))
            | else-named w ↦ absurd (cc)
          ])
          (λ before here. elim c.if-named.branch [
            | then-named w ↦ search (rules, tests)
            | else-named w ↦ absurd (cc)
          ]);
    }

pub returns : goal.returns
returns c =
    let xs = c.args.stretches.now in
    let whole : take c.loop-stretch.stretch-index xs ≡ xs = take_all c.loop-stretch.stretch-index xs c.loop-stretch-test.false in
    (rw whole at c.loop-stretch.invariant.shallow, rw whole at c.loop-stretch.invariant.exact)
