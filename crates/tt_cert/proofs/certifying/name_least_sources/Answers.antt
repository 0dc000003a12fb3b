use Rattle.std.proofs.Common.{arith}
use Rattle.std.proofs.lemmas.List.{length_push}
use Rattle.std.proofs.lemmas.Bool.{false_from_ne_true, both_ways}
use Rattle.tt_fuse.specs.Depth.{holds}
use Rattle.tt_fuse.proofs.Possible.{holds-from_Holds, Holds-from_holds}
use Rattle.tt_cert.proofs.Least.{least-push, least-full, least-skip}
use Rattle.tt_cert.proofs.certifying.name_least_sources.Goals as goal
use Rattle.tt_cert.proofs.certifying.name_least_sources.Goals.{then-len-need+then-contains, else-len-need, else-len-need-via-then-len-need+else-contains, else-len-need-via-else-len-need}

pub loop-source-preserved : goal.loop-source-preserved
loop-source-preserved c =
    let spans = c.args.spans.now in
    let s = c.index-spans-source.result in
    let i = c.loop-source.source in
    let found = c.loop-source.found in
    elim c.if-len-need.branch [
      | then-len-need+then-contains w ↦
          let h = holds-from_Holds c.args.time s (w.contains.ensures.0 w.if-contains.true) in
          rw (w.found-is, w.push.ensures) (
            omega (arith, c.loop-source.invariant.0, length_push found i),
            least-push c.args.time spans c.args.need i s found c.loop-source-test.true c.index-spans-source.is c.loop-source.invariant.1 (omega (arith, w.if-len-need.true, c.len.ensures)) h,
          )
      | else-len-need w ↦
          rw w.found-is (
            omega (arith, c.loop-source.invariant.0),
            elim w.else-len-need.branch [
              | else-len-need-via-then-len-need+else-contains w' ↦
                  least-skip c.args.time spans c.args.need i s found c.loop-source-test.true c.index-spans-source.is c.loop-source.invariant.1 (false_from_ne_true (holds c.args.time s) (λ e. both_ways w'.contains.result w'.if-contains.false (w'.contains.ensures.1 (Holds-from_holds c.args.time s e))))
              | else-len-need-via-else-len-need w' ↦
                  least-full c.args.time spans c.args.need i s found c.loop-source-test.true c.index-spans-source.is c.loop-source.invariant.1 (omega (arith, w'.if-len-need.false, c.len.ensures))
            ],
          )
    ]
