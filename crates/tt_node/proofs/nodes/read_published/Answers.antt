use Rattle.std.proofs.Common.{◌≡◌, ◌∙◌, take, refl, sym, subst}
use Rattle.std.proofs.lemmas.Bool.{false≢true}
use Rattle.std.proofs.lemmas.List.{take_all}
use Rattle.std.proofs.lemmas.List.Elements.{All-more}
use Rattle.tt_node.specs.Sharing.{ReadsBy, ReadsPublished}
use Rattle.tt_rounds.proofs.Items.{item-at}
use Rattle.tt_node.proofs.Reading.{reads-published}
use Rattle.tt_node.proofs.nodes.read_published.Goals as goal

pub is_within-requires : goal.is_within-requires
is_within-requires c =
    let by = item-at (ReadsBy c.args.published.now.source c.args._drift.now) c.args.workers.now c.loop-worker.worker-index c.worker-item.result c.worker-item.is c.loop-worker-test.true c.requires in
    sym by.source_is

pub loop-worker-preserved : goal.loop-worker-preserved
loop-worker-preserved c =
    let xs = c.args.workers.now in
    let i = c.loop-worker.worker-index in
    let worker = c.worker-item.result in
    let by = item-at (ReadsBy c.args.published.now.source c.args._drift.now) xs i worker c.worker-item.is c.loop-worker-test.true c.requires in
    let reads = reads-published c.args._drift.now c.args.published.now worker by (c.is_within.ensures.within.0 c.if-not-is_within.false) in
    All-more (ReadsPublished c.args._drift.now c.args.published.now) xs i worker c.loop-worker-test.true c.loop-worker.invariant
    (subst (ReadsPublished c.args._drift.now c.args.published.now) c.worker-item.is reads)

pub returns-then-not-is_within : goal.returns-then-not-is_within
returns-then-not-is_within c = (
  λ yes. absurd (false≢true yes),
  λ all.
      let reads = item-at (ReadsPublished c.args._drift.now c.args.published.now) c.args.workers.now c.loop-worker.worker-index c.worker-item.result c.worker-item.is c.loop-worker-test.true all in
      absurd (false≢true (sym c.if-not-is_within.true ∙ c.is_within.ensures.within.1 reads.first_ones)),
)

pub returns : goal.returns
returns c =
    let whole : take c.loop-worker.worker-index c.args.workers.now ≡ c.args.workers.now = take_all c.loop-worker.worker-index c.args.workers.now c.loop-worker-test.false in
    (λ _. rw whole at c.loop-worker.invariant, λ _. refl)
