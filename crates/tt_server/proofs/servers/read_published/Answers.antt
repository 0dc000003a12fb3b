use Rattle.std.proofs.Common.{◌≡◌, take, sym, subst}
use Rattle.std.proofs.lemmas.Bool.{false≢true}
use Rattle.std.proofs.lemmas.List.{take_all}
use Rattle.std.proofs.lemmas.List.Elements.{All-more}
use Rattle.tt_rounds.proofs.Items.{item-at}
use Rattle.tt_server.specs.declared.lives.WorkerEnd.{WorkerEnd}
use Rattle.tt_server.proofs.Living.{Begins}
use Rattle.tt_server.proofs.servers.read_published.Goals as goal

pub is_within-requires : goal.is_within-requires
is_within-requires c =
    sym (item-at (λ (end : WorkerEnd). end.seen.source ≡ c.args.published.now.source) c.args.workers.now c.loop-worker.worker-index c.worker-item.result c.worker-item.is c.loop-worker-test.true c.requires)

pub loop-worker-preserved : goal.loop-worker-preserved
loop-worker-preserved c =
    let xs = c.args.workers.now in
    let i = c.loop-worker.worker-index in
    let worker = c.worker-item.result in
    All-more (Begins c.args.published.now.items) xs i worker c.loop-worker-test.true c.loop-worker.invariant
    (subst (Begins c.args.published.now.items) c.worker-item.is (c.is_within.ensures.within.0 c.if-not-is_within.false))

pub returns-then-not-is_within : goal.returns-then-not-is_within
returns-then-not-is_within c = λ yes. absurd (false≢true yes)

pub returns : goal.returns
returns c =
    let whole : take c.loop-worker.worker-index c.args.workers.now ≡ c.args.workers.now = take_all c.loop-worker.worker-index c.args.workers.now c.loop-worker-test.false in
    λ _. rw whole at c.loop-worker.invariant
