use Rattle.std.proofs.Common.{ap, subst, ◌∙◌}
use Rattle.tt_connections.specs.Station.{PostState}
use Rattle.tt_clock.specs.Clock.{ClockState}
use Rattle.tt_workers.specs.Worker.{WorkerServed}
use Rattle.tt_server.proofs.Living.{handed-back}
use Rattle.tt_server.proofs.workers.serve.Goals as goal

pub returns : goal.returns
returns g c =
    let made = c.new-post.ensures.made in
    let first = c.new-post.result in
    let seat = c.into_parts-watch.result.1 in
    let served = subst (λ (p : PostState ClockState). WorkerServed p c.into_parts-watch.result.0 seat) (c.work-worker.ensures.first ∙ c.new-begun.ensures.first) c.into_parts-watch.ensures.served in
    handed-back c.args.watch c.into_parts-watch.result.0 c.args.terms first c.args.worker_seat.seat seat (record { seen = c.seen.result })
    (ap (λ (p : PostState ClockState). p.watch) made) (ap (λ (p : PostState ClockState). p.lease) made) (ap (λ (p : PostState ClockState). p.stampers) made) (ap (λ (p : PostState ClockState). p.ahead) made) (ap (λ (p : PostState ClockState). p.max_width) made)
    (ap (λ (p : PostState ClockState). p.seat) made) served c.seen.ensures
