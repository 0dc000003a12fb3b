use Rattle.std.proofs.Common.{sym, ap, subst}
use Rattle.tt_connections.specs.Station.{PostState}
use Rattle.tt_clock.specs.Clock.{ClockState}
use Rattle.tt_workers.specs.Worker.{WorkerState, WorkerServed}
use Rattle.tt_workers.proofs.Working.{worked-at, all-end}
use Rattle.tt_workers.proofs.workers.Worker.into_parts.Goals as goal

pub returns : goal.returns
returns g c =
    let said = c.into_parts.ensures in
    let first = c.self.inside.first.value in
    let post = c.in-Some.post in
    record {
      served =
          subst (λ (p : PostState ClockState). WorkerServed p c.into_parts.result.0 c.into_parts.result.1) (ap (λ (w : WorkerState). w.first) c.self.view_is)
          (all-end first post c.self.inside.sessions c.into_parts.result.0 c.into_parts.result.1 said.watch said.seat (worked-at first post _ _ (sym c.in-Some.is) c.self.invariant.worked));
    }
