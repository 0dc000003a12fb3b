-- There is one end for each thread that was joined, and its seat was joined to the one seat.
use Rattle.std.proofs.Common.{◌≡◌, ◌+◌, ◌≤◌, vec_len, vec_capacity}
use Rattle.tt_node.specs.Sharing.{AllDown, ServesAt}
use Rattle.tt_publish.specs.Known.{new_watch}
use Rattle.tt_node.proofs.Sharing.{HasJoined}
use Rattle.tt_node.proofs.nodes.join_workers.Given as goal

abbrev pub invariant-loop : goal.invariant-loop
invariant-loop g l =
    let n = vec_len l.fn.handles in
    let watch = new_watch l._published.source l._drift in
    record {
      len : vec_len l.ends ≡ l.counter + 1;
      left : vec_len l.handles + l.counter + 1 ≡ n;
      room : n ≤ vec_capacity l.ends;
      each : AllDown (λ number handle. ServesAt l.context.sequencer.now n l.context.gate.now l.context.limits.now.serve.waits l.context.limits.now.lease watch number handle.promise) n l.handles.items;
      joined : HasJoined g.C.Clock.gives g.C.Clock.failed g.G.Gate.says g.G.Gate.hears l.context.limits.now.serve.waits l.context.gate.now l.context.limits.now.lease watch l.context.sequencer.now n l.ends.items l.all;
    }
