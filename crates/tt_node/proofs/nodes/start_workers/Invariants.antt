-- There is one handle for each thread that was started, the seats that are left are those of the streams that are left, and the watches that are left are new.
use Rattle.std.proofs.Common.{◌≡◌, ◌≤◌, ◌+◌, All, vec_len, vec_capacity}
use Rattle.tt_publish.specs.Known.{WatchState, new_watch}
use Rattle.tt_node.specs.Sharing.{AllFrom, AllDown, IsNewSeat, ServesAt}
use Rattle.tt_node.proofs.nodes.start_workers.Given as goal

abbrev pub invariant-loop : goal.invariant-loop
invariant-loop g l =
    let watch = new_watch l._opened.source l._drift in
    record {
      len : vec_len l.handles ≡ l.counter;
      room : vec_len l.initial.streams ≤ vec_capacity l.handles;
      left : vec_len l.streams + l.counter ≡ vec_len l.initial.streams;
      one_each : vec_len l.seats ≡ vec_len l.streams;
      new : AllFrom (IsNewSeat l.context.sequencer.now (vec_len l.initial.streams)) 0 l.seats.items;
      watches : All (λ (w : WatchState). w ≡ watch) l.watches.items;
      each : AllDown (λ number handle. ServesAt l.context.sequencer.now (vec_len l.initial.streams) l.context.gate.now l.context.limits.now.serve.waits l.context.limits.now.lease watch number handle.promise) (vec_len l.initial.streams) l.handles.items;
    }
