-- There is one end for each thread that was joined, and its seat was joined to the one seat.
use Rattle.std.proofs.Common.{◌≡◌, ◌≤◌, ◌+◌, vec_len, vec_capacity}
use Rattle.tt_publish.specs.Known.{new_watch}
use Rattle.tt_node.specs.Sharing.{AllDown}
use Rattle.tt_server.specs.Thread.{ServesAt, terms_in}
use Rattle.tt_server.proofs.Seating.{HaveJoined}
use Rattle.tt_server.proofs.servers.join_workers.Given as goal

abbrev pub invariant-loop : goal.invariant-loop
invariant-loop g l =
    let n = vec_len l.fn.handles in
    let watch = new_watch l._opened.source l._life.config.drift in
    let terms = terms_in l._life in
    record {
      len : vec_len l.ends ≡ l.counter + 1;
      left : vec_len l.handles + l.counter + 1 ≡ n;
      room : n ≤ vec_capacity l.ends;
      each : AllDown (λ number handle. ServesAt watch terms l.sequencer n number handle.promise) n l.handles.items;
      joined : HaveJoined watch terms l.sequencer n l.ends.items l.all;
    }
