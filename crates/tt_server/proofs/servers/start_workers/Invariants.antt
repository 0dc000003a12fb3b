-- There is one handle for each thread that was started, the seats that are left are the first ones, and the watches that are left are new.
use Rattle.std.proofs.Common.{◌≡◌, ◌≤◌, ◌+◌, All, vec_len, vec_capacity}
use Rattle.tt_publish.specs.Known.{WatchState, new_watch}
use Rattle.tt_node.specs.Sharing.{AllFrom, AllDown, IsNewSeat}
use Rattle.tt_server.specs.Thread.{ServesAt, terms_in}
use Rattle.tt_server.proofs.servers.start_workers.Given as goal

abbrev pub invariant-loop-number : goal.invariant-loop-number
invariant-loop-number g l =
    let n = vec_len l.initial.watches in
    let watch = new_watch l._opened.source l.context.server.now.life.config.drift in
    record {
      len : vec_len l.handles ≡ l.number;
      room : n ≤ vec_capacity l.handles;
      left : vec_len l.watches + l.number ≡ n;
      one_each : vec_len l.seats ≡ vec_len l.watches;
      seats : AllFrom (IsNewSeat l.sequencer n) 0 l.seats.items;
      new : All (λ (w : WatchState). w ≡ watch) l.watches.items;
      each : AllDown (λ number handle. ServesAt watch (terms_in l.context.server.now.life) l.sequencer n number handle.promise) n l.handles.items;
    }
