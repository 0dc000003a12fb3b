use Rattle.std.proofs.Common.{◌≡◌, ◌+◌, ℕ, length, vec_len, IfSome, rules, refl, ap, subst, arith}
use Rattle.std.proofs.lemmas.List.Elements.{All-pop}
use Rattle.std.specs.declared.thread.PromisedHandle.{PromisedHandle}
use Rattle.tt_publish.specs.Known.{WatchState, new_watch}
use Rattle.tt_stamp.specs.declared.sequencers.Seat.{Seat}
use Rattle.tt_stamp.specs.Stamping.{SeatState}
use Rattle.tt_node.proofs.Sharing.{seat-popped, started-next}
use Rattle.tt_server.specs.declared.lives.WorkerEnd.{WorkerEnd}
use Rattle.tt_server.specs.declared.workers.ServesClients.{ServesClients}
use Rattle.tt_server.specs.Thread.{IsServing, terms_in}
use Rattle.tt_server.proofs.servers.start_workers.Goals as goal

pub worker_seat_of-worker_seat-requires : goal.worker_seat_of-worker_seat-requires
worker_seat_of-worker_seat-requires g c =
    ap (λ s. s.table) (seat-popped c.args.posts.sequencer.now (vec_len c.args.posts.watches) c.loop-number.seats.items c.pop.new.self.items c.in-Some-Some-Some.seat c.in-Some-Some-Some.ensures.items c.loop-number.invariant.seats).1

pub loop-number-preserved : goal.loop-number-preserved
loop-number-preserved g c =
    let watch = new_watch c.args._opened.now.source c.args.context.server.now.life.config.drift in
    let terms = terms_in c.args.context.server.now.life in
    let IsNew : WatchState → Type 0 = λ w. w ≡ watch in
    let Serves : ℕ → SeatState → PromisedHandle (WorkerEnd × Seat) ServesClients → Type 0 = λ number seat handle. IsServing watch terms seat handle.promise in
    let watches = All-pop IsNew c.loop-number.watches.items c.pop-in-loop-number.new.self.items c.pop-in-loop-number.result c.pop-in-loop-number.ensures.items c.loop-number.invariant.new in
    let new_one : IsNew c.in-Some-Some-Some.watch = subst (λ r. IfSome r IsNew) c.in-Some-Some-Some.is-1 watches.1 in
    let handle = c.in-Some-start_worker.handle in
    let seat = c.in-Some-Some-Some.seat in
    let old = c.loop-number.seats.items in
    let new = c.pop.new.self.items in
    let given : IsServing c.in-Some-Some-Some.watch terms seat handle.promise = subst (λ s. IsServing c.in-Some-Some-Some.watch terms s handle.promise) c.worker_seat_of-worker_seat.ensures c.in-Some-start_worker.ensures.promise in
    let serves : Serves (length new) seat handle = subst (λ w. IsServing w terms seat handle.promise) new_one given in
    let count : length old + length c.loop-number.handles.items ≡ vec_len c.args.posts.watches = first_of (search rules, omega arith) in
    let next = started-next Serves c.args.posts.sequencer.now (vec_len c.args.posts.watches) old new seat (length new) c.loop-number.handles.items handle
    c.in-Some-Some-Some.ensures.items refl count c.loop-number.invariant.seats c.loop-number.invariant.each serves in
    record {
      len = first_of (search rules, omega arith);
      room = first_of (search rules, omega arith);
      left = first_of (search rules, omega arith);
      one_each = first_of (search rules, omega arith);
      seats = next.0;
      new = watches.0;
      each = rw c.push_reserved.ensures.items next.1;
    }
