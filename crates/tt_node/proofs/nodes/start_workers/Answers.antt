use Rattle.std.proofs.Common.{◌≡◌, ◌+◌, ℕ, length, vec_len, IfSome, rules, ap, subst, arith}
use Rattle.std.proofs.lemmas.List.Elements.{All-pop}
use Rattle.std.specs.declared.thread.PromisedHandle.{PromisedHandle}
use Rattle.tt_publish.specs.Known.{WatchState, new_watch}
use Rattle.tt_stamp.specs.declared.sequencers.Seat.{Seat}
use Rattle.tt_stamp.specs.Stamping.{SeatState}
use Rattle.tt_node.specs.declared.nodes.ServesSession.{ServesSession}
use Rattle.tt_node.specs.declared.nodes.WorkerEnd.{WorkerEnd}
use Rattle.tt_node.specs.Sharing.{IsServing}
use Rattle.tt_node.proofs.Sharing.{seat-popped, started-next}
use Rattle.tt_node.proofs.nodes.start_workers.Goals as goal

pub start-requires-clause-of_it : goal.start-requires-clause-of_it
start-requires-clause-of_it g c κs within =
    ap (λ s. s.table) (seat-popped c.args.context.sequencer.now (vec_len c.args.posts.streams) c.loop.seats.items c.pop-in-loop.new.self.items c.in-Some-Some-Some.seat c.in-Some-Some-Some.ensures.items c.loop.invariant.new).1

pub loop-preserved : goal.loop-preserved
loop-preserved g c =
    let Serves : ℕ → SeatState → PromisedHandle (WorkerEnd × Seat) (ServesSession g.row.C.Denot g.row.G.Denot) → Type 0 =
    λ number seat handle. IsServing c.args.context.gate.now c.args.context.limits.now.serve.waits c.args.context.limits.now.lease (new_watch c.args._opened.now.source c.args._drift.now) number seat handle.promise in
    let IsNew : WatchState → Type 0 = λ w. w ≡ new_watch c.args._opened.now.source c.args._drift.now in
    let watches = All-pop IsNew c.loop.watches.items c.pop-in-loop-2.new.self.items c.pop-in-loop-2.result c.pop-in-loop-2.ensures.items c.loop.invariant.watches in
    let watch : IsNew c.in-Some-Some-Some.watch = subst (λ r. IfSome r IsNew) c.in-Some-Some-Some.is-1 watches.1 in
    let serves : Serves c.in-Ok.session c.in-Some-Some-Some.seat c.in-Some-start.handle =
    subst (λ w. IsServing c.args.context.gate.now c.args.context.limits.now.serve.waits c.args.context.limits.now.lease w c.in-Ok.session c.in-Some-Some-Some.seat c.in-Some-start.handle.promise) watch c.in-Some-start.ensures.promise in
    let old = c.loop.seats.items in
    let new = c.pop-in-loop.new.self.items in
    let session : c.in-Ok.session ≡ length new = search rules in
    let count : length old + length c.loop.handles.items ≡ vec_len c.args.posts.streams = search rules in
    let next = started-next Serves c.args.context.sequencer.now (vec_len c.args.posts.streams) old new c.in-Some-Some-Some.seat c.in-Ok.session c.loop.handles.items c.in-Some-start.handle
    c.in-Some-Some-Some.ensures.items session count c.loop.invariant.new c.loop.invariant.each serves in
    record {
      len = first_of (search rules, omega arith);
      room = first_of (search rules, omega arith);
      left = first_of (search rules, omega arith);
      one_each = first_of (search rules, omega arith);
      new = next.0;
      watches = watches.0;
      each = rw c.push_reserved.ensures.items next.1;
    }
