use Rattle.std.proofs.Common.{◌≡◌, ◌+◌, length, vec_len, rules, arith}
use Rattle.std.specs.declared.thread.PromisedHandle.{PromisedHandle}
use Rattle.tt_publish.specs.Known.{new_watch}
use Rattle.tt_stamp.specs.declared.sequencers.Seat.{Seat}
use Rattle.tt_server.specs.Thread.{terms_in}
use Rattle.tt_server.specs.declared.lives.WorkerEnd.{WorkerEnd}
use Rattle.tt_server.specs.declared.workers.ServesClients.{ServesClients}
use Rattle.tt_server.proofs.Seating.{taken, handed-table, joined-first, joined-next, shares}
use Rattle.tt_server.proofs.servers.join_workers.Goals as goal

pub loop-init : goal.loop-init
loop-init g c =
    let promise : PromisedHandle (WorkerEnd × Seat) ServesClients → ServesClients = λ handle. handle.promise in
    let watch = new_watch c.args._opened.now.source c.args._life.now.config.drift in
    let terms = terms_in c.args._life.now in
    let n = vec_len c.args.handles in
    let handle = c.in_ok-pop.field-0 in
    let count : n ≡ length c.pop.new.self.items + 0 + 1 = first_of (search rules, omega arith) in
    let (left, handed) = taken watch terms c.args.sequencer.now n promise c.args.handles.items c.pop.new.self.items handle 0 c.join-end.result.0 c.join-end.result.1 c.in_ok-pop.ensures.items count c.requires.each c.join-end.ensures in
    record {
      len = first_of (search rules, omega arith);
      left = first_of (search rules, omega arith);
      room = first_of (search rules, omega arith);
      each = left;
      joined = rw c.push_reserved.ensures.items (rw c.requires.none
          (joined-first watch terms c.args.sequencer.now n c.join-end.result.0 c.join-end.result.1 handed c.laws.ensures.legal c.laws.ensures.mine));
    }

pub join-all-requires-clause-first : goal.join-all-requires-clause-first
join-all-requires-clause-first g c = c.loop.invariant.joined.table_is

pub join-all-requires-clause-second : goal.join-all-requires-clause-second
join-all-requires-clause-second g c =
    let promise : PromisedHandle (WorkerEnd × Seat) ServesClients → ServesClients = λ handle. handle.promise in
    let watch = new_watch c.args._opened.now.source c.args._life.now.config.drift in
    let terms = terms_in c.args._life.now in
    let n = vec_len c.args.handles in
    let count : n ≡ length c.pop-in-loop.new.self.items + length c.loop.ends.items + 1 = first_of (search rules, omega arith) in
    let (left, handed) = taken watch terms c.args.sequencer.now n promise c.loop.handles.items c.pop-in-loop.new.self.items c.in-Some.handle (length c.loop.ends.items) c.join-end-in-loop.result.0 c.join-end-in-loop.result.1
    c.in-Some.ensures.items count c.loop.invariant.each c.join-end-in-loop.ensures in
    handed-table watch terms c.args.sequencer.now n (length c.loop.ends.items) c.join-end-in-loop.result.0 c.join-end-in-loop.result.1 handed

pub loop-preserved : goal.loop-preserved
loop-preserved g c =
    let promise : PromisedHandle (WorkerEnd × Seat) ServesClients → ServesClients = λ handle. handle.promise in
    let watch = new_watch c.args._opened.now.source c.args._life.now.config.drift in
    let terms = terms_in c.args._life.now in
    let n = vec_len c.args.handles in
    let count : n ≡ length c.pop-in-loop.new.self.items + length c.loop.ends.items + 1 = first_of (search rules, omega arith) in
    let (left, handed) = taken watch terms c.args.sequencer.now n promise c.loop.handles.items c.pop-in-loop.new.self.items c.in-Some.handle (length c.loop.ends.items) c.join-end-in-loop.result.0 c.join-end-in-loop.result.1
    c.in-Some.ensures.items count c.loop.invariant.each c.join-end-in-loop.ensures in
    record {
      len = first_of (search rules, omega arith);
      left = first_of (search rules, omega arith);
      room = first_of (search rules, omega arith);
      each = left;
      joined = rw c.push_reserved-in-loop.ensures.items
          (joined-next watch terms c.args.sequencer.now n c.loop.ends.items c.loop.all c.join-all.result c.join-end-in-loop.result.0 c.join-end-in-loop.result.1 c.loop.invariant.joined handed c.join-all.ensures.unites);
    }

pub returns-clause-shares : goal.returns-clause-shares
returns-clause-shares g c =
    shares (new_watch c.args._opened.now.source c.args._life.now.config.drift) (terms_in c.args._life.now) c.args.sequencer.now (vec_len c.args.handles)
    c.loop.ends.items c.loop.all (first_of (search rules, omega arith)) c.loop.invariant.joined
