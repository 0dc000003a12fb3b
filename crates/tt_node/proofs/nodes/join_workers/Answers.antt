use Rattle.std.proofs.Common.{◌≡◌, ◌+◌, length, vec_len, rules, sym, ap, ◌∙◌, arith}
use Rattle.std.specs.declared.thread.PromisedHandle.{PromisedHandle}
use Rattle.tt_stamp.specs.declared.sequencers.Seat.{Seat}
use Rattle.tt_node.specs.declared.nodes.ServesSession.{ServesSession}
use Rattle.tt_node.specs.declared.nodes.WorkerEnd.{WorkerEnd}
use Rattle.tt_publish.specs.Known.{new_watch}
use Rattle.tt_node.proofs.Sharing.{taken-serves, joined-first, joined-next, shares, reads-by}
use Rattle.tt_node.proofs.nodes.join_workers.Goals as goal

pub loop-init : goal.loop-init
loop-init g c =
    let promise : PromisedHandle (WorkerEnd × Seat) (ServesSession g.row.C.Denot g.row.G.Denot) → ServesSession g.row.C.Denot g.row.G.Denot = λ handle. handle.promise in
    let n = vec_len c.args.handles in
    let handle = c.in_ok-pop.field-0 in
    let count : n ≡ length c.pop.new.self.items + 0 + 1 = first_of (search rules, omega arith) in
    let taken = taken-serves g.C.Clock.gives g.C.Clock.failed g.G.Gate.says g.G.Gate.hears c.args.context.limits.now.serve.waits c.args.context.gate.now c.args.context.limits.now.lease (new_watch c.args._published.now.source c.args._drift.now) c.args.context.sequencer.now n
    promise c.args.handles.items c.pop.new.self.items handle 0 c.join-end.result.0 c.in_ok-pop.ensures.items count c.requires.each c.join-end.ensures.1 in
    record {
      len = first_of (search rules, omega arith);
      left = first_of (search rules, omega arith);
      room = first_of (search rules, omega arith);
      each = taken.0;
      joined = rw c.push_reserved.ensures.items (rw c.requires.none
          (joined-first g.C.Clock.gives g.C.Clock.failed g.G.Gate.says g.G.Gate.hears c.args.context.limits.now.serve.waits c.args.context.gate.now c.args.context.limits.now.lease (new_watch c.args._published.now.source c.args._drift.now) c.args.context.sequencer.now n
          handle.promise.clock.value c.join-end.result.0 c.join-end.result.1 taken.1 c.join-end.ensures.0 c.laws.ensures.legal c.laws.ensures.mine));
    }

pub join-all-requires-clause-second : goal.join-all-requires-clause-second
join-all-requires-clause-second g c =
    let promise : PromisedHandle (WorkerEnd × Seat) (ServesSession g.row.C.Denot g.row.G.Denot) → ServesSession g.row.C.Denot g.row.G.Denot = λ handle. handle.promise in
    let n = vec_len c.args.handles in
    let count : n ≡ length c.pop-in-loop.new.self.items + length c.loop.ends.items + 1 = first_of (search rules, omega arith) in
    let taken = taken-serves g.C.Clock.gives g.C.Clock.failed g.G.Gate.says g.G.Gate.hears c.args.context.limits.now.serve.waits c.args.context.gate.now c.args.context.limits.now.lease (new_watch c.args._published.now.source c.args._drift.now) c.args.context.sequencer.now n
    promise c.loop.handles.items c.pop-in-loop.new.self.items c.in-Some.handle (length c.loop.ends.items) c.join-end-in-loop.result.0 c.in-Some.ensures.items count c.loop.invariant.each c.join-end-in-loop.ensures.1 in
    sym (ap (λ s. s.table) c.join-end-in-loop.ensures.0) ∙ taken.1.later.table

pub loop-preserved : goal.loop-preserved
loop-preserved g c =
    let promise : PromisedHandle (WorkerEnd × Seat) (ServesSession g.row.C.Denot g.row.G.Denot) → ServesSession g.row.C.Denot g.row.G.Denot = λ handle. handle.promise in
    let n = vec_len c.args.handles in
    let handle = c.in-Some.handle in
    let count : n ≡ length c.pop-in-loop.new.self.items + length c.loop.ends.items + 1 = first_of (search rules, omega arith) in
    let taken = taken-serves g.C.Clock.gives g.C.Clock.failed g.G.Gate.says g.G.Gate.hears c.args.context.limits.now.serve.waits c.args.context.gate.now c.args.context.limits.now.lease (new_watch c.args._published.now.source c.args._drift.now) c.args.context.sequencer.now n
    promise c.loop.handles.items c.pop-in-loop.new.self.items handle (length c.loop.ends.items) c.join-end-in-loop.result.0 c.in-Some.ensures.items count c.loop.invariant.each c.join-end-in-loop.ensures.1 in
    record {
      len = first_of (search rules, omega arith);
      left = first_of (search rules, omega arith);
      room = first_of (search rules, omega arith);
      each = taken.0;
      joined = rw c.push_reserved-in-loop.ensures.items (joined-next g.C.Clock.gives g.C.Clock.failed g.G.Gate.says g.G.Gate.hears c.args.context.limits.now.serve.waits c.args.context.gate.now c.args.context.limits.now.lease (new_watch c.args._published.now.source c.args._drift.now) c.args.context.sequencer.now n
          c.loop.ends.items c.loop.all c.join-all.result handle.promise.clock.value c.join-end-in-loop.result.0 c.join-end-in-loop.result.1 c.loop.invariant.joined taken.1 c.join-end-in-loop.ensures.0 c.join-all.ensures.unites);
    }

pub returns-clause-shares : goal.returns-clause-shares
returns-clause-shares g c =
    shares g.C.Clock.gives g.C.Clock.failed g.G.Gate.says g.G.Gate.hears c.args.context.limits.now.serve.waits c.args.context.gate.now c.args.context.limits.now.lease (new_watch c.args._published.now.source c.args._drift.now) c.args.context.sequencer.now (vec_len c.args.handles)
    c.loop.ends.items c.loop.all (first_of (search rules, omega arith)) c.loop.invariant.joined

pub returns-clause-read : goal.returns-clause-read
returns-clause-read g c =
    reads-by g.C.Clock.gives g.C.Clock.failed g.G.Gate.says g.G.Gate.hears c.args.context.limits.now.serve.waits c.args.context.gate.now c.args.context.limits.now.lease (new_watch c.args._published.now.source c.args._drift.now) c.args.context.sequencer.now
    (vec_len c.args.handles) c.loop.ends.items c.loop.all c.loop.invariant.joined
