use Rattle.std.proofs.Common.{◌≡◌, ℕ, Err, vec_len, rules, sym, ap, ◌∙◌, subst, arith}
use Rattle.std.proofs.lemmas.Result.{err_from_is_err_and}
use Rattle.std.specs.declared.thread.PromisedHandle.{PromisedHandle}
use Rattle.tt_publish.specs.Known.{Source, new_watch}
use Rattle.tt_stamp.specs.declared.sequencers.Seat.{Seat}
use Rattle.tt_node.specs.declared.nodes.ServesSession.{ServesSession}
use Rattle.tt_node.specs.declared.nodes.WorkerEnd.{WorkerEnd}
use Rattle.tt_node.specs.Sharing.{AllDown, ServesAt}
use Rattle.tt_node.proofs.nodes.run_threads.Goals as goal

pub join_workers-requires-clause-each : goal.join_workers-requires-clause-each
join_workers-requires-clause-each g c =
    let Serves : Source → ℕ → ℕ → PromisedHandle (WorkerEnd × Seat) (ServesSession g.row.C.Denot g.row.G.Denot) → Type 0 =
    λ source count number handle. ServesAt c.args.context.sequencer.now count c.args.context.gate.now c.args.context.limits.now.serve.waits c.args.context.limits.now.lease (new_watch source c.args.drift.now) number handle.promise in
    let handles = c.start_workers-started.new.handles in
    let all : vec_len handles ≡ vec_len c.args.posts.streams = first_of (search rules, omega arith) in
    let source : c.tell-opened.result.source ≡ c.join-did.result.1.source = search rules in
    subst (λ source. AllDown (Serves source (vec_len handles)) (vec_len handles) handles.items) source
    (subst (λ count. AllDown (Serves c.tell-opened.result.source count) count handles.items) (sym all) c.start_workers-started.ensures.each)

pub returns-in_err-did-clause-runs : goal.returns-in_err-did-clause-runs
returns-in_err-did-clause-runs g c =
    let p = err_from_is_err_and c.from_residual.result c.from_residual.ensures.1 in
    let e : c.from_residual.result ≡ Err c.in_err-did.field-0.0 = p.1 ∙ ap Err p.2 in
    rw e (λ is. (c.join-did.result.1.items, search rules))
