use Rattle.std.proofs.Common.{refl, subst}
use Rattle.slab.specs.Slab.{get, with_value}
use Rattle.tt_workers.specs.Worker.{WorkerState, Served, ServedLast}
use Rattle.tt_workers.proofs.Hearing.{err-is, ok-is}
use Rattle.tt_workers.proofs.Working.{last-at, served-at, session-serves, session-serves-last, worked-at}
use Rattle.tt_workers.proofs.workers.Worker.lend.Goals as goal

pub invariant_of-self-in-Ok : goal.invariant_of-self-in-Ok
invariant_of-self-in-Ok g c =
    let first = c.self.inside.first.value in
    let post = c.in-Some-take.post in
    record {
      is_there = refl;
      worked =
          session-serves first post c.perform-post.result.0 c.self.inside.sessions c.args.place c.in-Some.session.now c.perform-post.new.self c.perform-post.result.1 _ c.in-Ok.is
          c.in-Some.ensures.value c.perform-post.ensures.on (worked-at first post _ _ c.in-Some-take.ensures.value c.self.invariant.worked);
    }

pub invariant_of-self-in-Err : goal.invariant_of-self-in-Err
invariant_of-self-in-Err g c =
    let first = c.self.inside.first.value in
    let post = c.in-Some-take.post in
    record {
      is_there = refl;
      worked =
          session-serves-last first post c.perform-post.result.0 c.self.inside.sessions c.try_remove.new.self c.args.place c.in-Some.session.now c.perform-post.new.self c.perform-post.result.1 _ c.in-Err.is
          c.in-Some.ensures.value c.perform-post.ensures.over c.try_remove.ensures.updates (worked-at first post _ _ c.in-Some-take.ensures.value c.self.invariant.worked);
    }

pub returns-in-Ok-clause-served : goal.returns-in-Ok-clause-served
returns-in-Ok-clause-served g c =
    let old = c.self.inside.sessions in
    let later = c.perform-post.result.0 in
    subst (λ (w : WorkerState). Served (get w.sessions c.args.place) w.post (get (with_value old c.args.place c.perform-post.new.self) c.args.place) later) c.self.view_is
    (served-at c.self.inside.first.value c.in-Some-take.post _ later old c.args.place c.in-Some.session.now c.perform-post.new.self
    c.in-Some-take.ensures.value c.in-Some.ensures.value (ok-is c.perform-post.result.1 _ c.in-Ok.is c.perform-post.ensures.on))

pub returns-in-Err-clause-last : goal.returns-in-Err-clause-last
returns-in-Err-clause-last g c =
    let later = c.perform-post.result.0 in
    subst (λ (w : WorkerState). ServedLast (get w.sessions c.args.place) w.post later) c.self.view_is
    (last-at c.self.inside.first.value c.in-Some-take.post _ later c.self.inside.sessions c.args.place c.in-Some.session.now c.perform-post.new.self
    c.in-Some-take.ensures.value c.in-Some.ensures.value (err-is c.perform-post.result.1 _ c.in-Err.is c.perform-post.ensures.over))
