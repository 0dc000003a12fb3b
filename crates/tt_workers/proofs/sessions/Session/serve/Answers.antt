use Rattle.std.proofs.Common.{List, ℕ, ap, subst, sym, take}
use Rattle.std.specs.Io.KnownBytes.{Consumes}
use Rattle.tt_workers.specs.Worker.{SessionState, Serves, ServesLast}
use Rattle.tt_workers.proofs.Hearing.{err-is, nothing-read, ok-is, read-last, read-takes, serves-fed, serves-last, then-read}
use Rattle.tt_workers.proofs.sessions.Session.serve.Goals as goal

pub returns-in_default-clause-over : goal.returns-in_default-clause-over
returns-in_default-clause-over g c = read-last c.args.self.now c.args.post c.read-came.new.self c.read-came.ensures.same

pub returns-then-count-eq0-clause-on : goal.returns-then-count-eq0-clause-on
returns-then-count-eq0-clause-on g c =
    let buffer = c.read-came.new.buffer in
    nothing-read c.args.self.now c.args.post c.read-came.new.self (take c.in-Ok.count buffer) c.requires.none c.read-came.ensures.same
    (ap (λ (n : ℕ). take n buffer) c.if-count-eq0.true) c.in-Ok.ensures.gave

pub returns-in-Some-clause-over : goal.returns-in-Some-clause-over
returns-in-Some-clause-over g c =
    let old = c.args.self.now in
    let read = c.read-came.new.self in
    let mid = c.request_in.new.self in
    let fed = c.feed_front-post.new.self in
    let later = c.feed_front-post.result in
    let bytes = c.split_at.result.0.now in
    let gave = subst (λ (b : List ℕ). Consumes old.left read.left b) (sym c.split_at.ensures.front) c.in-Ok.ensures.gave in
    then-read old c.args.post fed c.shut.new.self later
    (serves-last old c.args.post mid fed later bytes (read-takes old c.args.post read mid bytes c.requires.none c.read-came.ensures.same c.request_in.ensures.same gave) c.feed_front-post.ensures.over)
    c.shut.ensures.same

pub returns-in-Ok-heard-clause-on : goal.returns-in-Ok-heard-clause-on
returns-in-Ok-heard-clause-on g c =
    let old = c.args.self.now in
    let read = c.read-came.new.self in
    let mid = c.request_in.new.self in
    let fed = c.feed-post.new.self in
    let later = c.feed-post.result.0 in
    let bytes = c.split_at.result.0.now in
    let gave = subst (λ (b : List ℕ). Consumes old.left read.left b) (sym c.split_at.ensures.front) c.in-Ok.ensures.gave in
    subst (λ (s : SessionState). Serves old c.args.post s later) (sym c.note_line.ensures.same)
    (serves-fed old c.args.post mid fed later bytes (read-takes old c.args.post read mid bytes c.requires.none c.read-came.ensures.same c.request_in.ensures.same gave)
    (ok-is c.feed-post.result.1 _ c.in-Ok-heard.is c.feed-post.ensures.on))

pub returns-in-Err-clause-over : goal.returns-in-Err-clause-over
returns-in-Err-clause-over g c =
    let old = c.args.self.now in
    let read = c.read-came.new.self in
    let mid = c.request_in.new.self in
    let fed = c.feed-post.new.self in
    let later = c.feed-post.result.0 in
    let bytes = c.split_at.result.0.now in
    let gave = subst (λ (b : List ℕ). Consumes old.left read.left b) (sym c.split_at.ensures.front) c.in-Ok.ensures.gave in
    subst (λ (s : SessionState). ServesLast old c.args.post s later) (sym c.note_line.ensures.same)
    (serves-last old c.args.post mid fed later bytes (read-takes old c.args.post read mid bytes c.requires.none c.read-came.ensures.same c.request_in.ensures.same gave)
    (err-is c.feed-post.result.1 _ c.in-Err.is c.feed-post.ensures.over))
