use Rattle.std.proofs.Common.{[], subst, sym, ◌∙◌}
use Rattle.tt_workers.specs.Worker.{SessionState}
use Rattle.tt_workers.proofs.Hearing.{Takes, err-is, ok-is, serves-fed, serves-last, takes-held}
use Rattle.tt_workers.proofs.sessions.Session.serve_held.Goals as goal

pub returns-in-Ok-clause-on : goal.returns-in-Ok-clause-on
returns-in-Ok-clause-on g c =
    let old = c.args.self.now in
    let took = c.take_held-bytes in
    let bytes = c.as_slice.result.now in
    let takes = subst (λ (s : SessionState). Takes old bytes s) (sym took.ensures.same) (takes-held old bytes [] (c.as_slice.ensures.value ∙ took.ensures.value)) in
    serves-fed old c.args.post took.new.self c.feed-post.new.self c.feed-post.result.0 bytes takes (ok-is c.feed-post.result.1 _ c.in-Ok.is c.feed-post.ensures.on)

pub returns-clause-over : goal.returns-clause-over
returns-clause-over g c =
    let old = c.args.self.now in
    let took = c.take_held-bytes in
    let bytes = c.as_slice.result.now in
    let takes = subst (λ (s : SessionState). Takes old bytes s) (sym took.ensures.same) (takes-held old bytes [] (c.as_slice.ensures.value ∙ took.ensures.value)) in
    serves-last old c.args.post took.new.self c.feed-post.new.self c.feed-post.result.0 bytes takes (err-is c.feed-post.result.1 _ c.in-Err.is c.feed-post.ensures.over)
