use Rattle.std.proofs.Common.{◌∙◌, List, ℕ, subst}
use Rattle.tt_workers.specs.Worker.{Hears}
use Rattle.tt_workers.proofs.Hearing.{always-err, err-is, held-last, hears-both, hears-held, hears-nil, hears-then-last, ok-is, on-ok, split-is}
use Rattle.tt_workers.proofs.sessions.Session.feed.Goals as goal

pub loop-rest-init : goal.loop-rest-init
loop-rest-init g c = record { none = c.requires.none; hears = hears-nil c.args.self.now c.args.post c.args.bytes.now }

pub returns-in-Some-clause-on : goal.returns-in-Some-clause-on
returns-in-Some-clause-on g c =
    let is = c.loop-rest.invariant in
    on-ok c.hold-held.result
    (hears-held c.args.self.now c.args.post c.loop-rest.self c.hold-held.new.self c.loop-rest.lent c.args.bytes.now c.loop-rest.rest.now is.hears c.hold-held.ensures.same is.none)
    c.hold-held.ensures.held

pub returns-in-Some-clause-over : goal.returns-in-Some-clause-over
returns-in-Some-clause-over g c =
    let is = c.loop-rest.invariant in
    always-err c.hold-held.result
    (held-last c.args.self.now c.args.post c.loop-rest.self c.hold-held.new.self c.loop-rest.lent c.args.bytes.now c.loop-rest.rest.now is.hears c.hold-held.ensures.same)

pub returns-in-Err-clause-over : goal.returns-in-Err-clause-over
returns-in-Err-clause-over g c =
    let is = c.loop-rest.invariant in
    let bytes = c.args.bytes.now in
    let front = c.split_at.result.0.now in
    let behind = c.split_at.result.1.now in
    let split = split-is c.loop-rest.rest.now front behind _ c.split_at.ensures.front c.split_at.ensures.back in
    hears-then-last c.args.self.now c.args.post c.loop-rest.self c.hear-next.new.self c.loop-rest.lent c.hear-next.result.0 bytes front behind
    (subst (λ (l : List ℕ). Hears bytes l c.args.self.now c.args.post c.loop-rest.self c.loop-rest.lent) split is.hears)
    (err-is c.hear-next.result.1 _ c.in-Err.is c.hear-next.ensures.over)

pub loop-rest-preserved : goal.loop-rest-preserved
loop-rest-preserved g c =
    let is = c.loop-rest.invariant in
    let bytes = c.args.bytes.now in
    let front = c.split_at.result.0.now in
    let behind = c.split_at.result.1.now in
    let split = split-is c.loop-rest.rest.now front behind _ c.split_at.ensures.front c.split_at.ensures.back in
    record {
      none = c.hear-next.ensures.held ∙ is.none;
      hears =
          hears-both c.args.self.now c.args.post c.loop-rest.self c.hear-next.new.self c.loop-rest.lent c.hear-next.result.0 bytes front behind
          (subst (λ (l : List ℕ). Hears bytes l c.args.self.now c.args.post c.loop-rest.self c.loop-rest.lent) split is.hears)
          (ok-is c.hear-next.result.1 _ c.in-Ok.is c.hear-next.ensures.on);
    }
