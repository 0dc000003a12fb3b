use Rattle.std.proofs.Common.{sym, ap, ◌∙◌, subst}
use Rattle.tt_publish.specs.Known.{seen_of}
use Rattle.tt_node.specs.Sharing.{IsLater}
use Rattle.tt_node.specs.Working.{Allows}
use Rattle.tt_node.proofs.Reading.{read-talked}
use Rattle.tt_node.proofs.Sharing.{talked-by, later-talked}
use Rattle.tt_node.proofs.nodes.work.Goals as goal

pub returns-clause-serves : goal.returns-clause-serves
returns-clause-serves g c =
    let before = c.new-worker.result in
    let after = c.serve-served.new.service in
    let (calls, talked, served) = talked-by (Allows g.C.Clock.gives g.C.Clock.failed g.G.Gate.says g.G.Gate.hears) c.args.context.limits.now.serve.waits _ _ _ _ before after c.serve-served.result
    c.serve-served.ensures.served c.serve-served.ensures.read_failed c.serve-served.ensures.write_failed in
    let seat = c.of.ensures ∙ c.into_parts-notes.ensures.seat in
    let parts = c.into_parts-notes.ensures in
    let made = c.new-worker.ensures.made in
    let seen = c.seen.ensures ∙ ap seen_of parts.watch in
    let (watch_later, readings) = read-talked g.C.Clock.gives g.C.Clock.failed g.G.Gate.says g.G.Gate.hears before calls after c.args.parts.watch c.seen.result c.into_parts-notes.result.0.items
    (ap (λ w. w.watch) made) (ap (λ w. w.notes) made) seen parts.notes talked in
    record {
      book = c.view.result;
      before = before;
      after = after;
      calls = calls;
      new = made;
      talked = talked;
      served = served;
      notes = parts.notes;
      seen = seen;
      watch_later = watch_later;
      readings = readings;
      seat_after = seat;
      later = subst (λ s. IsLater s c.of.result.value) (ap (λ w. w.seat) made)
          (subst (λ s. IsLater before.seat s) (sym seat) (later-talked g.C.Clock.gives g.C.Clock.failed g.G.Gate.says g.G.Gate.hears before calls after talked));
    }
