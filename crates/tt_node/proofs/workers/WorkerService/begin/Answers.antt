use Rattle.std.proofs.Common.{ℕ, subst}
use Rattle.tt_node.specs.Working.{DoesWhere, Commits}
use Rattle.tt_node.proofs.workers.WorkerService.begin.Goals as goal

pub returns : goal.returns
returns g c = record {
  passes = c.passes-passes.result.0;
  asked = c.passes-passes.new.self.gate;
  done = c.commit_where-answer.new.self;
  asks = c.passes-passes.ensures.asks;
  does = subst (λ w. DoesWhere c.passes-passes.result.0 (Commits g.C.Clock.gives g.C.Clock.failed c.args.number c.args.floor) w c.commit_where-answer.result c.commit_where-answer.new.self) c.passes-passes.ensures.counted c.commit_where-answer.ensures.does;
  told =
      subst (λ (n : ℕ). g.G.Gate.hears c.commit_where-answer.new.self.gate n c.args.self.now.calls c.tell.new.self.gate) c.passes-passes.ensures.session
      (subst (λ (n : ℕ). g.G.Gate.hears c.commit_where-answer.new.self.gate c.passes-passes.result.1 n c.tell.new.self.gate) c.passes-passes.ensures.call c.tell.ensures.told);
  kept = c.tell.ensures.kept;
}
