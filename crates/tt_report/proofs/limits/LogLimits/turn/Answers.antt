use Rattle.std.proofs.Common.{subst}
use Rattle.tt_report.proofs.limits.LogLimits.turn.Goals as goal
use Rattle.tt_report.specs.Left.{StandsFor, after_turns}
use Rattle.tt_report.specs.declared.limits.Turned.{Turned}

pub returns : goal.returns
returns c = record {
  stands = λ past stands.
      let said = c.turn_kind-3.ensures.stands _ (c.turn_kind-2.ensures.stands _ (c.turn_kind.ensures.stands past stands)) in
      subst (λ (t : Turned). StandsFor (after_turns t past) c.turn_kind-3.new.self) c.turned_by-turned.ensures.value said;
}
