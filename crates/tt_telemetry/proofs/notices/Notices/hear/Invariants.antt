-- The answers are noticed.
use Rattle.std.proofs.Common.{◌≡◌}
use Rattle.tt_telemetry.proofs.notices.Notices.hear.Given as goal

abbrev pub invariant-loop-source : goal.invariant-loop-source
invariant-loop-source l = l.self.answers ≡ l.initial.self.answers
