-- The answers stay.
use Rattle.std.proofs.Common.{◌≡◌}
use Rattle.tt_telemetry.proofs.notices.Notices.track.Given as goal

abbrev pub invariant-loop-source : goal.invariant-loop-source
invariant-loop-source l = l.self.answers ≡ l.initial.self.answers
