-- What an audit reports of a run.
use Rattle.std.specs.Prelude.{◌≡◌, ℕ, List, [], length, reverse, count_by, sum_by, Option}
use Rattle.std.specs.List.{zip}
use Rattle.tt_daemon.specs.Config.{Configuration}
use Rattle.tt_world.specs.declared.events.Event.{Event}
use Rattle.tt_world.specs.Bad.{accepted}
use Rattle.tt_world.specs.Publications.{shown_of}
use Rattle.tt_world.specs.Trace.{RunTrace}
use Rattle.tt_audit.specs.Counts.{is_refusal, is_publication, is_reading, is_wrong, released_in}
use Rattle.tt_audit.specs.Suspects.{AreAllSuspects}
use Rattle.tt_audit.specs.Violations.{answered_of, violations_of}
use Rattle.tt_audit.specs.Breaking.{IsFirstBreach}
use Rattle.tt_audit.specs.declared.reports.Suspect.{Suspect}
use Rattle.tt_audit.specs.declared.reports.Broken.{Broken}

-- the counts of a run, the suspects of its publications, and the first event that breaks the assumptions, if one does
pub record RunReport : Type 0 where
  pub events : ℕ
  pub refused : ℕ
  pub fusions : ℕ
  pub readings : ℕ
  pub wrong : ℕ
  pub released : ℕ
  pub violations : ℕ
  pub suspects : List Suspect
  pub broken : Option Broken

-- the report is that of a run of these events, the oldest first, with this trace, on these machines
pub record IsReportOf (configs : List Configuration) (happened : List Event) (trace : RunTrace) (report : RunReport) : Type 0 where
  pub events : report.events ≡ length happened
  pub refused : report.refused ≡ count_by is_refusal trace.replies
  pub fusions : report.fusions ≡ count_by is_publication trace.replies
  pub readings : report.readings ≡ count_by is_reading trace.replies
  pub wrong : report.wrong ≡ count_by (λ p. is_wrong p.0.at p.1) (zip happened trace.replies)
  pub released : report.released ≡ sum_by released_in trace.replies
  pub violations : report.violations ≡ violations_of (answered_of happened trace.replies)
  pub suspects : AreAllSuspects [] (shown_of configs (accepted configs (reverse happened))) report.suspects
  pub broken : IsFirstBreach configs happened report.broken
