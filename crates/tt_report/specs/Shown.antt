-- The text of a status file.
use Rattle.std.specs.Prelude.{ℕ, List}
use Rattle.std.specs.Arc.{arc_value}
use Rattle.tt_status.specs.Master.{master_status_text}
use Rattle.tt_status.specs.Status.{status_text}
use Rattle.tt_report.specs.declared.files.Shown.{Shown}
use Rattle.tt_report.specs.declared.files.Shown.TheVariants.{Machine, Master}

-- the text of a status, which of a machine has the addresses of its sources
abbrev pub shown_text : Shown → List (List ℕ) → List ℕ
shown_text (Machine status) addresses = status_text status addresses
shown_text (Master status) addresses = master_status_text (arc_value status)
