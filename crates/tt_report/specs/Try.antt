-- What is logged of a try to write a file.
use Rattle.std.specs.Prelude.{ℕ, Bool, true, false, Option, Some, None}
use Rattle.tt_status.specs.declared.lines.LogEvent.{LogEvent}
use Rattle.tt_status.specs.declared.lines.LogEvent.TheVariants.{StatusUnwritten, StatusWritten, EvidenceUnwritten, EvidenceWritten}

-- the status: each try that failed, and the first one after it that did not
abbrev pub status_event : Bool → Option ℕ → Option LogEvent
status_event failed (Some errno) = Some (StatusUnwritten errno)
status_event true None = Some StatusWritten
status_event false None = None

-- the evidence: the same
abbrev pub evidence_event : Bool → Option ℕ → Option LogEvent
evidence_event failed (Some errno) = Some (EvidenceUnwritten errno)
evidence_event true None = Some EvidenceWritten
evidence_event false None = None
