-- The text of a report.
use Rattle.std.specs.Prelude.{ℕ, List, [], ◌∷◌, ◌++◌, codes, Option, Some, None}
use Rattle.std.specs.List.{flat_map}
use Rattle.tt_text.specs.Line.{line_of, space_and_number}
use Rattle.tt_world.specs.declared.breaches.Breach.{Breach}
use Rattle.tt_world.specs.declared.breaches.Breach.TheVariants.{Drift, FalseStatements}
use Rattle.tt_audit.specs.declared.reports.Suspect.{Suspect}
use Rattle.tt_audit.specs.declared.reports.Broken.{Broken}
use Rattle.tt_audit.specs.Report.{RunReport}

-- a line of a word and one number
abbrev pub count_line : List ℕ → ℕ → List ℕ
count_line word n = line_of word (n ∷ [])

-- the line of a suspect
abbrev pub suspect_line : Suspect → List ℕ
suspect_line s = line_of (codes "suspect") (s.machine ∷ s.publication ∷ s.source ∷ [])

-- what was broken, and on which machine, at the end of a line
abbrev pub breach_text : Breach → List ℕ
breach_text (Drift machine) = space_and_number machine ++ codes " drift\n"
breach_text (FalseStatements machine) = space_and_number machine ++ codes " false\n"

-- the line of the first event that breaks the assumptions
abbrev pub broken_line : Broken → List ℕ
broken_line broken = codes "premise broken" ++ (space_and_number broken.event ++ breach_text broken.breach)

-- the last line: whether the assumptions were kept, or the first event that breaks them
abbrev pub verdict_line : Option Broken → List ℕ
verdict_line None = codes "premise kept\n"
verdict_line (Some broken) = broken_line broken

-- the four lines that say what happened
abbrev pub happenings_text : RunReport → List ℕ
happenings_text report =
    count_line (codes "events") report.events
    ++ (count_line (codes "refused") report.refused
    ++ (count_line (codes "fusions") report.fusions
    ++ count_line (codes "readings") report.readings))

-- the three lines that say what came of it
abbrev pub outcomes_text : RunReport → List ℕ
outcomes_text report =
    count_line (codes "wrong") report.wrong
    ++ (count_line (codes "released") report.released
    ++ count_line (codes "violations") report.violations)

-- the one text of a report: the counts, a line for each suspect, and the verdict
abbrev pub report_text_of : RunReport → List ℕ
report_text_of report = happenings_text report ++ (outcomes_text report ++ (flat_map suspect_line report.suspects ++ verdict_line report.broken))
