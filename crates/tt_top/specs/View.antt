-- A view from the texts of a status and of evidence.
use Rattle.std.specs.Prelude.{ℕ, ◌+◌, ◌&&◌, ◌==◌, nat_le, min, Bool, true, false, not, if◌then◌else◌, Option, Some, None, Result, Ok, Err, is_none, List, [], ◌++◌, map, length, codes}
use Rattle.std.specs.Option.{unwrap_or}
use Rattle.std.specs.Fmt.{decimal}
use Rattle.std.specs.List.{range_with_len}
use Rattle.tt_span.specs.Time.{max_time}
use Rattle.tt_span.specs.Interval.{Interval}
use Rattle.tt_top.specs.declared.faults.ViewFault.{ViewFault}
use Rattle.tt_top.specs.declared.faults.ViewFault.TheVariants.{NotStatus, NotEvidence}
use Rattle.tt_top.specs.declared.views.Broke.{Broke}
use Rattle.tt_top.specs.declared.views.CommitCounts.{CommitCounts}
use Rattle.tt_top.specs.declared.views.Life.{Life}
use Rattle.tt_top.specs.declared.views.SignCounts.{SignCounts}
use Rattle.tt_top.specs.declared.views.SourceView.{SourceView}
use Rattle.tt_top.specs.declared.views.View.{View}
use Rattle.tt_top.specs.Field.{number_behind, span_front, nth_behind, value_of}

-- the value of a metric; 0 where there is none
abbrev pub count_of : List ℕ → ℕ → List ℕ → List ℕ → ℕ
count_of status machine name labels = unwrap_or (value_of status machine name labels) 0

-- the label of a source
abbrev pub source_label : ℕ → List ℕ
source_label source = codes ",source=\"" ++ decimal source ++ codes "\""

-- the labels of a source and of a number
abbrev pub number_label : ℕ → List ℕ → List ℕ
number_label source number = codes ",source=\"" ++ decimal source ++ codes "\",number=\"" ++ number ++ codes "\""

-- a sum of counts, at most 2^64 - 1
abbrev pub sum_of : ℕ → ℕ → ℕ
sum_of a b = min (a + b) 18446744073709551615

-- how many packets of a source did not open for a reason
unfoldable pub unopened_for : List ℕ → ℕ → ℕ → List ℕ → ℕ
unopened_for status machine source number = count_of status machine (codes "truetime_source_packets_unopened_total") (number_label source number)

-- how many packets of a source did not open
abbrev pub unopened_of : List ℕ → ℕ → ℕ → ℕ
unopened_of status machine source =
    sum_of (sum_of (unopened_for status machine source (codes "2201")) (unopened_for status machine source (codes "2202"))) (unopened_for status machine source (codes "2203"))

-- a span that is not all of time
abbrev pub part_of_time : Option Interval → Option Interval
part_of_time None = None
part_of_time (Some span) = if span.lo == 0 && span.hi == max_time then None else Some span

-- the span of a line, if there is one
abbrev pub span_if : Option (List ℕ) → Option Interval
span_if None = None
span_if (Some line) = span_front line

-- the span of a source; none if it has never answered, so that its span is all of time
abbrev pub span_of_source : List ℕ → ℕ → Option Interval
span_of_source evidence source = part_of_time (span_if (nth_behind (codes "span ") source evidence))

-- whether a span holds an end of the fused one: the upper one, or the lower one
abbrev pub holds : Option Interval → Option Interval → Bool → Bool
holds (Some span) (Some fused) upper =
    let end = (if upper then fused.hi else fused.lo) in
    nat_le span.lo end && nat_le end span.hi
holds _ _ upper = false

-- what is shown of a source
unfoldable pub source_of : List ℕ → List ℕ → ℕ → Option Interval → ℕ → SourceView
source_of status evidence machine fused number = record {
  number = number;
  span = span_of_source evidence number;
  suspect = count_of status machine (codes "truetime_source_suspect") (source_label number) == 1;
  age = value_of status machine (codes "truetime_source_answer_age_seconds") (source_label number);
  round_trip = value_of status machine (codes "truetime_source_round_trip_seconds") (source_label number);
  holds_lower = holds (span_of_source evidence number) fused false;
  holds_upper = holds (span_of_source evidence number) fused true;
  unsent = count_of status machine (codes "truetime_source_packets_unsent_total") (source_label number);
  unopened = unopened_of status machine number;
}

-- what is shown of the first sources
unfoldable pub sources_of : List ℕ → List ℕ → ℕ → Option Interval → ℕ → List SourceView
sources_of status evidence machine fused count = map (source_of status evidence machine fused) (range_with_len 0 count)

-- which life it is, and how far that is
unfoldable pub life_of : List ℕ → ℕ → Life
life_of status machine = record {
  machine = machine;
  epoch = count_of status machine (codes "truetime_epoch") [];
  rounds = count_of status machine (codes "truetime_rounds_total") [];
  known = count_of status machine (codes "truetime_sources_known") [];
}

-- the commits
unfoldable pub commits_of : List ℕ → ℕ → CommitCounts
commits_of status machine = record {
  waiting = count_of status machine (codes "truetime_commits_waiting") [];
  waited = count_of status machine (codes "truetime_commit_wait_seconds_count") [];
  together = count_of status machine (codes "truetime_commit_wait_seconds_sum") [];
}

-- what an operator may have to act on
unfoldable pub signs_of : List ℕ → ℕ → SignCounts
signs_of status machine = record {
  breaks = count_of status machine (codes "truetime_assumption_breaks_total") [];
  no_point = count_of status machine (codes "truetime_fusions_refused_total") (codes ",number=\"504\"");
  too_few = count_of status machine (codes "truetime_fusions_refused_total") (codes ",number=\"701\"");
  stale = count_of status machine (codes "truetime_rounds_stale_total") [];
  left_out = count_of status machine (codes "truetime_records_left_out_total") [];
}

-- how the life before ended
unfoldable pub broke_of : List ℕ → ℕ → Broke
broke_of status machine = record {
  at = count_of status machine (codes "truetime_last_break_timestamp_seconds") [];
  by_assumption = count_of status machine (codes "truetime_last_break_info") (codes ",event=\"assumption_broken\"") == 1;
  by_sleep = count_of status machine (codes "truetime_last_break_info") (codes ",event=\"host_slept\"") == 1;
  by_guest = count_of status machine (codes "truetime_last_break_info") (codes ",event=\"guest_disrupted\"") == 1;
}

-- the fused span, of which the evidence has a line
unfoldable pub fused_of : List ℕ → Option Interval
fused_of evidence = span_if (nth_behind (codes "claim ") 0 evidence)

-- a view of these parts
abbrev pub view_of : Life → Option ℕ → List SourceView → Option Interval → Option ℕ → CommitCounts → Bool → SignCounts → Broke → View
view_of life faulty sources fused width commits sharing signs broke = record {
  life = life;
  faulty = faulty;
  sources = record { items = sources };
  fused = fused;
  width = width;
  commits = commits;
  sharing = sharing;
  signs = signs;
  broke = broke;
}

-- all that is shown: at most 16 sources
unfoldable pub view_with : List ℕ → List ℕ → ℕ → View
view_with status evidence machine =
    view_of (life_of status machine)
    (number_behind (codes "faulty ") 10 evidence)
    (sources_of status evidence machine (fused_of evidence) (min (count_of status machine (codes "truetime_sources") []) 16))
    (fused_of evidence)
    (value_of status machine (codes "truetime_width_seconds") [])
    (commits_of status machine)
    (count_of status machine (codes "truetime_sharing") [] == 1)
    (signs_of status machine)
    (broke_of status machine)

-- the view of a machine, if the status names one
abbrev pub result_at : List ℕ → List ℕ → Option ℕ → Result View ViewFault
result_at status evidence None = Err NotStatus
result_at status evidence (Some machine) =
    if not (length evidence == 0) && is_none (fused_of evidence) then Err NotEvidence else Ok (view_with status evidence machine)

-- what two texts show
abbrev pub result_of : List ℕ → List ℕ → Result View ViewFault
result_of status evidence = result_at status evidence (number_behind (codes "truetime_epoch{machine=\"") 34 status)
