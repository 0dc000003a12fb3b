-- What the sources of a machine stated last, and their spans at a clock reading.
use Rattle.std.specs.Prelude.{◌≡◌, ℕ, ◌≤◌, List, length, map, take, replicate, slice_index_or, slice_set, All, Option, Some, None, IfSome}
use Rattle.tt_span.specs.Time.{max_time}
use Rattle.tt_span.specs.Interval.{Interval, whole}
use Rattle.tt_span.specs.Drift.{max_drift}
use Rattle.tt_span.specs.Statement.{Statement, IsStatement, stated_at}
use Rattle.tt_span.specs.Sources.{max_sources}

-- the drift of the machine's clock in parts per million, and the last statement of each source that there can be, by their numbers
pub record Stated : Type 0 where
  pub drift : ℕ
  pub statements : List (Option Statement)

-- the drift is in range, there is a place for each source that there can be, and the statements are statements
pub record IsStated (s : Stated) : Type 0 where
  pub drift_in : s.drift ≤ max_drift
  pub each_source : length s.statements ≡ max_sources
  pub valid : All (λ statement. IfSome statement IsStatement) s.statements

-- no source has stated anything
abbrev pub nothing_stated : ℕ → Stated
nothing_stated drift = record { drift = drift; statements = replicate max_sources None }

-- what source i stated last
abbrev pub statement_of : Stated → ℕ → Option Statement
statement_of s i = slice_index_or s.statements i None

-- the same once source i has made this statement, and nothing else has changed
abbrev pub with_statement : Stated → ℕ → Statement → Stated
with_statement s i statement = record s { statements = slice_set s.statements i (Some statement) }

-- each statement came at this clock reading or before
abbrev pub AreGotBy : Stated → ℕ → Type 0
AreGotBy s clock = All (λ statement. IfSome statement (λ stated. stated.got ≤ clock)) s.statements

-- no source but the first n has made a statement
abbrev pub AreAmongFirst : Stated → ℕ → Type 0
AreAmongFirst s n = (i : ℕ) → n ≤ i → statement_of s i ≡ None

-- the spans of the first n sources at a clock reading: each one's statement, aged, or the whole of time where it has made none
abbrev pub spans_at : Stated → ℕ → ℕ → List Interval
spans_at s clock n = map (λ statement. stated_at s.drift statement clock) (take n s.statements)

-- these are the spans of the first sources at some clock reading: it is in time, no statement came after it, and no other source has made one
pub record AreSpansAt (s : Stated) (clock : ℕ) (spans : List Interval) : Type 0 where
  pub in_time : clock ≤ max_time
  pub got : AreGotBy s clock
  pub few : length spans ≤ max_sources
  pub among : AreAmongFirst s (length spans)
  pub aged : spans_at s clock (length spans) ≡ spans

-- the lower end of a source's span
abbrev pub low_of_source : List Interval → ℕ → ℕ
low_of_source spans source = (slice_index_or spans source whole).lo

-- the upper end of a source's span
abbrev pub high_of_source : List Interval → ℕ → ℕ
high_of_source spans source = (slice_index_or spans source whole).hi
