-- What is known of the publications of a machine.
use Rattle.std.specs.Prelude.{ℕ, ◌≡◌, ◌<◌, ◌⊎◌, List, [], Option, Some, None}
use Rattle.std.specs.List.{last_or}
use Rattle.std.specs.Option.{option_map}
use mathlib.Core.List.{IsPrefix}
pub use Rattle.tt_history.specs.Known.{Source}
use Rattle.tt_history.specs.Known.{Known as KnownItems}
use Rattle.tt_span.specs.Interval.{Interval}
use Rattle.tt_daemon.specs.Publication.{Publication}
use Rattle.tt_publish.specs.Reading.{fused_span_of, CanBeReadAt, reading_at}
use Rattle.tt_publish.specs.declared.readings.FusedSpan.{FusedSpan}

-- the most watches that one teller can show its publications to
abbrev pub max_watches : ℕ
max_watches = 32

-- publications that are known: the first ones of one source, oldest first
abbrev pub Known : Type 0
Known = KnownItems Publication

-- a watch: what it has seen of one source, oldest first, and the drift of the clock that it reads by, in parts per million
pub record WatchState : Type 0 where
  pub source : Source
  pub drift : ℕ
  pub items : List Publication

-- a new watch of this source, by a clock with this drift, in parts per million: it has seen nothing
abbrev pub new_watch : Source → ℕ → WatchState
new_watch source drift = record { source = source; drift = drift; items = [] }

-- what a watch has seen
abbrev pub seen_of : WatchState → Known
seen_of watch = record { source = watch.source; items = watch.items }

-- the last of a list, if it has one
abbrev pub last_of : {A : Type 0} → List A → Option A
last_of xs = last_or None xs

-- what is read of the last publication of a list, if it has one
abbrev pub last_read_of : List Publication → Option FusedSpan
last_read_of items = option_map fused_span_of (last_of items)

-- the clock of the publication is below that of the last one
abbrev pub GoesBack : List Publication → Publication → Type 0
GoesBack items publication = (last : Publication) × (last_of items ≡ Some last) × (publication.clock < last.clock)

-- one of two lists begins the other, and this is the longer one
abbrev pub IsLonger : {A : Type 0} → List A → List A → List A → Type 0
IsLonger xs ys longer = (IsPrefix xs ys × (longer ≡ ys)) ⊎ (IsPrefix ys xs × (longer ≡ xs))

-- the reading of the last publication that is known, at something that the clock gave
abbrev pub ReadsLast : WatchState → (ℕ → Type 0) → Interval → Type 0
ReadsLast watch gave reading =
    (last : Publication) × (c : ℕ) × (last_of watch.items ≡ Some last) × gave c × CanBeReadAt (fused_span_of last) c × (reading ≡ reading_at watch.drift (fused_span_of last) c)

-- the last publication that is known can't be read at something that the clock gave
abbrev pub MissesLast : WatchState → (ℕ → Type 0) → Type 0
MissesLast watch gave = (last : Publication) × (c : ℕ) × (last_of watch.items ≡ Some last) × gave c × (¬ CanBeReadAt (fused_span_of last) c)
