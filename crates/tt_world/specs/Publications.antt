-- What each machine has published, and what its workers have read from it, searched back.
use Rattle.std.specs.Prelude.{ℕ, ◌+◌, ◌-◌, ◌==◌, ◌&&◌, nat_lt, max, if◌then◌else◌, List, [], ◌∷◌, ◌++◌, map, length, count_by, slice_index_or, is_some, Option, Some, None, Result, Ok, Err}
use Rattle.std.specs.List.{range_with_len}
use Rattle.tt_span.specs.Interval.{Interval, whole}
pub use Rattle.tt_publish.specs.Reading.{reading_at}
use Rattle.tt_source.specs.Table.{stated_at}
use Rattle.tt_fuse.specs.Depth.{slow_fusion}
use Rattle.tt_world.specs.Life.{Life, life_at, is_of}
use Rattle.tt_world.specs.declared.events.Event.{Event}
use Rattle.tt_world.specs.declared.events.Action.{Action}
use Rattle.tt_world.specs.declared.events.Action.TheVariants.{Fuse, Read}
use Rattle.tt_publish.specs.declared.readings.FusedSpan.{FusedSpan}
use Rattle.tt_daemon.specs.Config.{Configuration}
use Rattle.tt_world.specs.Config.{config_at}
use Rattle.tt_world.specs.Sources.{statement_of}

-- the spans of all sources of this life at a clock reading; a source that has made no statement stands as the whole
abbrev pub spans_of : Configuration → List Event → Life → ℕ → List Interval
spans_of config past life clock = map (λ i. stated_at config.drift (statement_of past life i) clock) (range_with_len 0 config.sources)

-- how many sources of this life have made a statement
abbrev pub known_of : Configuration → List Event → Life → ℕ
known_of config past life = count_by (λ i. is_some (statement_of past life i)) (range_with_len 0 config.sources)

-- a publication of the fusion, or refusal 504 where no time is possible
abbrev pub publication_from : ℕ → Option Interval → Result FusedSpan ℕ
publication_from clock None = Err 504
publication_from clock (Some span) = Ok (record { clock = clock; span = span })

-- what this life publishes when it fuses at a clock reading, or its refusal: 701 where too few sources are known, 504 where no time is possible
abbrev pub fusion_of : Configuration → List Event → Life → ℕ → Result FusedSpan ℕ
fusion_of config past life clock =
    if nat_lt (known_of config past life) (config.sources - config.faulty) then Err 701
    else publication_from clock (slow_fusion (spans_of config past life clock) config.faulty)

-- the one publication that was made, or none
abbrev pub one_if_made : Result FusedSpan ℕ → List FusedSpan
one_if_made (Ok publication) = publication ∷ []
one_if_made (Err number) = []

-- the clock reading at which an event fuses in this life, if it does
abbrev pub fuses_at : List Event → Life → Action → Option ℕ
fuses_at past life (Fuse machine clock) = if is_of past life machine then Some clock else None
fuses_at past life _ = None

-- what a fusion at this clock reading publishes, if there is one
abbrev pub published_at : Configuration → List Event → Life → Option ℕ → List FusedSpan
published_at config past life None = []
published_at config past life (Some clock) = one_if_made (fusion_of config past life clock)

-- the publications of this life, the oldest first: the first of them has number 1
abbrev pub publications_of : Configuration → List Event → Life → List FusedSpan
publications_of config [] life = []
publications_of config (event ∷ past) life = publications_of config past life ++ published_at config past life (fuses_at past life event.action)

-- a publication with all that was fused: the machine and the life that made it, its number among those of this life, the clock reading, the fused span, and the spans of which so many may be false
pub record Showing : Type 0 where
  pub machine : ℕ
  pub life : ℕ
  pub number : ℕ
  pub clock : ℕ
  pub span : Interval
  pub spans : List Interval
  pub faulty : ℕ

-- what a fusion of these spans shows of a life, if there is one
abbrev pub showing_of : Life → ℕ → List Interval → ℕ → Result FusedSpan ℕ → List Showing
showing_of life number spans faulty (Ok publication) =
    record { machine = life.machine; life = life.number; number = number; clock = publication.clock; span = publication.span; spans = spans; faulty = faulty } ∷ []
showing_of life number spans faulty (Err refusal) = []

-- what an event shows
abbrev pub shown_by : List Configuration → List Event → Action → List Showing
shown_by configs past (Fuse machine clock) =
    let config = config_at configs machine in
    let life = life_at past machine in
    showing_of life (length (publications_of config past life) + 1) (spans_of config past life clock) config.faulty (fusion_of config past life clock)
shown_by configs past _ = []

-- the publications of all machines, in the order of their events
abbrev pub shown_of : List Configuration → List Event → List Showing
shown_of configs [] = []
shown_of configs (event ∷ past) = shown_of configs past ++ shown_by configs past event.action

-- the number of the publication that worker w of this life reads from in an event, or before if it reads none there
abbrev pub seen_by : List Event → Life → ℕ → Action → ℕ → ℕ
seen_by past life w (Read machine worker clock publication) before = if is_of past life machine && worker == w then max publication before else before
seen_by past life w _ before = before

-- the greatest number of a publication that worker w of this life has read from, 0 where it has read from none
abbrev pub seen_of : List Event → Life → ℕ → ℕ
seen_of [] life w = 0
seen_of (event ∷ past) life w = seen_by past life w event.action (seen_of past life w)

-- no machine has made this publication
abbrev pub no_publication : FusedSpan
no_publication = record { clock = 0; span = whole }

-- publication k, the first of which has number 1
abbrev pub publication_at : List FusedSpan → ℕ → FusedSpan
publication_at publications k = slice_index_or publications (k - 1) no_publication
