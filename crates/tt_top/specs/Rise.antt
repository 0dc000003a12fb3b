-- When counts rose last, as seen at looks.
use Rattle.std.specs.Prelude.{ℕ, ◌-◌, nat_lt, if◌then◌else◌, Option, Some, None, List, [], ◌∷◌, ◌++◌, map, slice_get, codes}
use Rattle.std.specs.Option.{unwrap_or}
use Rattle.tt_top.specs.declared.rises.MachineRises.{MachineRises}
use Rattle.tt_top.specs.declared.rises.Past.{Past}
use Rattle.tt_top.specs.declared.rises.Rise.{Rise}
use Rattle.tt_top.specs.declared.rises.SourceRises.{SourceRises}
use Rattle.tt_top.specs.declared.views.SignCounts.{SignCounts}
use Rattle.tt_top.specs.declared.views.SourceView.{SourceView}
use Rattle.tt_top.specs.Piece.{join, length_text}

-- of a count that was not seen: no count is above this one
abbrev pub no_rise : Rise
no_rise = record { count = 18446744073709551615; less_at = None }

-- a count is seen; the look before was made at this clock reading
abbrev pub rise_next : Rise → ℕ → ℕ → Rise
rise_next rise count before = record { count = count; less_at = (if nat_lt rise.count count then Some before else rise.less_at) }

-- none of the counts of a machine was seen
abbrev pub no_rises : MachineRises
no_rises = record { breaks = no_rise; no_point = no_rise; too_few = no_rise; stale = no_rise; left_out = no_rise }

-- those of a machine are seen
abbrev pub machine_next : MachineRises → SignCounts → ℕ → MachineRises
machine_next rises signs before = record {
  breaks = rise_next rises.breaks signs.breaks before;
  no_point = rise_next rises.no_point signs.no_point before;
  too_few = rise_next rises.too_few signs.too_few before;
  stale = rise_next rises.stale signs.stale before;
  left_out = rise_next rises.left_out signs.left_out before;
}

-- neither count of a source was seen
abbrev pub no_source : SourceRises
no_source = record { unsent = no_rise; unopened = no_rise }

-- those of a source are seen
abbrev pub source_next : SourceRises → SourceView → ℕ → SourceRises
source_next rises source before = record { unsent = rise_next rises.unsent source.unsent before; unopened = rise_next rises.unopened source.unopened before }

-- what was seen of the source with this number
abbrev pub rises_at : List SourceRises → ℕ → SourceRises
rises_at all number = unwrap_or (slice_get all number) no_source

-- sources are seen
abbrev pub sources_next : List SourceRises → ℕ → List SourceView → List SourceRises
sources_next all before sources = map (λ source. source_next (rises_at all source.number) source before) sources

-- what was seen
abbrev pub machine_seen : Past → MachineRises
machine_seen past = past.machine

abbrev pub sources_seen : Past → List SourceRises
sources_seen past = past.sources.items

-- when the first look was made, and when the last one
abbrev pub began_at : Past → ℕ
began_at past = past.began

abbrev pub looked_at : Past → ℕ
looked_at past = past.looked

-- when a count rose last: within what time, if that was seen, and else since when it did not
abbrev pub since_if : ℕ → ℕ → Option ℕ → List ℕ
since_if began looked (Some at) = join (codes ": the last within " ∷ length_text (looked - at) ∷ [])
since_if began looked None =
    if nat_lt began looked then join (codes " in this life: none within " ∷ length_text (looked - began) ∷ []) else codes " in this life"

-- when a count rose last
abbrev pub since_text : ℕ → ℕ → Rise → List ℕ
since_text began looked rise = since_if began looked rise.less_at
