-- The lines of what an operator may have to act on.
use Rattle.std.specs.Prelude.{ℕ, ◌-◌, ◌==◌, ◌||◌, nat_lt, Bool, true, false, if◌then◌else◌, Option, Some, None, List, [], ◌∷◌, ◌++◌, length, codes}
use Rattle.std.specs.Fmt.{decimal}
use Rattle.std.specs.List.{flat_map, filter}
use Rattle.tt_top.specs.declared.forms.Form.{Form}
use Rattle.tt_top.specs.declared.pieces.Piece.TheVariants as piece
use Rattle.tt_top.specs.declared.rises.Past.{Past}
use Rattle.tt_top.specs.declared.rises.Rise.{Rise}
use Rattle.tt_top.specs.declared.views.Broke.{Broke}
use Rattle.tt_top.specs.declared.views.SignCounts.{SignCounts}
use Rattle.tt_top.specs.declared.views.SourceView.{SourceView}
use Rattle.tt_top.specs.declared.views.View.{View}
use Rattle.tt_top.specs.Form.{is_wide, red_word, plain_word}
use Rattle.tt_top.specs.Piece.{join, length_text, piece_text}
use Rattle.tt_top.specs.Rise.{rises_at, since_text}

-- how many of the sources are suspects
abbrev pub suspects_of : List SourceView → ℕ
suspects_of sources = length (filter (λ source. source.suspect) sources)

-- whether an age is above a length of time
abbrev pub is_older : Option ℕ → ℕ → Bool
is_older None length = false
is_older (Some age) length = nat_lt length age

-- whether the last answer of a source is too old
abbrev pub is_silent : Form → SourceView → Bool
is_silent form source = is_older source.age form.silent_after

-- how many of the sources are silent
abbrev pub silent_of : Form → List SourceView → ℕ
silent_of form sources = length (filter (is_silent form) sources)

-- whose sign it is, where that is a source
abbrev pub whose_text : Option ℕ → List ℕ
whose_text None = []
whose_text (Some number) = join (codes "source " ∷ decimal number ∷ codes ": " ∷ [])

-- when a count rose last, where it is one of what is past
abbrev pub when_text : Past → Option Rise → List ℕ
when_text past None = []
when_text past (Some rise) = since_text past.began past.looked rise

-- the line of so many of something
unfoldable pub some_text : Form → Past → Option ℕ → ℕ → List ℕ → Option Rise → List ℕ
some_text form past source count words rise =
    join (red_word form true ∷ codes "! " ∷ [])
    ++ (whose_text source ++ (join (decimal count ∷ words ∷ []) ++ (when_text past rise ++ join (plain_word form true ∷ codes "\n" ∷ []))))

-- the same if there are any
abbrev pub sign_text : Form → Past → Option ℕ → ℕ → List ℕ → Option Rise → List ℕ
sign_text form past source count words rise = if count == 0 then [] else some_text form past source count words rise

-- a line of the machine
abbrev pub own : Form → Past → ℕ → List ℕ → Option Rise → List ℕ
own form past count words rise = sign_text form past None count words rise

-- the lines of the machine
abbrev pub machine_signs : Form → Past → SignCounts → List ℕ
machine_signs form past signs = join (
    own form past signs.breaks (codes " signs of a broken assumption") (Some past.machine.breaks)
    ∷ own form past signs.no_point (codes " fusions refused (504): more sources are faulty than may be") (Some past.machine.no_point)
    ∷ own form past signs.too_few (codes " fusions refused (701): too few sources are known") (Some past.machine.too_few)
    ∷ own form past signs.stale (codes " rounds without fresh answers of enough sources") (Some past.machine.stale)
    ∷ own form past signs.left_out (codes " records left out") (Some past.machine.left_out)
    ∷ [])

-- how many sources are suspects or silent
abbrev pub count_signs : Form → Past → List SourceView → List ℕ
count_signs form past sources =
    join (own form past (suspects_of sources) (codes " suspects") None ∷ own form past (silent_of form sources) (codes " silent sources") None ∷ [])

-- the lines of a source
abbrev pub source_signs : Form → Past → SourceView → List ℕ
source_signs form past source = join (
    sign_text form past (Some source.number) source.unsent (codes " packets could not be sent") (Some (rises_at past.sources.items source.number).unsent)
    ∷ sign_text form past (Some source.number) source.unopened (codes " packets did not open") (Some (rises_at past.sources.items source.number).unopened)
    ∷ [])

-- readings are wider than clients are given
abbrev pub wide_text : Form → Option ℕ → List ℕ
wide_text form width =
    if is_wide form width then join (
    red_word form true ∷ codes "! readings are wider than max_width " ∷ piece_text (piece.Length form.max_width) ∷ codes ": clients are refused (1824)"
    ∷ plain_word form true ∷ codes "\n" ∷ []) else []

-- why the life before broke, if that is known
abbrev pub reason_word : Broke → List ℕ
reason_word broke =
    if broke.by_assumption then codes " ago: assumption_broken"
    else (if broke.by_sleep then codes " ago: host_slept" else (if broke.by_guest then codes " ago: guest_disrupted" else codes " ago"))

-- the life before broke, and that is at most ten minutes ago
abbrev pub broke_text : Form → Broke → List ℕ
broke_text form broke =
    if broke.at == 0 || nat_lt 600000000000 (form.time - broke.at) then [] else join (
    red_word form true ∷ codes "! the last life broke " ∷ length_text (form.time - broke.at) ∷ reason_word broke ∷ plain_word form true ∷ codes "\n" ∷ [])

-- all lines
abbrev pub signs_text : Form → Past → View → List ℕ
signs_text form past view =
    broke_text form view.broke
    ++ (wide_text form view.width
    ++ (machine_signs form past view.signs ++ (count_signs form past view.sources.items ++ flat_map (source_signs form past) view.sources.items)))
