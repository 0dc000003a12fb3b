-- The picture of a view, as SVG.
use Rattle.std.specs.Prelude.{ℕ, ◌+◌, List, [], ◌∷◌, ◌++◌, length, codes}
use Rattle.std.specs.Fmt.{decimal}
use Rattle.tt_top.specs.declared.forms.Form.{Form}
use Rattle.tt_top.specs.declared.views.View.{View}
use Rattle.tt_top.specs.Chart.{row_of, spans_chart}
use Rattle.tt_top.specs.History.{history_text}
use Rattle.tt_top.specs.Piece.{join}

-- how the parts look
abbrev pub style : List ℕ
style = codes "<style>\nsvg { --ink: #1c2128; --paper: #ffffff; --line: #6e7781; --source: #2f6fb3; --bad: #c4262e; --fused: #1f7a3a; --band: #d8efdc; background: var(--paper) }\n@media (prefers-color-scheme: dark) { svg { --ink: #e6edf3; --paper: #11151a; --line: #8b949e; --source: #6cb0f5; --bad: #ff7b72; --fused: #56d36f; --band: #17361f } }\nsvg text { font: 28px sans-serif; fill: var(--ink) }\nsvg .tick { text-anchor: middle }\nsvg .tick, svg .now { font-size: 26px }\nsvg .end { text-anchor: end }\nsvg .axis { stroke: var(--line); stroke-width: 2; fill: none }\nsvg .source rect { fill: var(--source) }\nsvg .suspect rect, svg .silent rect { fill: var(--bad) }\nsvg .suspect text, svg .silent text, svg .never text, svg .wide { fill: var(--bad) }\nsvg .fused rect { fill: var(--fused) }\nsvg .band { fill: var(--band) }\nsvg .width { stroke: var(--source); stroke-width: 4; fill: none }\nsvg .limit { stroke: var(--bad); stroke-width: 3; stroke-dasharray: 12 8; fill: none }\n</style>\n"

-- where the widths stand below so many sources
abbrev pub base_of : ℕ → ℕ
base_of sources = row_of sources + 290

-- what a document of so many sources begins with
abbrev pub opening_of : ℕ → List ℕ
opening_of sources = join (
    codes "<svg xmlns=\"http://www.w3.org/2000/svg\" viewBox=\"0 0 960 " ∷ decimal (base_of sources + 50)
    ∷ codes "\" role=\"img\" aria-label=\"spans of all sources, and the width\">\n" ∷ style ∷ [])

-- what it ends with
abbrev pub closing : List ℕ
closing = codes "</svg>\n"

-- the document of a view with so many sources
abbrev pub svg_of : Form → View → List ℕ → ℕ → List ℕ
svg_of form view widths sources =
    opening_of sources ++ (spans_chart form view.fused view.sources.items ++ (history_text form view (base_of sources) widths ++ closing))

-- the document of a view
unfoldable pub svg_text : Form → View → List ℕ → List ℕ
svg_text form view widths = svg_of form view widths (length view.sources.items)
