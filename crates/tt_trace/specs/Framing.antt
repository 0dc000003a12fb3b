-- What stands around the marks: the opening of the document, its style and legend, the lanes and the ticks.
use Rattle.std.specs.Prelude.{ℕ, ◌+◌, ◌-◌, ◌*◌, List, [], ◌∷◌, map, length, codes}
use Rattle.std.specs.Fmt.{decimal}
use Rattle.std.specs.List.{range_with_len}
use Rattle.tt_daemon.specs.Config.{Configuration}
use Rattle.tt_world.specs.Config.{config_at}
use Rattle.tt_trace.specs.declared.sheets.Sheet.{Sheet}
use Rattle.tt_trace.specs.Sheet.{across_of, middle_of, tick_of}
use Rattle.tt_trace.specs.Tree.{Attribute, Leaf, Branch, opening_then}
use Rattle.tt_trace.specs.Drawing.{word_attribute, number_attribute, title, rectangle, line, label, measure, group}

-- the attributes of a picture of so many machines
abbrev pub size_of : ℕ → List Attribute
size_of machines =
    word_attribute (codes "xmlns") (codes "http://www.w3.org/2000/svg") ∷ word_attribute (codes "width") (codes "1200") ∷ number_attribute (codes "height") (72 + 190 * machines) ∷ []

-- the opening of a picture of so many machines
abbrev pub opening_of : ℕ → List ℕ
opening_of machines = opening_then (codes "svg") (size_of machines) (codes "\n")

-- the branch that says how the classes look
abbrev pub style_group : Branch
style_group = group (codes "style") (record { name = codes "style"; attributes = []; words = codes "svg { background: #ffffff } text { font: 11px sans-serif; fill: #444444 } .lane rect { fill: #f7f7f5 } .lane line { stroke: #999999; stroke-width: 1 } .lane text { text-anchor: end } .tick line { stroke: #dddddd } .tick text { text-anchor: middle } .fusion rect, rect.fusion { fill: #b9d6ee } .reading rect, rect.reading { fill: #2f6fa8 } .wrong rect, rect.wrong { fill: #d62728 } .commit rect, rect.commit { fill: #a8d5a2 } .commit line, rect.queued { stroke: #2c7a2c; stroke-width: 2; fill: #2c7a2c } circle { fill: #174f17 } .lie rect, rect.lie { fill: #e6821e }" ∷ [] } ∷ [])

-- words of the legend at a place
abbrev pub note : List ℕ → List ℕ → List ℕ → Leaf
note x y words = record { name = codes "text"; attributes = word_attribute (codes "x") x ∷ word_attribute (codes "y") y ∷ []; words = words ∷ [] }

-- a shape of the legend: of a class, at a place and of a size
abbrev pub key : List ℕ → List ℕ → List ℕ → List ℕ → List ℕ → Leaf
key class x y width height = record {
  name = codes "rect";
  attributes = word_attribute (codes "class") class ∷ word_attribute (codes "x") x ∷ word_attribute (codes "y") y ∷ word_attribute (codes "width") width ∷ word_attribute (codes "height") height ∷ [];
  words = [];
}

-- a dot of the legend at a place
abbrev pub spot : List ℕ → List ℕ → Leaf
spot x y = record {
  name = codes "circle";
  attributes = word_attribute (codes "cx") x ∷ word_attribute (codes "cy") y ∷ word_attribute (codes "r") (codes "3") ∷ [];
  words = [];
}

-- the branch that says what the classes mean
abbrev pub legend_group : Branch
legend_group = group (codes "legend") (
    note (codes "170") (codes "24") (codes "line: the true time")
    ∷ key (codes "fusion") (codes "308") (codes "14") (codes "13") (codes "12")
    ∷ note (codes "328") (codes "24") (codes "fusion")
    ∷ key (codes "reading") (codes "382") (codes "14") (codes "5") (codes "12")
    ∷ note (codes "392") (codes "24") (codes "reading")
    ∷ key (codes "wrong") (codes "457") (codes "14") (codes "5") (codes "12")
    ∷ note (codes "467") (codes "24") (codes "wrong reading")
    ∷ key (codes "commit") (codes "574") (codes "15") (codes "24") (codes "10")
    ∷ note (codes "604") (codes "24") (codes "commit: arrival to release")
    ∷ key (codes "queued") (codes "792") (codes "15") (codes "1") (codes "10")
    ∷ note (codes "801") (codes "24") (codes "queued")
    ∷ spot (codes "862") (codes "20")
    ∷ note (codes "871") (codes "24") (codes "stamp")
    ∷ key (codes "lie") (codes "924") (codes "17") (codes "9") (codes "6")
    ∷ note (codes "938") (codes "24") (codes "lie")
    ∷ note (codes "974") (codes "24") (codes "bands: earliest to latest")
    ∷ [])

-- the title of a machine of so many sources, of which so many may lie, with a clock of this drift
abbrev pub set_up_title : ℕ → ℕ → ℕ → ℕ → Leaf
set_up_title machine sources faulty ppm =
    title (codes "machine " ∷ decimal machine ∷ codes ": " ∷ decimal sources ∷ codes " sources, " ∷ decimal faulty ∷ codes " may lie, drift " ∷ decimal ppm ∷ codes " ppm" ∷ [])

-- the title of a lane: what its machine is set up with
abbrev pub lane_title : ℕ → Configuration → Leaf
lane_title machine config = set_up_title machine config.sources config.faulty config.drift

-- the shapes of a lane: its ground, the line of the true time, the machine's number, and how far from the true time its upper and lower
-- edges are
abbrev pub lane_shapes : ℕ → ℕ → ℕ → List Leaf
lane_shapes machine middle reach =
    rectangle 10 (middle - 66) 1180 184
    ∷ line 160 middle 1180 middle
    ∷ label 154 (middle + 4) (codes "machine ") machine
    ∷ measure 154 (middle - 46) (codes "+") reach
    ∷ measure 154 (middle + 54) (codes "-") reach
    ∷ []

-- the lane of a machine
abbrev pub lane_group : Sheet → ℕ → Configuration → Branch
lane_group sheet machine config = group (codes "lane") (lane_title machine config ∷ lane_shapes machine (middle_of machine) sheet.reach)

-- the lanes of all machines
abbrev pub lanes_of : List Configuration → Sheet → List Branch
lanes_of configs sheet = map (λ m. lane_group sheet m (config_at configs m)) (range_with_len 0 (length configs))

-- the shapes of a tick: a line across all lanes, with its true time
abbrev pub tick_shapes : ℕ → Sheet → ℕ → List Leaf
tick_shapes machines sheet number =
    let time = tick_of sheet number in
    let across = across_of sheet time in
    line across 60 across (64 + 190 * machines) ∷ measure across 54 (codes "at ") time ∷ []

-- a tick
abbrev pub tick_group : ℕ → Sheet → ℕ → Branch
tick_group machines sheet number = group (codes "tick") (tick_shapes machines sheet number)

-- all ticks
abbrev pub ticks_of : ℕ → Sheet → List Branch
ticks_of machines sheet = map (tick_group machines sheet) (range_with_len 0 6)
