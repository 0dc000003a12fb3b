-- How each mark is drawn: a branch with a title and shapes.
use Rattle.std.specs.Prelude.{ℕ, ◌+◌, ◌-◌, ◌*◌, ◌/◌, ◌%◌, nat_le, if◌then◌else◌, List, [], ◌∷◌, codes}
use Rattle.std.specs.Fmt.{decimal}
use Rattle.tt_trace.specs.declared.marks.Band.{Band}
use Rattle.tt_trace.specs.declared.marks.Course.{Course}
use Rattle.tt_trace.specs.declared.marks.Flag.{Flag}
use Rattle.tt_trace.specs.declared.marks.Mark.{Mark}
use Rattle.tt_trace.specs.declared.marks.Mark.TheVariants.{Fusion, Reading, Commit, Lie, Forgery}
use Rattle.tt_trace.specs.declared.sheets.Sheet.{Sheet}
use Rattle.tt_trace.specs.Marks.{is_right}
use Rattle.tt_trace.specs.Sheet.{across_of, middle_of, upright_of}
use Rattle.tt_trace.specs.Tree.{Attribute, Leaf, Branch}

-- an attribute whose value is a word
abbrev pub word_attribute : List ℕ → List ℕ → Attribute
word_attribute name value = record { name = name; value = value }

-- an attribute whose value is a number
abbrev pub number_attribute : List ℕ → ℕ → Attribute
number_attribute name n = record { name = name; value = decimal n }

-- a title, which is shown where one points at its branch
abbrev pub title : List (List ℕ) → Leaf
title words = record { name = codes "title"; attributes = []; words = words }

-- a rectangle
abbrev pub rectangle : ℕ → ℕ → ℕ → ℕ → Leaf
rectangle x y width height = record {
  name = codes "rect";
  attributes = number_attribute (codes "x") x ∷ number_attribute (codes "y") y ∷ number_attribute (codes "width") width ∷ number_attribute (codes "height") height ∷ [];
  words = [];
}

-- a word at a place, with a number behind it
abbrev pub label : ℕ → ℕ → List ℕ → ℕ → Leaf
label x y word n = record {
  name = codes "text";
  attributes = number_attribute (codes "x") x ∷ number_attribute (codes "y") y ∷ [];
  words = word ∷ decimal n ∷ [];
}

-- a time at a place, in nanoseconds, behind a word
abbrev pub measure : ℕ → ℕ → List ℕ → ℕ → Leaf
measure x y word n = record {
  name = codes "text";
  attributes = number_attribute (codes "x") x ∷ number_attribute (codes "y") y ∷ [];
  words = word ∷ decimal n ∷ codes " ns" ∷ [];
}

-- a dot
abbrev pub dot : ℕ → ℕ → Leaf
dot x y = record {
  name = codes "circle";
  attributes = number_attribute (codes "cx") x ∷ number_attribute (codes "cy") y ∷ word_attribute (codes "r") (codes "3") ∷ [];
  words = [];
}

-- a line
abbrev pub line : ℕ → ℕ → ℕ → ℕ → Leaf
line x1 y1 x2 y2 = record {
  name = codes "line";
  attributes = number_attribute (codes "x1") x1 ∷ number_attribute (codes "y1") y1 ∷ number_attribute (codes "x2") x2 ∷ number_attribute (codes "y2") y2 ∷ [];
  words = [];
}

-- a branch of a class
abbrev pub group : List ℕ → List Leaf → Branch
group class leaves = record { name = codes "g"; attributes = word_attribute (codes "class") class ∷ []; leaves = leaves }

-- what the title of a band says: the machine, what it does, the span and the true time
abbrev pub band_title : List ℕ → Band → Leaf
band_title verb band =
    title (codes "machine " ∷ decimal band.machine ∷ codes " " ∷ verb ∷ codes " " ∷ decimal band.lo ∷ codes " to " ∷ decimal band.hi ∷ codes " at " ∷ decimal band.at ∷ [])

-- the rectangle of a band of a width: upright from the latest to the earliest, and one further at both ends so that a point is seen too;
-- its middle is at the true time
abbrev pub band_shape : ℕ → Sheet → Band → Leaf
band_shape width sheet band =
    let top = upright_of sheet band.machine band.at band.hi in
    let bottom = upright_of sheet band.machine band.at band.lo in
    rectangle (across_of sheet band.at - width / 2) (top - 1) width (bottom - top + 3)

-- a band of a width
abbrev pub band_group : List ℕ → List ℕ → ℕ → Sheet → Band → Branch
band_group class verb width sheet band = group class (band_title verb band ∷ band_shape width sheet band ∷ [])

-- the class of a reading: whether it holds the true time
abbrev pub reading_class : Band → List ℕ
reading_class band = if is_right band then codes "reading" else codes "reading wrong"

-- a lying answer: a flag above the bands
abbrev pub lie_group : Sheet → Band → Branch
lie_group sheet band =
    group (codes "lie") (band_title (codes "is answered") band ∷ rectangle (across_of sheet band.at - 4) (middle_of band.machine - 60) 9 6 ∷ [])

-- what the title of made up bytes says
abbrev pub flag_title : Flag → Leaf
flag_title flag = title (codes "machine " ∷ decimal flag.machine ∷ codes " takes forged bytes at " ∷ decimal flag.at ∷ [])

-- made up bytes that were taken: a flag above the bands
abbrev pub forgery_group : Sheet → Flag → Branch
forgery_group sheet flag =
    group (codes "lie") (flag_title flag ∷ rectangle (across_of sheet flag.at - 4) (middle_of flag.machine - 60) 9 6 ∷ [])

-- what the title of a commit says
abbrev pub course_title : Course → Leaf
course_title course =
    title (codes "commit " ∷ decimal course.id.number ∷ codes " of session " ∷ decimal course.id.session ∷ codes ": stamp " ∷ decimal course.stamp
    ∷ codes ", arrived " ∷ decimal course.arrived ∷ codes ", released " ∷ decimal course.released ∷ [])

-- the stamp in words within a bar of a width, where that is wide enough for every stamp
abbrev pub stamp_labels : ℕ → ℕ → ℕ → ℕ → List Leaf
stamp_labels from top width stamp = if nat_le 180 width then label (from + 4) (top + 9) (codes "stamp ") stamp ∷ [] else []

-- the shapes of a commit at these places: a bar of a width, a line over it, a dot, and the stamp in words
abbrev pub bar_shapes : ℕ → ℕ → ℕ → ℕ → ℕ → ℕ → List Leaf
bar_shapes from top width over spot stamp =
    rectangle from top width 10 ∷ line over top over (top + 10) ∷ dot spot (top + 5) ∷ stamp_labels from top width stamp

-- the shapes of a commit: a bar from its arrival to its release, a line where it was queued, and a dot at its stamp, in one of four rows
-- below the bands
abbrev pub course_shapes : Sheet → Course → List Leaf
course_shapes sheet course =
    let top = middle_of course.machine + 62 + 14 * (course.id.number % 4) in
    let from = across_of sheet course.arrived in
    bar_shapes from top (across_of sheet course.released - from + 2) (across_of sheet course.queued) (across_of sheet course.stamp) course.stamp

-- a commit
abbrev pub course_group : Sheet → Course → Branch
course_group sheet course = group (codes "commit") (course_title course ∷ course_shapes sheet course)

-- the branch of a mark
abbrev pub group_of : Sheet → Mark → Branch
group_of sheet (Fusion band) = band_group (codes "fusion") (codes "publishes") 13 sheet band
group_of sheet (Reading band) = band_group (reading_class band) (codes "reads") 5 sheet band
group_of sheet (Commit course) = course_group sheet course
group_of sheet (Lie band) = lie_group sheet band
group_of sheet (Forgery flag) = forgery_group sheet flag
