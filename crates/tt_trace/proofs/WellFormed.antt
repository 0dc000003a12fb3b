-- Every picture is a well-formed document.
use Rattle.std.proofs.Common.{◌≡◌, ℕ, zero, suc, ◌+◌, ◌-◌, ◌*◌, ◌/◌, ◌%◌, ◌≤◌, ◌<◌, List, [], ◌∷◌, ◌++◌, ◌&&◌, map, length, refl, ap, ◌∙◌, Bool, true, false, arith}
use Rattle.std.specs.Prelude.{◌==◌, nat_le, if◌then◌else◌, codes}
use Rattle.std.specs.Fmt.{decimal, digits, digits_onto, digit_glyph}
use Rattle.std.specs.List.{list_all, range_with_len}
use Rattle.std.proofs.lemmas.List.Folds.{list_all-append}
use Rattle.tt_daemon.specs.Config.{Configuration}
use Rattle.tt_world.specs.declared.events.Event.{Event}
use Rattle.tt_world.specs.Trace.{RunTrace}
use Rattle.tt_world.specs.Config.{config_at}
use Rattle.tt_trace.specs.declared.marks.Band.{Band}
use Rattle.tt_trace.specs.declared.marks.Course.{Course}
use Rattle.tt_trace.specs.declared.marks.Flag.{Flag}
use Rattle.tt_trace.specs.declared.marks.Mark.{Mark}
use Rattle.tt_trace.specs.declared.marks.Mark.TheVariants.{Fusion, Reading, Commit, Lie, Forgery}
use Rattle.tt_trace.specs.declared.sheets.Sheet.{Sheet}
use Rattle.tt_trace.specs.Tree.{Branch, Leaf, are_plain, is_plain, is_tag, is_branch, is_leaf, is_well_formed}
use Rattle.tt_trace.specs.Sheet.{across_of, middle_of, upright_of, sheet_of, tick_of}
use Rattle.tt_trace.specs.Drawing.{rectangle, line, dot, label, measure, group, band_title, band_shape, band_group, reading_class, lie_group, flag_title, forgery_group, course_title, course_shapes, bar_shapes, course_group, stamp_labels, group_of}
use Rattle.tt_trace.specs.Framing.{size_of, style_group, legend_group, set_up_title, lane_title, lanes_of, lane_shapes, lane_group, ticks_of, tick_group}
use Rattle.tt_trace.specs.Marks.{is_right, marks_of}
use Rattle.tt_trace.specs.Picture.{picture_of, document_of}

-- ---- lists

-- both tests hold
both : (a b : Bool) → a ≡ true → b ≡ true → (a && b) ≡ true
both a b first second = rw (first, second) refl

-- what holds of each element of two lists holds of each of both, one behind the other
all_both : {X : Type 0} (test : X → Bool) (xs ys : List X) → list_all test xs ≡ true → list_all test ys ≡ true → list_all test (xs ++ ys) ≡ true
all_both test xs ys first second = list_all-append test xs ys ∙ both (list_all test xs) (list_all test ys) first second

-- what holds of each value of a function holds of each of a list of them
all_mapped : {X Y : Type 0} (test : Y → Bool) (f : X → Y) (xs : List X) → ((x : X) → test (f x) ≡ true) → list_all test (map f xs) ≡ true
all_mapped test f [] holds = refl
all_mapped test f (x ∷ xs) holds = both (test (f x)) (list_all test (map f xs)) (holds x) (all_mapped test f xs holds)

-- ---- numbers

-- the character of a digit is plain
plain_digit : (d : ℕ) → d < 10 → is_plain (digit_glyph false d) ≡ true
plain_digit zero small = refl
plain_digit (suc zero) small = refl
plain_digit (suc (suc zero)) small = refl
plain_digit (suc (suc (suc zero))) small = refl
plain_digit (suc (suc (suc (suc zero)))) small = refl
plain_digit (suc (suc (suc (suc (suc zero))))) small = refl
plain_digit (suc (suc (suc (suc (suc (suc zero)))))) small = refl
plain_digit (suc (suc (suc (suc (suc (suc (suc zero))))))) small = refl
plain_digit (suc (suc (suc (suc (suc (suc (suc (suc zero)))))))) small = refl
plain_digit (suc (suc (suc (suc (suc (suc (suc (suc (suc zero))))))))) small = refl
plain_digit (suc (suc (suc (suc (suc (suc (suc (suc (suc (suc d)))))))))) small = absurd (omega arith)

-- a digit before plain text is plain
plain_before : (n : ℕ) (rest : List ℕ) → are_plain rest ≡ true → are_plain (digit_glyph false (n % 10) ∷ rest) ≡ true
plain_before n rest plain = both (is_plain (digit_glyph false (n % 10))) (are_plain rest) (plain_digit (n % 10) (omega arith)) plain

-- one of two lists is plain where both are
plain_either : (test : Bool) (xs ys : List ℕ) → are_plain xs ≡ true → are_plain ys ≡ true → are_plain (if test then xs else ys) ≡ true
plain_either true xs ys first second = first
plain_either false xs ys first second = second

-- digits before plain text are plain
plain_digits : (k n : ℕ) (rest : List ℕ) → are_plain rest ≡ true → are_plain (digits_onto k 10 false n rest) ≡ true
plain_digits zero n rest plain = plain
plain_digits (suc k) n rest plain =
    let next : List ℕ = digit_glyph false (n % 10) ∷ rest in
    plain_either (n / 10 == 0) next (digits_onto k 10 false (n / 10) next) (plain_before n rest plain) (plain_digits k (n / 10) next (plain_before n rest plain))

-- a number is plain
plain_number : (n : ℕ) → are_plain (decimal n) ≡ true
unfolding digits
plain_number n = plain_digits 64 n [] refl

-- ---- leaves

good_rectangle : (x y width height : ℕ) → is_leaf (rectangle x y width height) ≡ true
good_rectangle x y width height = rw (plain_number x, plain_number y, plain_number width, plain_number height) refl

good_line : (x1 y1 x2 y2 : ℕ) → is_leaf (line x1 y1 x2 y2) ≡ true
good_line x1 y1 x2 y2 = rw (plain_number x1, plain_number y1, plain_number x2, plain_number y2) refl

good_dot : (x y : ℕ) → is_leaf (dot x y) ≡ true
good_dot x y = rw (plain_number x, plain_number y) refl

good_label : (x y : ℕ) (word : List ℕ) (n : ℕ) → are_plain word ≡ true → is_leaf (label x y word n) ≡ true
good_label x y word n plain = rw (plain_number x, plain_number y, plain, plain_number n) refl

good_measure : (x y : ℕ) (word : List ℕ) (n : ℕ) → are_plain word ≡ true → is_leaf (measure x y word n) ≡ true
good_measure x y word n plain = rw (plain_number x, plain_number y, plain, plain_number n) refl

good_band_title : (verb : List ℕ) (machine at lo hi : ℕ) → are_plain verb ≡ true → is_leaf (band_title verb (record { machine = machine; at = at; lo = lo; hi = hi })) ≡ true
good_band_title verb machine at lo hi plain = rw (plain_number machine, plain, plain_number lo, plain_number hi, plain_number at) refl

good_flag_title : (machine at : ℕ) → is_leaf (flag_title (record { machine = machine; at = at })) ≡ true
good_flag_title machine at = rw (plain_number machine, plain_number at) refl

good_course_title : (course : Course) → is_leaf (course_title course) ≡ true
good_course_title course = rw (plain_number course.id.number, plain_number course.id.session, plain_number course.stamp, plain_number course.arrived, plain_number course.released) refl

good_set_up_title : (machine sources faulty ppm : ℕ) → is_leaf (set_up_title machine sources faulty ppm) ≡ true
good_set_up_title machine sources faulty ppm = rw (plain_number machine, plain_number sources, plain_number faulty, plain_number ppm) refl

good_stamp_labels : (from top stamp : ℕ) (test : Bool) → list_all is_leaf (if test then label (from + 4) (top + 9) (codes "stamp ") stamp ∷ [] else []) ≡ true
good_stamp_labels from top stamp true = both (is_leaf (label (from + 4) (top + 9) (codes "stamp ") stamp)) true (good_label (from + 4) (top + 9) (codes "stamp ") stamp refl) refl
good_stamp_labels from top stamp false = refl

-- ---- branches

good_group : (class : List ℕ) (leaves : List Leaf) → are_plain class ≡ true → list_all is_leaf leaves ≡ true → is_branch (group class leaves) ≡ true
good_group class leaves plain good = rw (plain, good) refl

-- a group of two leaves
good_pair : (class : List ℕ) (one two : Leaf) → are_plain class ≡ true → is_leaf one ≡ true → is_leaf two ≡ true → is_branch (group class (one ∷ two ∷ [])) ≡ true
good_pair class one two plain first second =
    good_group class (one ∷ two ∷ []) plain (both (is_leaf one) (list_all is_leaf (two ∷ [])) first (both (is_leaf two) true second refl))

good_shape : (width : ℕ) (sheet : Sheet) (band : Band) → is_leaf (band_shape width sheet band) ≡ true
good_shape width sheet band =
    let top = upright_of sheet band.machine band.at band.hi in
    let bottom = upright_of sheet band.machine band.at band.lo in
    good_rectangle (across_of sheet band.at - width / 2) (top - 1) width (bottom - top + 3)

good_band : (class verb : List ℕ) (width : ℕ) (sheet : Sheet) (band : Band) → are_plain class ≡ true → are_plain verb ≡ true → is_branch (band_group class verb width sheet band) ≡ true
good_band class verb width sheet band plain said =
    good_pair class (band_title verb band) (band_shape width sheet band) plain (good_band_title verb band.machine band.at band.lo band.hi said) (good_shape width sheet band)

plain_class : (right : Bool) → are_plain (if right then codes "reading" else codes "reading wrong") ≡ true
plain_class true = refl
plain_class false = refl

-- the shapes of a commit
good_bar : (from top width over spot stamp : ℕ) → list_all is_leaf (bar_shapes from top width over spot stamp) ≡ true
good_bar from top width over spot stamp =
    let words = stamp_labels from top width stamp in
    let bar = rectangle from top width 10 in
    let mark = line over top over (top + 10) in
    both (is_leaf bar) (list_all is_leaf (mark ∷ dot spot (top + 5) ∷ words)) (good_rectangle from top width 10)
    (both (is_leaf mark) (list_all is_leaf (dot spot (top + 5) ∷ words)) (good_line over top over (top + 10))
    (both (is_leaf (dot spot (top + 5))) (list_all is_leaf words) (good_dot spot (top + 5)) (good_stamp_labels from top stamp (nat_le 180 width))))

good_course : (sheet : Sheet) (course : Course) → is_branch (course_group sheet course) ≡ true
good_course sheet course =
    good_group (codes "commit") (course_title course ∷ course_shapes sheet course) refl
    (both (is_leaf (course_title course)) (list_all is_leaf (course_shapes sheet course)) (good_course_title course)
    (good_bar (across_of sheet course.arrived) (middle_of course.machine + 62 + 14 * (course.id.number % 4))
    (across_of sheet course.released - across_of sheet course.arrived + 2) (across_of sheet course.queued) (across_of sheet course.stamp) course.stamp))

good_mark : (sheet : Sheet) (mark : Mark) → is_branch (group_of sheet mark) ≡ true
good_mark sheet (Fusion band) = good_band (codes "fusion") (codes "publishes") 13 sheet band refl refl
good_mark sheet (Reading band) = good_band (reading_class band) (codes "reads") 5 sheet band (plain_class (is_right band)) refl
good_mark sheet (Commit course) = good_course sheet course
good_mark sheet (Lie band) =
    good_pair (codes "lie") (band_title (codes "is answered") band) (rectangle (across_of sheet band.at - 4) (middle_of band.machine - 60) 9 6) refl
    (good_band_title (codes "is answered") band.machine band.at band.lo band.hi refl) (good_rectangle (across_of sheet band.at - 4) (middle_of band.machine - 60) 9 6)
good_mark sheet (Forgery flag) =
    good_pair (codes "lie") (flag_title flag) (rectangle (across_of sheet flag.at - 4) (middle_of flag.machine - 60) 9 6) refl
    (good_flag_title flag.machine flag.at) (good_rectangle (across_of sheet flag.at - 4) (middle_of flag.machine - 60) 9 6)

-- the shapes of a lane
good_lane_shapes : (machine middle reach : ℕ) → list_all is_leaf (lane_shapes machine middle reach) ≡ true
good_lane_shapes machine middle reach =
    let ground = rectangle 10 (middle - 66) 1180 184 in
    let truth = line 160 middle 1180 middle in
    let name = label 154 (middle + 4) (codes "machine ") machine in
    let high = measure 154 (middle - 46) (codes "+") reach in
    let low = measure 154 (middle + 54) (codes "-") reach in
    both (is_leaf ground) (list_all is_leaf (truth ∷ name ∷ high ∷ low ∷ [])) (good_rectangle 10 (middle - 66) 1180 184)
    (both (is_leaf truth) (list_all is_leaf (name ∷ high ∷ low ∷ [])) (good_line 160 middle 1180 middle)
    (both (is_leaf name) (list_all is_leaf (high ∷ low ∷ [])) (good_label 154 (middle + 4) (codes "machine ") machine refl)
    (both (is_leaf high) (list_all is_leaf (low ∷ [])) (good_measure 154 (middle - 46) (codes "+") reach refl)
    (both (is_leaf low) true (good_measure 154 (middle + 54) (codes "-") reach refl) refl))))

good_lane : (sheet : Sheet) (machine : ℕ) (config : Configuration) → is_branch (lane_group sheet machine config) ≡ true
good_lane sheet machine config =
    let shapes = lane_shapes machine (middle_of machine) sheet.reach in
    good_group (codes "lane") (lane_title machine config ∷ shapes) refl
    (both (is_leaf (lane_title machine config)) (list_all is_leaf shapes) (good_set_up_title machine config.sources config.faulty config.drift)
    (good_lane_shapes machine (middle_of machine) sheet.reach))

good_tick : (machines : ℕ) (sheet : Sheet) (number : ℕ) → is_branch (tick_group machines sheet number) ≡ true
good_tick machines sheet number =
    let time = tick_of sheet number in
    let across = across_of sheet time in
    good_pair (codes "tick") (line across 60 across (64 + 190 * machines)) (measure across 54 (codes "at ") time) refl
    (good_line across 60 across (64 + 190 * machines)) (good_measure across 54 (codes "at ") time refl)

good_style : is_branch style_group ≡ true
good_style = refl

good_legend : is_branch legend_group ≡ true
good_legend = refl

-- ---- documents

good_size : (machines : ℕ) → is_tag (codes "svg") (size_of machines) ≡ true
good_size machines = rw (plain_number (72 + 190 * machines)) refl

good_document : (configs : List Configuration) (sheet : Sheet) (marks : List Mark) → is_well_formed (document_of configs sheet marks) ≡ true
good_document configs sheet marks =
    let machines = length configs in
    let lanes = lanes_of configs sheet in
    let ticks = ticks_of machines sheet in
    let drawn = map (group_of sheet) marks in
    both (is_tag (codes "svg") (size_of machines)) (list_all is_branch (style_group ∷ legend_group ∷ (lanes ++ (ticks ++ drawn)))) (good_size machines)
    (both (is_branch style_group) (list_all is_branch (legend_group ∷ (lanes ++ (ticks ++ drawn)))) good_style
    (both (is_branch legend_group) (list_all is_branch (lanes ++ (ticks ++ drawn))) good_legend
    (all_both is_branch lanes (ticks ++ drawn) (all_mapped is_branch (λ m. lane_group sheet m (config_at configs m)) (range_with_len 0 machines) (λ m. good_lane sheet m (config_at configs m)))
    (all_both is_branch ticks drawn (all_mapped is_branch (tick_group machines sheet) (range_with_len 0 6) (good_tick machines sheet))
    (all_mapped is_branch (group_of sheet) marks (good_mark sheet))))))

-- every picture is well-formed
pub picture_good : (configs : List Configuration) (events : List Event) (trace : RunTrace) → is_well_formed (picture_of configs events trace) ≡ true
picture_good configs events trace = good_document configs (sheet_of (marks_of events trace.replies)) (marks_of events trace.replies)
