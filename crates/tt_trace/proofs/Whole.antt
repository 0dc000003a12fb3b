-- The text of a whole picture.
use Rattle.std.proofs.Common.{◌≡◌, ℕ, suc, List, [], ◌∷◌, ◌++◌, length, map, ap, sym, refl, ◌∙◌, append_assoc}
use Rattle.std.specs.Prelude.{codes}
use Rattle.std.specs.List.{flat_map}
use Rattle.std.proofs.lemmas.Grind.{flat_map-append}
use Rattle.std.proofs.lemmas.List.Folds.{flat_map-map}
use Rattle.tt_daemon.specs.Config.{Configuration}
use Rattle.tt_world.specs.declared.events.Event.{Event}
use Rattle.tt_world.specs.declared.events.Reply.{Reply}
use Rattle.tt_world.specs.Reply.{replies_from}
use Rattle.tt_world.specs.Trace.{RunTrace}
use Rattle.tt_trace.specs.declared.marks.Mark.{Mark}
use Rattle.tt_trace.specs.declared.sheets.Sheet.{Sheet}
use Rattle.tt_trace.specs.Marks.{marks_of}
use Rattle.tt_trace.specs.Sheet.{sheet_of}
use Rattle.tt_trace.specs.Tree.{Branch, branch_text, closing_then, document_text}
use Rattle.tt_trace.specs.Drawing.{group_of}
use Rattle.tt_trace.specs.Framing.{style_group, legend_group, lanes_of, ticks_of, opening_of}
use Rattle.tt_trace.specs.Picture.{document_of, sheet_text, picture_text_of}

-- each event has its reply
pub replied_long : (configs : List Configuration) (past events : List Event) → length (replies_from configs past events) ≡ length events
replied_long configs past [] = refl
replied_long configs past (event ∷ events) = ap (λ n. suc n) (replied_long configs (event ∷ past) events)

-- the text of the lanes, the ticks and the marks
frame_text : (lanes ticks : List Branch) (f : Mark → Branch) (marks : List Mark) →
    flat_map branch_text (lanes ++ (ticks ++ map f marks)) ≡ flat_map branch_text lanes ++ (flat_map branch_text ticks ++ flat_map (λ mark. branch_text (f mark)) marks)
frame_text lanes ticks f marks =
    flat_map-append branch_text lanes (ticks ++ map f marks)
    ∙ ap (λ t. flat_map branch_text lanes ++ t) (flat_map-append branch_text ticks (map f marks)
    ∙ ap (λ t. flat_map branch_text ticks ++ t) (flat_map-map branch_text f marks))

-- pieces in two orders of brackets
joined : (s l x a b m c : List ℕ) → x ≡ a ++ (b ++ m) → (s ++ l) ++ (a ++ (b ++ (m ++ c))) ≡ (s ++ (l ++ x)) ++ c
joined s l x a b m c is =
    append_assoc s l (a ++ (b ++ (m ++ c)))
    ∙ ap (λ t. s ++ (l ++ t)) (ap (λ t. a ++ t) (sym (append_assoc b m c)) ∙ sym (append_assoc a (b ++ m) c) ∙ ap (λ t. t ++ c) (sym is))
    ∙ ap (λ t. s ++ t) (sym (append_assoc l x c)) ∙ sym (append_assoc s (l ++ x) c)

-- the text of a picture, part by part, is that of its document
pub sheet_is_document : (configs : List Configuration) (sheet : Sheet) (marks : List Mark) → sheet_text configs sheet marks ≡ document_text (document_of configs sheet marks)
sheet_is_document configs sheet marks =
    ap (λ t. opening_of (length configs) ++ t) (joined (branch_text style_group) (branch_text legend_group) _ (flat_map branch_text (lanes_of configs sheet)) (flat_map branch_text (ticks_of (length configs) sheet))
    (flat_map (λ mark. branch_text (group_of sheet mark)) marks) (closing_then (codes "svg") [])
    (frame_text (lanes_of configs sheet) (ticks_of (length configs) sheet) (group_of sheet) marks))

-- what is written of the marks of a run on their sheet is its picture
pub drawn_whole : (configs : List Configuration) (events : List Event) (trace : RunTrace) (replies : List Reply) (marks : List Mark) (sheet : Sheet) (old new : List ℕ) →
    replies ≡ trace.replies → marks ≡ marks_of events replies → sheet ≡ sheet_of marks → old ≡ [] → new ≡ old ++ sheet_text configs sheet marks → new ≡ picture_text_of configs events trace
drawn_whole configs events trace replies marks sheet old new replied drawn laid empty written =
    written ∙ ap (λ o. o ++ sheet_text configs sheet marks) empty ∙ ap (λ s. sheet_text configs s marks) laid ∙ ap (λ m. sheet_text configs (sheet_of m) m) (drawn ∙ ap (λ r. marks_of events r) replied)
    ∙ sheet_is_document configs (sheet_of (marks_of events trace.replies)) (marks_of events trace.replies)
