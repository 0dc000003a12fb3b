-- The labels of a name.
use Rattle.std.proofs.Common.{◌≡◌, ℕ, ◌<◌, true, false, ◌&&◌, List, [], ◌∷◌, length, refl, sym, ap, ◌∙◌, arith}
use Rattle.std.specs.List.{list_any, slice_split, position_or_len, before_first, after_first}
use Rattle.std.proofs.lemmas.List.Elements.{All-from_get_or}
use Rattle.std.proofs.lemmas.List.Splits.{slice_split_first, slice_split_none, length-slice_split}
use Rattle.std.proofs.lemmas.List.Sums.{fails_before_first}
use Rattle.tt_settings.specs.Socket.{is_dot, is_label, is_letter, are_labels}

more : (label : List ℕ) (rest : List (List ℕ)) → 0 < length rest → is_label label ≡ true → are_labels (label ∷ rest) ≡ are_labels rest
more label [] some good = absurd (omega (arith, some))
more label (other ∷ rest) some good = rw good refl

bad : (label : List ℕ) (rest : List (List ℕ)) → is_label label ≡ false → are_labels (label ∷ rest) ≡ false
bad label [] wrong = rw wrong refl
bad label (other ∷ rest) wrong = rw wrong refl

-- a good label before a dot leaves the others
pub labels_more : (text : List ℕ) → position_or_len is_dot text < length text → is_label (before_first is_dot text) ≡ true → are_labels (slice_split is_dot (after_first is_dot text)) ≡ are_labels (slice_split is_dot text)
labels_more text dot good =
    let some : 0 < length (slice_split is_dot (after_first is_dot text)) = omega (arith, length-slice_split is_dot (after_first is_dot text)) in
    sym (ap are_labels (slice_split_first is_dot text 0 dot) ∙ more (before_first is_dot text) (slice_split is_dot (after_first is_dot text)) some good)

-- a bad one is the end
pub labels_bad : (text : List ℕ) → position_or_len is_dot text < length text → is_label (before_first is_dot text) ≡ false → false ≡ are_labels (slice_split is_dot text)
labels_bad text dot wrong =
    sym (ap are_labels (slice_split_first is_dot text 0 dot) ∙ bad (before_first is_dot text) (slice_split is_dot (after_first is_dot text)) wrong)

-- where there is no dot, there is one label
pub labels_last : (text : List ℕ) → position_or_len is_dot text ≡ length text → are_labels (slice_split is_dot text) ≡ (is_label text && list_any is_letter text)
labels_last text none =
    ap are_labels (slice_split_none is_dot text (All-from_get_or (λ b. is_dot b ≡ false) text 0 λ i below. fails_before_first is_dot text i 0 (omega (arith, none, below))))
