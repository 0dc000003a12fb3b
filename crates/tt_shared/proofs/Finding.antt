-- What is found in a copy between two looks at the same index is what was published.
use Rattle.std.proofs.Common.{◌≡◌, ℕ, ◌%◌, ◌^◌, ◌<◌, ◌≤◌, List, length, refl, sym, ap, ◌∙◌, subst, arith}
use Rattle.std.specs.Prelude.{slice_index}
use Rattle.std.proofs.lemmas.Grind.{same_number_lists}
use Rattle.tt_shared.specs.Layout.{slot_len}
use Rattle.tt_shared.specs.declared.slots.SharedSpan.{SharedSpan}
use Rattle.tt_shared.specs.Slot.{IsShared, IsSlotOf, slot_of}
use Rattle.tt_shared.specs.Writing.{index_word}
use Rattle.tt_shared.specs.Looking.{word_of}
use Rattle.tt_shared.specs.Seeing.{MaySee, IsSeen}
use Rattle.tt_shared.proofs.Counting.{same_index}
use Rattle.tt_shared.proofs.Copying.{between}
use Rattle.tt_shared.proofs.Crashing.{slot_length}
use Rattle.tt_shared.proofs.Spelling.{same_from_slot}

below : (a b c : ℕ) → a ≤ b → b < c → a < c
below a b c ab bc = omega arith

below_same : (k m n : ℕ) → m ≡ n → k < m → k < n
below_same k m n e lt = omega arith

-- each byte of the copy is that of the count whose index was seen
byte_of : (published : ℕ → SharedSpan) (n : ℕ) (index bytes : List ℕ) (i : ℕ) → IsSeen published n index bytes index → i < slot_len → slice_index bytes i ≡ slice_index (slot_of (index_word n) (published n)) i
byte_of published n index bytes i seen lt =
    let one : n ≡ seen.last = same_index n seen.last (below n seen.last (2 ^ 64) seen.forward seen.fits) seen.fits (sym seen.first_index ∙ seen.last_index) in
    let looked = seen.each i lt in
    let at : looked.0 ≡ n = between n looked.0 seen.last looked.1 looked.2 one in
    subst (λ (m : ℕ). MaySee published m (n % 2) i (slice_index bytes i)) at looked.3 refl

pub found : (published : ℕ → SharedSpan) (n : ℕ) (index bytes : List ℕ) (p : SharedSpan) → IsSeen published n index bytes index → IsShared (published n) → IsSlotOf (word_of index) p bytes → p ≡ published n
found published n index bytes p seen shared slot =
    let long : length bytes ≡ slot_len = ap length slot.1 ∙ slot_length (word_of index) p in
    let same : bytes ≡ slot_of (index_word n) (published n) = same_number_lists bytes (slot_of (index_word n) (published n)) (long ∙ sym (slot_length (index_word n) (published n)))
    (λ k lt. byte_of published n index bytes k seen (below_same k (length bytes) slot_len long lt)) in
    same_from_slot (word_of index) (index_word n) p (published n) slot.0 shared (sym slot.1 ∙ same)
