-- A copy between two looks at the same index is whole.
use Rattle.std.proofs.Common.{◌≡◌, ℕ, ◌%◌, ◌^◌, ◌<◌, ◌≤◌, subst, arith}
use Rattle.std.specs.Prelude.{slice_index}
use Rattle.tt_shared.specs.declared.slots.SharedSpan.{SharedSpan}
use Rattle.tt_shared.specs.Slot.{slot_of}
use Rattle.tt_shared.specs.Index.{index_at}
use Rattle.tt_shared.specs.Writing.{index_word}
use Rattle.tt_shared.specs.Seeing.{MaySee}
use Rattle.tt_shared.proofs.Counting.{same_index}

pub between : (a b c : ℕ) → a ≤ b → b ≤ c → a ≡ c → b ≡ a
between a b c ab bc e = omega arith

pub whole : (published : ℕ → SharedSpan) (first last slot : ℕ) (then bytes : ℕ → ℕ) → first < 2 ^ 64 → last < 2 ^ 64 →
    ((i : ℕ) → (first ≤ then i) × (then i ≤ last) × MaySee published (then i) slot i (bytes i)) →
    first % 2 ≡ slot → index_at first ≡ index_at last →
    (i : ℕ) → bytes i ≡ slice_index (slot_of (index_word first) (published first)) i
whole published first last slot then bytes lf ll saw e same i =
    let one = same_index first last lf ll same in
    let at : then i ≡ first = between first (then i) last (saw i).0 (saw i).1 one in
    subst (λ (n : ℕ). MaySee published n slot i (bytes i)) at (saw i).2 e
