-- A writer that dies leaves its readers the publication before or the new one.
use Rattle.std.proofs.Common.{◌≡◌, ℕ, zero, suc, min, ◌+◌, ◌-◌, ◌/◌, ◌%◌, ◌<◌, ◌≤◌, ◌⊎◌, inl, inr, Bool, true, false, eqb, List, [], ◌∷◌, length, get_or, take, drop, refl, sym, ap, ◌∙◌, arith}
use Rattle.std.specs.Prelude.{slice_index, slice_range}
use Rattle.std.proofs.lemmas.Bool.{cases_lt, cases_eq}
use Rattle.std.proofs.lemmas.List.{length-take, length-drop, get_or-drop, get_or-take}
use Rattle.std.proofs.lemmas.Grind.{same_number_lists}
use Rattle.tt_shared.specs.Layout.{head_len, slot_len, file_len}
use Rattle.tt_shared.specs.declared.slots.SharedSpan.{SharedSpan}
use Rattle.tt_shared.specs.Slot.{slot_of}
use Rattle.tt_shared.specs.Index.{digits, index_at, turn, turn_at, next_counters}
use Rattle.tt_shared.specs.Writing.{Write, index_word, slot_place, slot_write, index_write}
use Rattle.tt_shared.specs.Seeing.{Shows, PartWritten, Written, DiesWriting}
use Rattle.tt_shared.proofs.Counting.{index_more}

-- ---- parts of a file

rest_is : (a n : ℕ) → a + n - a ≡ n
rest_is a n = omega arith

range_taken : (file : List ℕ) (a n : ℕ) → slice_range file a (a + n) ≡ take n (drop a file)
range_taken file a n = ap (λ (m : ℕ). take m (drop a file)) (rest_is a n)

range_byte : (file : List ℕ) (a n k : ℕ) → k < n → slice_index (slice_range file a (a + n)) k ≡ slice_index file (a + k)
range_byte file a n k lt = ap (λ (part : List ℕ). get_or part k 0) (range_taken file a n) ∙ get_or-take n (drop a file) k 0 lt ∙ get_or-drop a file k 0

cut_length : (n rest long a taken : ℕ) → taken ≡ min n rest → rest ≡ long - a → a + n ≤ long → taken ≡ n
cut_length n rest long a taken e f le = omega arith

range_length : (file : List ℕ) (a n : ℕ) → a + n ≤ length file → length (slice_range file a (a + n)) ≡ n
range_length file a n le = ap length (range_taken file a n) ∙ cut_length n (length (drop a file)) (length file) a (length (take n (drop a file))) (length-take n (drop a file)) (length-drop a file) le

below_same : (k m n : ℕ) → m ≡ n → k < m → k < n
below_same k m n e lt = omega arith

-- a part of a file has these bytes where each of its places does
range_is : (file bytes : List ℕ) (a n : ℕ) → a + n ≤ length file → length bytes ≡ n → ((k : ℕ) → k < n → slice_index file (a + k) ≡ slice_index bytes k) → slice_range file a (a + n) ≡ bytes
range_is file bytes a n le same each =
    let len = range_length file a n le in
    same_number_lists (slice_range file a (a + n)) bytes (len ∙ sym same)
    (λ k lt. let fits : k < n = below_same k (length (slice_range file a (a + n))) n len lt in range_byte file a n k fits ∙ each k fits)

fits_too : (a n f g : ℕ) → a + n ≤ f → g ≡ f → a + n ≤ g
fits_too a n f g le e = omega arith

-- parts of two files that agree at each place are the same
range_same : (f g : List ℕ) (a n : ℕ) → a + n ≤ length f → length g ≡ length f → ((k : ℕ) → k < n → slice_index g (a + k) ≡ slice_index f (a + k)) → slice_range g a (a + n) ≡ slice_range f a (a + n)
range_same f g a n le same each =
    range_is g (slice_range f a (a + n)) a n (fits_too a n (length f) (length g) le same) (range_length f a n le) (λ k lt. each k lt ∙ sym (range_byte f a n k lt))

-- ---- places that a write does not reach

kept : (write : Write) (before after : List ℕ) (j : ℕ) → PartWritten write before after → ((i : ℕ) → i < length write.bytes → j ≡ write.offset + i → ⊥) → slice_index after j ≡ slice_index before j
kept write before after j part apart =
    elim (part.each j) [
      | inl same ↦ same
      | inr came ↦ absurd (apart came.0 came.1 came.2)
    ]

out_of : (j at n i len offset : ℕ) → len ≡ n → offset ≡ at → (j < at) ⊎ (at + n ≤ j) → i < len → j ≡ offset + i → ⊥
out_of j at n i len offset e f (inl low) lt is = omega arith
out_of j at n i len offset e f (inr high) lt is = omega arith

kept_apart : (write : Write) (at n : ℕ) (before after : List ℕ) (j : ℕ) → length write.bytes ≡ n → write.offset ≡ at → PartWritten write before after → (j < at) ⊎ (at + n ≤ j) → slice_index after j ≡ slice_index before j
kept_apart write at n before after j e f part apart = kept write before after j part (λ i lt is. out_of j at n i (length write.bytes) write.offset e f apart lt is)

pub slot_length : (index : ℕ) (p : SharedSpan) → length (slot_of index p) ≡ slot_len
unfolding slot_of
slot_length index p = refl

-- ---- where slots and counters stand

slot_starts : (n : ℕ) → head_len ≤ slot_place n
slot_starts n = omega arith

slot_ends : (n : ℕ) → slot_place n + slot_len ≤ file_len
slot_ends n = omega arith

other_slot : (n : ℕ) → (slot_place n + slot_len ≤ slot_place (n + 1)) ⊎ (slot_place (n + 1) + slot_len ≤ slot_place n)
other_slot n =
    elim (cases_lt (n % 2) 1) [
      | inl even ↦ inl (omega arith)
      | inr odd ↦ inr (omega arith)
    ]

slots_apart : (a b k : ℕ) → k < slot_len → (a + slot_len ≤ b) ⊎ (b + slot_len ≤ a) → (a + k < b) ⊎ (b + slot_len ≤ a + k)
slots_apart a b k lt (inl low) = inl (omega arith)
slots_apart a b k lt (inr high) = inr (omega arith)

index_first : (b k : ℕ) → head_len ≤ b → k < 8 → 16 + k < b
index_first b k le lt = omega arith

turn_below_by : (d e : ℕ) (ds : List ℕ) (b : Bool) → eqb d 255 ≡ b → turn (e ∷ ds) ≤ length ds → turn (d ∷ e ∷ ds) ≤ length (e ∷ ds)
turn_below_by d e ds true h rest = rw h (omega (arith, rest))
turn_below_by d e ds false h rest = rw h (omega arith)

turn_below : (d : ℕ) (ds : List ℕ) → turn (d ∷ ds) ≤ length ds
turn_below d [] = omega arith
turn_below d (e ∷ ds) = turn_below_by d e ds (eqb d 255) refl (turn_below e ds)

turn_at_most : (n : ℕ) → turn_at n ≤ 7
turn_at_most n = turn_below (n % 256) (digits 7 (n / 256))

past_index : (t a k : ℕ) → t ≤ 7 → head_len ≤ a → 16 + t + 1 ≤ a + k
past_index t a k lt le = omega arith

-- the counters that do not move
next_other : (t k : ℕ) (cs : List ℕ) → (k ≡ t → ⊥) → get_or (next_counters t cs) k 0 ≡ get_or cs k 0
next_other t k [] other = refl
next_other zero zero (c ∷ cs) other = absurd (other refl)
next_other zero (suc k) (c ∷ cs) other = refl
next_other (suc t) zero (c ∷ cs) other = refl
next_other (suc t) (suc k) (c ∷ cs) other = next_other t k cs (λ e. other (ap suc e))

aside : (j t : ℕ) → (j ≡ t → ⊥) → (j < t) ⊎ (t + 1 ≤ j)
aside j t other =
    elim (cases_lt j t) [
      | inl low ↦ inl low
      | inr high ↦ inr (omega (arith, other))
    ]

aside_by : (k t : ℕ) → (k ≡ t → ⊥) → 16 + k ≡ 16 + t → ⊥
aside_by k t other e = other (omega arith)

-- a place of the second write's file that is not its byte
kept_by_index : (n : ℕ) (mid after : List ℕ) (j : ℕ) → PartWritten (index_write n) mid after → (j < 16 + turn_at n) ⊎ (16 + turn_at n + 1 ≤ j) → slice_index after j ≡ slice_index mid j
kept_by_index n mid after j part apart = kept_apart (index_write n) (16 + turn_at n) 1 mid after j refl refl part apart

-- ---- what readers see

in_file : (a n long : ℕ) → long ≡ file_len → a + n ≤ file_len → a + n ≤ long
in_file a n long e le = omega arith

same_shown : (n : ℕ) (before after bytes : List ℕ) → length before ≡ file_len → length after ≡ length before → Shows before n bytes →
    ((k : ℕ) → k < 8 → slice_index after (16 + k) ≡ slice_index before (16 + k)) → ((k : ℕ) → k < slot_len → slice_index after (slot_place n + k) ≡ slice_index before (slot_place n + k)) → Shows after n bytes
same_shown n before after bytes len same shown index slot =
    record {
      index = range_same before after 16 8 (in_file 16 8 (length before) len (omega arith)) same index ∙ shown.index;
      slot = range_same before after (slot_place n) slot_len (in_file (slot_place n) slot_len (length before) len (slot_ends n)) same slot ∙ shown.slot;
    }

-- within the first write: readers see what they saw
first_keeps : (n : ℕ) (p : SharedSpan) (before after bytes : List ℕ) → length before ≡ file_len → Shows before n bytes → PartWritten (slot_write (n + 1) p) before after → Shows after n bytes
first_keeps n p before after bytes len shown part =
    let long : length (slot_of (index_word (n + 1)) p) ≡ slot_len = slot_length (index_word (n + 1)) p in
    same_shown n before after bytes len part.length_same shown
    (λ k lt. kept_apart (slot_write (n + 1) p) (slot_place (n + 1)) slot_len before after (16 + k) long refl part (inl (index_first (slot_place (n + 1)) k (slot_starts (n + 1)) lt)))
    (λ k lt. kept_apart (slot_write (n + 1) p) (slot_place (n + 1)) slot_len before after (slot_place n + k) long refl part (slots_apart (slot_place n) (slot_place (n + 1)) k lt (other_slot n)))

-- the second write did not come: the file is as it was
nothing_came : (n : ℕ) (mid after : List ℕ) (j : ℕ) → PartWritten (index_write n) mid after → slice_index after (16 + turn_at n) ≡ slice_index mid (16 + turn_at n) → slice_index after j ≡ slice_index mid j
nothing_came n mid after j part same =
    elim (cases_eq j (16 + turn_at n)) [
      | inl e ↦ ap (λ (k : ℕ). slice_index after k) e ∙ same ∙ ap (λ (k : ℕ). slice_index mid k) (sym e)
      | inr other ↦ kept_by_index n mid after j part (aside j (16 + turn_at n) other)
    ]

-- each counter of the index after the second write is that of the next count
moved : (n k : ℕ) (mid after bytes : List ℕ) → Shows mid n bytes → PartWritten (index_write n) mid after → slice_index after (16 + turn_at n) ≡ slice_index (index_at (n + 1)) (turn_at n) → k < 8 → slice_index after (16 + k) ≡ slice_index (index_at (n + 1)) k
moved n k mid after bytes shown part came lt =
    elim (cases_eq k (turn_at n)) [
      | inl e ↦ ap (λ (j : ℕ). slice_index after (16 + j)) e ∙ came ∙ ap (λ (j : ℕ). slice_index (index_at (n + 1)) j) (sym e)
      | inr other ↦
          kept_by_index n mid after (16 + k) part (aside (16 + k) (16 + turn_at n) (aside_by k (turn_at n) other))
          ∙ sym (range_byte mid 16 8 k lt)
          ∙ ap (λ (cs : List ℕ). get_or cs k 0) shown.index
          ∙ sym (next_other (turn_at n) k (index_at n) other)
          ∙ ap (λ (cs : List ℕ). get_or cs k 0) (sym (index_more n))
    ]

index_length : (n : ℕ) → length (index_at n) ≡ 8
index_length n = refl

written_below : (k len : ℕ) → len ≡ slot_len → k < slot_len → k < len
written_below k len e lt = omega arith

-- the second write came: readers see the new publication
new_shown : (n : ℕ) (p : SharedSpan) (before mid after bytes : List ℕ) → length mid ≡ file_len → Shows mid n bytes → Written (slot_write (n + 1) p) before mid → PartWritten (index_write n) mid after →
    slice_index after (16 + turn_at n) ≡ slice_index (index_at (n + 1)) (turn_at n) → Shows after (n + 1) (slot_of (index_word (n + 1)) p)
new_shown n p before mid after bytes len shown wrote part came =
    let long : length (slot_of (index_word (n + 1)) p) ≡ slot_len = slot_length (index_word (n + 1)) p in
    let all : length after ≡ file_len = part.length_same ∙ len in
    record {
      index = range_is after (index_at (n + 1)) 16 8 (in_file 16 8 (length after) all (omega arith)) (index_length (n + 1)) (λ k lt. moved n k mid after bytes shown part came lt);
      slot = range_is after (slot_of (index_word (n + 1)) p) (slot_place (n + 1)) slot_len (in_file (slot_place (n + 1)) slot_len (length after) all (slot_ends (n + 1))) long
          (λ k lt.
          kept_by_index n mid after (slot_place (n + 1) + k) part (inr (past_index (turn_at n) (slot_place (n + 1)) k (turn_at_most n) (slot_starts (n + 1))))
          ∙ wrote.whole k (written_below k (length (slot_of (index_word (n + 1)) p)) long lt));
    }

only_byte : (i len : ℕ) → len ≡ 1 → i < len → i ≡ 0
only_byte i len e lt = omega arith

second_either : (n : ℕ) (p : SharedSpan) (before mid after bytes : List ℕ) → length mid ≡ file_len → Shows mid n bytes → Written (slot_write (n + 1) p) before mid → PartWritten (index_write n) mid after →
    Shows after n bytes ⊎ Shows after (n + 1) (slot_of (index_word (n + 1)) p)
second_either n p before mid after bytes len shown wrote part =
    elim (part.each (16 + turn_at n)) [
      | inl same ↦ inl (same_shown n mid after bytes len part.length_same shown (λ k lt. nothing_came n mid after (16 + k) part same) (λ k lt. nothing_came n mid after (slot_place n + k) part same))
      | inr came ↦
          let first : came.0 ≡ 0 = only_byte came.0 1 refl came.1 in
          inr (new_shown n p before mid after bytes len shown wrote part (came.3 ∙ ap (λ (i : ℕ). slice_index (slice_index (index_at (n + 1)) (turn_at n) ∷ []) i) first))
    ]

pub old_or_new : (n : ℕ) (p : SharedSpan) (before after bytes : List ℕ) → length before ≡ file_len → Shows before n bytes → DiesWriting n p before after →
    Shows after n bytes ⊎ Shows after (n + 1) (slot_of (index_word (n + 1)) p)
old_or_new n p before after bytes len shown died =
    elim died [
      | inl first ↦ inl (first_keeps n p before after bytes len shown first)
      | inr second ↦
          let mid = second.0 in
          let wrote = second.1 in
          second_either n p before mid after bytes (wrote.part.length_same ∙ len) (first_keeps n p before mid bytes len shown wrote.part) wrote second.2
    ]
