-- Bytes that are put into a file are written.
use Rattle.std.proofs.Common.{◌≡◌, ℕ, ◌+◌, ◌-◌, ◌<◌, ◌≤◌, ◌⊎◌, inl, inr, true, false, eqb, List, ◌++◌, length, get_or, take, drop, refl, sym, ap, ◌∙◌, arith}
use Rattle.std.specs.Prelude.{slice_index, nat_eq, Option, Some, None}
use Rattle.std.specs.Option.{option_eq}
use Rattle.std.proofs.lemmas.Bool.{cases_lt, eq-eqb}
use Rattle.std.proofs.lemmas.List.{length-append, length-take-le, length-drop, get_or-drop, get_or-take, get_or_append_left, get_or-append_right}
use Rattle.tt_shared.specs.Writing.{Write}
use Rattle.tt_shared.specs.Seeing.{IsOf, PartWritten, Written}
use Rattle.tt_shared.specs.Memory.{put}

abbrev pub write_of : ℕ → List ℕ → Write
write_of at bytes = record { offset = at; bytes = bytes }

fits_first : (at n l : ℕ) → at + n ≤ l → at ≤ l
fits_first at n l le = omega arith

inside : (at n j : ℕ) → j < at → n ≡ at → j < n
inside at n j lt e = omega arith

put_before : (at : ℕ) (bytes file : List ℕ) (j : ℕ) → at + length bytes ≤ length file → j < at → slice_index (put at bytes file) j ≡ slice_index file j
put_before at bytes file j le lt =
    let len = length-take-le at file (fits_first at (length bytes) (length file) le) in
    get_or_append_left (take at file) (bytes ++ drop (at + length bytes) file) 0 j (inside at (length (take at file)) j lt len) ∙ get_or-take at file j 0 lt

put_behind : (at : ℕ) (bytes file : List ℕ) (i : ℕ) → at + length bytes ≤ length file → slice_index (put at bytes file) (at + i) ≡ slice_index (bytes ++ drop (at + length bytes) file) i
put_behind at bytes file i le =
    let len = length-take-le at file (fits_first at (length bytes) (length file) le) in
    let rest : at + i - at ≡ i = omega arith in
    get_or-append_right (take at file) (bytes ++ drop (at + length bytes) file) at (at + i) 0 len (omega arith) ∙ ap (λ (k : ℕ). get_or (bytes ++ drop (at + length bytes) file) k 0) rest

put_in : (at : ℕ) (bytes file : List ℕ) (i : ℕ) → at + length bytes ≤ length file → i < length bytes → slice_index (put at bytes file) (at + i) ≡ slice_index bytes i
put_in at bytes file i le lt = put_behind at bytes file i le ∙ get_or_append_left bytes (drop (at + length bytes) file) 0 i lt

put_after : (at : ℕ) (bytes file : List ℕ) (i : ℕ) → at + length bytes ≤ length file → slice_index (put at bytes file) (at + (length bytes + i)) ≡ slice_index file (at + (length bytes + i))
put_after at bytes file i le =
    let rest : length bytes + i - length bytes ≡ i = omega arith in
    let sum : at + length bytes + i ≡ at + (length bytes + i) = omega arith in
    put_behind at bytes file (length bytes + i) le
    ∙ get_or-append_right bytes (drop (at + length bytes) file) (length bytes) (length bytes + i) 0 refl (omega arith)
    ∙ ap (λ (k : ℕ). get_or (drop (at + length bytes) file) k 0) rest
    ∙ get_or-drop (at + length bytes) file i 0
    ∙ ap (λ (k : ℕ). get_or file k 0) sum

put_each : (at : ℕ) (bytes file : List ℕ) (j : ℕ) → at + length bytes ≤ length file → (slice_index (put at bytes file) j ≡ slice_index file j) ⊎ IsOf (write_of at bytes) (put at bytes file) j
put_each at bytes file j le =
    elim (cases_lt j at) [
      | inl low ↦ inl (put_before at bytes file j le low)
      | inr high ↦
          let is : at + (j - at) ≡ j = omega arith in
          elim (cases_lt (j - at) (length bytes)) [
            | inl lt ↦ inr (j - at, lt, sym is, ap (λ (k : ℕ). slice_index (put at bytes file) k) (sym is) ∙ put_in at bytes file (j - at) le lt)
            | inr past ↦
                let far : at + (length bytes + (j - at - length bytes)) ≡ j = omega arith in
                inl (ap (λ (k : ℕ). slice_index (put at bytes file) k) (sym far) ∙ put_after at bytes file (j - at - length bytes) le ∙ ap (λ (k : ℕ). slice_index file k) far)
          ]
    ]

put_length : (at : ℕ) (bytes file : List ℕ) → at + length bytes ≤ length file → length (put at bytes file) ≡ length file
put_length at bytes file le =
    omega (
      arith,
      le,
      length-append (take at file) (bytes ++ drop (at + length bytes) file),
      length-append bytes (drop (at + length bytes) file),
      length-take-le at file (fits_first at (length bytes) (length file) le),
      length-drop (at + length bytes) file,
    )

pub put_written : (at : ℕ) (bytes file after : List ℕ) → at + length bytes ≤ length file → after ≡ put at bytes file → Written (write_of at bytes) file after
put_written at bytes file after le e =
    rw e (record {
      part = record { length_same = put_length at bytes file le; each = λ j. put_each at bytes file j le };
      whole = λ i lt. put_in at bytes file i le lt;
    })

-- the first bytes of a write are a part of it
pub first_part : (at n : ℕ) (bytes file after : List ℕ) → n ≤ length bytes → Written (write_of at (take n bytes)) file after → PartWritten (write_of at bytes) file after
first_part at n bytes file after le done = record {
  length_same = done.part.length_same;
  each = λ j. elim (done.part.each j) [
    | inl same ↦ inl same
    | inr came ↦
        let len = length-take-le n bytes le in
        let lt : came.0 < n = omega (arith, came.1, len) in
        inr (came.0, omega (arith, lt, le), came.2, came.3 ∙ get_or-take n bytes came.0 0 lt)
  ];
}

-- nothing is a part of a write
pub no_part : (write : Write) (file : List ℕ) → PartWritten write file file
no_part write file = record { length_same = refl; each = λ j. inl refl }

-- a call that is not the one that is to fail
pub not_this : (fails_at : Option ℕ) (call n : ℕ) → option_eq nat_eq fails_at (Some call) ≡ false → fails_at ≡ Some n → n ≡ call → ⊥
not_this None call n other told same = absurd cc
not_this (Some k) call n other told same =
    let is : k ≡ call = cc in
    let equal : eqb k call ≡ true = eq-eqb k call is in
    absurd cc
