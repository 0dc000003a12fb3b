-- An option whose parser takes numbers has one, where its rows are sound and it has a row.
use Rattle.std.proofs.Common.{◌≡◌, ◌∙◌, ◌||◌, ◌≤◌, ◌<◌, ◌^◌, ℕ, Bool, cond, true, false, refl, sym, ap, subst, arith, List, [], ◌∷◌, Option, Some, None, Result, Ok, Err, not, ◌&&◌}
use Rattle.std.specs.Prelude.{IsSome, nat_le, nat_lt, slice_get}
use Rattle.std.specs.List.{find}
use Rattle.std.specs.Option.{option_map_or, option_and_then, unwrap_or}
use Rattle.std.specs.Str.{bytes_eq}
use Rattle.std.specs.Str.Parse.{ParsesUnsigned, digits_value, without_leading_plus}
use Rattle.std.proofs.lemmas.Bool.{false≢true, ltb-true, leb-true, le-leb}
use Rattle.std.proofs.lemmas.Slice.Eq.{bytes_eq-Decides}
use Rattle.clap.proofs.ValueTestLemmas.{accepts-Accepts}
use Rattle.clap.proofs.WalkLemmas.{both}
use Rattle.clap.specs.Facts.{explicit_source, parser_of_value}
use Rattle.clap.specs.Kinds.{value_kinds}
use Rattle.clap.specs.Matches.{ReadsOne}
use Rattle.clap.specs.Takes.{is_given}
use Rattle.clap.specs.Values.{reading_of, refused_kind}
use Rattle.clap.specs.ValueTests.{accepts, is_numeral, is_unsigned_in}
use Rattle.clap.specs.Walk.{Row, Rule, Text, arg_by_id, first_of, has_row, one_of, row_text}
use Rattle.clap.specs.declared.builder.value_parser.Reading.TheVariants.{AsWritten}
use Rattle.clap.specs.declared.builder.value_parser.ValueParser.{ValueParser}
use Rattle.clap.specs.declared.builder.value_parser.ValueParser.TheVariants as vp
use Rattle.ttd_words.specs.CommandLine.{max_number}
use Rattle.ttd_words.specs.Reading.{number_at, number_in}
use Rattle.ttd_words.proofs.RowLemmas.{IsFrom, Sound, find_has}

-- the row that is found under an id
abbrev pub RowOf : Text → List Row → Type 0
RowOf id rows = (r : Row) × (find (λ r. bytes_eq r.id id) rows ≡ Some r)

pub row_there : (id : Text) (rows : List Row) → has_row id rows ≡ true → RowOf id rows
row_there id [] e = cc
row_there id (r ∷ rs) e = go (bytes_eq r.id id) (row_there id rs) e
  where
    go : (b : Bool) → (has_row id rs ≡ true → RowOf id rs) → (b || has_row id rs) ≡ true
        → (q : Row) × (cond b (Some r) (find (λ x. bytes_eq x.id id) rs) ≡ Some q)
    go true rec e = (r, refl)
    go false rec e = rec e

pub row_given : (id : Text) (rows : List Row) → (true && not (is_given id rows)) ≡ false → RowOf id rows
row_given id rows e = go (find (λ r. bytes_eq r.id id) rows) e
  where
    go : (o : Option Row) → not (option_map_or (λ r. explicit_source r.source) o false) ≡ false → (r : Row) × (o ≡ Some r)
    go None e = cc
    go (Some r) e = (r, refl)

-- a number of at most `most`
pub record IsUpTo (most : ℕ) (o : Option ℕ) : Type 0 where
  pub number : ℕ
  pub is : o ≡ Some number
  pub bound : number ≤ most

taken_by : (ignore_case : Bool) (p : ValueParser) (v : Text) → value_kinds ignore_case p v ≡ [] → accepts ignore_case p v ≡ true
taken_by ignore_case p v e = go (accepts ignore_case p v) e
  where
    go : (b : Bool) → cond b [] (refused_kind p ∷ []) ≡ [] → b ≡ true
    go true e = refl
    go false e = cc

number_taken : (most : ℕ) (v : Text) → is_unsigned_in 0 most v ≡ true → IsUpTo most (number_in v)
number_taken most v e =
    let n = digits_value 10 (without_leading_plus v) in
    let parts = both (is_numeral (without_leading_plus v)) (nat_lt n (2 ^ 64) && (nat_le 0 n && nat_le n most)) e in
    let size = both (nat_lt n (2 ^ 64)) (nat_le 0 n && nat_le n most) parts.1 in
    let ends = both (nat_le 0 n) (nat_le n most) size.1 in
    let fits : n < 2 ^ 64 = ltb-true n (2 ^ 64) size.0 in
    let wide : nat_le n max_number ≡ true = le-leb n max_number (omega arith) in
    let all : is_unsigned_in 0 max_number v ≡ true = rw (parts.0, size.0, ends.0, wide) refl in
    record { number = n; is = rw all refl; bound = leb-true n most ends.1 }

text_read : (r : Row) (v : Text) (more : List Text) → r.values ≡ v ∷ more → r.reading ≡ AsWritten → row_text r ≡ Some v
text_read r v more values reading = rw (values, reading) refl

-- an option of c that takes numbers of at most `most`, and has a row, has such a number
pub number_there : (c : List Rule) (rows : List Row) (id : Text) (a : Rule) (most : ℕ) → arg_by_id c id ≡ Some a → a.parser ≡ Some (vp.Unsigned 0 most)
    → Sound c rows → RowOf id rows → IsUpTo most (number_at id rows)
number_there c rows id a most named parser each there =
    let found = find_has (IsFrom c) (λ r. bytes_eq r.id id) rows there.0 each there.1 in
    let from = found.0 in
    let same : there.0.id ≡ id = (bytes_eq-Decides there.0.id id).0 found.1 in
    let rule_is : Some from.rule ≡ Some a = sym from.named ∙ ap (arg_by_id c) same ∙ named in
    let is_a : from.rule ≡ a = ap (λ o. unwrap_or o from.rule) rule_is in
    let parser_is : parser_of_value from.rule.parser ≡ vp.Unsigned 0 most = ap (λ (x : Rule). parser_of_value x.parser) is_a ∙ ap parser_of_value parser in
    let passes : value_kinds from.rule.ignore_case (vp.Unsigned 0 most) from.value ≡ [] =
    subst (λ (p : ValueParser). value_kinds from.rule.ignore_case p from.value ≡ []) parser_is from.passes in
    let reading : there.0.reading ≡ AsWritten = from.reads ∙ ap reading_of parser_is in
    let one : one_of id rows ≡ Some from.value = ap (option_and_then row_text) there.1 ∙ text_read there.0 from.value from.more from.values reading in
    let number = number_taken most from.value (taken_by from.rule.ignore_case (vp.Unsigned 0 most) from.value passes) in
    record { number = number.number; is = ap (option_and_then number_in) one ∙ number.is; bound = number.bound }

-- an option that has a row has a text
pub record HasText (o : Option Text) : Type 0 where
  pub text : Text
  pub is : o ≡ Some text

pub text_there : (c : List Rule) (rows : List Row) (id : Text) → Sound c rows → RowOf id rows → HasText (first_of id rows)
text_there c rows id each there =
    let found = find_has (IsFrom c) (λ r. bytes_eq r.id id) rows there.0 each there.1 in
    record {
      text = found.0.value;
      is = ap (option_and_then (λ (r : Row). slice_get r.values 0)) there.1 ∙ ap (λ (vs : List Text). slice_get vs 0) found.0.values;
    }

-- what `get_one` reads at a text, by how `u64` reads it
module _ (E : Type 0) (G : List ℕ → Result ℕ E → Type 0) (parses : (u : List ℕ) (x : Result ℕ E) → G u x → ParsesUnsigned 64 10 u x) where
  read_at : (t : Text) (r : Option ℕ) → ReadsOne G t r → is_unsigned_in 0 max_number t ≡ true → Some (digits_value 10 (without_leading_plus t)) ≡ r
  read_at t (Some v) reads e = ap Some (sym (parses t (Ok v) reads).1)
  read_at t None reads e =
      let in_range = accepts-Accepts false (vp.Unsigned 0 max_number) t e in
      absurd (parses t (Err reads.0) reads.1 (in_range.0, in_range.1))

  read_by : (t : Text) (r : Option ℕ) → ReadsOne G t r → (b : Bool) → is_unsigned_in 0 max_number t ≡ b
      → IsSome (cond b (Some (digits_value 10 (without_leading_plus t))) None) → cond b (Some (digits_value 10 (without_leading_plus t))) None ≡ r
  read_by t r reads true e some = read_at t r reads e
  read_by t r reads false e some = absurd (false≢true some)

  -- `get_one` reads the number of an option that has one
  pub number_read : (o : Option Text) (r : Option ℕ) → ((t : Text) → o ≡ Some t → ReadsOne G t r) → IsSome (option_and_then number_in o)
      → option_and_then number_in o ≡ r
  number_read None r reads some = absurd (false≢true some)
  number_read (Some t) r reads some = read_by t r (reads t refl) (is_unsigned_in 0 max_number t) refl some
