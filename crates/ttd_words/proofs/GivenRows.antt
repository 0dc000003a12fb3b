-- What was given for an option, by the rows.
use Rattle.std.proofs.Common.{◌≡◌, ◌∙◌, ◌<◌, ◌^◌, ℕ, Bool, cond, true, false, refl, sym, ap, subst, arith, List, [], ◌∷◌, ◌++◌, Option, Some, None, IsSome, Result, Ok}
use Rattle.std.specs.List.{flat_map, join_by}
use Rattle.std.specs.Option.{option_and_then}
use Rattle.std.specs.Str.Parse.{ParsesUnsigned, digits_value, without_leading_plus}
use Rattle.std.proofs.lemmas.Bool.{false≢true}
use Rattle.std.specs.Borrow.{Bor}
use Rattle.clap.proofs.ValueTestLemmas.{Accepts-accepts}
use Rattle.clap.specs.Matches.{ReadsOne}
use Rattle.clap.specs.ValueTests.{is_unsigned_in}
use Rattle.clap.specs.Walk.{Text, texts}
use Rattle.clap.specs.declared.builder.value_parser.ValueParser.TheVariants as vp
use Rattle.ttd_words.specs.CommandLine.{max_number}
use Rattle.ttd_words.specs.Reading.{number_in}
use Rattle.ttd_words.proofs.NumberLemmas.{number_read}

-- what `get_one` reads at a text, by how `u64` reads it
module _ (E : Type 0) (G : List ℕ → Result ℕ E → Type 0) (parses : (u : List ℕ) (x : Result ℕ E) → G u x → ParsesUnsigned 64 10 u x) where
  read_by : (t : Text) (r : Option ℕ) → ReadsOne G t r → (b : Bool) → is_unsigned_in 0 max_number t ≡ b
      → cond b (Some (digits_value 10 (without_leading_plus t))) None ≡ r
  read_by t r reads true e =
      let number = digits_value 10 (without_leading_plus t) in
      subst (λ (b : Bool). cond b (Some number) None ≡ r) e
      (number_read E G parses (Some t) r (λ u is. subst (λ (x : Text). ReadsOne G x r) (cc is) reads)
      (subst (λ (b : Bool). IsSome (cond b (Some number) None)) (sym e) refl))
  read_by t None reads false e = refl
  read_by t (Some v) reads false e =
      let parsed = parses t (Ok v) reads in
      let size : digits_value 10 (without_leading_plus t) < 2 ^ 64 = parsed.0.1 in
      absurd (false≢true (sym e ∙ Accepts-accepts false (vp.Unsigned 0 max_number) t (parsed.0.0, size, omega arith, omega (arith, size))))

  -- `get_one` reads the number of an option, and none where there is none
  pub number_found : (o : Option Text) (r : Option ℕ) → (o ≡ None → r ≡ None) → ((t : Text) → o ≡ Some t → ReadsOne G t r) → option_and_then number_in o ≡ r
  number_found None r none reads = sym (none refl)
  number_found (Some t) r none reads = read_by t r (reads t refl) (is_unsigned_in 0 max_number t) refl

-- texts behind references are joined as they are
joined_rest : (sep : Text) (words : List (Bor Text)) → flat_map (λ (y : Bor Text). sep ++ y.now) words ≡ flat_map (λ (y : Text). sep ++ y) (texts words)
joined_rest sep [] = refl
joined_rest sep (w ∷ words) = ap (λ (rest : Text). (sep ++ w.now) ++ rest) (joined_rest sep words)

pub joined : (sep : Text) (words : List (Bor Text)) → join_by (λ (y : Bor Text). y.now) sep words ≡ join_by (λ (y : Text). y) sep (texts words)
joined sep [] = refl
joined sep (w ∷ words) = ap (λ (rest : Text). w.now ++ rest) (joined_rest sep words)
