-- What holds of the rows that clap makes: each stands for a rule, and its first value passed that rule's parser.
use Rattle.std.proofs.Common.{◌≡◌, ◌⊎◌, ◌++◌, ◌||◌, Bool, cond, true, false, refl, ap, subst, arith, List, [], ◌∷◌, length, Some, inl, inr}
use Rattle.std.specs.List.{find, fold}
use Rattle.std.specs.Option.{unwrap_or}
use Rattle.std.specs.Str.{bytes_eq}
use Rattle.std.proofs.lemmas.Slice.Eq.{bytes_eq-Decides}
use Rattle.std.proofs.lemmas.Bool.{ne_eqb}
use Rattle.clap.specs.Walk.{Row, Rule, Text, action_of, arg_by_id, most_values, values_or_missing, default_rows, has_row, is_empty, more_values, reading_by, used, with_default, with_values, without}
use Rattle.clap.specs.Facts.{parser_of_value, unwrap_or_range}
use Rattle.clap.specs.Faults.{action_fault, default_fault, defaults_fault, given_default_fault, repeat_fault, use_fault, values_fault}
use Rattle.clap.specs.Kinds.{Kinds, or_else, range_kinds, request_kinds, value_kinds}
use Rattle.clap.specs.declared.error.kind.ErrorKind.TheVariants.{DisplayHelp, InvalidValue}
use Rattle.clap.specs.declared.builder.action.ArgAction.TheVariants.{Set, Help}
use Rattle.clap.specs.declared.builder.range.ValueRange.{ValueRange}
use Rattle.clap.specs.declared.builder.value_parser.Reading.{Reading}
use Rattle.clap.specs.declared.parser.matches.ValueSource.{ValueSource}
use Rattle.clap.specs.declared.parser.matches.ValueSource.TheVariants.{CommandLine, DefaultValue}

-- P holds of each element.
abbrev pub Each : {X : Type 0} → (X → Type 0) → List X → Type 0
Each P [] = Unit {0}
Each P (x ∷ xs) = P x × Each P xs

pub none_both : (a b : Kinds) → or_else a b ≡ [] → (a ≡ []) × (b ≡ [])
none_both [] b e = (refl, e)
none_both (k ∷ ks) b e = cc

-- what a search finds passes, and is one of the elements
pub find_has : {X : Type 0} (P : X → Type 0) (p : X → Bool) (xs : List X) (x : X) → Each P xs → find p xs ≡ Some x → P x × (p x ≡ true)
find_has P p [] x each e = cc
find_has P p (y ∷ ys) x each e = go (p y) refl (find_has P p ys x each.1) e
  where
    go : (b : Bool) → p y ≡ b → (find p ys ≡ Some x → P x × (p x ≡ true)) → cond b (Some y) (find p ys) ≡ Some x → P x × (p x ≡ true)
    go true t rec e =
        let same : y ≡ x = ap (λ o. unwrap_or o y) e in
        (subst P same each.0, subst (λ z. p z ≡ true) same t)
    go false t rec e = rec e

-- the row stands for a rule of c, and its first value passed that rule's parser
pub record IsFrom (c : List Rule) (r : Row) : Type 0 where
  pub rule : Rule
  pub named : arg_by_id c r.id ≡ Some rule
  pub value : Text
  pub more : List Text
  pub values : r.values ≡ value ∷ more
  pub passes : value_kinds rule.ignore_case (parser_of_value rule.parser) value ≡ []
  pub reads : r.reading ≡ reading_by rule

-- a use of an option with one value
abbrev pub one_value : ValueRange
one_value = record { start_inclusive = 1; end_inclusive = 1 }

pub record IsOption (a : Rule) : Type 0 where
  pub action : a.action ≡ Some Set
  pub range : a.range ≡ Some one_value

-- the rule is found by its own id, and is an option with one value or asks for help
abbrev pub IsPlainRule : List Rule → Rule → Type 0
IsPlainRule c a = (arg_by_id c a.id ≡ Some a) × (IsOption a ⊎ (a.action ≡ Some Help))

-- what a new row has to have
pub record CanStart (c : List Rule) (id : Text) (how : Reading) (v : Text) : Type 0 where
  pub rule : Rule
  pub named : arg_by_id c id ≡ Some rule
  pub passes : value_kinds rule.ignore_case (parser_of_value rule.parser) v ≡ []
  pub reads : how ≡ reading_by rule

module _ (c : List Rule) where
  abbrev pub Sound : List Row → Type 0
  Sound rows = Each (IsFrom c) rows

  pub sound_without : (id : Text) (rows : List Row) → Sound rows → Sound (without id rows)
  sound_without id [] each = tt
  sound_without id (r ∷ rs) each = go (bytes_eq r.id id) (sound_without id rs each.1)
    where
      go : (b : Bool) → Sound (without id rs) → Sound (cond b ([] ++ rs) (r ∷ without id rs))
      go true rec = each.1
      go false rec = (each.0, rec)

  pub sound_with : (id : Text) (how : Reading) (s : ValueSource) (v : Text) (vs : List Text) (rows : List Row) → CanStart c id how v → Sound rows
      → Sound (with_values id how s (v ∷ vs) rows)
  sound_with id how s v vs [] new each = (
    record {
      rule = new.rule;
      named = new.named;
      value = v;
      more = vs;
      values = refl;
      passes = new.passes;
      reads = new.reads;
    },
    tt,
  )
  sound_with id how s v vs (r ∷ rs) new each = go (bytes_eq r.id id) (sound_with id how s v vs rs new each.1)
    where
      go : (b : Bool) → Sound (with_values id how s (v ∷ vs) rs) → Sound (cond b (more_values s (v ∷ vs) r ++ rs) (r ∷ with_values id how s (v ∷ vs) rs))
      go true rec = (
        record {
          rule = each.0.rule;
          named = each.0.named;
          value = each.0.value;
          more = each.0.more ++ (v ∷ vs);
          values = ap (λ (l : List Text). l ++ (v ∷ vs)) each.0.values;
          passes = each.0.passes;
          reads = each.0.reads;
        },
        each.1,
      )
      go false rec = (each.0, rec)

  -- values that pass begin with one that does
  first_passes : (a : Rule) (v : Text) (vs : List Text) → values_fault a (v ∷ vs) ≡ [] → value_kinds a.ignore_case (parser_of_value a.parser) v ≡ []
  first_passes a v vs e = (none_both (value_kinds a.ignore_case (parser_of_value a.parser) v) (values_fault a vs) e).0

  use_parts : (again : Bool) (a : Rule) (values : List Text) (rows : List Row) → use_fault again a values rows ≡ []
      → (range_kinds (unwrap_or_range a.range).start_inclusive (most_values a) (length values) ≡ [])
      × (action_fault (action_of a) again a (values_or_missing a values) rows ≡ [])
  use_parts again a values rows e = none_both (range_kinds (unwrap_or_range a.range).start_inclusive (most_values a) (length values))
      (action_fault (action_of a) again a (values_or_missing a values) rows) e

  -- no use of a rule that asks for help passes
  no_help : (again : Bool) (a : Rule) (values : List Text) (rows : List Row) → a.action ≡ Some Help → use_fault again a values rows ≡ [] → ⊥
  no_help again a values rows help e =
      let act : action_fault (action_of a) again a (values_or_missing a values) rows ≡ [] = (use_parts again a values rows e).1 in
      let bad : DisplayHelp ∷ [] ≡ [] = rw help at act in
      cc

  -- a use of an option has a value
  no_value : (again : Bool) (a : Rule) (rows : List Row) → a.range ≡ Some one_value → use_fault again a [] rows ≡ [] → ⊥
  no_value again a rows range e =
      let count : range_kinds (unwrap_or_range a.range).start_inclusive (most_values a) 0 ≡ [] = (use_parts again a [] rows e).0 in
      let bad : InvalidValue ∷ [] ≡ [] = rw range at count in
      cc

  set_passes : (again : Bool) (a : Rule) (v : Text) (vs : List Text) (rows : List Row) → a.action ≡ Some Set → use_fault again a (v ∷ vs) rows ≡ []
      → value_kinds a.ignore_case (parser_of_value a.parser) v ≡ []
  set_passes again a v vs rows set e =
      let act : action_fault (action_of a) again a (v ∷ vs) rows ≡ [] = (use_parts again a (v ∷ vs) rows e).1 in
      let set_fault : or_else (repeat_fault again a.id rows) (values_fault a (v ∷ vs)) ≡ [] = rw set at act in
      first_passes a v vs (none_both (repeat_fault again a.id rows) (values_fault a (v ∷ vs)) set_fault).1

  -- a use of a rule that finds no fault keeps the rows sound
  pub sound_used : (again : Bool) (a : Rule) (values : List Text) (rows : List Row) → IsPlainRule c a → Sound rows → use_fault again a values rows ≡ []
      → Sound (used a values rows)
  sound_used again a [] rows plain each e = elim plain.1 [
    | inl option ↦ absurd (no_value again a rows option.range e)
    | inr help ↦ absurd (no_help again a [] rows help e)
  ]
  sound_used again a (v ∷ vs) rows plain each e = elim plain.1 [
    | inl option ↦
        let passes = set_passes again a v vs rows option.action e in
        rw option.action (sound_with a.id (reading_by a) CommandLine v vs (without a.id rows)
        (record { rule = a; named = plain.0; passes = passes; reads = refl }) (sound_without a.id rows each))
    | inr help ↦ absurd (no_help again a (v ∷ vs) rows help e)
  ]

  -- ---- defaults

  default_starts : (a : Rule) (rows : List Row) (v : Text) (vs : List Text) → IsPlainRule c a → Sound rows → given_default_fault a (v ∷ vs) ≡ []
      → Sound (default_rows a.id (reading_by a) (v ∷ vs) rows)
  default_starts a rows v vs plain each e =
      let passes = first_passes a v vs (none_both (request_kinds (action_of a)) (values_fault a (v ∷ vs)) e).1 in
      sound_with a.id (reading_by a) DefaultValue v vs rows (record { rule = a; named = plain.0; passes = passes; reads = refl }) each

  sound_default_by : (a : Rule) (rows : List Row) → IsPlainRule c a → Sound rows → (b : Bool) (ds : List Text)
      → cond (b || is_empty ds) [] (given_default_fault a ds) ≡ [] → Sound (cond b rows (default_rows a.id (reading_by a) ds rows))
  sound_default_by a rows plain each true ds e = each
  sound_default_by a rows plain each false [] e = each
  sound_default_by a rows plain each false (v ∷ vs) e =
      let some : is_empty (v ∷ vs) ≡ false = ne_eqb (length (v ∷ vs)) 0 (λ z. absurd (omega arith)) in
      default_starts a rows v vs plain each (rw some at e)

  -- defaults that find no fault keep the rows sound
  pub sound_defaults : (rules : List Rule) (rows : List Row) → Each (IsPlainRule c) rules → Sound rows → defaults_fault rows rules ≡ []
      → Sound (fold with_default rows rules)
  unfolding defaults_fault
  sound_defaults [] rows plain each e = each
  sound_defaults (a ∷ rest) rows plain each e =
      let parts = none_both (default_fault rows a) (defaults_fault (with_default rows a) rest) e in
      sound_defaults rest (with_default rows a) plain.1 (sound_default_by a rows plain.0 each (has_row a.id rows) a.defaults parts.0) parts.1

-- ---- a default leaves a row

either_left : (a b : Bool) → a ≡ true → (a || b) ≡ true
either_left true b e = refl
either_left false b e = cc

either_right : (a b : Bool) → b ≡ true → (a || b) ≡ true
either_right true b e = refl
either_right false b e = e

same_text : (t : Text) → bytes_eq t t ≡ true
same_text t = (bytes_eq-Decides t t).1 refl

pub has_made : (id : Text) (how : Reading) (s : ValueSource) (vs : List Text) (rows : List Row) → has_row id (with_values id how s vs rows) ≡ true
has_made id how s vs [] = either_left (bytes_eq id id) false (same_text id)
has_made id how s vs (r ∷ rs) = go (bytes_eq r.id id) refl (has_made id how s vs rs)
  where
    go : (b : Bool) → bytes_eq r.id id ≡ b → has_row id (with_values id how s vs rs) ≡ true
        → has_row id (cond b (more_values s vs r ++ rs) (r ∷ with_values id how s vs rs)) ≡ true
    go true t rec = either_left (bytes_eq r.id id) _ t
    go false t rec = either_right (bytes_eq r.id id) _ rec

pub has_kept : (here id : Text) (how : Reading) (s : ValueSource) (vs : List Text) (rows : List Row) → has_row here rows ≡ true
    → has_row here (with_values id how s vs rows) ≡ true
has_kept here id how s vs [] e = cc
has_kept here id how s vs (r ∷ rs) e = go (bytes_eq r.id id) (split (bytes_eq r.id here) (has_kept here id how s vs rs) e)
  where
    after : List Row
    after = with_values id how s vs rs

    split : (b : Bool) → (has_row here rs ≡ true → has_row here after ≡ true) → (b || has_row here rs) ≡ true
        → ((b || has_row here rs) ≡ true) × ((b || has_row here after) ≡ true)
    split true rec e = (refl, refl)
    split false rec e = (e, rec e)

    go : (b : Bool) → ((bytes_eq r.id here || has_row here rs) ≡ true) × ((bytes_eq r.id here || has_row here after) ≡ true)
        → has_row here (cond b (more_values s vs r ++ rs) (r ∷ after)) ≡ true
    go true both = both.0
    go false both = both.1

has_kept_by : (here : Text) (a : Rule) (rows : List Row) → has_row here rows ≡ true → (b : Bool) (ds : List Text)
    → has_row here (cond b rows (default_rows a.id (reading_by a) ds rows)) ≡ true
has_kept_by here a rows e true ds = e
has_kept_by here a rows e false [] = e
has_kept_by here a rows e false (v ∷ vs) = has_kept here a.id (reading_by a) DefaultValue (v ∷ vs) rows e

kept_by_defaults : (here : Text) (rules : List Rule) (rows : List Row) → has_row here rows ≡ true → has_row here (fold with_default rows rules) ≡ true
kept_by_defaults here [] rows e = e
kept_by_defaults here (a ∷ rest) rows e = kept_by_defaults here rest (with_default rows a) (has_kept_by here a rows e (has_row a.id rows) a.defaults)

-- the rule has a default
abbrev pub HasDefault : List Text → Type 0
HasDefault [] = ⊥
HasDefault (v ∷ vs) = Unit {0}

made_by : (a : Rule) (rows : List Row) (b : Bool) → has_row a.id rows ≡ b → (ds : List Text) → HasDefault ds
    → has_row a.id (cond b rows (default_rows a.id (reading_by a) ds rows)) ≡ true
made_by a rows true t ds some = t
made_by a rows false t [] some = absurd some
made_by a rows false t (v ∷ vs) some = has_made a.id (reading_by a) DefaultValue (v ∷ vs) rows

-- each rule with a default has a row at the end
pub defaults_there : (rules : List Rule) (rows : List Row) → Each (λ a. HasDefault a.defaults → has_row a.id (fold with_default rows rules) ≡ true) rules
defaults_there [] rows = tt
defaults_there (a ∷ rest) rows = (
  λ some. kept_by_defaults a.id rest (with_default rows a) (made_by a rows (has_row a.id rows) refl a.defaults some),
  defaults_there rest (with_default rows a),
)
