-- What words that find no fault come to: a command is named, and its rows are sound and complete.
use Rattle.std.proofs.Common.{◌≡◌, ◌||◌, ◌&&◌, ℕ, Bool, cond, true, false, refl, List, [], ◌∷◌, Option, Some, None, is_some, codes, not}
use Rattle.std.specs.List.{find, fold, list_any}
use Rattle.std.specs.Option.{option_map, option_map_or}
use Rattle.std.specs.Str.{bytes_eq}
use Rattle.clap.specs.Lexer.{long_of, short_of}
use Rattle.clap.specs.Walk.{Held, Names, Outcome, Row, Rule, Step, Text, Waiting, Walk, after_flag, after_step, answers_to, arg_by_index, arg_by_long, bundle, done, finished, has_row, idle, long_met, long_or_other, next, nothing_held, option, plain, plain_word, positional, refused, rows_after, settled, short_or_plain, subcommand, subcommand_met, subcommand_or_other, to_positional, trailing, value, waits, walk, walk_from, walked, walked_from, word_met}
use Rattle.clap.specs.Simple.{App, Shape, entered, label_of, names_of, rows_at}
use Rattle.clap.specs.Takes.{is_given}
use Rattle.clap.specs.Faults.{built_fault, check_fault, defaults_fault, entered_fault, level_fault, other_fault, settle_fault, step_fault, turn_fault, walk_fault, word_fault}
use Rattle.clap.specs.Kinds.{Kinds, check_kinds, or_else}
use Rattle.clap.specs.declared.error.kind.ErrorKind.TheVariants as kind
use Rattle.ttd_words.proofs.RowLemmas.{Each, HasDefault, Sound, defaults_there, none_both, sound_defaults}
use Rattle.ttd_words.proofs.WalkKeeps.{IsPlainShape, settle_keeps, walk_keeps}

-- ---- one level

pub record LevelPasses (s : Shape) (names : Names) (words : List Text) (has_subcommand : Bool) (below : Kinds) : Type 0 where
  pub turns : walk_fault s names (walk_from nothing_held) words ≡ []
  pub inner : below ≡ []
  pub settles : settle_fault s.rules s.args_override_self (walk s.rules names nothing_held words).held ≡ []
  pub fills : defaults_fault (settled s.rules (walk s.rules names nothing_held words).held).rows s.rules ≡ []
  pub checks : check_fault s (rows_after s.rules names words) has_subcommand ≡ []

pub level_parts : (s : Shape) (names : Names) (words : List Text) (has_subcommand : Bool) (below : Kinds)
    → level_fault s names nothing_held words has_subcommand below ≡ [] → LevelPasses s names words has_subcommand below
level_parts s names words has_subcommand below e =
    let end = (walk s.rules names nothing_held words).held in
    let settle = settle_fault s.rules s.args_override_self end in
    let defaults = defaults_fault (settled s.rules end).rows s.rules in
    let check = check_fault s (finished s.rules end) has_subcommand in
    let a = none_both (walk_fault s names (walk_from nothing_held) words) (or_else below (or_else settle (or_else defaults check))) e in
    let b = none_both below (or_else settle (or_else defaults check)) a.1 in
    let c = none_both settle (or_else defaults check) b.1 in
    let d = none_both defaults check c.1 in
    record { turns = a.0; inner = b.0; settles = c.0; fills = d.0; checks = d.1 }

-- the rows of a level that passes are sound
pub level_sound : (s : Shape) (names : Names) (words : List Text) (has_subcommand : Bool) (below : Kinds) → IsPlainShape s
    → LevelPasses s names words has_subcommand below → Sound s.rules (rows_after s.rules names words)
level_sound s names words has_subcommand below simple p =
    let end = (walk s.rules names nothing_held words).held in
    let walked_to = walk_keeps s simple names words (walk_from nothing_held) tt p.turns in
    sound_defaults s.rules s.rules (settled s.rules end).rows simple.rules (settle_keeps s simple end walked_to p.settles) p.fills

pub level_defaults : (s : Shape) (names : Names) (words : List Text)
    → Each (λ a. HasDefault a.defaults → has_row a.id (rows_after s.rules names words) ≡ true) s.rules
level_defaults s names words = defaults_there s.rules (settled s.rules (walk s.rules names nothing_held words).held).rows

-- what a test on no element leaves
none_any : {X : Type 0} (p : X → Bool) (xs : List X) → list_any p xs ≡ false → Each (λ x. p x ≡ false) xs
none_any p [] e = tt
none_any p (x ∷ xs) e = go (p x) refl e (none_any p xs)
  where
    go : (b : Bool) → p x ≡ b → (b || list_any p xs) ≡ false → (list_any p xs ≡ false → Each (λ y. p y ≡ false) xs) → (p x ≡ false) × Each (λ y. p y ≡ false) xs
    go true t e rec = cc
    go false t e rec = (t, rec e)

wants_none : (a b c : Bool) → check_kinds a b c ≡ [] → (b ≡ false) × (c ≡ false)
wants_none true b c e = cc
wants_none false true c e = cc
wants_none false false true e = cc
wants_none false false false e = (refl, refl)

-- each required argument of a level that passes is given
pub level_given : (s : Shape) (names : Names) (words : List Text) (below : Kinds) → s.subcommand_negates_reqs ≡ false
    → LevelPasses s names words false below → Each (λ a. (a.required && not (is_given a.id (rows_after s.rules names words))) ≡ false) s.rules
level_given s names words below negates p =
    let rows = rows_after s.rules names words in
    let missing : Bool = list_any (λ a. a.required && not (is_given a.id rows)) s.rules in
    let third : (not (s.subcommand_negates_reqs && false) && missing) ≡ false = (wants_none _ _ _ p.checks).1 in
    none_any (λ a. a.required && not (is_given a.id rows)) s.rules (rw negates at third)

-- ---- the command that is named

-- the word that names a subcommand is not `help`
abbrev NotHelp : Option (Text × List Text) → Type 0
NotHelp None = Unit {0}
NotHelp (Some p) = bytes_eq p.0 (codes "help") ≡ false

abbrev StepNotHelp : Step → Type 0
StepNotHelp (subcommand name) = bytes_eq name (codes "help") ≡ false
StepNotHelp _ = Unit {0}

module _ (s : Shape) (helps : s.disable_help_subcommand ≡ false) where
  plain_step : (waiting : Waiting) (word : Text) (h : Held) → StepNotHelp (plain_word s.rules waiting word h).1
  plain_step idle word h = tt
  plain_step (option id) word h = tt
  plain_step positional word h = tt

  after_step_of : (waiting : Waiting) (word : Text) (h : Held) (o : Outcome) → StepNotHelp (after_flag s.rules waiting word h o).1
  after_step_of waiting word h done = tt
  after_step_of waiting word h (waits id) = tt
  after_step_of waiting word h plain = plain_step waiting word h
  after_step_of waiting word h refused = plain_step waiting word h

  short_step : (waiting : Waiting) (word : Text) (o : Option Text) (h : Held) → StepNotHelp (short_or_plain s.rules waiting word o h).1
  short_step waiting word None h = plain_step waiting word h
  short_step waiting word (Some flags) h = after_step_of waiting word (bundle s.rules flags h).0 (bundle s.rules flags h).1

  flag_step : (waiting : Waiting) (word : Text) (o : Option (Text × Option Text)) (h : Held) → StepNotHelp (long_or_other s.rules waiting word o h).1
  flag_step waiting word None h = short_step waiting word (short_of word) h
  flag_step waiting word (Some p) h =
      after_step_of waiting word (long_met s.rules (arg_by_long s.rules p.0) p.1 h).0 (long_met s.rules (arg_by_long s.rules p.0) p.1 h).1

  name_step : (name word : Text) (h : Held) → other_fault s (Some name) word h ≡ [] → bytes_eq name (codes "help") ≡ false
  name_step name word h e = go (bytes_eq name (codes "help")) (rw helps at e)
    where
      go : (b : Bool) → cond (b && not false) (kind.DisplayHelp ∷ kind.InvalidSubcommand ∷ []) [] ≡ [] → b ≡ false
      go true e = cc
      go false e = refl

  other_step : (o : Option Text) (waiting : Waiting) (position : ℕ) (word : Text) (h : Held) → other_fault s o word h ≡ []
      → StepNotHelp (subcommand_or_other s.rules o waiting position word h).1
  other_step (Some name) waiting position word h e = name_step name word h e
  other_step None waiting position word h e = go (bytes_eq word (45 ∷ 45 ∷ []))
    where
      go : (b : Bool) → StepNotHelp (cond b (h, trailing position) (long_or_other s.rules waiting word (long_of word) h)).1
      go true = tt
      go false = flag_step waiting word (long_of word) h

  word_step : (names : Names) (is_trailing : Bool) (waiting : Waiting) (position : ℕ) (word : Text) (h : Held)
      → word_fault s names is_trailing waiting word h ≡ [] → StepNotHelp (word_met s.rules names is_trailing waiting position word h).1
  word_step names true waiting position word h e = tt
  word_step names false waiting position word h e = other_step (subcommand_met names waiting word) waiting position word h e

  to_none : (o : Option Rule) (word : Text) (w : Walk) (h : Held) → NotHelp w.stopped → NotHelp (to_positional s.rules o word w h).stopped
  to_none None word w h clean = clean
  to_none (Some a) word w h clean = tt

  step_stop : (word : Text) (w : Walk) (h : Held) (step : Step) → NotHelp w.stopped → StepNotHelp step → NotHelp (after_step s.rules word w h step).stopped
  step_stop word w h (next waiting) clean is = clean
  step_stop word w h (trailing position) clean is = clean
  step_stop word w h (subcommand name) clean is = is
  step_stop word w h value clean is = to_none (arg_by_index s.rules w.position) word w h clean

  turn_of : Names → Option (Text × List Text) → Walk → Text → Kinds
  turn_of names o w word =
      let met = word_met s.rules names w.is_trailing w.waiting w.position word w.held in
      cond (is_some o) [] (or_else (word_fault s names w.is_trailing w.waiting word w.held) (step_fault s w.position met.0 met.1))

  turn_stop : (names : Names) (o : Option (Text × List Text)) (w : Walk) (word : Text) → NotHelp o → NotHelp w.stopped → turn_of names o w word ≡ []
      → NotHelp (walked_from s.rules names o w word).stopped
  unfolding turn_of
  turn_stop names (Some p) w word here clean e = here
  turn_stop names None w word here clean e =
      let met = word_met s.rules names w.is_trailing w.waiting w.position word w.held in
      let parts = none_both (word_fault s names w.is_trailing w.waiting word w.held) (step_fault s w.position met.0 met.1) e in
      step_stop word w met.0 met.1 clean (word_step names w.is_trailing w.waiting w.position word w.held parts.0)

  walk_stop : (names : Names) (words : List Text) (w : Walk) → NotHelp w.stopped → walk_fault s names w words ≡ []
      → NotHelp (fold (walked s.rules names) w words).stopped
  unfolding walk_fault walked turn_of
  walk_stop names [] w clean e = clean
  walk_stop names (word ∷ rest) w clean e =
      let parts = none_both (turn_fault s names w word) (walk_fault s names (walked s.rules names w word) rest) e in
      walk_stop names rest (walked s.rules names w word) (turn_stop names w.stopped w word clean clean parts.0) parts.1

-- a subcommand of the program is named, which is not `help`, and its own words pass
pub record IsNamed (a : App) (found : Option (Text × List Row)) : Type 0 where
  pub named : Text
  pub words : List Text
  pub shape : Shape
  pub is_there : find (λ s. answers_to named (label_of s)) a.subs ≡ Some shape
  pub not_help : bytes_eq named (codes "help") ≡ false
  pub passes : level_fault shape [] nothing_held words false [] ≡ []
  pub rows : found ≡ Some (rows_at shape words)

module _ (a : App) where
  found_named : (p : Text × List Text) (o : Option Shape) → find (λ s. answers_to p.0 (label_of s)) a.subs ≡ o → NotHelp (Some p)
      → is_some (option_map (λ s. rows_at s p.1) o) ≡ true
      → option_map_or (λ s. level_fault s [] nothing_held p.1 false []) o [] ≡ [] → IsNamed a (option_map (λ s. rows_at s p.1) o)
  found_named p None is clean some e = cc
  found_named p (Some s) is clean some e = record {
    named = p.0;
    words = p.1;
    shape = s;
    is_there = is;
    not_help = clean;
    passes = e;
    rows = refl;
  }

  stop_named : (stop : Option (Text × List Text)) → NotHelp stop → is_some (entered a stop) ≡ true → entered_fault a stop ≡ [] → IsNamed a (entered a stop)
  stop_named None clean some e = cc
  stop_named (Some p) clean some e = found_named p (find (λ s. answers_to p.0 (label_of s)) a.subs) refl clean some e

  wanted : (b : Bool) → (not b && true) ≡ false → b ≡ true
  wanted true e = refl
  wanted false e = cc

  -- words at which a built command finds no fault name one of its subcommands, where it wants one
  pub words_named : (words : List Text) → a.top.subcommand_required ≡ true → a.top.disable_help_subcommand ≡ false → built_fault a nothing_held words ≡ []
      → IsNamed a (entered a (walk a.top.rules (names_of a) nothing_held words).stopped)
  words_named words required helps e =
      let stop = (walk a.top.rules (names_of a) nothing_held words).stopped in
      let has : Bool = is_some (entered a stop) in
      let p = level_parts a.top (names_of a) words has (entered_fault a stop) e in
      let second : (not has && a.top.subcommand_required) ≡ false = (wants_none _ _ _ p.checks).0 in
      let clean = walk_stop a.top helps (names_of a) words (walk_from nothing_held) tt p.turns in
      stop_named stop clean (wanted has (rw required at second)) p.inner
