-- What a walk over words that find no fault keeps: the rows stay sound, and no subcommand `help` is met.
use Rattle.std.proofs.Common.{◌≡◌, ℕ, Bool, cond, true, false, zero, suc, refl, List, [], ◌∷◌, length, drop, Option, Some, None, is_some}
use Rattle.std.specs.Prelude.{encode_utf8, slice_get}
use Rattle.std.specs.List.{find, fold}
use Rattle.std.specs.Option.{option_map_or}
use Rattle.std.specs.Str.{bytes_eq, chars}
use Rattle.clap.specs.Lexer.{long_of, short_of}
use Rattle.clap.specs.Walk.{Held, Names, Outcome, Row, Rule, Step, Text, Waiting, Walk, after_flag, after_step, arg_by_id, arg_by_index, arg_by_long, arg_by_short, attached_value, bundle, bundle_met, bundle_step, done, flag_met, idle, long_met, long_or_other, next, option, option_met, option_word, plain, plain_word, positional, reacted, refused, settled, settled_rows, short_met, short_or_plain, subcommand, subcommand_met, subcommand_or_other, takes_values, trailing, used_by_id, value, waits, walked, walked_from, word_met}
use Rattle.clap.specs.Simple.{Shape}
use Rattle.clap.specs.Faults.{bundle_fault, bundle_step_fault, flag_word_fault, flags_fault, long_fault, option_fault, other_fault, react_fault, settle_fault, short_fault, step_fault, turn_fault, use_fault, walk_fault, word_fault}
use Rattle.clap.specs.Kinds.{Kinds, or_else}
use Rattle.ttd_words.proofs.RowLemmas.{Each, IsPlainRule, Sound, find_has, none_both, sound_used}

-- the rules are plain, and none is a positional
pub record IsPlainShape (s : Shape) : Type 0 where
  pub rules : Each (IsPlainRule s.rules) s.rules
  pub no_positional : (i : ℕ) → arg_by_index s.rules i ≡ None

module _ (s : Shape) (plain_shape : IsPlainShape s) where
  abbrev pub Holds : Held → Type 0
  Holds h = Sound s.rules h.rows

  plain_found : (p : Rule → Bool) (a : Rule) → find p s.rules ≡ Some a → IsPlainRule s.rules a
  plain_found p a e = (find_has (IsPlainRule s.rules) p s.rules a plain_shape.rules e).0

  used_found : (o : Option Rule) (p : Rule → Bool) → find p s.rules ≡ o → (values : List Text) (rows : List Row) → Sound s.rules rows
      → option_map_or (λ a. use_fault s.args_override_self a values rows) o [] ≡ [] → Sound s.rules (used_by_id o values rows)
  used_found None p is values rows each e = each
  used_found (Some a) p is values rows each e = sound_used s.rules s.args_override_self a values rows (plain_found p a is) each e

  settled_by : (o : Option (Text × List Text)) (rows : List Row) → Sound s.rules rows
      → option_map_or (λ p. option_map_or (λ a. use_fault s.args_override_self a p.1 rows) (arg_by_id s.rules p.0) []) o [] ≡ []
      → Sound s.rules (settled_rows s.rules o rows)
  settled_by None rows each e = each
  settled_by (Some p) rows each e = used_found (arg_by_id s.rules p.0) (λ a. bytes_eq a.id p.0) refl p.1 rows each e

  pub settle_keeps : (h : Held) → Holds h → settle_fault s.rules s.args_override_self h ≡ [] → Holds (settled s.rules h)
  settle_keeps h each e = settled_by h.pending h.rows each e

  react_keeps : (a : Rule) (values : List Text) (h : Held) → IsPlainRule s.rules a → Holds h → react_fault s.rules s.args_override_self a values h ≡ []
      → Holds (reacted s.rules a values h)
  react_keeps a values h is each e =
      let parts = none_both (settle_fault s.rules s.args_override_self h) (use_fault s.args_override_self a values (settled s.rules h).rows) e in
      sound_used s.rules s.args_override_self a values (settled s.rules h).rows is (settle_keeps h each parts.0) parts.1

  option_keeps : (a : Rule) (v : Option Text) (h : Held) → IsPlainRule s.rules a → Holds h → option_fault s.rules s.args_override_self a v h ≡ []
      → Holds (option_met s.rules a v h).0
  option_keeps a None h is each e = settle_keeps h each e
  option_keeps a (Some v) h is each e = react_keeps a (v ∷ []) h is each e

  flag_keeps : (a : Rule) (v : Option Text) (h : Held) → IsPlainRule s.rules a → Holds h
      → cond (is_some v) (Rattle.clap.specs.declared.error.kind.ErrorKind.TheVariants.TooManyValues ∷ []) (react_fault s.rules s.args_override_self a [] h) ≡ []
      → Holds (flag_met s.rules a v h).0
  flag_keeps a None h is each e = react_keeps a [] h is each e
  flag_keeps a (Some v) h is each e = each

  long_keeps : (o : Option Rule) (p : Rule → Bool) → find p s.rules ≡ o → (v : Option Text) (h : Held) → Holds h
      → long_fault s.rules s.args_override_self o v h ≡ [] → Holds (long_met s.rules o v h).0
  long_keeps None p is v h each e = each
  long_keeps (Some a) p is v h each e = go (takes_values a) e
    where
      go : (b : Bool) → cond b (option_fault s.rules s.args_override_self a v h)
          (cond (is_some v) (Rattle.clap.specs.declared.error.kind.ErrorKind.TheVariants.TooManyValues ∷ []) (react_fault s.rules s.args_override_self a [] h)) ≡ []
          → Holds (cond b (option_met s.rules a v h) (flag_met s.rules a v h)).0
      go true e = option_keeps a v h (plain_found p a is) each e
      go false e = flag_keeps a v h (plain_found p a is) each e

  -- ---- a bundle of flags

  short_keeps : (o : Option Rule) (p : Rule → Bool) → find p s.rules ≡ o → (rest : Text) (h : Held) (faults : Held → Kinds) (met : Held → Held × Outcome) → Holds h
      → ((g : Held) → Holds g → faults g ≡ [] → Holds (met g).0)
      → short_fault s.rules s.args_override_self o rest h faults ≡ [] → Holds (short_met s.rules o rest h met).0
  short_keeps None p is rest h faults met each more e = each
  short_keeps (Some a) p is rest h faults met each more e = go (takes_values a) e
    where
      go : (b : Bool) → cond b (option_fault s.rules s.args_override_self a (attached_value rest) h)
          (or_else (react_fault s.rules s.args_override_self a [] h) (faults (reacted s.rules a [] h))) ≡ []
          → Holds (cond b (option_met s.rules a (attached_value rest) h) (met (reacted s.rules a [] h))).0
      go true e = option_keeps a (attached_value rest) h (plain_found p a is) each e
      go false e =
          let parts = none_both (react_fault s.rules s.args_override_self a [] h) (faults (reacted s.rules a [] h)) e in
          more (reacted s.rules a [] h) (react_keeps a [] h (plain_found p a is) each parts.0) parts.1

  flag_step_keeps : (o : Option ℕ) (flags : Text) (skip : ℕ) (so_far : Outcome) (h : Held)
      (faults : Text → ℕ → Held → Kinds) (met : Text → ℕ → Outcome → Held → Held × Outcome) → Holds h
      → ((t : Text) (n : ℕ) (x : Outcome) (g : Held) → Holds g → faults t n g ≡ [] → Holds (met t n x g).0)
      → bundle_step_fault s.rules s.args_override_self o flags skip h faults ≡ [] → Holds (bundle_step s.rules o flags skip so_far h met).0
  flag_step_keeps None flags skip so_far h faults met each more e = each
  flag_step_keeps (Some x) flags zero so_far h faults met each more e =
      let rest = drop (length (encode_utf8 x)) flags in
      short_keeps (arg_by_short s.rules x) _ refl rest h (faults rest 0) (met rest 0 done) each (λ g held none. more rest 0 done g held none) e
  flag_step_keeps (Some x) flags (suc skip) so_far h faults met each more e =
      more (drop (length (encode_utf8 x)) flags) skip so_far h each e

  flags_keep : (k : ℕ) (flags : Text) (skip : ℕ) (so_far : Outcome) (h : Held) → Holds h → flags_fault s.rules s.args_override_self k flags skip h ≡ []
      → Holds (bundle_met s.rules k flags skip so_far h).0
  unfolding flags_fault bundle_met
  flags_keep zero flags skip so_far h each e = each
  flags_keep (suc k) flags skip so_far h each e =
      flag_step_keeps (slice_get (chars flags) 0) flags skip so_far h (flags_fault s.rules s.args_override_self k) (bundle_met s.rules k) each (flags_keep k) e

  -- ---- a word

  option_word_keeps : (o : Option Rule) (id word : Text) (h : Held) → Holds h → Holds (option_word o id word h).0
  option_word_keeps None id word h each = each
  option_word_keeps (Some a) id word h each = each

  plain_keeps : (waiting : Waiting) (word : Text) (h : Held) → Holds h → Holds (plain_word s.rules waiting word h).0
  plain_keeps idle word h each = each
  plain_keeps (option id) word h each = option_word_keeps (arg_by_id s.rules id) id word h each
  plain_keeps positional word h each = each

  after_keeps : (waiting : Waiting) (word : Text) (h : Held) (o : Outcome) → Holds h → Holds (after_flag s.rules waiting word h o).0
  after_keeps waiting word h done each = each
  after_keeps waiting word h (waits id) each = each
  after_keeps waiting word h plain each = plain_keeps waiting word h each
  after_keeps waiting word h refused each = plain_keeps waiting word h each

  short_word_keeps : (waiting : Waiting) (word : Text) (o : Option Text) (h : Held) → Holds h
      → option_map_or (λ flags. bundle_fault s.rules s.args_override_self flags h) o [] ≡ [] → Holds (short_or_plain s.rules waiting word o h).0
  short_word_keeps waiting word None h each e = plain_keeps waiting word h each
  short_word_keeps waiting word (Some flags) h each e =
      after_keeps waiting word (bundle s.rules flags h).0 (bundle s.rules flags h).1
      (flags_keep (length flags) flags h.skip plain (record h { skip = 0 }) each e)

  flag_word_keeps : (waiting : Waiting) (word : Text) (o : Option (Text × Option Text)) (h : Held) → Holds h
      → flag_word_fault s.rules s.args_override_self o word h ≡ [] → Holds (long_or_other s.rules waiting word o h).0
  flag_word_keeps waiting word None h each e = short_word_keeps waiting word (short_of word) h each e
  flag_word_keeps waiting word (Some p) h each e =
      after_keeps waiting word (long_met s.rules (arg_by_long s.rules p.0) p.1 h).0 (long_met s.rules (arg_by_long s.rules p.0) p.1 h).1
      (long_keeps (arg_by_long s.rules p.0) _ refl p.1 h each e)

  other_keeps : (o : Option Text) (waiting : Waiting) (position : ℕ) (word : Text) (h : Held) → Holds h → other_fault s o word h ≡ []
      → Holds (subcommand_or_other s.rules o waiting position word h).0
  other_keeps (Some name) waiting position word h each e = each
  other_keeps None waiting position word h each e = go (bytes_eq word (45 ∷ 45 ∷ [])) e
    where
      go : (b : Bool) → cond b [] (flag_word_fault s.rules s.args_override_self (long_of word) word h) ≡ []
          → Holds (cond b (h, trailing position) (long_or_other s.rules waiting word (long_of word) h)).0
      go true e = each
      go false e = flag_word_keeps waiting word (long_of word) h each e

  word_keeps : (names : Names) (is_trailing : Bool) (waiting : Waiting) (position : ℕ) (word : Text) (h : Held) → Holds h
      → word_fault s names is_trailing waiting word h ≡ [] → Holds (word_met s.rules names is_trailing waiting position word h).0
  word_keeps names true waiting position word h each e = each
  word_keeps names false waiting position word h each e = other_keeps (subcommand_met names waiting word) waiting position word h each e

  stray : {X : Type 0} → (b : Bool) → cond b (Rattle.clap.specs.declared.error.kind.ErrorKind.TheVariants.UnknownArgument ∷ [])
      (Rattle.clap.specs.declared.error.kind.ErrorKind.TheVariants.UnknownArgument ∷ Rattle.clap.specs.declared.error.kind.ErrorKind.TheVariants.InvalidSubcommand ∷ []) ≡ [] → X
  stray true e = cc
  stray false e = cc

  step_keeps : (word : Text) (w : Walk) (h : Held) (step : Step) → Holds h → step_fault s w.position h step ≡ [] → Holds (after_step s.rules word w h step).held
  step_keeps word w h (next waiting) each e = each
  step_keeps word w h (trailing position) each e = each
  step_keeps word w h (subcommand name) each e = each
  step_keeps word w h value each e =
      let none : arg_by_index s.rules w.position ≡ None = plain_shape.no_positional w.position in
      stray s.is_leaf (rw none at e)

  turn_by : Names → Option (Text × List Text) → Walk → Text → Kinds
  turn_by names o w word =
      let met = word_met s.rules names w.is_trailing w.waiting w.position word w.held in
      cond (is_some o) [] (or_else (word_fault s names w.is_trailing w.waiting word w.held) (step_fault s w.position met.0 met.1))

  turn_keeps : (names : Names) (o : Option (Text × List Text)) (w : Walk) (word : Text) → Holds w.held → turn_by names o w word ≡ []
      → Holds (walked_from s.rules names o w word).held
  unfolding turn_by
  turn_keeps names (Some p) w word each e = each
  turn_keeps names None w word each e =
      let met = word_met s.rules names w.is_trailing w.waiting w.position word w.held in
      let parts = none_both (word_fault s names w.is_trailing w.waiting word w.held) (step_fault s w.position met.0 met.1) e in
      step_keeps word w met.0 met.1 (word_keeps names w.is_trailing w.waiting w.position word w.held each parts.0) parts.1

  -- a walk that finds no fault keeps the rows sound
  pub walk_keeps : (names : Names) (words : List Text) (w : Walk) → Holds w.held → walk_fault s names w words ≡ []
      → Holds (fold (walked s.rules names) w words).held
  unfolding walk_fault walked turn_by
  walk_keeps names [] w each e = each
  walk_keeps names (word ∷ rest) w each e =
      let parts = none_both (turn_fault s names w word) (walk_fault s names (walked s.rules names w word) rest) e in
      walk_keeps names rest (walked s.rules names w word) (turn_keeps names w.stopped w word each parts.0) parts.1
