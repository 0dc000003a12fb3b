-- Words that clap takes ask for a command.
use Rattle.std.proofs.Common.{◌≡◌, ◌∙◌, ◌⊎◌, ◌||◌, ◌&&◌, ℕ, Bool, true, false, refl, sym, ap, subst, inl, inr, List, [], ◌∷◌, ◌++◌, Option, None, Some, Result, Ok, Err, IsOk, codes, not, cond}
use Rattle.std.specs.Str.{bytes_eq}
use Rattle.std.proofs.lemmas.Bool.{false≢true}
use Rattle.std.proofs.lemmas.Slice.Eq.{bytes_eq-Decides}
use Rattle.clap.specs.Walk.{Row, Rule, Text, answers_to, arg_by_index, has_row, nothing_held, rows_after}
use Rattle.clap.specs.Simple.{Shape, built, filled_from, help_rule, label_of}
use Rattle.clap.specs.Takes.{is_given}
use Rattle.clap.specs.Faults.{level_fault}
use Rattle.tt_span.specs.Drift.{max_drift}
use Rattle.ttd_words.specs.CommandLine.{age_app, faults_of, is_service, max_number, named_by, names_service, ttd_app, twin_app}
use Rattle.ttd_words.specs.Reading.{HasNumbers, Request, ToRun, age_by, age_of, number_at, request_named, service_of, side_at, side_in, to_run, to_serve, twin_by}
use Rattle.ttd_words.specs.declared.requests.Side.{Side}
use Rattle.ttd_words.specs.declared.requests.Side.TheVariants.{Low, High}
use Rattle.ttd_words.specs.declared.requests.Command.{Command}
use Rattle.ttd_words.specs.declared.requests.Command.TheVariants.{Age, Fuse, Check, Run as RunScript, Trace, Twin, Picture, Live, Judge}
use Rattle.ttd_words.specs.declared.faults.WordsFault.{WordsFault}
use Rattle.ttd_words.specs.declared.faults.WordsFault.TheVariants.{BadValue}
use Rattle.ttd_words.specs.declared.faults.Given.TheVariants.{Side as TheSide}
use Rattle.ttd_words.proofs.RowLemmas.{Each, HasDefault, IsPlainRule, find_has}
use Rattle.ttd_words.proofs.WalkKeeps.{IsPlainShape}
use Rattle.ttd_words.proofs.LevelKeeps.{level_defaults, level_given, level_parts, level_sound, words_named}
use Rattle.ttd_words.proofs.NumberLemmas.{IsUpTo, number_there, row_given, row_there, text_there}

-- the answer is a command
pub record AsksFor (r : Result Command WordsFault) : Type 0 where
  pub command : Command
  pub is : r ≡ Ok command

-- to run a command
pub record Runs (r : Result Request WordsFault) : Type 0 where
  pub command : Command
  pub is : r ≡ Ok (ToRun command)

-- the answer to a service, which is no refusal for want of memory
pub record IsServed (named : Option (Text × List Row)) : Type 0 where
  pub is_service : names_service named ≡ true
  pub name : Text
  pub rows : List Row
  pub is : request_named named ≡ to_serve (service_of name rows)

-- the answer is to run a command, or that a side is none, or is that to a service; and the numbers that the command needs were found
pub record IsJudged (named : Option (Text × List Row)) : Type 0 where
  pub answer : (Runs (request_named named) ⊎ (request_named named ≡ Err (BadValue TheSide))) ⊎ IsServed named
  pub numbers : HasNumbers named

-- what clap makes of the options of `age`
abbrev age_rules : List Rule
age_rules = filled_from 1 (age_app.top.rules ++ help_rule ∷ [])

age_rules_plain : Each (IsPlainRule age_rules) age_rules
unfolding age_app
age_rules_plain = ((refl, inl (record { action = refl; range = refl })), ((refl, inl (record { action = refl; range = refl })), ((refl, inl (record { action = refl; range = refl })), ((refl, inl (record { action = refl; range = refl })), ((refl, inr refl), tt)))))

age_plain : (s : Shape) → s.rules ≡ age_rules → IsPlainShape s
unfolding age_app
age_plain s is = record {
  rules = subst (λ (c : List Rule). Each (IsPlainRule c) c) (sym is) age_rules_plain;
  no_positional = λ i. subst (λ (c : List Rule). arg_by_index c i ≡ None) (sym is) refl;
}

age_asks : (drift sent got clock : Option ℕ) → IsUpTo max_drift drift → IsUpTo max_number sent → IsUpTo max_number got → IsUpTo max_number clock
    → AsksFor (age_by drift sent got clock)
age_asks drift sent got clock d s g c = record {
  command = Age d.number s.number g.number c.number;
  is = rw (d.is, s.is, g.is, c.is) refl;
}

-- texts that the test tells apart differ
differ : (a b : Text) → bytes_eq a b ≡ false → a ≡ b → ⊥
differ a b apart same = false≢true (sym apart ∙ (bytes_eq-Decides a b).1 same)

age_is_not_twin : codes "age" ≡ codes "twin" → ⊥
age_is_not_twin = differ (codes "age") (codes "twin") refl

abbrev Asks : Shape → Type 0
Asks s = (named : Text) (words : List Text) → answers_to named (label_of s) ≡ true → bytes_eq named (codes "help") ≡ false
    → level_fault s [] nothing_held words false [] ≡ [] → IsJudged (Some (s.name, rows_after s.rules [] words))

age_taken : (s : Shape) → s.name ≡ codes "age" → s.rules ≡ age_rules → s.subcommand_negates_reqs ≡ false → Asks s
unfolding age_app
age_taken s name is negates named words answers not_help e =
    let rows = rows_after s.rules [] words in
    let p = level_parts s [] words false [] e in
    let sound = level_sound s [] words false [] (age_plain s is) p in
    let filled : Each (λ a. HasDefault a.defaults → has_row a.id rows ≡ true) age_rules =
    subst (λ (c : List Rule). Each (λ a. HasDefault a.defaults → has_row a.id rows ≡ true) c) is (level_defaults s [] words) in
    let given : Each (λ a. (a.required && not (is_given a.id rows)) ≡ false) age_rules =
    subst (λ (c : List Rule). Each (λ a. (a.required && not (is_given a.id rows)) ≡ false) c) is (level_given s [] words [] negates p) in
    let by_id : (id : Text) → Rattle.clap.specs.Walk.arg_by_id s.rules id ≡ Rattle.clap.specs.Walk.arg_by_id age_rules id = λ id. ap (λ (c : List Rule). Rattle.clap.specs.Walk.arg_by_id c id) is in
    let drift = number_there s.rules rows (codes "drift") _ max_drift (by_id (codes "drift")) refl sound (row_there (codes "drift") rows (filled.0 tt)) in
    let sent = number_there s.rules rows (codes "sent") _ max_number (by_id (codes "sent")) refl sound (row_given (codes "sent") rows given.1.0) in
    let got = number_there s.rules rows (codes "got") _ max_number (by_id (codes "got")) refl sound (row_given (codes "got") rows given.1.1.0) in
    let clock = number_there s.rules rows (codes "clock") _ max_number (by_id (codes "clock")) refl sound (row_given (codes "clock") rows given.1.1.1.0) in
    let asks : AsksFor (age_of rows) = age_asks _ _ _ _ drift sent got clock in
    let runs : Runs (to_run (age_of rows)) = record { command = asks.command; is = ap to_run asks.is } in
    record {
      answer = inl (inl (rw name runs));
      numbers = (
        (λ is_age. (subst IsOk (sym asks.is) refl, rw drift.is drift.bound)),
        (λ is_twin. absurd (age_is_not_twin (sym name ∙ is_twin))),
      );
    }

-- what clap makes of the options of `twin`
abbrev twin_rules : List Rule
twin_rules = filled_from 1 (twin_app.top.rules ++ help_rule ∷ [])

twin_rules_plain : Each (IsPlainRule twin_rules) twin_rules
unfolding twin_app
twin_rules_plain = ((refl, inl (record { action = refl; range = refl })), ((refl, inl (record { action = refl; range = refl })), ((refl, inr refl), tt)))

twin_plain : (s : Shape) → s.rules ≡ twin_rules → IsPlainShape s
unfolding twin_app
twin_plain s is = record {
  rules = subst (λ (c : List Rule). Each (IsPlainRule c) c) (sym is) twin_rules_plain;
  no_positional = λ i. subst (λ (c : List Rule). arg_by_index c i ≡ None) (sym is) refl;
}

-- the side is one, or is none
abbrev IsSided : Result Side WordsFault → Type 0
IsSided r = ((side : Side) × (r ≡ Ok side)) ⊎ (r ≡ Err (BadValue TheSide))

side_in_sided : (text : Text) → IsSided (side_in text)
side_in_sided text = go (bytes_eq text (codes "low")) (bytes_eq text (codes "high"))
  where
    go : (a b : Bool) → IsSided (cond a (Ok Low) (cond b (Ok High) (Err (BadValue TheSide))))
    go true b = inl (Low, refl)
    go false true = inl (High, refl)
    go false false = inr refl

twin_asks : (event : Option ℕ) (side : Result Side WordsFault) → IsUpTo max_number event → IsSided side
    → Runs (to_run (twin_by event side)) ⊎ (to_run (twin_by event side) ≡ Err (BadValue TheSide))
twin_asks event side e (inl is) = inl (record { command = Twin e.number is.0; is = rw (e.is, is.1) refl })
twin_asks event side e (inr is) = inr (rw (e.is, is) refl)

twin_taken : (s : Shape) → s.name ≡ codes "twin" → s.rules ≡ twin_rules → s.subcommand_negates_reqs ≡ false → Asks s
unfolding twin_app
twin_taken s name is negates named words answers not_help e =
    let rows = rows_after s.rules [] words in
    let p = level_parts s [] words false [] e in
    let sound = level_sound s [] words false [] (twin_plain s is) p in
    let given : Each (λ a. (a.required && not (is_given a.id rows)) ≡ false) twin_rules =
    subst (λ (c : List Rule). Each (λ a. (a.required && not (is_given a.id rows)) ≡ false) c) is (level_given s [] words [] negates p) in
    let event = number_there s.rules rows (codes "event") _ max_number (ap (λ (c : List Rule). Rattle.clap.specs.Walk.arg_by_id c (codes "event")) is) refl sound (row_given (codes "event") rows given.0) in
    let side = text_there s.rules rows (codes "side") sound (row_given (codes "side") rows given.1.0) in
    let sided : IsSided (side_at (codes "side") rows) = rw side.is (side_in_sided side.text) in
    record {
      answer = inl (rw name (twin_asks (number_at (codes "event") rows) (side_at (codes "side") rows) event sided));
      numbers = (
        (λ is_age. absurd (age_is_not_twin (sym is_age ∙ name))),
        (λ is_twin. rw event.is refl),
      );
    }

plain_taken : (s : Shape) (command : Command) → ((rows : List Row) → request_named (Some (s.name, rows)) ≡ Ok (ToRun command))
    → bytes_eq s.name (codes "age") ≡ false → bytes_eq s.name (codes "twin") ≡ false → Asks s
plain_taken s command is not_age not_twin named words answers not_help e = record {
  answer = inl (inl (record { command = command; is = is (rows_after s.rules [] words) }));
  numbers = (
    (λ is_age. absurd (differ s.name (codes "age") not_age is_age)),
    (λ is_twin. absurd (differ s.name (codes "twin") not_twin is_twin)),
  );
}

service_taken : (s : Shape) → is_service s.name ≡ true → ((rows : List Row) → request_named (Some (s.name, rows)) ≡ to_serve (service_of s.name rows))
    → bytes_eq s.name (codes "age") ≡ false → bytes_eq s.name (codes "twin") ≡ false → Asks s
service_taken s service is not_age not_twin named words answers not_help e = record {
  answer = inr (record { is_service = service; name = s.name; rows = rows_after s.rules [] words; is = is (rows_after s.rules [] words) });
  numbers = (
    (λ is_age. absurd (differ s.name (codes "age") not_age is_age)),
    (λ is_twin. absurd (differ s.name (codes "twin") not_twin is_twin)),
  );
}

help_taken : (s : Shape) → s.name ≡ codes "help" → s.aliases ≡ [] → Asks s
help_taken s name aliases named words answers not_help e =
    let same : (bytes_eq (codes "help") named || false) ≡ true = rw (name, aliases) at answers in
    go (bytes_eq (codes "help") named) refl same
  where
    go : (b : Bool) → bytes_eq (codes "help") named ≡ b → (b || false) ≡ true → IsJudged (Some (s.name, rows_after s.rules [] words))
    go true t e =
        let help : codes "help" ≡ named = (bytes_eq-Decides (codes "help") named).0 t in
        let bad : true ≡ false = rw (← help) at not_help in
        cc
    go false t e = cc

all_taken : Each Asks (built ttd_app).subs
unfolding ttd_app
all_taken = (
  age_taken _ refl refl refl,
  (
    plain_taken _ Fuse (λ rows. refl) refl refl,
    (
      plain_taken _ Check (λ rows. refl) refl refl,
      (
        plain_taken _ RunScript (λ rows. refl) refl refl,
        (
          plain_taken _ Trace (λ rows. refl) refl refl,
          (
            twin_taken _ refl refl refl,
            (
              plain_taken _ Picture (λ rows. refl) refl refl,
              (
                plain_taken _ Live (λ rows. refl) refl refl,
                (
                  plain_taken _ Judge (λ rows. refl) refl refl,
                  (
                    service_taken _ refl (λ rows. refl) refl refl,
                    (
                      service_taken _ refl (λ rows. refl) refl refl,
                      (
                        service_taken _ refl (λ rows. refl) refl refl,
                        (service_taken _ refl (λ rows. refl) refl refl, (service_taken _ refl (λ rows. refl) refl refl, (service_taken _ refl (λ rows. refl) refl refl, (help_taken _ refl refl, tt)))),
                      ),
                    ),
                  ),
                ),
              ),
            ),
          ),
        ),
      ),
    ),
  ),
)

-- words at which clap finds nothing wrong ask for a command, or name a side that is none, or are for a service
pub taken_judged : (words : List Text) → faults_of words ≡ [] → IsJudged (named_by words)
unfolding ttd_app faults_of named_by
taken_judged words e =
    let named = words_named (built ttd_app) words refl refl e in
    let found = find_has Asks (λ s. answers_to named.named (label_of s)) (built ttd_app).subs named.shape all_taken named.is_there in
    subst IsJudged (sym named.rows) (found.0 named.named named.words found.1 named.not_help named.passes)
