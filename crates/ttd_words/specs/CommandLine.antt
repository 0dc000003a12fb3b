-- The command line of `ttd`, as clap is told it.
use Rattle.std.specs.Prelude.{ℕ, Bool, true, false, ◌||◌, List, [], ◌∷◌, Option, Some, None, codes}
use Rattle.std.specs.Str.{bytes_eq}
use Rattle.clap.specs.Walk.{Row, Rule, Text}
use Rattle.clap.specs.Simple.{App, new_app, new_rule, on_top, subcommand_of, with_rule, with_subcommand}
use Rattle.clap.specs.Faults.{fault_of}
use Rattle.clap.specs.Kinds.{Kinds}
use Rattle.clap.specs.Matches.{count_text}
use Rattle.clap.specs.declared.builder.action.ArgAction.TheVariants.{Append, SetTrue}
use Rattle.clap.specs.declared.builder.value_parser.ValueParser.TheVariants as vp
use Rattle.tt_span.specs.Drift.{max_drift}
use Rattle.tt_span.specs.Time.{max_time}
use Rattle.tt_poll.specs.Message.{max_source}
use Rattle.tt_daemon.specs.Config.{default_drift}
use Rattle.ttd_words.specs.declared.options.Row.{Row as Argument}
use Rattle.ttd_words.specs.declared.options.OptionValue.{OptionValue}
use Rattle.ttd_words.specs.declared.options.OptionValue.TheVariants as of
use Rattle.ttd_words.specs.declared.options.Form.{Form}
use Rattle.ttd_words.specs.declared.options.Form.TheVariants as form

-- The greatest number of 64 bits.
abbrev pub max_number : ℕ
max_number = 18446744073709551615

-- An option `--NAME N` with a number of at most `most`.
abbrev pub number_rule : Text → ℕ → Rule
number_rule name most = record (new_rule name) {
  long = Some name;
  value_names = 1;
  parser = Some (vp.Unsigned 0 most);
}

-- Such an option that has to be given, with any number of 64 bits.
abbrev pub given_rule : Text → Rule
given_rule name = record (number_rule name max_number) { required = true }

-- The option `--drift N`, which is that of a machine where it is not given, and at most the greatest drift.
abbrev pub drift_rule : Rule
drift_rule = record (number_rule (codes "drift") max_drift) { defaults = count_text default_drift ∷ [] }

-- The command `age` with its four options.
unfoldable pub age_app : App
age_app = with_rule (with_rule (with_rule (with_rule (new_app (codes "age")) drift_rule)
    (given_rule (codes "sent"))) (given_rule (codes "got"))) (given_rule (codes "clock"))

-- An option `--NAME TEXT` with any text, which has to be given.
abbrev pub text_rule : Text → Rule
text_rule name = record (new_rule name) { long = Some name; value_names = 1; required = true }

-- An option `--NAME TEXT` with any text, which may be left out.
abbrev pub free_rule : Text → Rule
free_rule name = record (new_rule name) { long = Some name; value_names = 1 }

-- The greatest number of a key.
abbrev pub max_id : ℕ
max_id = 4294967295

-- An option `--NAME N` with the number of a key, which may be left out.
abbrev pub id_rule : Text → Rule
id_rule name = number_rule name max_id

-- The command `twin` with its two options.
unfoldable pub twin_app : App
twin_app = with_rule (with_rule (new_app (codes "twin")) (given_rule (codes "event"))) (text_rule (codes "side"))

-- An option `--NAME N` with a number of at most `most`, which has to be given.
abbrev pub needed_rule : Text → ℕ → Rule
needed_rule name most = record (number_rule name most) { required = true }

-- An option `--NAME TEXT`, which may be given often.
abbrev pub many_rule : Text → Rule
many_rule name = record (new_rule name) { long = Some name; value_names = 1; action = Some Append }

-- The most servers of a master that may be wrong.
abbrev pub max_faulty : ℕ
max_faulty = 7

-- The option `--log FORM`, which is `text` where it is not given.
abbrev pub log_rule : Rule
log_rule = record (new_rule (codes "log")) { long = Some (codes "log"); value_names = 1; defaults = codes "text" ∷ [] }

-- The option `--retry N`, which is 50 where it is not given.
abbrev pub retry_rule : Rule
retry_rule = record (number_rule (codes "retry") 9999) { defaults = codes "50" ∷ [] }

-- A flag `--NAME`.
abbrev pub flag_rule : Text → Rule
flag_rule name = record (new_rule name) { long = Some name; action = Some SetTrue }

-- A word by its place, which has to be given.
abbrev pub place_rule : Text → Rule
place_rule name = record (new_rule name) { value_names = 1; required = true }

-- All further words.
abbrev pub words_rule : Text → Rule
words_rule name = record (new_rule name) { value_names = 1; action = Some Append }

-- The most seconds that TAI may be ahead of UTC.
abbrev pub max_tai_offset : ℕ
max_tai_offset = 100

-- The command `master` with its options.
unfoldable pub master_app : App
master_app = with_rule (with_rule (with_rule (with_rule (with_rule (with_rule (with_rule (with_rule (with_rule (with_rule (with_rule (with_rule (with_rule (with_rule (with_rule (with_rule (with_rule (with_rule (with_rule (with_rule (with_rule (new_app (codes "master")) (needed_rule (codes "source") max_source)) (text_rule (codes "listen"))) (number_rule (codes "uncertainty") max_time)) (free_rule (codes "offset"))) (many_rule (codes "act"))) (free_rule (codes "phc"))) (number_rule (codes "tai-offset") max_tai_offset)) (many_rule (codes "ntp"))) (number_rule (codes "faulty") max_faulty)) (number_rule (codes "margin") max_time)) (free_rule (codes "every"))) (number_rule (codes "drift") max_drift)) (free_rule (codes "max-age"))) (id_rule (codes "ntp-key"))) (free_rule (codes "ntp-keys"))) (flag_rule (codes "local"))) (number_rule (codes "warn-width") max_time)) log_rule) (free_rule (codes "keys")))
    (free_rule (codes "status"))) (free_rule (codes "http"))

-- The command `serve` with its file and its flags.
unfoldable pub serve_app : App
serve_app = with_rule (with_rule (with_rule (new_app (codes "serve")) (place_rule (codes "file"))) (flag_rule (codes "check"))) (flag_rule (codes "until-eof"))

-- The command `ask` with its address, the words of a line, and its option.
unfoldable pub ask_app : App
ask_app = with_rule (with_rule (with_rule (new_app (codes "ask")) (place_rule (codes "address"))) (words_rule (codes "words"))) retry_rule

-- The command `read` with its file.
unfoldable pub read_app : App
read_app = with_rule (new_app (codes "read")) (place_rule (codes "file"))

-- The command `key` with its options.
unfoldable pub key_app : App
key_app = with_rule (with_rule (new_app (codes "key")) (id_rule (codes "id"))) (free_rule (codes "name"))

-- The least number of columns of a table.
abbrev pub min_columns : ℕ
min_columns = 40

-- The greatest number of columns of a table.
abbrev pub max_columns : ℕ
max_columns = 300

-- The option `--columns N` with a number of columns, which may be left out.
abbrev pub columns_rule : Rule
columns_rule = record (new_rule (codes "columns")) {
  long = Some (codes "columns");
  value_names = 1;
  parser = Some (vp.Unsigned min_columns max_columns);
}

-- The command `top` with its place and its options.
unfoldable pub top_app : App
top_app = with_rule (with_rule (with_rule (with_rule (new_app (codes "top")) (place_rule (codes "place"))) (flag_rule (codes "once"))) columns_rule) (flag_rule (codes "svg"))

-- An option `--NAME VALUE` with such a value.
abbrev pub option_rule : OptionValue → Text → Rule
option_rule of.Any name = free_rule name
option_rule of.Needed name = text_rule name
option_rule of.Many name = many_rule name
option_rule of.Log name = record (free_rule name) { defaults = codes "text" ∷ [] }
option_rule of.Number name = given_rule name
option_rule of.Drift name = number_rule name max_drift
option_rule of.DefaultDrift name = record (number_rule name max_drift) { defaults = count_text default_drift ∷ [] }
option_rule of.Id name = id_rule name
option_rule of.Source name = needed_rule name max_source
option_rule of.Time name = number_rule name max_time
option_rule of.TaiOffset name = number_rule name max_tai_offset
option_rule of.Faulty name = number_rule name max_faulty
option_rule of.Retry name = record (number_rule name 9999) { defaults = codes "50" ∷ [] }
option_rule of.Columns name = record (free_rule name) { parser = Some (vp.Unsigned min_columns max_columns) }

-- An argument of such a form.
abbrev pub form_rule : Form → Text → Rule
form_rule (form.Option takes) name = option_rule takes name
form_rule form.Flag name = flag_rule name
form_rule form.Place name = place_rule name
form_rule form.Words name = words_rule name

-- What clap goes by of an argument.
abbrev pub row_rule : Argument → Rule
row_rule r = form_rule r.form r.name.now

-- A command with these arguments, in their order.
abbrev pub with_rows : List Argument → App → App
with_rows [] a = a
with_rows (r ∷ rest) a = with_rows rest (with_rule a (row_rule r))

-- The program with no command yet: its words begin with no name of the program, and one command has to be named.
unfoldable pub bare_app : App
bare_app = on_top (λ s. record s { has_version = true; no_binary_name = true; subcommand_required = true }) (new_app (codes "ttd"))

-- The program with the commands that read what sources answered.
unfoldable pub sources_app : App
sources_app = with_subcommand (with_subcommand (with_subcommand bare_app age_app.top) (new_app (codes "fuse")).top) (new_app (codes "check")).top

-- The program with these and the commands that tell of a script's run.
unfoldable pub runs_app : App
runs_app = with_subcommand (with_subcommand (with_subcommand sources_app (new_app (codes "run")).top) (new_app (codes "trace")).top) twin_app.top

-- The program with these and all other commands that read their input and end.
unfoldable pub inputs_app : App
inputs_app = with_subcommand (with_subcommand (with_subcommand runs_app (new_app (codes "picture")).top) (new_app (codes "live")).top) (new_app (codes "judge")).top

-- The program with these and the services that run until they are ended.
unfoldable pub servers_app : App
servers_app = with_subcommand (with_subcommand inputs_app master_app.top) serve_app.top

-- The program with all its commands.
unfoldable pub ttd_app : App
unfolding age_app twin_app master_app serve_app ask_app read_app top_app key_app bare_app sources_app runs_app inputs_app servers_app
ttd_app = with_subcommand (with_subcommand (with_subcommand (with_subcommand servers_app ask_app.top) read_app.top) top_app.top) key_app.top

-- What clap finds wrong with the words: nothing where it takes them, and else the kinds of error that it may answer.
unfoldable pub faults_of : List Text → Kinds
faults_of words = fault_of ttd_app words

-- The command that the words name, and what they give for each of its options.
unfoldable pub named_by : List Text → Option (Text × List Row)
named_by words = subcommand_of ttd_app words

-- A word names a service.
abbrev pub is_service : Text → Bool
is_service word = bytes_eq word (codes "master") || (bytes_eq word (codes "serve")
    || (bytes_eq word (codes "ask") || (bytes_eq word (codes "read") || (bytes_eq word (codes "top") || bytes_eq word (codes "key")))))

-- The command that is named is a service.
abbrev pub names_service : Option (Text × List Row) → Bool
names_service None = false
names_service (Some named) = is_service named.0
