-- What words ask of a service is never refused for want of memory.
use Rattle.std.proofs.Common.{◌≡◌, ◌||◌, ◌&&◌, ◌*◌, ℕ, Bool, cond, true, false, List, [], ◌∷◌, length, Option, Some, None, Result, Ok, Err, codes, nat_eq, nat_le}
use Rattle.std.specs.Prelude.{ok_or, is_some, nat_lt}
use Rattle.std.specs.declared.net.socket_addr.SocketAddr.{SocketAddr}
use Rattle.std.specs.Str.{bytes_eq}
use Rattle.clap.specs.Walk.{Row, Text, all_of, first_of}
use Rattle.std.specs.Net.Socket.{socket_port}
use Rattle.tt_span.specs.Drift.{max_drift}
use Rattle.tt_span.specs.Sources.{max_sources}
use Rattle.tt_span.specs.Time.{max_time}
use Rattle.tt_poll.specs.Message.{max_source}
use Rattle.tt_daemon.specs.Config.{default_drift}
use Rattle.tt_settings.specs.Duration.{duration_of}
use Rattle.tt_master.specs.declared.acts.Act.{Act}
use Rattle.tt_script.specs.Acts.{act_in}
use Rattle.tt_settings.specs.Address.{port_of}
use Rattle.tt_settings.specs.Socket.{address_of, is_loopback}
use Rattle.tt_keys.specs.Line.{is_name}
use Rattle.tt_settings.specs.Form.{log_format_of}
use Rattle.tt_settings.specs.Numeral.{number_of as amount_of}
use Rattle.ttd_words.specs.CommandLine.{max_columns, max_faulty, max_id, max_tai_offset, min_columns}
use Rattle.ttd_words.specs.Fault.{◌>>=◌, id_of}
use Rattle.ttd_words.specs.Reading.{AtPath, refuse_if, act_of, age_at, drift_at, duration_at, duration_if, faulty_at, faulty_of, has_twice, flag_at, key_at, key_of_both, no_ntp_option, no_ntp_options, no_stated_option, no_real_option, real_of, device_of, clock_of, tai_offset_of, ntp_of, number_if, number_or, offset_if, fixed_if, http_if, servers_fit, servers_in, stated_of, time_by, time_of, acts_at, acts_in, ask_of, has_byte, id_at, id_if, key_of, listen_at, listen_if, log_at, master_of, name_at, name_if, number_at, number_to, offset_by, place_at, place_by, place_in, read_of, serve_of, service_of, text_at, time_behind, top_of, columns_if, up_to}
use Rattle.ttd_words.specs.declared.faults.Given.{Given}
use Rattle.ttd_words.specs.declared.faults.Given.TheVariants as given
use Rattle.ttd_words.specs.declared.faults.TimeOption.{TimeOption}
use Rattle.ttd_words.specs.declared.faults.TimeOption.TheVariants as option
use Rattle.ttd_words.specs.declared.faults.WordsFault.{WordsFault}
use Rattle.ttd_words.specs.declared.faults.WordsFault.TheVariants.{BadWords, BadValue, Memory}

-- the result is no refusal for want of memory
abbrev pub IsFair : {A : Type 0} → Result A WordsFault → Type 0
IsFair (Ok a) = Unit {0}
IsFair (Err fault) = fault ≡ Memory → ⊥

-- two fair steps are one
then_fair : {A B : Type 0} (r : Result A WordsFault) (f : A → Result B WordsFault) → IsFair r → ((a : A) → IsFair (f a)) → IsFair (r >>= f)
then_fair (Ok a) f first next = next a
then_fair (Err fault) f first next = first

some_fair : {A : Type 0} (o : Option A) (fault : WordsFault) → (fault ≡ Memory → ⊥) → IsFair (ok_or o fault)
some_fair (Some a) fault other = tt
some_fair None fault other = other

bad_words : BadWords ≡ Memory → ⊥
bad_words e = cc

up_to_fair : (most : ℕ) (o : Option ℕ) → IsFair (up_to most o)
up_to_fair most None = bad_words
up_to_fair most (Some n) = go (nat_le n most)
  where
    go : (b : Bool) → IsFair (cond b (Ok n) (Err BadWords))
    go true = tt
    go false = bad_words

text_fair : (id : Text) (rows : List Row) → IsFair (text_at id rows)
text_fair id rows = some_fair (first_of id rows) BadWords bad_words

listen_fair : (sealed : Bool) (o : Option SocketAddr) → IsFair (listen_if sealed o)
listen_fair sealed None = λ e. cc
listen_fair sealed (Some address) = go (sealed || is_loopback address)
  where
    go : (b : Bool) → IsFair (cond b (Ok address) (Err (BadValue given.NotLocal)))
    go true = tt
    go false = λ e. cc

id_fair : (o : Option ℕ) → IsFair (id_if o)
id_fair None = tt
id_fair (Some n) = go (nat_le n max_id)
  where
    go : (b : Bool) → IsFair (cond b (Ok (Some n)) (Err BadWords))
    go true = tt
    go false = bad_words

name_fair : (o : Option Text) → IsFair (name_if o)
name_fair None = tt
name_fair (Some text) = go (is_name text)
  where
    go : (b : Bool) → IsFair (cond b (Ok (Some text)) (Err (BadValue given.Name)))
    go true = tt
    go false = λ e. cc

place_by_fair : (text : Text) (o : Option ℕ) → IsFair (place_by text o)
place_by_fair text (Some port) = tt
place_by_fair text None = go (nat_eq (length text) 0 || has_byte 58 text)
  where
    go : (b : Bool) → IsFair (cond b (Err (BadValue given.Address)) (Ok (AtPath text)))
    go true = λ e. cc
    go false = tt

place_in_fair : (text : Text) → IsFair (place_in text)
place_in_fair text = go (has_byte 47 text)
  where
    go : (b : Bool) → IsFair (cond b (Ok (AtPath text)) (place_by text (port_of text)))
    go true = tt
    go false = place_by_fair text (port_of text)

offset_fair : (a b c : Option ℕ) → IsFair (offset_by a b c)
offset_fair (Some earlier) b c = tt
offset_fair None (Some later) c = tt
offset_fair None None (Some later) = tt
offset_fair None None None = λ e. cc

act_fair : (found : Option Act) → IsFair (act_of found)
act_fair (Some act) = tt
act_fair None = λ e. cc

acts_in_fair : (texts : List Text) → IsFair (acts_in texts)
acts_in_fair [] = tt
acts_in_fair (text ∷ rest) =
    then_fair (act_of (act_in text)) _ (act_fair (act_in text)) (λ act. then_fair (acts_in rest) _ (acts_in_fair rest) (λ acts. tt))

acts_fair : (all : Option (List Text)) → IsFair (acts_at all)
acts_fair None = tt
acts_fair (Some texts) = acts_in_fair texts

offset_if_fair : (o : Option Text) → IsFair (offset_if o)
offset_if_fair None = tt
offset_if_fair (Some text) = offset_fair (time_behind (codes "-") text) (time_behind (codes "+") text) (amount_of max_time text)

number_if_fair : (most : ℕ) (o : Option ℕ) → IsFair (number_if most o)
number_if_fair most None = tt
number_if_fair most (Some n) = go (nat_le n most)
  where
    go : (b : Bool) → IsFair (cond b (Ok (Some n)) (Err BadWords))
    go true = tt
    go false = bad_words

number_or_fair : (most default : ℕ) (o : Option ℕ) → IsFair (number_or most default o)
number_or_fair most default None = tt
number_or_fair most default (Some n) = go (nat_le n most)
  where
    go : (b : Bool) → IsFair (cond b (Ok n) (Err BadWords))
    go true = tt
    go false = bad_words

refuse_if_fair : (b : Bool) (g : Given) → IsFair (refuse_if b g)
refuse_if_fair true g = λ e. cc
refuse_if_fair false g = tt

no_ntp_fair : (option : TimeOption) (rows : List Row) → IsFair (no_ntp_option option rows)
no_ntp_fair option rows = refuse_if_fair (is_some (first_of (id_of option) rows)) (given.WithoutNtp option)

no_stated_fair : (option : TimeOption) (rows : List Row) → IsFair (no_stated_option option rows)
no_stated_fair option rows = refuse_if_fair (is_some (first_of (id_of option) rows)) (given.WithNtp option)

no_ntp_options_fair : (rows : List Row) → IsFair (no_ntp_options rows)
unfolding no_ntp_options
no_ntp_options_fair rows =
    then_fair (no_ntp_option option.Faulty rows) _ (no_ntp_fair option.Faulty rows) (λ a.
    then_fair (no_ntp_option option.Margin rows) _ (no_ntp_fair option.Margin rows) (λ b.
    then_fair (no_ntp_option option.Every rows) _ (no_ntp_fair option.Every rows) (λ c.
    then_fair (no_ntp_option option.MaxAge rows) _ (no_ntp_fair option.MaxAge rows) (λ e.
    then_fair (no_ntp_option option.NtpKey rows) _ (no_ntp_fair option.NtpKey rows) (λ f.
    then_fair (no_ntp_option option.NtpKeys rows) _ (no_ntp_fair option.NtpKeys rows) (λ g. refuse_if_fair (flag_at (codes "local") rows) (given.WithoutNtp option.Local)))))))

real_fair : (uncertainty drift : ℕ) (rows : List Row) → IsFair (real_of uncertainty drift rows)
unfolding real_of
real_fair uncertainty drift rows =
    then_fair (refuse_if (is_some (first_of (codes "tai-offset") rows)) given.TaiOffsetAlone) _
    (refuse_if_fair (is_some (first_of (codes "tai-offset") rows)) given.TaiOffsetAlone) (λ alone.
    then_fair (offset_if (first_of (codes "offset") rows)) _ (offset_if_fair (first_of (codes "offset") rows)) (λ offset.
    then_fair (acts_at (all_of (codes "act") rows)) _ (acts_fair (all_of (codes "act") rows)) (λ acts. tt)))

no_real_fair : (option : TimeOption) (rows : List Row) → IsFair (no_real_option option rows)
no_real_fair option rows = refuse_if_fair (is_some (first_of (id_of option) rows)) (given.WithPhc option)

tai_offset_fair : (o : Option ℕ) → IsFair (tai_offset_of o)
tai_offset_fair None = λ e. cc
tai_offset_fair (Some n) = go (nat_le n max_tai_offset)
  where
    go : (b : Bool) → IsFair (cond b (Ok n) (Err BadWords))
    go true = tt
    go false = bad_words

device_fair : (path : Text) (uncertainty drift : ℕ) (rows : List Row) → IsFair (device_of path uncertainty drift rows)
unfolding device_of
device_fair path uncertainty drift rows =
    then_fair (no_real_option option.Offset rows) _ (no_real_fair option.Offset rows) (λ no_offset.
    then_fair (no_real_option option.Act rows) _ (no_real_fair option.Act rows) (λ no_act.
    then_fair (tai_offset_of (number_at (codes "tai-offset") rows)) _ (tai_offset_fair (number_at (codes "tai-offset") rows)) (λ tai_offset. tt)))

clock_fair : (uncertainty drift : ℕ) (o : Option Text) (rows : List Row) → IsFair (clock_of uncertainty drift o rows)
clock_fair uncertainty drift None rows = real_fair uncertainty drift rows
clock_fair uncertainty drift (Some path) rows = device_fair path uncertainty drift rows

stated_fair : (rows : List Row) → IsFair (stated_of rows)
unfolding stated_of
stated_fair rows =
    then_fair (no_ntp_options rows) _ (no_ntp_options_fair rows) (λ alone.
    then_fair (number_to (codes "uncertainty") max_time rows) _ (up_to_fair max_time (number_at (codes "uncertainty") rows)) (λ uncertainty.
    then_fair (drift_at rows) _ (number_or_fair max_drift default_drift (number_at (codes "drift") rows)) (λ drift.
    clock_fair uncertainty drift (first_of (codes "phc") rows) rows)))

-- a refusal that names a value is no want of memory
value_other : (g : Given) → BadValue g ≡ Memory → ⊥
value_other g e = cc

fixed_fair : (g : Given) (o : Option SocketAddr) → IsFair (fixed_if g o)
fixed_fair g None = value_other g
fixed_fair g (Some address) = go (nat_lt 0 (socket_port address))
  where
    go : (b : Bool) → IsFair (cond b (Ok address) (Err (BadValue g)))
    go true = tt
    go false = value_other g

http_fair : (o : Option Text) → IsFair (http_if o)
http_fair None = tt
http_fair (Some text) = then_fair (fixed_if given.Http (address_of text)) _ (fixed_fair given.Http (address_of text)) (λ address. tt)

servers_in_fair : (texts : List Text) → IsFair (servers_in texts)
servers_in_fair [] = tt
servers_in_fair (text ∷ rest) =
    then_fair (fixed_if given.Ntp (address_of text)) _ (fixed_fair given.Ntp (address_of text)) (λ server. then_fair (servers_in rest) _ (servers_in_fair rest) (λ servers. tt))

servers_fit_fair : (texts : List Text) → IsFair (servers_fit texts)
servers_fit_fair texts =
    then_fair (refuse_if (nat_lt max_sources (length texts)) given.ManyServers) _ (refuse_if_fair (nat_lt max_sources (length texts)) given.ManyServers)
    (λ few. refuse_if_fair (has_twice texts) given.ServerTwice)

faulty_of_fair : (servers faulty : ℕ) → IsFair (faulty_of servers faulty)
faulty_of_fair servers faulty = go (nat_lt (2 * faulty) servers)
  where
    go : (b : Bool) → IsFair (cond b (Ok faulty) (Err (BadValue given.Faulty)))
    go true = tt
    go false = λ e. cc

faulty_fair : (servers : ℕ) (rows : List Row) → IsFair (faulty_at servers rows)
faulty_fair servers rows =
    then_fair (number_or max_faulty 0 (number_at (codes "faulty") rows)) _ (number_or_fair max_faulty 0 (number_at (codes "faulty") rows)) (faulty_of_fair servers)

duration_if_fair : (g : Given) (o : Option ℕ) → IsFair (duration_if g o)
duration_if_fair g None = value_other g
duration_if_fair g (Some time) = go (nat_le 1000000 time && nat_le time 86400000000000)
  where
    go : (b : Bool) → IsFair (cond b (Ok time) (Err (BadValue g)))
    go true = tt
    go false = value_other g

duration_fair : (g : Given) (o : Option Text) → IsFair (duration_at g o)
duration_fair g None = tt
duration_fair g (Some text) = then_fair (duration_if g (duration_of text)) _ (duration_if_fair g (duration_of text)) (λ time. tt)

age_fair : (rows : List Row) → IsFair (age_at rows)
age_fair rows = then_fair (duration_at given.MaxAge (first_of (codes "max-age") rows)) _ (duration_fair given.MaxAge (first_of (codes "max-age") rows)) (λ age. tt)

key_of_both_fair : (key : Option ℕ) (keys : Option Text) → IsFair (key_of_both key keys)
key_of_both_fair (Some key) None = value_other given.NtpKeyAlone
key_of_both_fair None (Some keys) = value_other given.NtpKeysAlone
key_of_both_fair (Some key) (Some keys) = tt
key_of_both_fair None None = tt

key_at_fair : (rows : List Row) → IsFair (key_at rows)
key_at_fair rows =
    then_fair (id_at (codes "ntp-key") rows) _ (id_fair (number_at (codes "ntp-key") rows)) (λ key. key_of_both_fair key (first_of (codes "ntp-keys") rows))

ntp_fair : (texts : List Text) (rows : List Row) → IsFair (ntp_of texts rows)
unfolding ntp_of
ntp_fair texts rows =
    then_fair (no_stated_option option.Phc rows) _ (no_stated_fair option.Phc rows) (λ no_phc.
    then_fair (no_stated_option option.TaiOffset rows) _ (no_stated_fair option.TaiOffset rows) (λ no_tai_offset.
    then_fair (no_stated_option option.Offset rows) _ (no_stated_fair option.Offset rows) (λ no_offset.
    then_fair (no_stated_option option.Act rows) _ (no_stated_fair option.Act rows) (λ no_act.
    then_fair (servers_fit texts) _ (servers_fit_fair texts) (λ fit.
    then_fair (faulty_at (length texts) rows) _ (faulty_fair (length texts) rows) (λ faulty.
    then_fair (number_or max_time 0 (number_at (codes "margin") rows)) _ (number_or_fair max_time 0 (number_at (codes "margin") rows)) (λ margin.
    then_fair (duration_at given.Every (first_of (codes "every") rows)) _ (duration_fair given.Every (first_of (codes "every") rows)) (λ every.
    then_fair (drift_at rows) _ (number_or_fair max_drift default_drift (number_at (codes "drift") rows)) (λ drift.
    then_fair (age_at rows) _ (age_fair rows) (λ max_age.
    then_fair (key_at rows) _ (key_at_fair rows) (λ key.
    then_fair (servers_in texts) _ (servers_in_fair texts) (λ servers. tt))))))))))))

time_by_fair : (stated : Bool) (ntp : Option (List Text)) (rows : List Row) → IsFair (time_by stated ntp rows)
time_by_fair true None rows = stated_fair rows
time_by_fair false None rows = value_other given.NoTime
time_by_fair true (Some texts) rows = value_other given.BothTimes
time_by_fair false (Some texts) rows = ntp_fair texts rows

master_fair : (rows : List Row) → IsFair (master_of rows)
unfolding master_of
master_fair rows =
    then_fair (number_to (codes "source") max_source rows) _ (up_to_fair max_source (number_at (codes "source") rows)) (λ source.
    then_fair (listen_at (codes "listen") (is_some (first_of (codes "keys") rows)) rows) _ (then_fair (text_at (codes "listen") rows) _ (text_fair (codes "listen") rows) (λ text. listen_fair (is_some (first_of (codes "keys") rows)) (address_of text))) (λ listen.
    then_fair (number_if max_time (number_at (codes "warn-width") rows)) _ (number_if_fair max_time (number_at (codes "warn-width") rows)) (λ warn_width.
    then_fair (log_at (codes "log") rows) _ (then_fair (text_at (codes "log") rows) _ (text_fair (codes "log") rows) (λ text. some_fair (log_format_of text) (BadValue given.Log) (λ e. cc))) (λ log.
    then_fair (http_if (first_of (codes "http") rows)) _ (http_fair (first_of (codes "http") rows)) (λ http.
    then_fair (time_of rows) _ (time_by_fair (is_some (first_of (codes "uncertainty") rows)) (all_of (codes "ntp") rows) rows) (λ time. tt))))))

ask_fair : (rows : List Row) → IsFair (ask_of rows)
unfolding ask_of
ask_fair rows =
    then_fair (place_at (codes "address") rows) _ (then_fair (text_at (codes "address") rows) _ (text_fair (codes "address") rows) place_in_fair) (λ place.
    then_fair (number_to (codes "retry") 9999 rows) _ (up_to_fair 9999 (number_at (codes "retry") rows)) (λ retry. tt))

serve_fair : (rows : List Row) → IsFair (serve_of rows)
serve_fair rows = then_fair (text_at (codes "file") rows) _ (text_fair (codes "file") rows) (λ file. tt)

read_fair : (rows : List Row) → IsFair (read_of rows)
read_fair rows = then_fair (text_at (codes "file") rows) _ (text_fair (codes "file") rows) (λ file. tt)

columns_fair : (o : Option ℕ) → IsFair (columns_if o)
columns_fair None = tt
columns_fair (Some n) = go (nat_le min_columns n && nat_le n max_columns)
  where
    go : (b : Bool) → IsFair (cond b (Ok (Some n)) (Err BadWords))
    go true = tt
    go false = bad_words

top_fair : (rows : List Row) → IsFair (top_of rows)
unfolding top_of
top_fair rows =
    then_fair (place_at (codes "place") rows) _ (then_fair (text_at (codes "place") rows) _ (text_fair (codes "place") rows) place_in_fair) (λ place.
    then_fair (columns_if (number_at (codes "columns") rows)) _ (columns_fair (number_at (codes "columns") rows)) (λ columns. tt))

key_fair : (rows : List Row) → IsFair (key_of rows)
key_fair rows =
    then_fair (id_at (codes "id") rows) _ (id_fair (number_at (codes "id") rows)) (λ id.
    then_fair (name_at (codes "name") rows) _ (name_fair (first_of (codes "name") rows)) (λ name. tt))

-- what is asked of a service is never refused for want of memory
pub service_fair : (name : Text) (rows : List Row) → IsFair (service_of name rows)
service_fair name rows = go (bytes_eq name (codes "master")) (bytes_eq name (codes "serve")) (bytes_eq name (codes "ask")) (bytes_eq name (codes "read")) (bytes_eq name (codes "top")) (bytes_eq name (codes "key"))
  where
    go : (a b c d e f : Bool) → IsFair (cond a (master_of rows) (cond b (serve_of rows) (cond c (ask_of rows) (cond d (read_of rows) (cond e (top_of rows) (cond f (key_of rows) (Err BadWords)))))))
    go true b c d e f = master_fair rows
    go false true c d e f = serve_fair rows
    go false false true d e f = ask_fair rows
    go false false false true e f = read_fair rows
    go false false false false true f = top_fair rows
    go false false false false false true = key_fair rows
    go false false false false false false = bad_words
