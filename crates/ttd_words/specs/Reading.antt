-- What words ask for.
use Rattle.std.specs.Prelude.{◌≡◌, ◌⊎◌, ◌||◌, ◌≤◌, ℕ, Bool, true, false, List, [], ◌∷◌, ◌++◌, ◌*◌, ◌&&◌, length, drop, Option, Some, None, ok_or, is_some, Result, Ok, Err, IsOk, IsSome, IfSome, MatchResult, if◌then◌else◌, nat_eq, nat_le, nat_lt, codes, string_bytes, option_and_then, option_map, not}
use Rattle.std.specs.Cmp.Lexicographic.{pointwise}
use Rattle.std.specs.List.{join_by, list_all, list_any}
use Rattle.std.specs.Option.{option_map_or, unwrap_or}
use Rattle.std.specs.Net.Socket.{socket_port}
use Rattle.std.specs.Str.{bytes_eq}
use Rattle.std.specs.Str.Parse.{digits_value, without_leading_plus}
use Rattle.std.specs.declared.net.socket_addr.SocketAddr.{SocketAddr}
use Rattle.clap.specs.Walk.{Row, Text, all_of, first_of, one_of}
use Rattle.clap.specs.ValueTests.{is_unsigned_in}
use Rattle.clap.specs.Kinds.{Kinds}
use Rattle.clap.specs.declared.error.kind.ErrorKind.{ErrorKind}
use Rattle.clap.specs.declared.error.kind.ErrorKind.TheVariants.{DisplayHelp, DisplayVersion}
use Rattle.tt_span.specs.Drift.{max_drift}
use Rattle.tt_span.specs.Sources.{max_sources}
use Rattle.tt_span.specs.Time.{max_time}
use Rattle.tt_poll.specs.Message.{max_source}
use Rattle.tt_daemon.specs.Config.{default_drift}
use Rattle.tt_master.specs.declared.acts.Act.{Act}
use Rattle.tt_master.specs.declared.acts.Act.TheVariants.{Honest}
use Rattle.tt_script.specs.Acts.{act_in}
use Rattle.tt_status.specs.declared.lines.LogFormat.{LogFormat}
use Rattle.tt_settings.specs.Address.{port_of}
use Rattle.tt_settings.specs.Duration.{duration_of}
use Rattle.tt_settings.specs.Form.{log_format_of}
use Rattle.tt_settings.specs.Numeral.{number_of as amount_of}
use Rattle.tt_settings.specs.Socket.{address_of, is_loopback}
use Rattle.tt_keys.specs.Line.{is_name}
use Rattle.ttd_words.specs.CommandLine.{faults_of, max_columns, max_faulty, max_tai_offset, max_id, max_number, min_columns, named_by, names_service}
use Rattle.ttd_words.specs.Fault.{◌>>=◌, id_of}
use Rattle.ttd_words.specs.declared.requests.Asked.{Asked}
use Rattle.ttd_words.specs.declared.requests.Asked.TheVariants as asks
use Rattle.ttd_words.specs.declared.requests.Command.{Command}
use Rattle.ttd_words.specs.declared.requests.Command.TheVariants.{Age, Fuse, Check, Run as RunScript, Trace, Twin, Picture, Live, Judge}
use Rattle.ttd_words.specs.declared.requests.MasterTime.{MasterTime}
use Rattle.ttd_words.specs.declared.requests.MasterTime.TheVariants as time
use Rattle.ttd_words.specs.declared.requests.Offset.{Offset}
use Rattle.ttd_words.specs.declared.requests.Offset.TheVariants.{Later, Earlier}
use Rattle.ttd_words.specs.declared.requests.Peer.{Peer}
use Rattle.ttd_words.specs.declared.requests.Peer.TheVariants as peer
use Rattle.ttd_words.specs.declared.requests.Service.{Service}
use Rattle.ttd_words.specs.declared.requests.Service.TheVariants as service
use Rattle.ttd_words.specs.declared.requests.Side.{Side}
use Rattle.ttd_words.specs.declared.requests.Side.TheVariants.{Low, High}
use Rattle.ttd_words.specs.declared.requests.TopPlace.{TopPlace}
use Rattle.ttd_words.specs.declared.requests.TopPlace.TheVariants as shown
use Rattle.ttd_words.specs.declared.faults.Given.{Given}
use Rattle.ttd_words.specs.declared.faults.Given.TheVariants as given
use Rattle.ttd_words.specs.declared.faults.TimeOption.{TimeOption}
use Rattle.ttd_words.specs.declared.faults.TimeOption.TheVariants as option
use Rattle.ttd_words.specs.declared.faults.WordsFault.{WordsFault}
use Rattle.ttd_words.specs.declared.faults.WordsFault.TheVariants.{BadWords, BadValue, Memory}

-- The number that a text writes in decimal digits, after one plus or none, where it is a number of 64 bits.
abbrev pub number_in : Text → Option ℕ
number_in text = if is_unsigned_in 0 max_number text then Some (digits_value 10 (without_leading_plus text)) else None

-- The number that was given for an option, or else its default.
abbrev pub number_at : Text → List Row → Option ℕ
number_at id rows = option_and_then number_in (one_of id rows)

-- The command `age` by its drift and the three clock readings.
abbrev pub age_by : Option ℕ → Option ℕ → Option ℕ → Option ℕ → Result Command WordsFault
age_by (Some drift) (Some sent) (Some got) (Some clock) = Ok (Age drift sent got clock)
age_by _ _ _ _ = Err BadWords

-- The command `age` by what was found for its options.
abbrev pub age_of : List Row → Result Command WordsFault
age_of rows = age_by (number_at (codes "drift") rows) (number_at (codes "sent") rows)
    (number_at (codes "got") rows) (number_at (codes "clock") rows)

-- Where a machine is asked, by its text.
pub data Place : Type 0 where
  AtPort : ℕ → Place
  AtPath : Text → Place

-- Where a machine is asked.
abbrev pub place_of : Peer → Place
place_of (peer.Port port) = AtPort port
place_of (peer.Path path) = AtPath path.now

-- Where the status that is shown comes from: a machine that is asked for it, or a file.
abbrev pub top_place_of : TopPlace → Place
top_place_of (shown.Port port) = AtPort port
top_place_of (shown.File path) = AtPath path.now

-- How a master stands on NTP servers, without its memory.
pub record NtpPlan : Type 0 where
  pub servers : List SocketAddr
  pub faulty : ℕ
  pub margin : ℕ
  pub every : Option ℕ
  pub drift : ℕ
  pub max_age : ℕ
  pub key : Option ℕ
  pub keys : Option Text
  pub local : Bool

-- What the time of a master stands on, without its memory.
pub data Time : Type 0 where
  Stated : ℕ → ℕ → Offset → List Act → Time
  ByDevice : Text → ℕ → ℕ → ℕ → Time
  ByServers : NtpPlan → Time

-- What the time of a master stands on.
abbrev pub time_meant : MasterTime → Time
time_meant (time.Stated uncertainty drift offset acts) = Stated uncertainty drift offset acts.items
time_meant (time.Device path tai_offset uncertainty drift) = ByDevice path.now tai_offset uncertainty drift
time_meant (time.Ntp ntp) = ByServers (record {
  servers = ntp.servers.items;
  faulty = ntp.faulty;
  margin = ntp.margin;
  every = ntp.every;
  drift = ntp.drift;
  max_age = ntp.max_age;
  key = ntp.key;
  keys = option_map (λ path. path.now) ntp.keys;
  local = ntp.local;
})

-- What a service is to do, without its memory.
pub data Meaning : Type 0 where
  Master : ℕ → SocketAddr → Time → Option ℕ → LogFormat → Option Text → Option Text → Option SocketAddr → Meaning
  Serve : Text → Bool → Bool → Meaning
  Ask : Place → Option Text → ℕ → Meaning
  Read : Text → Meaning
  Top : Place → Bool → Option ℕ → Bool → Meaning
  Key : Option ℕ → Option Text → Meaning

-- What a service is to do.
abbrev pub meaning_of : Service → Meaning
meaning_of (service.Master source listen time warn_width log keys status http) =
    Master source listen (time_meant time) warn_width log (option_map (λ path. path.now) keys) (option_map (λ path. path.now) status) http
meaning_of (service.Serve file check until_eof) = Serve file.now check until_eof
meaning_of (service.Ask peer line retry) = Ask (place_of peer) (option_map string_bytes line) retry
meaning_of (service.Read file) = Read file.now
meaning_of (service.Top place once columns svg) = Top (top_place_of place) once columns svg
meaning_of (service.Key id name) = Key id (option_map (λ text. text.now) name)

-- A number of at most `most`, where there is one.
abbrev pub up_to : ℕ → Option ℕ → Result ℕ WordsFault
up_to most (Some n) = if nat_le n most then Ok n else Err BadWords
up_to most None = Err BadWords

-- The number of at most `most` that was given for an option, or else its default.
abbrev pub number_to : Text → ℕ → List Row → Result ℕ WordsFault
number_to id most rows = up_to most (number_at id rows)

-- A number of at most `most`, where one was given.
abbrev pub number_if : ℕ → Option ℕ → Result (Option ℕ) WordsFault
number_if most None = Ok None
number_if most (Some n) = if nat_le n most then Ok (Some n) else Err BadWords

-- A number of at most `most`, and the default where none was given.
abbrev pub number_or : ℕ → ℕ → Option ℕ → Result ℕ WordsFault
number_or most default None = Ok default
number_or most default (Some n) = if nat_le n most then Ok n else Err BadWords

-- The text that was given for an option or a place, or else its default.
abbrev pub text_at : Text → List Row → Result Text WordsFault
text_at id rows = ok_or (first_of id rows) BadWords

-- An address that may be listened at: that of any host where there are keys, and else one of this host.
abbrev pub listen_if : Bool → Option SocketAddr → Result SocketAddr WordsFault
listen_if sealed (Some address) = if sealed || is_loopback address then Ok address else Err (BadValue given.NotLocal)
listen_if sealed None = Err (BadValue given.Listen)

-- The address that was given to listen at.
abbrev pub listen_at : Text → Bool → List Row → Result SocketAddr WordsFault
listen_at id sealed rows = do
  text ← text_at id rows
  listen_if sealed (address_of text)

-- The number of a key, where there is one.
abbrev pub id_if : Option ℕ → Result (Option ℕ) WordsFault
id_if None = Ok None
id_if (Some n) = if nat_le n max_id then Ok (Some n) else Err BadWords

-- The number of a key that was given, where one was.
abbrev pub id_at : Text → List Row → Result (Option ℕ) WordsFault
id_at id rows = id_if (number_at id rows)

-- The name of a key, where there is one.
abbrev pub name_if : Option Text → Result (Option Text) WordsFault
name_if None = Ok None
name_if (Some text) = if is_name text then Ok (Some text) else Err (BadValue given.Name)

-- The name of a key that was given, where one was.
abbrev pub name_at : Text → List Row → Result (Option Text) WordsFault
name_at id rows = name_if (first_of id rows)

-- A byte is in a text.
abbrev pub has_byte : ℕ → Text → Bool
has_byte byte text = list_any (λ other. nat_eq other byte) text

-- Where a text without a slash says that a machine is asked: at its port, where it is an address of this host.
abbrev pub place_by : Text → Option ℕ → Result Place WordsFault
place_by text (Some port) = Ok (AtPort port)
place_by text None = if nat_eq (length text) 0 || has_byte 58 text then Err (BadValue given.Address) else Ok (AtPath text)

-- Where a text says that a machine is asked.
abbrev pub place_in : Text → Result Place WordsFault
place_in text = if has_byte 47 text then Ok (AtPath text) else place_by text (port_of text)

-- Where the machine that was given is asked.
abbrev pub place_at : Text → List Row → Result Place WordsFault
place_at id rows = do
  text ← text_at id rows
  place_in text

-- Whether a flag was given.
abbrev pub flag_at : Text → List Row → Bool
flag_at id rows = option_map_or (λ text. bytes_eq text (codes "true")) (first_of id rows) false

-- The time that the text writes behind a word.
abbrev pub time_behind : Text → Text → Option ℕ
time_behind word text =
    let digits = drop (length word) text in
    if pointwise nat_eq text (word ++ digits) then amount_of max_time digits else None

-- An offset by the time behind a minus, that behind a plus, and that of the whole text.
abbrev pub offset_by : Option ℕ → Option ℕ → Option ℕ → Result Offset WordsFault
offset_by (Some earlier) _ _ = Ok (Earlier earlier)
offset_by None (Some later) _ = Ok (Later later)
offset_by None None (Some later) = Ok (Later later)
offset_by None None None = Err (BadValue given.Offset)

-- The offset that a text writes.
abbrev pub offset_in : Text → Result Offset WordsFault
offset_in text = offset_by (time_behind (codes "-") text) (time_behind (codes "+") text) (amount_of max_time text)

-- The offset that a text writes, and none at all where there is no text.
abbrev pub offset_if : Option Text → Result Offset WordsFault
offset_if None = Ok (Later 0)
offset_if (Some text) = offset_in text

-- The form of the log that was given for an option.
abbrev pub log_at : Text → List Row → Result LogFormat WordsFault
log_at id rows = do
  text ← text_at id rows
  ok_or (log_format_of text) (BadValue given.Log)

-- The act that a script's word is.
abbrev pub act_of : Option Act → Result Act WordsFault
act_of (Some act) = Ok act
act_of None = Err (BadValue given.Act)

-- The acts that texts write, one after the other.
abbrev pub acts_in : List Text → Result (List Act) WordsFault
acts_in [] = Ok []
acts_in (text ∷ rest) = do
  act ← act_of (act_in text)
  acts ← acts_in rest
  Ok (act ∷ acts)

-- The acts that were given, and honesty where there are none.
abbrev pub acts_at : Option (List Text) → Result (List Act) WordsFault
acts_at None = Ok (Honest ∷ [])
acts_at (Some texts) = acts_in texts

-- The words of a line as one text, where there are words.
abbrev pub line_at : Option (List Text) → Option Text
line_at words = option_map (join_by (λ text. text) (codes " ")) words

-- What was given is refused as this.
abbrev pub refuse_if : Bool → Given → Result (Unit {0}) WordsFault
refuse_if true refusal = Err (BadValue refusal)
refuse_if false refusal = Ok tt

-- The refusal of an option of NTP servers, where it was given.
abbrev pub no_ntp_option : TimeOption → List Row → Result (Unit {0}) WordsFault
no_ntp_option option rows = refuse_if (is_some (first_of (id_of option) rows)) (given.WithoutNtp option)

-- The refusal of an option of a stated uncertainty, where it was given.
abbrev pub no_stated_option : TimeOption → List Row → Result (Unit {0}) WordsFault
no_stated_option option rows = refuse_if (is_some (first_of (id_of option) rows)) (given.WithNtp option)

-- The first refusal of an option of NTP servers that was given.
unfoldable pub no_ntp_options : List Row → Result (Unit {0}) WordsFault
no_ntp_options rows = do
  faulty ← no_ntp_option option.Faulty rows
  margin ← no_ntp_option option.Margin rows
  every ← no_ntp_option option.Every rows
  age ← no_ntp_option option.MaxAge rows
  key ← no_ntp_option option.NtpKey rows
  keys ← no_ntp_option option.NtpKeys rows
  refuse_if (flag_at (codes "local") rows) (given.WithoutNtp option.Local)

-- The drift that was given, and that of a machine where none was given.
abbrev pub drift_at : List Row → Result ℕ WordsFault
drift_at rows = number_or max_drift default_drift (number_at (codes "drift") rows)

-- This computer's real-time clock with this uncertainty and drift by what was found.
unfoldable pub real_of : ℕ → ℕ → List Row → Result Time WordsFault
real_of uncertainty drift rows = do
  alone ← refuse_if (is_some (first_of (codes "tai-offset") rows)) given.TaiOffsetAlone
  offset ← offset_if (first_of (codes "offset") rows)
  acts ← acts_at (all_of (codes "act") rows)
  Ok (Stated uncertainty drift offset acts)

-- The refusal of an option of the real-time clock, where it was given.
abbrev pub no_real_option : TimeOption → List Row → Result (Unit {0}) WordsFault
no_real_option option rows = refuse_if (is_some (first_of (id_of option) rows)) (given.WithPhc option)

-- How far TAI is ahead of UTC, where it was given.
abbrev pub tai_offset_of : Option ℕ → Result ℕ WordsFault
tai_offset_of None = Err (BadValue given.PhcAlone)
tai_offset_of (Some n) = if nat_le n max_tai_offset then Ok n else Err BadWords

-- The hardware clock at this path with this uncertainty and drift by what was found.
unfoldable pub device_of : Text → ℕ → ℕ → List Row → Result Time WordsFault
device_of path uncertainty drift rows = do
  no_offset ← no_real_option option.Offset rows
  no_act ← no_real_option option.Act rows
  tai_offset ← tai_offset_of (number_at (codes "tai-offset") rows)
  Ok (ByDevice path tai_offset uncertainty drift)

-- A clock with this uncertainty and drift by what was found: that of the device, where one was given.
abbrev pub clock_of : ℕ → ℕ → Option Text → List Row → Result Time WordsFault
clock_of uncertainty drift None rows = real_of uncertainty drift rows
clock_of uncertainty drift (Some path) rows = device_of path uncertainty drift rows

-- A stated uncertainty by what was found.
unfoldable pub stated_of : List Row → Result Time WordsFault
stated_of rows = do
  alone ← no_ntp_options rows
  uncertainty ← number_to (codes "uncertainty") max_time rows
  drift ← drift_at rows
  clock_of uncertainty drift (first_of (codes "phc") rows) rows

-- An address with a port above 0, of which a wrong one is refused as this.
abbrev pub fixed_if : Given → Option SocketAddr → Result SocketAddr WordsFault
fixed_if refusal (Some address) = if nat_lt 0 (socket_port address) then Ok address else Err (BadValue refusal)
fixed_if refusal None = Err (BadValue refusal)

-- The address of pages that a text writes, where there is a text.
abbrev pub http_if : Option Text → Result (Option SocketAddr) WordsFault
http_if None = Ok None
http_if (Some text) = do
  address ← fixed_if given.Http (address_of text)
  Ok (Some address)

-- The addresses that texts write, one after the other.
abbrev pub servers_in : List Text → Result (List SocketAddr) WordsFault
servers_in [] = Ok []
servers_in (text ∷ rest) = do
  server ← fixed_if given.Ntp (address_of text)
  servers ← servers_in rest
  Ok (server ∷ servers)

-- A text is among these.
abbrev pub is_among : Text → List Text → Bool
is_among text others = list_any (λ other. bytes_eq other text) others

-- A text is there twice.
abbrev pub has_twice : List Text → Bool
has_twice [] = false
has_twice (text ∷ rest) = is_among text rest || has_twice rest

-- The refusal of more servers than a master takes, and of one that is there twice.
abbrev pub servers_fit : List Text → Result (Unit {0}) WordsFault
servers_fit texts = do
  few ← refuse_if (nat_lt max_sources (length texts)) given.ManyServers
  refuse_if (has_twice texts) given.ServerTwice

-- A number of servers that may be wrong, where twice as many are fewer than there are servers.
abbrev pub faulty_of : ℕ → ℕ → Result ℕ WordsFault
faulty_of servers faulty = if nat_lt (2 * faulty) servers then Ok faulty else Err (BadValue given.Faulty)

-- The number of servers that may be wrong, which is 0 where none was given.
abbrev pub faulty_at : ℕ → List Row → Result ℕ WordsFault
faulty_at servers rows = do
  faulty ← number_or max_faulty 0 (number_at (codes "faulty") rows)
  faulty_of servers faulty

-- A time from a millisecond to a day, of which a wrong one is refused as this.
abbrev pub duration_if : Given → Option ℕ → Result ℕ WordsFault
duration_if refusal (Some time) = if nat_le 1000000 time && nat_le time 86400000000000 then Ok time else Err (BadValue refusal)
duration_if refusal None = Err (BadValue refusal)

-- The time that a text writes, where there is a text.
abbrev pub duration_at : Given → Option Text → Result (Option ℕ) WordsFault
duration_at refusal None = Ok None
duration_at refusal (Some text) = do
  time ← duration_if refusal (duration_of text)
  Ok (Some time)

-- The greatest age of a reply that was given, and 1024 seconds where none was given.
abbrev pub age_at : List Row → Result ℕ WordsFault
age_at rows = do
  age ← duration_at given.MaxAge (first_of (codes "max-age") rows)
  Ok (unwrap_or age 1024000000000)

-- The number of a key, where it was given exactly if its file was.
abbrev pub key_of_both : Option ℕ → Option Text → Result (Option ℕ) WordsFault
key_of_both (Some key) None = Err (BadValue given.NtpKeyAlone)
key_of_both None (Some keys) = Err (BadValue given.NtpKeysAlone)
key_of_both (Some key) (Some keys) = Ok (Some key)
key_of_both None None = Ok None

-- The number of the key that signs packets, which is given exactly where its file is.
abbrev pub key_at : List Row → Result (Option ℕ) WordsFault
key_at rows = do
  key ← id_at (codes "ntp-key") rows
  key_of_both key (first_of (codes "ntp-keys") rows)

-- NTP servers by their texts and what was found.
unfoldable pub ntp_of : List Text → List Row → Result Time WordsFault
ntp_of texts rows = do
  no_phc ← no_stated_option option.Phc rows
  no_tai_offset ← no_stated_option option.TaiOffset rows
  no_offset ← no_stated_option option.Offset rows
  no_act ← no_stated_option option.Act rows
  fit ← servers_fit texts
  faulty ← faulty_at (length texts) rows
  margin ← number_or max_time 0 (number_at (codes "margin") rows)
  every ← duration_at given.Every (first_of (codes "every") rows)
  drift ← drift_at rows
  max_age ← age_at rows
  key ← key_at rows
  servers ← servers_in texts
  Ok (ByServers (record {
    servers = servers;
    faulty = faulty;
    margin = margin;
    every = every;
    drift = drift;
    max_age = max_age;
    key = key;
    keys = first_of (codes "ntp-keys") rows;
    local = flag_at (codes "local") rows;
  }))

-- What the time of a master stands on, by whether an uncertainty was given, and by the servers that were: exactly one of both.
abbrev pub time_by : Bool → Option (List Text) → List Row → Result Time WordsFault
time_by true None rows = stated_of rows
time_by false None rows = Err (BadValue given.NoTime)
time_by true (Some texts) rows = Err (BadValue given.BothTimes)
time_by false (Some texts) rows = ntp_of texts rows

-- What the time of a master stands on, by what was found.
abbrev pub time_of : List Row → Result Time WordsFault
time_of rows = time_by (is_some (first_of (codes "uncertainty") rows)) (all_of (codes "ntp") rows) rows

-- The result is the time that is meant, or the refusal, or out of memory.
abbrev pub IsTimeMeant : Result Time WordsFault → Result MasterTime WordsFault → Type 0
IsTimeMeant defined result = MatchResult result (λ found. defined ≡ Ok (time_meant found)) (λ fault. (defined ≡ Err fault) ⊎ (fault ≡ Memory))

-- The command `master` by what was found for its options.
unfoldable pub master_of : List Row → Result Meaning WordsFault
master_of rows = do
  source ← number_to (codes "source") max_source rows
  listen ← listen_at (codes "listen") (is_some (first_of (codes "keys") rows)) rows
  warn_width ← number_if max_time (number_at (codes "warn-width") rows)
  log ← log_at (codes "log") rows
  http ← http_if (first_of (codes "http") rows)
  time ← time_of rows
  Ok (Master source listen time warn_width log (first_of (codes "keys") rows) (first_of (codes "status") rows) http)

-- The command `serve` by what was found.
abbrev pub serve_of : List Row → Result Meaning WordsFault
serve_of rows = do
  file ← text_at (codes "file") rows
  Ok (Serve file (flag_at (codes "check") rows) (flag_at (codes "until-eof") rows))

-- The command `ask` by what was found.
unfoldable pub ask_of : List Row → Result Meaning WordsFault
ask_of rows = do
  place ← place_at (codes "address") rows
  retry ← number_to (codes "retry") 9999 rows
  Ok (Ask place (line_at (all_of (codes "words") rows)) retry)

-- The command `read` by what was found.
abbrev pub read_of : List Row → Result Meaning WordsFault
read_of rows = do
  file ← text_at (codes "file") rows
  Ok (Read file)

-- A number of columns, where one was given.
abbrev pub columns_if : Option ℕ → Result (Option ℕ) WordsFault
columns_if None = Ok None
columns_if (Some n) = if nat_le min_columns n && nat_le n max_columns then Ok (Some n) else Err BadWords

-- The command `top` by what was found: a drawing is one table as well.
unfoldable pub top_of : List Row → Result Meaning WordsFault
top_of rows = do
  place ← place_at (codes "place") rows
  columns ← columns_if (number_at (codes "columns") rows)
  Ok (Top place (flag_at (codes "once") rows || flag_at (codes "svg") rows) columns (flag_at (codes "svg") rows))

-- The command `key` by what was found.
abbrev pub key_of : List Row → Result Meaning WordsFault
key_of rows = do
  id ← id_at (codes "id") rows
  name ← name_at (codes "name") rows
  Ok (Key id name)

-- A service by its name and what was found.
abbrev pub service_of : Text → List Row → Result Meaning WordsFault
service_of name rows = if bytes_eq name (codes "master") then master_of rows
    else (if bytes_eq name (codes "serve") then serve_of rows
    else (if bytes_eq name (codes "ask") then ask_of rows
    else (if bytes_eq name (codes "read") then read_of rows
    else (if bytes_eq name (codes "top") then top_of rows
    else (if bytes_eq name (codes "key") then key_of rows else Err BadWords)))))

-- The side that a text names.
abbrev pub side_in : Text → Result Side WordsFault
side_in text = if bytes_eq text (codes "low") then Ok Low else (if bytes_eq text (codes "high") then Ok High else Err (BadValue given.Side))

-- The side that was given for an option.
abbrev pub side_at : Text → List Row → Result Side WordsFault
side_at id rows = do
  text ← text_at id rows
  side_in text

-- The command `twin` by its event and its side.
abbrev pub twin_by : Option ℕ → Result Side WordsFault → Result Command WordsFault
twin_by (Some event) (Ok side) = Ok (Twin event side)
twin_by (Some event) (Err fault) = Err fault
twin_by None side = Err BadWords

-- The command `twin` by what was found for its options.
abbrev pub twin_of : List Row → Result Command WordsFault
twin_of rows = twin_by (number_at (codes "event") rows) (side_at (codes "side") rows)

-- A command by its name and its options.
abbrev pub command_of : Text → List Row → Result Command WordsFault
command_of name rows = if bytes_eq name (codes "age") then age_of rows
    else (if bytes_eq name (codes "fuse") then Ok Fuse
    else (if bytes_eq name (codes "check") then Ok Check
    else (if bytes_eq name (codes "run") then Ok RunScript
    else (if bytes_eq name (codes "trace") then Ok Trace
    else (if bytes_eq name (codes "twin") then twin_of rows
    else (if bytes_eq name (codes "picture") then Ok Picture
    else (if bytes_eq name (codes "live") then Ok Live
    else (if bytes_eq name (codes "judge") then Ok Judge else Err BadWords))))))))

-- The command that is named, and bad words where none is.
abbrev pub command_named : Option (Text × List Row) → Result Command WordsFault
command_named None = Err BadWords
command_named (Some named) = command_of named.0 named.1

-- The service that is named, and bad words where none is.
abbrev pub service_named : Option (Text × List Row) → Result Meaning WordsFault
service_named None = Err BadWords
service_named (Some named) = service_of named.0 named.1

-- The result is the service that is meant, or the refusal, or out of memory.
abbrev pub IsMeant : Result Meaning WordsFault → Result Service WordsFault → Type 0
IsMeant defined result = MatchResult result (λ found. defined ≡ Ok (meaning_of found)) (λ fault. (defined ≡ Err fault) ⊎ (fault ≡ Memory))

-- What words ask for: to run a command, to run a service, or help.
pub data Request : Type 0 where
  ToRun : Command → Request
  ToServe : Meaning → Request
  ToHelp : Request

-- What is asked for, without its memory.
abbrev pub request_of : Asked → Request
request_of (asks.Run command) = ToRun command
request_of (asks.Serve service) = ToServe (meaning_of service)
request_of asks.Help = ToHelp

-- The same of an answer.
abbrev pub request_in : Result Asked WordsFault → Result Request WordsFault
request_in (Ok asked) = Ok (request_of asked)
request_in (Err fault) = Err fault

-- To run the command, unless there is a fault.
abbrev pub to_run : Result Command WordsFault → Result Request WordsFault
to_run (Ok command) = Ok (ToRun command)
to_run (Err fault) = Err fault

-- To run the service, unless there is a fault.
abbrev pub to_serve : Result Meaning WordsFault → Result Request WordsFault
to_serve (Ok service) = Ok (ToServe service)
to_serve (Err fault) = Err fault

-- What is asked for by the command that is named.
abbrev pub request_named : Option (Text × List Row) → Result Request WordsFault
request_named named = if names_service named then to_serve (service_named named) else to_run (command_named named)

-- An answer of clap that shows the help or the version, and is no mistake in the words.
abbrev pub is_help : ErrorKind → Bool
is_help DisplayHelp = true
is_help DisplayVersion = true
is_help _ = false

-- What words ask for, by what clap finds wrong with them and the command that they name.
abbrev pub asked_by : Kinds → Option (Text × List Row) → Result Request WordsFault
asked_by [] named = request_named named
asked_by (kind ∷ kinds) named = if is_help kind then Ok ToHelp else Err BadWords

-- What the words ask for, or that they are bad.
abbrev pub asked_of : List Text → Result Request WordsFault
asked_of words = asked_by (faults_of words) (named_by words)

-- clap finds nothing wrong with the words, and they name a command with options that it can have.
abbrev pub AreTaken : List Text → Type 0
AreTaken words = (faults_of words ≡ []) × IsOk (request_named (named_by words))

-- Each of some kinds, of which there is one at least, passes the test.
abbrev pub all_and_some : (ErrorKind → Bool) → Kinds → Bool
all_and_some test [] = false
all_and_some test (kind ∷ kinds) = list_all test (kind ∷ kinds)

-- A request is refused.
abbrev pub IsRefused : Result Request WordsFault → Type 0
IsRefused asked = (fault : WordsFault) × (asked ≡ Err fault)

-- The words are a mistake, whichever of its answers clap gives; or it finds nothing wrong, and a value is refused that was given.
abbrev pub AreMistaken : List Text → Type 0
AreMistaken words = (all_and_some (λ kind. not (is_help kind)) (faults_of words) ≡ true)
    ⊎ ((faults_of words ≡ []) × IsRefused (request_named (named_by words)))

-- The words ask for help, whichever of its answers clap gives.
abbrev pub AreForHelp : List Text → Type 0
AreForHelp words = all_and_some is_help (faults_of words) ≡ true

-- The words ask to run a service.
abbrev pub IsForService : Result Request WordsFault → Type 0
IsForService asked = (service : Meaning) × (asked ≡ Ok (ToServe service))

-- The result is this one, or out of memory, which is this fault.
abbrev pub IsUnlessMemory : {T E : Type 0} → E → Result T E → Result T E → Type 0
IsUnlessMemory memory expected result = (result ≡ expected) ⊎ (result ≡ Err memory)

-- The options of `age` were found, with a drift in range.
abbrev pub HasAge : List Row → Type 0
HasAge rows = IsOk (age_of rows) × IfSome (number_at (codes "drift") rows) (λ drift. drift ≤ max_drift)

-- What was found for the options of the command that is named has the numbers that the command needs.
abbrev pub HasNumbers : Option (Text × List Row) → Type 0
HasNumbers None = Unit {0}
HasNumbers (Some named) = (named.0 ≡ codes "age" → HasAge named.1) × (named.0 ≡ codes "twin" → IsSome (number_at (codes "event") named.1))
