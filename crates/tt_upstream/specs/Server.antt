-- What is known of one NTP server, and what each call makes of it.
use Rattle.std.specs.Prelude.{ℕ, ◌-◌, ◌*◌, ◌&&◌, Bool, true, false, not, nat_le, min, max, if◌then◌else◌, List, Option, Some, None, Result, Ok, Err}
use Rattle.tt_span.specs.Time.{max_time}
use Rattle.tt_ntp.specs.declared.faults.NtpFault.{NtpFault}
use Rattle.tt_ntp.specs.declared.faults.NtpFault.TheVariants.{Origin, PastMax}
use Rattle.tt_ntp.specs.declared.queries.Query.{Query}
use Rattle.tt_ntp.specs.declared.replies.Reply.{Reply}
use Rattle.tt_ntp.specs.Keyed.{PacketKey, keyed_read_of}
use Rattle.tt_ntp.specs.Reading.{read_of}
use Rattle.tt_ntp.specs.Aged.{statement_of}
use Rattle.tt_upstream.specs.Leap.{announced_by, is_put_off}
use Rattle.tt_upstream.specs.Refusal.{meaning_of, no_tally, sum_of, asked_tally, taken_tally, refused_tally}
use Rattle.tt_upstream.specs.declared.leaps.Announced.{Announced}
use Rattle.tt_upstream.specs.declared.news.Asking.{Asking}
use Rattle.tt_upstream.specs.declared.news.Known.{Known}
use Rattle.tt_upstream.specs.declared.news.News.{News}
use Rattle.tt_upstream.specs.declared.plans.Plan.{Plan}
use Rattle.tt_upstream.specs.declared.refusals.Meaning.{Meaning}
use Rattle.tt_upstream.specs.declared.refusals.Meaning.TheVariants.{Stray, TooOften, Stop, NoTime}
use Rattle.tt_upstream.specs.declared.tallies.Tally.{Tally}

-- how one server is asked, the pause between requests, the clock reading from which on the next is due, whether the server told this client to stop, whether its last reply was refused, the request that is awaited, what the last reply that was taken said, the leap second that it announced, and the counts
pub record ServerState : Type 0 where
  pub plan : Plan
  pub pause : ℕ
  pub due : ℕ
  pub stopped : Bool
  pub refused : Bool
  pub waiting : Option Asking
  pub known : Option Known
  pub leap : Option Announced
  pub tally : Tally

-- a server of which nothing is known, due at once
abbrev pub new_server : Plan → ServerState
new_server plan = record { plan = plan; pause = plan.every; due = 0; stopped = false; refused = false; waiting = None; known = None; leap = None; tally = no_tally }

-- whether a request is due
abbrev pub is_due_at : ServerState → ℕ → Bool
is_due_at server now = not server.stopped && nat_le server.due now

-- how long it is until a request is due, unless the server told this client to stop
abbrev pub left_at : ServerState → ℕ → Option ℕ
left_at server now = if server.stopped then None else Some (server.due - now)

-- the server once a request with this nonce was sent: it is the one that is awaited, and the next is due a pause later
abbrev pub asked_at : ServerState → ℕ → ℕ → ServerState
asked_at server nonce now = record server { waiting = Some (record { nonce = nonce; sent = now }); due = sum_of now server.pause; tally = asked_tally server.tally }

-- the server once what was known is dropped: nothing is known or awaited, and a request is due at once
abbrev pub forgotten : ServerState → ServerState
forgotten server = record server { waiting = None; known = None; due = 0 }

-- the query of the request that is awaited
abbrev pub query_of : Plan → Asking → Query
query_of plan asking = record { nonce = asking.nonce; takes_local = plan.takes_local }

-- what bytes say as the reply to a query, under the key if there is one
abbrev pub reading_of : Query → Option PacketKey → List ℕ → Result Reply NtpFault
reading_of query None bytes = read_of query bytes
reading_of query (Some key) bytes = keyed_read_of query key bytes

-- what a reply tells that came at this clock reading: its statement with the margin, its stratum, and its word on leap seconds
abbrev pub news_of : Plan → Asking → ℕ → Reply → News
news_of plan asking now reply = record { known = record { statement = statement_of plan.margin reply asking.sent now; stratum = reply.stratum }; leap = reply.leap }

-- the same of what was read, unless it was refused, or the clock reading is below that of the request or past the greatest time
abbrev pub news_read : Plan → Asking → ℕ → Result Reply NtpFault → Result News NtpFault
news_read plan asking now (Err fault) = Err fault
news_read plan asking now (Ok reply) = if nat_le asking.sent now && nat_le now max_time then Ok (news_of plan asking now reply) else Err PastMax

-- what bytes tell that came at this clock reading, if a request is awaited
abbrev pub news_at : Plan → Option Asking → Option PacketKey → List ℕ → ℕ → Result News NtpFault
news_at plan None key bytes now = Err Origin
news_at plan (Some asking) key bytes now = news_read plan asking now (reading_of (query_of plan asking) key bytes)

-- no request is awaited any more
abbrev pub unawaited : ServerState → ServerState
unawaited server = record server { waiting = None }

-- a reply was taken: what it tells is what is known, and its word on leap seconds replaces the one before
abbrev pub learned : ServerState → News → ServerState
learned server news = record server { refused = false; known = Some news.known; leap = announced_by news.leap news.known.statement.span; tally = taken_tally server.tally }

-- the server once it told this: a reply is taken, unless it is put off for a leap second
abbrev pub told : ServerState → News → ServerState
told server news = if is_put_off server.leap news.leap news.known.statement.span then unawaited server else learned (unawaited server) news

-- the longest pause, in nanoseconds: 131,072 s
abbrev pub longest_pause : ℕ
longest_pause = 131072000000000

-- twice the pause, at most the longest one, but never less than it was
abbrev pub doubled : ℕ → ℕ
doubled pause = max pause (min (pause * 2) longest_pause)

-- the server asks to be asked less often: the pause is doubled, and the next request is due that much later
abbrev pub slowed : ServerState → ℕ → ServerState
slowed server now = record server { pause = doubled server.pause; due = sum_of now (doubled server.pause) }

-- what a refusal with this meaning makes of the server: what is no reply to the request changes nothing, and any other ends the wait
abbrev pub refused_as : ServerState → Meaning → ℕ → ServerState
refused_as server Stray now = server
refused_as server TooOften now = slowed (unawaited server) now
refused_as server Stop now = record (unawaited server) { stopped = true }
refused_as server NoTime now = record (unawaited server) { refused = true; known = None }

-- the server once bytes were refused
abbrev pub refused_at : ServerState → NtpFault → ℕ → ServerState
refused_at server fault now = record (refused_as server (meaning_of fault) now) { tally = refused_tally server.tally fault }

-- the server once this came
abbrev pub heard_as : ServerState → Result News NtpFault → ℕ → ServerState
heard_as server (Ok news) now = told server news
heard_as server (Err fault) now = refused_at server fault now

-- the server once these bytes came
abbrev pub heard_at : ServerState → Option PacketKey → List ℕ → ℕ → ServerState
heard_at server key bytes now = heard_as server (news_at server.plan server.waiting key bytes now) now

-- the refusal of what came, if it was refused
abbrev pub answer_of : Result News NtpFault → Result (Unit {0}) NtpFault
answer_of (Ok news) = Ok tt
answer_of (Err fault) = Err fault
