-- Over a run in which all that came is right, what is known of the server holds the true time.
use Rattle.std.proofs.Common.{◌≡◌, ℕ, ◌≤◌, Bool, true, false, cond, not, List, [], ◌∷◌, length, Option, Some, None, Result, Ok, Err, refl, sym, subst}
use Rattle.std.specs.Prelude.{◌&&◌, nat_le, eqb}
use Rattle.std.specs.Str.{bytes_eq}
use Rattle.std.proofs.lemmas.Bool.{and_parts, leb-true}
use Rattle.tt_span.specs.Time.{max_time}
use Rattle.tt_span.specs.Interval.{Interval, Holds}
use Rattle.tt_span.specs.Statement.{statement_at}
use Rattle.tt_ntp.specs.declared.faults.NtpFault.{NtpFault}
use Rattle.tt_ntp.specs.declared.faults.NtpFault.TheVariants.{Length, OtherKey, WrongDigest, PastMax}
use Rattle.tt_ntp.specs.declared.queries.Query.{Query}
use Rattle.tt_ntp.specs.declared.replies.Reply.{Reply}
use Rattle.tt_ntp.specs.Aged.{IsServerRight}
use Rattle.tt_ntp.specs.Keyed.{PacketKey, keyed_len, packet_in, number_in, digest_in, digest_of, keyed_read_of}
use Rattle.tt_ntp.specs.Reading.{read_of}
use Rattle.tt_ntp.proofs.Ageing.{reply-holds}
use Rattle.tt_upstream.specs.Leap.{is_put_off}
use Rattle.tt_upstream.specs.Refusal.{meaning_of}
use Rattle.tt_upstream.specs.Server.{ServerState, new_server, asked_at, query_of, reading_of, news_of, news_read, news_at, unawaited, learned, refused_as, heard_as, heard_at}
use Rattle.tt_upstream.specs.Span.{span_at}
use Rattle.tt_upstream.specs.Run.{Event, after, packet_of, AreRightAt}
use Rattle.tt_upstream.specs.Run.Event.{Sent, Came}
use Rattle.tt_upstream.specs.declared.news.Asking.{Asking}
use Rattle.tt_upstream.specs.declared.news.Known.{Known}
use Rattle.tt_upstream.specs.declared.news.News.{News}
use Rattle.tt_upstream.specs.declared.plans.Plan.{Plan}
use Rattle.tt_upstream.specs.declared.refusals.Meaning.{Meaning}
use Rattle.tt_upstream.specs.declared.refusals.Meaning.TheVariants.{Stray, TooOften, Stop, NoTime}
use Rattle.tt_upstream.proofs.Saying.{says, holds_of}

-- ---- a right reply

passes : (b : Bool) (fault : NtpFault) (rest : Result Reply NtpFault) (reply : Reply) → cond (not b) (Err fault) rest ≡ Ok reply → rest ≡ Ok reply
passes true fault rest reply h = h
passes false fault rest reply h = cc

-- what is read under a key is what the packet says
keyed-said : (query : Query) (key : PacketKey) (bytes : List ℕ) (reply : Reply) → keyed_read_of query key bytes ≡ Ok reply → read_of query (packet_in bytes) ≡ Ok reply
unfolding keyed_read_of
keyed-said query key bytes reply h =
    let same = bytes_eq (digest_in bytes) (digest_of key (packet_in bytes)) in
    let said = read_of query (packet_in bytes) in
    let with_digest = cond (not same) (Err WrongDigest) said in
    let with_number = cond (not (eqb (number_in bytes) key.number)) (Err OtherKey) with_digest in
    passes same WrongDigest said reply (passes (eqb (number_in bytes) key.number) OtherKey with_digest reply (passes (eqb (length bytes) keyed_len) Length with_number reply h))

packet-said : (query : Query) (key : Option PacketKey) (bytes : List ℕ) (reply : Reply) → reading_of query key bytes ≡ Ok reply → read_of query (packet_of key bytes) ≡ Ok reply
packet-said query None bytes reply h = h
packet-said query (Some key) bytes reply h = keyed-said query key bytes reply h

taken_if : (b : Bool) (made news : News) → cond b (Ok made) (Err PastMax) ≡ Ok news → (b ≡ true) × (made ≡ news)
taken_if true made news h = (refl, cc)
taken_if false made news h = cc

-- what was read of a right reply holds the true time later
read-holds : (c x : ℕ) (plan : Plan) (asking : Asking) (key : Option PacketKey) (bytes : List ℕ) (now : ℕ) (news : News) (r : Result Reply NtpFault) → reading_of (query_of plan asking) key bytes ≡ r
    → ((reply : Reply) → reading_of (query_of plan asking) key bytes ≡ Ok reply → IsServerRight plan.drift plan.margin (packet_of key bytes) asking.sent now c x)
    → news_read plan asking now r ≡ Ok news → news.known.statement.got ≤ c → Holds (statement_at plan.drift news.known.statement c) x
read-holds c x plan asking key bytes now news (Err fault) e right h late = cc
read-holds c x plan asking key bytes now news (Ok reply) e right h late =
    let taken = taken_if (nat_le asking.sent now && nat_le now max_time) (news_of plan asking now reply) news h in
    let in_order = and_parts (nat_le asking.sent now) (nat_le now max_time) taken.0 in
    let received : now ≤ c = subst (λ (n : News). n.known.statement.got ≤ c) (sym taken.1) late in
    subst (λ (n : News). Holds (statement_at plan.drift n.known.statement c) x) taken.1
    (reply-holds (query_of plan asking) (packet_of key bytes) reply plan.drift plan.margin asking.sent now c x (packet-said (query_of plan asking) key bytes reply e) (leb-true asking.sent now in_order.0) received (right reply e))

news-holds : (c x : ℕ) (plan : Plan) (waiting : Option Asking) (key : Option PacketKey) (bytes : List ℕ) (now : ℕ) (news : News)
    → ((asking : Asking) (reply : Reply) → waiting ≡ Some asking → reading_of (query_of plan asking) key bytes ≡ Ok reply → IsServerRight plan.drift plan.margin (packet_of key bytes) asking.sent now c x)
    → news_at plan waiting key bytes now ≡ Ok news → news.known.statement.got ≤ c → Holds (statement_at plan.drift news.known.statement c) x
news-holds c x plan None key bytes now news right h late = cc
news-holds c x plan (Some asking) key bytes now news right h late =
    read-holds c x plan asking key bytes now news (reading_of (query_of plan asking) key bytes) refl (λ reply e. right asking reply refl e) h late

-- ---- one event, and all

-- what is known of the server holds the true time x when the clock shows c
abbrev pub KnowsRight : ℕ → ℕ → ServerState → Type 0
KnowsRight c x server = (known : Known) → server.known ≡ Some known → known.statement.got ≤ c → Holds (statement_at server.plan.drift known.statement c) x

knows-refused : (c x : ℕ) (server : ServerState) (meaning : Meaning) (now : ℕ) → KnowsRight c x server → KnowsRight c x (refused_as server meaning now)
knows-refused c x server Stray now h = h
knows-refused c x server TooOften now h = h
knows-refused c x server Stop now h = h
knows-refused c x server NoTime now h = λ known e late. cc

knows-told : (c x : ℕ) (server : ServerState) (news : News) (b : Bool) → (news.known.statement.got ≤ c → Holds (statement_at server.plan.drift news.known.statement c) x) → KnowsRight c x server
    → KnowsRight c x (cond b (unawaited server) (learned (unawaited server) news))
knows-told c x server news true right h = h
knows-told c x server news false right h = λ known e late.
    let same : news.known ≡ known = cc in
    subst (λ (k : Known). Holds (statement_at server.plan.drift k.statement c) x) same (right (subst (λ (k : Known). k.statement.got ≤ c) (sym same) late))

knows-heard : (c x : ℕ) (server : ServerState) (now : ℕ) (r : Result News NtpFault) → ((news : News) → r ≡ Ok news → news.known.statement.got ≤ c → Holds (statement_at server.plan.drift news.known.statement c) x)
    → KnowsRight c x server → KnowsRight c x (heard_as server r now)
knows-heard c x server now (Ok news) right h = knows-told c x server news (is_put_off server.leap news.leap news.known.statement.span) (right news refl) h
knows-heard c x server now (Err fault) right h = knows-refused c x server (meaning_of fault) now h

pub knows-after : (c x : ℕ) (server : ServerState) (events : List Event) → AreRightAt c x server events → KnowsRight c x server → KnowsRight c x (after server events)
knows-after c x server [] right h = h
knows-after c x server (Sent nonce now ∷ events) right h = knows-after c x (asked_at server nonce now) events right.1 h
knows-after c x server (Came key bytes now ∷ events) right h =
    let r = news_at server.plan server.waiting key bytes now in
    let taken : (news : News) → r ≡ Ok news → news.known.statement.got ≤ c → Holds (statement_at server.plan.drift news.known.statement c) x =
    λ news e late. news-holds c x server.plan server.waiting key bytes now news right.0 e late in
    knows-after c x (heard_at server key bytes now) events right.1 (knows-heard c x server now r taken h)

pub says-right : (c x : ℕ) (server : ServerState) (span : Interval) → KnowsRight c x server → span_at server c ≡ Ok span → Holds span x
says-right c x server span h said =
    let s = says server c span said in
    holds_of server.plan.drift c x server.known span h s.some s.not_back s.is

pub run-right : (plan : Plan) (events : List Event) (c x : ℕ) (span : Interval) → AreRightAt c x (new_server plan) events → span_at (after (new_server plan) events) c ≡ Ok span → Holds span x
run-right plan events c x span right said =
    let nothing : KnowsRight c x (new_server plan) = λ known e late. cc in
    says-right c x (after (new_server plan) events) span (knows-after c x (new_server plan) events right nothing) said
