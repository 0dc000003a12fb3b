-- Waits for a reply, look by look.
use Rattle.std.proofs.Common.{◌≡◌, ◌∙◌, ℕ, Bool, true, false, if◌then◌else◌, List, [], ◌∷◌, Option, Some, None, is_some, subst, sym, ap, refl}
use Rattle.tt_ntp.specs.Keyed.{PacketKey}
use Rattle.tt_upstream.specs.Exchange.{Step, Received, Clocked, LineDid, Look, Nothing, Unclocked, Packet, looks_behind, exchanged_of, ended_at, Hears}
use Rattle.tt_upstream.specs.Server.{ServerState, heard_at, news_at, answer_of}
use Rattle.tt_upstream.specs.declared.exchanges.Exchange.{Exchange}
use Rattle.tt_upstream.specs.declared.exchanges.Exchange.TheVariants.{Silent}

-- a line that took these steps, and then those of looks, took the looks behind the steps
pub LineDid-behind : {L : Type 0} (does : L → Step → L → Type 0) (before : L) (past : List Step) (mid : L) (looks : List Look) (after : L) → LineDid does before past mid → LineDid does mid (looks_behind [] looks) after → LineDid does before (looks_behind past looks) after
LineDid-behind {L} does before past mid [] after did same = subst (λ (line : L). LineDid does before past line) (sym same) did
LineDid-behind does before past mid (Nothing ∷ looks) after did last = (last.0, LineDid-behind does before past mid looks last.0 did last.1, last.2)
LineDid-behind does before past mid (Unclocked bytes ∷ looks) after did last = (last.0, (last.1.0, LineDid-behind does before past mid looks last.1.0 did last.1.1, last.1.2), last.2)
LineDid-behind does before past mid (Packet bytes now ∷ looks) after did last = (last.0, (last.1.0, LineDid-behind does before past mid looks last.1.0 did last.1.1, last.1.2), last.2)

-- a wait that begins where these steps ended is one behind them
pub Hears-behind : {L : Type 0} (does : L → Step → L → Type 0) (before : L) (past : List Step) (mid : L) (key : Option PacketKey) (server : ServerState) (after : L) (server_after : ServerState) (exchange : Exchange) → LineDid does before past mid → Hears does mid [] key server after server_after exchange → Hears does before past key server after server_after exchange
Hears-behind does before past mid key server after server_after exchange did hears = record {
  looks = hears.looks;
  did = LineDid-behind does before past mid hears.looks after did hears.did;
  heard = hears.heard;
  ended = hears.ended;
}

-- a wait with one look more, by which nothing came
pub Hears-nothing : {L : Type 0} (does : L → Step → L → Type 0) (before : L) (past : List Step) (key : Option PacketKey) (server : ServerState) (mid : L) (server_after : ServerState) (after : L) → Hears does before past key server mid server_after Silent → does mid (Received None) after → Hears does before past key server after server_after Silent
Hears-nothing does before past key server mid server_after after hears came = record {
  looks = Nothing ∷ hears.looks;
  did = (mid, hears.did, came);
  heard = hears.heard;
  ended = refl;
}

-- a wait with one look more, behind which the clock could not be read
pub Hears-unclocked : {L : Type 0} (does : L → Step → L → Type 0) (before : L) (past : List Step) (key : Option PacketKey) (server : ServerState) (mid : L) (server_after : ServerState) (bytes : List ℕ) (come : L) (after : L) → Hears does before past key server mid server_after Silent → does mid (Received (Some bytes)) come → does come (Clocked None) after → Hears does before past key server after server_after Silent
Hears-unclocked does before past key server mid server_after bytes come after hears came clocked = record {
  looks = Unclocked bytes ∷ hears.looks;
  did = (come, (mid, hears.did, came), clocked);
  heard = hears.heard;
  ended = refl;
}

-- a wait with one packet more: the server heard it, and it gave the answer
pub Hears-packet : {L : Type 0} (does : L → Step → L → Type 0) (before : L) (past : List Step) (key : Option PacketKey) (server : ServerState) (mid : L) (server_after : ServerState) (bytes : List ℕ) (now : ℕ) (come : L) (after : L) → Hears does before past key server mid server_after Silent → does mid (Received (Some bytes)) come → does come (Clocked (Some now)) after → Hears does before past key server after (heard_at server_after key bytes now) (ended_at server_after key bytes now)
Hears-packet does before past key server mid server_after bytes now come after hears came clocked = record {
  looks = Packet bytes now ∷ hears.looks;
  did = (come, (mid, hears.did, came), clocked);
  heard = ap (λ (known : ServerState). heard_at known key bytes now) hears.heard;
  ended = ap (λ (known : ServerState). ended_at known key bytes now) hears.heard;
}

-- the same where the packet left the wait on
pub Hears-awaited : {L : Type 0} (does : L → Step → L → Type 0) (before : L) (past : List Step) (key : Option PacketKey) (server : ServerState) (mid : L) (server_after : ServerState) (bytes : List ℕ) (now : ℕ) (come : L) (after : L) (heard : ServerState) → Hears does before past key server mid server_after Silent → does mid (Received (Some bytes)) come → does come (Clocked (Some now)) after → heard ≡ heard_at server_after key bytes now → is_some heard.waiting ≡ true → Hears does before past key server after heard Silent
Hears-awaited does before past key server mid server_after bytes now come after heard hears came clocked is awaited =
    let on : is_some (heard_at server_after key bytes now).waiting ≡ true = subst (λ (known : ServerState). is_some known.waiting ≡ true) is awaited in
    let silent : ended_at server_after key bytes now ≡ Silent = ap (λ (b : Bool). if b then Silent else exchanged_of (answer_of (news_at server_after.plan server_after.waiting key bytes now))) on in
    let all = Hears-packet does before past key server mid server_after bytes now come after hears came clocked in
    record { looks = all.looks; did = all.did; heard = is ∙ all.heard; ended = sym silent ∙ all.ended }

-- the same where the packet ended the wait
pub Hears-ended : {L : Type 0} (does : L → Step → L → Type 0) (before : L) (past : List Step) (key : Option PacketKey) (server : ServerState) (mid : L) (server_after : ServerState) (bytes : List ℕ) (now : ℕ) (come : L) (after : L) (heard : ServerState) (exchange : Exchange) → Hears does before past key server mid server_after Silent → does mid (Received (Some bytes)) come → does come (Clocked (Some now)) after → heard ≡ heard_at server_after key bytes now → is_some heard.waiting ≡ false → exchange ≡ exchanged_of (answer_of (news_at server_after.plan server_after.waiting key bytes now)) → Hears does before past key server after heard exchange
Hears-ended does before past key server mid server_after bytes now come after heard exchange hears came clocked is over gave =
    let off : is_some (heard_at server_after key bytes now).waiting ≡ false = subst (λ (known : ServerState). is_some known.waiting ≡ false) is over in
    let ended : ended_at server_after key bytes now ≡ exchanged_of (answer_of (news_at server_after.plan server_after.waiting key bytes now)) = ap (λ (b : Bool). if b then Silent else exchanged_of (answer_of (news_at server_after.plan server_after.waiting key bytes now))) off in
    let all = Hears-packet does before past key server mid server_after bytes now come after hears came clocked in
    record { looks = all.looks; did = all.did; heard = is ∙ all.heard; ended = gave ∙ sym ended ∙ all.ended }
