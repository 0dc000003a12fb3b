-- One request to a server: what the line to it did, and which packets count.
use Rattle.std.specs.Prelude.{◌≡◌, ◌⊎◌, ℕ, List, [], ◌∷◌, take, min, Option, Some, None, Result, Ok, Err, is_some, if◌then◌else◌}
use Rattle.tt_ntp.specs.Keyed.{PacketKey}
use Rattle.tt_ntp.specs.declared.faults.NtpFault.{NtpFault}
use Rattle.tt_upstream.specs.Server.{ServerState, asked_at, heard_at, news_at, answer_of}
use Rattle.tt_upstream.specs.declared.exchanges.Exchange.{Exchange}
use Rattle.tt_upstream.specs.declared.exchanges.Exchange.TheVariants.{Taken, Refused, Silent, Unasked}
use Rattle.tt_upstream.specs.declared.exchanges.Receipt.{Receipt}
use Rattle.tt_upstream.specs.declared.exchanges.Receipt.TheVariants.{Came, Passing, Ended}

-- a step of a line to a server: random bits were drawn, if there are any; what lay in the socket was dropped; the clock was read, if it could be; the request with this nonce was sent; a packet was looked for, and these bytes came, if any did
pub data Step : Type 0 where
  Drew : Option ℕ → Step
  Emptied : Step
  Clocked : Option ℕ → Step
  Sent : ℕ → Step
  Received : Option (List ℕ) → Step

-- what a look for a packet gave, by its answer and the buffer
abbrev pub received_as : Receipt → List ℕ → Step
received_as (Came length) buffer = Received (Some (take (min length 128) buffer))
received_as Passing buffer = Received None
received_as Ended buffer = Received None

-- a line that does so took these steps, the newest first
abbrev pub LineDid : {L : Type 0} → (L → Step → L → Type 0) → L → List Step → L → Type 0
LineDid does before [] after = after ≡ before
LineDid {L} does before (step ∷ past) after = (mid : L) × LineDid does before past mid × does mid step after

-- a look for a packet: nothing came; bytes came, and the clock could not be read; bytes came, and the clock showed this
pub data Look : Type 0 where
  Nothing : Look
  Unclocked : List ℕ → Look
  Packet : List ℕ → ℕ → Look

-- the steps of these looks behind others, the newest first
abbrev pub looks_behind : List Step → List Look → List Step
looks_behind past [] = past
looks_behind past (Nothing ∷ looks) = Received None ∷ looks_behind past looks
looks_behind past (Unclocked bytes ∷ looks) = Clocked None ∷ Received (Some bytes) ∷ looks_behind past looks
looks_behind past (Packet bytes now ∷ looks) = Clocked (Some now) ∷ Received (Some bytes) ∷ looks_behind past looks

-- the server once it heard each packet of these looks, the newest first
abbrev pub heard_in : Option PacketKey → ServerState → List Look → ServerState
heard_in key server [] = server
heard_in key server (Nothing ∷ looks) = heard_in key server looks
heard_in key server (Unclocked bytes ∷ looks) = heard_in key server looks
heard_in key server (Packet bytes now ∷ looks) = heard_at (heard_in key server looks) key bytes now

-- what a reply that ended the wait gave
abbrev pub exchanged_of : Result (Unit {0}) NtpFault → Exchange
exchanged_of (Ok _) = Taken
exchanged_of (Err fault) = Refused fault

-- what a packet gave that this server heard: the answer to it, if it ended the wait
abbrev pub ended_at : ServerState → Option PacketKey → List ℕ → ℕ → Exchange
ended_at server key bytes now = if is_some (heard_at server key bytes now).waiting then Silent else exchanged_of (answer_of (news_at server.plan server.waiting key bytes now))

-- what the newest of these looks gave
abbrev pub ended_by : Option PacketKey → ServerState → List Look → Exchange
ended_by key server [] = Silent
ended_by key server (Nothing ∷ looks) = Silent
ended_by key server (Unclocked bytes ∷ looks) = Silent
ended_by key server (Packet bytes now ∷ looks) = ended_at (heard_in key server looks) key bytes now

-- a wait behind these steps: the line took no others but looks, the server heard what came in these, and the newest gave the answer
pub record Hears {L : Type 0} (does : L → Step → L → Type 0) (before : L) (past : List Step) (key : Option PacketKey) (server : ServerState) (after : L) (server_after : ServerState) (exchange : Exchange) : Type 0 where
  pub looks : List Look
  pub did : LineDid does before (looks_behind past looks) after
  pub heard : server_after ≡ heard_in key server looks
  pub ended : exchange ≡ ended_by key server looks

-- a request was sent: its nonce is what was drawn for it, what lay in the socket was dropped in between, and only what came behind it was heard
pub record Requests {L : Type 0} (does : L → Step → L → Type 0) (before : L) (key : Option PacketKey) (server : ServerState) (after : L) (server_after : ServerState) (exchange : Exchange) : Type 0 where
  pub nonce : ℕ
  pub sent : ℕ
  pub hears : Hears does before (Sent nonce ∷ Clocked (Some sent) ∷ Emptied ∷ Drew (Some nonce) ∷ []) key (asked_at server nonce sent) after server_after exchange

-- no request was sent: no bits could be drawn, or the clock could not be read
abbrev pub SendsNothing : {L : Type 0} → (L → Step → L → Type 0) → L → L → Exchange → Type 0
SendsNothing does before after Unasked = LineDid does before (Drew None ∷ []) after
SendsNothing does before after Silent = (nonce : ℕ) × LineDid does before (Clocked None ∷ Emptied ∷ Drew (Some nonce) ∷ []) after
SendsNothing does before after _ = ⊥

-- what asking a server once does
abbrev pub Exchanges : {L : Type 0} → (L → Step → L → Type 0) → L → Option PacketKey → ServerState → L → ServerState → Exchange → Type 0
Exchanges does before key server after server_after exchange = Requests does before key server after server_after exchange ⊎ (SendsNothing does before after exchange × (server_after ≡ server))
