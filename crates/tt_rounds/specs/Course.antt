-- The course of a daemon's rounds: computed from the daemon, what is published, and all that the devices give.
use Rattle.std.specs.Prelude.{ℕ, zero, suc, ◌==◌, Bool, true, false, if◌then◌else◌, List, [], ◌∷◌, ◌++◌, length, Option, Some, None, Result, Ok, Err}
use Rattle.tt_poll.specs.Spelling.{spelling_of2}
use Rattle.tt_poll.specs.declared.messages.Message2.TheVariants as message
use Rattle.tt_source.specs.Table.{TableState, poll_of, take_of}
use Rattle.tt_source.specs.declared.faults.SourceFault.{SourceFault}
use Rattle.tt_daemon.specs.Daemon.{DaemonState}
use Rattle.tt_daemon.specs.declared.faults.DaemonFault.{DaemonFault}
use Rattle.tt_publish.specs.declared.faults.PublishFault.TheVariants as publishes
use Rattle.tt_rounds.specs.Link.{Packet, Call, Send, Receive, Gift, Went, Came, NothingCame, Broke, Exchange}
use Rattle.tt_rounds.specs.Fusing.{Fusion, fusion_at, goes_back}
use Rattle.tt_rounds.specs.Tallies.{one_poll, one_taken, packet_refused, fusion_refused}
use Rattle.tt_rounds.specs.declared.tallies.Tally.{Tally}
use Rattle.tt_rounds.specs.declared.faults.NodeFault.{NodeFault}
use Rattle.tt_rounds.specs.declared.faults.NodeFault.TheVariants.{LinkFailed, ClockFailed, Publish}

-- what is still to be given: the clock's readings, where none is a failure; what the link gives; and whether there is memory for each publication
pub record Given : Type 0 where
  pub readings : List (Option ℕ)
  pub gifts : List Gift
  pub grants : List Bool

-- where a course stands: the daemon, the fusions that are published, the exchanges with the link so far, and what was counted
pub record Stand : Type 0 where
  pub daemon : DaemonState
  pub published : List Fusion
  pub exchanges : List Exchange
  pub tally : Tally

-- what comes of a part of a course: it goes on with a value, or a fault ends it, or less was given than it asks for
pub data Outcome (A : Type 0) : Type 0 where
  GoesOn : A → Stand → Given → Outcome A
  Ends : NodeFault → Stand → Given → Outcome A
  Lacks : Outcome A

-- a part of a course takes what it is given from the front
abbrev pub Part : Type 0 → Type 0
Part A = Stand → Given → Outcome A

-- the next part, where the one before it goes on
abbrev pub after_outcome : {A B : Type 0} → Outcome A → (A → Part B) → Outcome B
after_outcome (GoesOn value stand given) next = next value stand given
after_outcome (Ends fault stand given) next = Ends fault stand given
after_outcome Lacks next = Lacks

infixl 10 ◌>>=◌
unfoldable pub ◌>>=◌ : {A B : Type 0} → Part A → (A → Part B) → Part B
(part >>= next) stand given = after_outcome (part stand given) next

infixl 10 ◌>>◌
abbrev pub ◌>>◌ : {A B : Type 0} → Part A → Part B → Part B
part >> next = part >>= (λ _. next)

-- nothing is done
abbrev pub nothing_done : Part (Unit {0})
nothing_done stand given = GoesOn tt stand given

-- a fault ends the course
abbrev pub fails : {A : Type 0} → NodeFault → Part A
fails fault stand given = Ends fault stand given

-- a part for each number below this one, from 0 on
unfoldable pub each_below : ℕ → (ℕ → Part (Unit {0})) → Part (Unit {0})
each_below zero part = nothing_done
each_below (suc n) part = do
  each_below n part
  part n

-- the first reading of the list, if the clock gave one
abbrev pub reading_from : List (Option ℕ) → Part ℕ
reading_from [] stand given = Lacks
reading_from (None ∷ readings) stand given = Ends ClockFailed stand (record given { readings = readings })
reading_from (Some clock ∷ readings) stand given = GoesOn clock stand (record given { readings = readings })

-- what the clock shows next
unfoldable pub next_reading : Part ℕ
next_reading stand given = reading_from given.readings stand given

-- the first gift of the list, for this call
abbrev pub gift_from : List Gift → Call → Part Gift
gift_from [] call stand given = Lacks
gift_from (gift ∷ gifts) call stand given =
    GoesOn gift (record stand { exchanges = stand.exchanges ++ record { call = call; gift = gift } ∷ [] }) (record given { gifts = gifts })

-- the link is called
unfoldable pub next_gift : Call → Part Gift
next_gift call stand given = gift_from given.gifts call stand given

-- a packet went, unless the link failed
abbrev pub send_part : Gift → Part (Unit {0})
send_part Went stand given = GoesOn tt stand given
send_part Broke stand given = Ends LinkFailed stand given
send_part _ stand given = Lacks

-- a packet came, or none did, unless the link failed
abbrev pub packet_part : Gift → Part (Option Packet)
packet_part (Came packet) stand given = GoesOn (Some packet) stand given
packet_part NothingCame stand given = GoesOn None stand given
packet_part Broke stand given = Ends LinkFailed stand given
packet_part Went stand given = Lacks

-- some bytes are sent to a peer
unfoldable pub send : ℕ → List ℕ → Part (Unit {0})
send peer bytes = do
  gift ← next_gift (Send (record { peer = peer; bytes = bytes }))
  send_part gift

-- the next packet, if one came
unfoldable pub receive : Part (Option Packet)
receive = do
  gift ← next_gift Receive
  packet_part gift

-- the daemon's table is this one, and this is counted
unfoldable pub put_table : TableState → (Tally → Tally) → Part (Unit {0})
put_table table counts stand given = GoesOn tt (record stand { daemon = record stand.daemon { table = table }; tally = counts stand.tally }) given

-- a packet or a fusion was refused, which is counted so
unfoldable pub count_refusal : (Tally → Tally) → Part (Unit {0})
count_refusal counts stand given = GoesOn tt (record stand { tally = counts stand.tally }) given

-- the request that a table has just made to a source
abbrev pub request_of : TableState → ℕ → List ℕ
request_of table source = spelling_of2 (message.Request (record { machine = table.machine; source = source; nonce = table.last; epoch = table.epoch }))

-- a request is sent, unless its poll was refused
unfoldable pub send_polled : ℕ → Result TableState SourceFault → Part (Unit {0})
send_polled source (Ok table) = do
  put_table table one_poll
  send source (request_of table source)
send_polled source (Err _) = nothing_done

-- a source is polled
unfoldable pub poll_at : ℕ → ℕ → Part (Unit {0})
poll_at clock source stand = send_polled source (poll_of stand.daemon.table source clock) stand

-- every source is polled
unfoldable pub poll_all : ℕ → Part (Unit {0})
poll_all clock stand = each_below stand.daemon.config.sources (poll_at clock) stand

-- the table is that after a packet, which is counted as taken, or the packet was refused
unfoldable pub put_taken : Result TableState SourceFault → Part (Unit {0})
put_taken (Ok table) = put_table table one_taken
put_taken (Err fault) = count_refusal (packet_refused fault)

-- a packet is taken
unfoldable pub take_at : ℕ → Packet → Part (Unit {0})
take_at clock packet stand = put_taken (take_of stand.daemon.table packet.peer clock packet.bytes) stand

-- a packet that came is taken at the next reading
unfoldable pub take_next : Option Packet → Part (Unit {0})
take_next None = nothing_done
take_next (Some packet) = do
  clock ← next_reading
  take_at clock packet

-- one turn: what came is taken
unfoldable pub turn : Part (Unit {0})
turn = do
  packet ← receive
  take_next packet

-- where there is memory for it, a fusion is published
abbrev pub publish_granted : List Bool → Fusion → Part (Unit {0})
publish_granted [] fusion stand given = Lacks
publish_granted (true ∷ grants) fusion stand given =
    GoesOn tt (record stand { published = stand.published ++ fusion ∷ [] }) (record given { grants = grants })
publish_granted (false ∷ grants) fusion stand given = Ends (Publish publishes.Memory) stand (record given { grants = grants })

-- a fusion is published, unless the clock went back behind the last one, or as many as may were published
unfoldable pub publish : Fusion → Part (Unit {0})
publish fusion stand given =
    if goes_back stand.published fusion.clock then Ends (Publish publishes.ClockBack) stand given
    else (if length stand.published == 18446744073709551615 then Ends (Publish publishes.UsedUp) stand given
    else publish_granted given.grants fusion stand given)

-- a fusion is published, or it was refused
unfoldable pub publish_fused : Result Fusion DaemonFault → Part (Unit {0})
publish_fused (Ok fusion) = publish fusion
publish_fused (Err fault) = count_refusal (fusion_refused fault)

-- what is known is fused and published
unfoldable pub fuse_at : ℕ → Part (Unit {0})
fuse_at clock stand = publish_fused (fusion_at stand.daemon clock) stand

-- one round
unfoldable pub round_of : ℕ → Part (Unit {0})
round_of turns = do
  sent ← next_reading
  poll_all sent
  each_below turns (λ _. turn)
  clock ← next_reading
  fuse_at clock

-- all rounds
unfoldable pub rounds_of : ℕ → ℕ → Part (Unit {0})
rounds_of rounds turns = each_below rounds (λ _. round_of turns)
