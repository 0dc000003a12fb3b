-- What a run does, by the part of a script for a run in threads.
use Rattle.std.specs.Prelude.{◌≡◌, ℕ, Bool, true, not, count_by, List, [], ◌∷◌, length, vec_len, All, Option, Some, Ok}
use Rattle.tt_daemon.specs.Config.{Configuration}
use Rattle.tt_daemon.specs.Daemon.{new_daemon}
use Rattle.tt_audit.specs.Live.{holds_some_time}
use Rattle.tt_script.specs.Lives.{LiveRun}
use Rattle.tt_rounds.specs.Link.{Call, Gift}
use Rattle.tt_node.specs.Running.{RunsRounds}
use Rattle.tt_node.specs.Sharing.{SharesSequencer, ReadsPublished}
use Rattle.tt_publish.specs.Known.{new_watch}
use Rattle.tt_node.specs.declared.gates.OpenGate.{OpenGate}
use Rattle.tt_node.specs.declared.nodes.NodeEnd.{NodeEnd}
use Rattle.tt_live.specs.Clock.{LiveGives, failures_of, new_clock}
use Rattle.tt_live.specs.Notes.{notes_of}
use Rattle.tt_live.specs.declared.lives.LiveEnd.{LiveEnd}

-- a link of which only its failures are known may give anything
abbrev pub AnyLink : ℕ → Call → Gift → ℕ → Type 0
AnyLink failures call gift failures' = Unit {0}

-- the failures of such a link
abbrev pub link_failures : ℕ → ℕ
link_failures failures = failures

-- an open gate lets each call pass, and stays
abbrev pub OpenSays : OpenGate → ℕ → ℕ → Bool → OpenGate → Type 0
OpenSays before worker call passes after = (passes ≡ true) × (after ≡ before)

-- an open gate that is told of a call stays
abbrev pub OpenHears : OpenGate → ℕ → ℕ → OpenGate → Type 0
OpenHears before worker call after = after ≡ before

-- the node did what this part of a script says, on a machine with this configuration: a new daemon of machine 0 in epoch 1, with a new clock, did its rounds and turns, and its workers, behind open gates, stamped in its lease and read nothing but what that daemon published
pub record IsNodeOf (live : LiveRun) (config : Configuration) (node : NodeEnd) : Type 0 where
  pub link : ℕ
  pub gate : OpenGate
  pub runs : RunsRounds LiveGives failures_of AnyLink link_failures live.rounds live.turns (new_daemon 0 config 1) new_clock link node.published.items (Ok node.rounds)
  pub done : node.rounds.done ≡ live.rounds
  pub all : vec_len node.workers ≡ config.workers
  pub shares : SharesSequencer LiveGives failures_of OpenSays OpenHears 10000 gate live.lease (new_watch node.published.source config.drift) node.workers.items node.stamps.value
  pub reads : All (ReadsPublished config.drift node.published) node.workers.items

-- the answer of a run tells the rounds of this node, and counts the readings of its workers and the wrong ones
pub record TellsNode (node : NodeEnd) (end : LiveEnd) : Type 0 where
  pub rounds : end.rounds ≡ node.rounds
  pub readings : end.report.readings ≡ length (notes_of node.workers.items)
  pub wrong : end.report.wrong ≡ count_by (λ note. not (holds_some_time note)) (notes_of node.workers.items)

-- the run did what this part of a script says, by this node, of which it tells
pub record IsRunOf (live : LiveRun) (config : Configuration) (end : LiveEnd) (node : NodeEnd) : Type 0 where
  pub node_is : IsNodeOf live config node
  pub tells : TellsNode node end

-- a run of a script with one machine did what its part for a run in threads says
abbrev pub RunsScript : List Configuration → Option LiveRun → LiveEnd → Type 0
RunsScript (config ∷ []) (Some live) end = (node : NodeEnd) × IsRunOf live config end node
RunsScript configs live end = ⊥
