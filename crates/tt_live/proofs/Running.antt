-- What a node did that ran as a script says.
use Rattle.std.proofs.Common.{◌≡◌, ℕ, List, [], ◌∷◌, Result, Ok, Err, Option, Some, IfOk, ap, ◌∙◌, vec_len}
use Rattle.std.specs.Prelude.{All}
use Rattle.tt_span.specs.Interval.{Interval}
use Rattle.tt_daemon.specs.Config.{Configuration}
use Rattle.tt_daemon.specs.Daemon.{DaemonState, new_daemon}
use Rattle.tt_daemon.specs.Publication.{Publication}
use Rattle.tt_script.specs.Lives.{LiveRun}
use Rattle.tt_rounds.specs.Link.{Call, Gift, Exchange, LinkDoes}
use Rattle.tt_node.specs.Running.{RunsRounds, RunsNode}
use Rattle.tt_node.specs.Sharing.{SharesSequencer, ReadsPublished}
use Rattle.tt_publish.specs.Known.{new_watch}
use Rattle.tt_rounds.specs.declared.faults.NodeFault.{NodeFault}
use Rattle.tt_node.specs.declared.gates.OpenGate.{OpenGate}
use Rattle.tt_node.specs.declared.nodes.NodeEnd.{NodeEnd}
use Rattle.tt_rounds.specs.declared.rounds.Rounds.{Rounds}
use Rattle.tt_live.specs.declared.lives.LiveEnd.{LiveEnd}
use Rattle.tt_live.specs.Clock.{LiveState, LiveGives, failures_of, new_clock}
use Rattle.tt_live.specs.Running.{AnyLink, link_failures, OpenSays, OpenHears, IsNodeOf, IsRunOf, TellsNode, RunsScript}

-- what a link did, where only its failures are known
pub link_forgets : {L : Type 0} (does : L → Call → Gift → L → Type 0) (failed : L → ℕ) (before : L) (exchanges : List Exchange) (after : L)
    → LinkDoes does before exchanges after → LinkDoes AnyLink (failed before) exchanges (failed after)
link_forgets does failed before [] after did = ap failed did
link_forgets does failed before (exchange ∷ exchanges) after (mid, one, rest) = (failed mid, tt, link_forgets does failed mid exchanges after rest)

-- the rounds of a daemon, where only the failures of its link are known
pub rounds_forget : {C L : Type 0} (gives : C → Option ℕ → C → Type 0) (clock_failed : C → ℕ) (does : L → Call → Gift → L → Type 0) (link_failed : L → ℕ)
    (rounds turns : ℕ) (daemon : DaemonState) (clock : C) (link : L) (published : List Publication) (answer : Result Rounds NodeFault)
    → RunsRounds gives clock_failed does link_failed rounds turns daemon clock link published answer
    → RunsRounds gives clock_failed AnyLink link_failures rounds turns daemon clock (link_failed link) published answer
rounds_forget gives clock_failed does link_failed rounds turns daemon clock link published answer runs = record {
  daemon_after = runs.daemon_after;
  clock_after = runs.clock_after;
  link_after = link_failed runs.link_after;
  tally = runs.tally;
  course = record {
    readings = runs.course.readings;
    exchanges = runs.course.exchanges;
    grants = runs.course.grants;
    gave = runs.course.gave;
    did = link_forgets does link_failed link runs.course.exchanges runs.link_after runs.course.did;
    course = runs.course.course;
  };
  each = runs.each;
  told = runs.told;
  link_fails = runs.link_fails;
  clock_fails = runs.clock_fails;
  fault = runs.fault;
}

-- a node that did its rounds with these limits did what the script says, where the limits are those of the script
pub node_is : {L : Type 0} (link : L) (does : L → Call → Gift → L → Type 0) (link_failed : L → ℕ) (live : LiveRun) (config : Configuration) (gate : OpenGate)
    (rounds turns : ℕ) (lease : Interval) (daemon : DaemonState) (clock : LiveState) (streams : ℕ) (result : Result NodeEnd NodeFault)
    → rounds ≡ live.rounds → turns ≡ live.turns → lease ≡ live.lease → daemon ≡ new_daemon 0 config 1 → clock ≡ new_clock → streams ≡ config.workers
    → RunsNode LiveGives failures_of does link_failed rounds turns daemon clock link result
    → IfOk result (λ end. end.rounds.done ≡ rounds)
    → IfOk result (λ end. vec_len end.workers ≡ streams)
    → IfOk result (λ end. SharesSequencer LiveGives failures_of OpenSays OpenHears 10000 gate lease (new_watch end.published.source daemon.config.drift) end.workers.items end.stamps.value)
    → IfOk result (λ end. All (ReadsPublished daemon.config.drift end.published) end.workers.items)
    → IfOk result (IsNodeOf live config)
node_is link does link_failed live config gate rounds turns lease daemon clock streams (Ok end) er et el ed ec es runs done all shares reads = record {
  link = link_failed link;
  gate = gate;
  runs = rw (er, et, ed, ec) at (rounds_forget LiveGives failures_of does link_failed rounds turns daemon clock link end.published.items (Ok end.rounds) runs);
  done = done ∙ er;
  all = all ∙ es;
  shares = rw (el, ed) at shares;
  reads = rw ed at reads;
}
node_is link does link_failed live config gate rounds turns lease daemon clock streams (Err fault) er et el ed ec es runs done all shares reads = tt

-- the answer tells of the node that ended so
pub run_is : (live : LiveRun) (config : Configuration) (node : NodeEnd) (result : Result LiveEnd NodeFault) → IsNodeOf live config node
    → IfOk result (TellsNode node) → IfOk result (λ end. (node : NodeEnd) × IsRunOf live config end node)
run_is live config node (Ok end) is tells = (node, record { node_is = is; tells = tells })
run_is live config node (Err fault) is tells = tt

-- a script with this machine and this part for a run in threads was run
pub runs_script : (configs : List Configuration) (part : Option LiveRun) (config : Configuration) (live : LiveRun) (end : LiveEnd) → configs ≡ config ∷ [] → part ≡ Some live
    → ((node : NodeEnd) × IsRunOf live config end node) → RunsScript configs part end
runs_script configs part config live end one some ran = rw (one, some) ran
