-- What a run answers.
use Rattle.std.specs.Prelude.{◌≡◌, ◌≤◌, List, [], length, map, reverse}
use Rattle.tt_world.specs.declared.events.Reply.{Reply}
use Rattle.tt_world.specs.declared.publications.Shown.{Shown}
use Rattle.tt_daemon.specs.Config.{Configuration}
use Rattle.tt_world.specs.Config.{max_machines}
use Rattle.tt_world.specs.declared.events.Event.{Event}
use Rattle.tt_world.specs.Publications.{Showing, shown_of}
use Rattle.tt_world.specs.Bad.{accepted}
use Rattle.tt_world.specs.Reply.{replies_from}
use Rattle.tt_world.specs.Headline.{AreConfigurations, AreEvents, CertificatesProve}

-- the replies to the events of a run, in their order, and the publications that were made, in theirs
pub record RunTrace : Type 0 where
  pub replies : List Reply
  pub shown : List Shown

-- what is shown of a publication, without its certificate
abbrev pub outline : Shown → Showing
outline s = record {
  machine = s.machine;
  life = s.life;
  number = s.number;
  clock = s.fused.clock;
  span = s.fused.span;
  spans = s.fused.spans;
  faulty = s.fused.faulty;
}

-- the trace is that of a run of these events, the oldest first, on these machines: there are eight machines at most, machines and events are such as can be, each reply is the one that is defined, and each publication is shown with its certificate
pub record IsTraceOf (configs : List Configuration) (events : List Event) (trace : RunTrace) : Type 0 where
  pub few : length configs ≤ max_machines
  pub configurations : AreConfigurations configs
  pub can_be : AreEvents events
  pub replies : trace.replies ≡ replies_from configs [] events
  pub shown : map outline trace.shown ≡ shown_of configs (accepted configs (reverse events))
  pub certificates : CertificatesProve trace.shown
