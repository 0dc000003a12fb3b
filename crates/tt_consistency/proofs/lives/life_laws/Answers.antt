use Rattle.tt_consistency.specs.Timed.{timed_of}
use Rattle.tt_consistency.proofs.Living.{life-runs, life-holds, session-timed, lived-timed, lives-seen}
use Rattle.tt_consistency.proofs.lives.life_laws.Goals as goal

pub returns : goal.returns
returns g c = record {
  runs = life-runs g.C.Clock.gives g.C.Clock.failed g.V.Presence.says;
  publications_hold = life-holds g.C.Clock.gives g.C.Clock.failed g.V.Presence.says;
  readings_hold = λ waits life start timeline worker session times proved assumed of_life of_worker.
      session-timed g.C.Clock.gives g.C.Clock.failed g.V.Presence.says waits life start timeline proved assumed worker of_life session of_worker times;
  ordered = λ waits other_waits lived other_lived earlier later times other_times number stamp begun released other_number other_stamp other_begun is served other_is other_served committed begins order.
      c.order_laws.ensures.ordered (timed_of earlier times) (timed_of later other_times) number stamp begun released other_number other_stamp other_begun
      (lived-timed g.C.Clock.gives g.C.Clock.failed g.V.Presence.says waits lived is earlier times served)
      (lived-timed g.D.Clock.gives g.D.Clock.failed g.W.Presence.says other_waits other_lived other_is later other_times other_served) committed begins order;
  consistent = λ waits lives history are seen.
      c.order_laws.ensures.consistent history (lives-seen g.C.Clock.gives g.C.Clock.failed g.V.Presence.says waits lives history are seen);
}
