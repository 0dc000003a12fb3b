use Rattle.std.proofs.Common.{◌≡◌, ℕ, false, true, refl, sym, ap, ◌∙◌, append-nil, ◌∷◌}
use Rattle.std.specs.Prelude.{filter}
use Rattle.std.specs.List.{range_with_len}
use Rattle.tt_daemon.specs.Config.{Configuration}
use Rattle.tt_world.specs.Bad.{accepted}
use Rattle.tt_world.specs.State.{knows}
use Rattle.tt_twin.proofs.Observing.{nothing_seen, published_other, published_this, looked_on, both_equal, one_differs}
use Rattle.tt_twin.proofs.observations.Observation.see.Goals as goal

pub returns-in-Nothing-clause-seen : goal.returns-in-Nothing-clause-seen
returns-in-Nothing-clause-seen c = λ configs past event config stands news observation.
    nothing_seen configs past event c.args.machine c.args.publication c.args.self.now (sym news ∙ c.in-Nothing.is) observation

pub returns-else-own-machine-clause-seen : goal.returns-else-own-machine-clause-seen
returns-else-own-machine-clause-seen c = λ configs past event config stands news observation.
    published_other configs past event c.args.machine c.args.publication c.in-Published.own c.in-Published.number c.args.self.now _ (sym news ∙ c.in-Published.is)
    (one_differs c.in-Published.own c.args.machine c.in-Published.number c.args.publication c.else-own-machine.either) observation refl refl refl

pub returns-else-own-machine-2-clause-seen : goal.returns-else-own-machine-2-clause-seen
returns-else-own-machine-2-clause-seen c = λ configs past event config stands news observation.
    looked_on configs past event c.args.machine c.args.publication c.in-Looked.own c.in-Looked.number c.in-Looked.glance false c.args.self.now _ (sym news ∙ c.in-Looked.is)
    (one_differs c.in-Looked.own c.args.machine c.in-Looked.number c.args.publication c.else-own-machine-2.either) observation refl refl (sym (append-nil c.args.self.now.glances.items))

pub returns-in_ok-push-in-Looked-clause-seen : goal.returns-in_ok-push-in-Looked-clause-seen
returns-in_ok-push-in-Looked-clause-seen c = λ configs past event config stands news observation.
    looked_on configs past event c.args.machine c.args.publication c.in-Looked.own c.in-Looked.number c.in-Looked.glance true c.args.self.now _ (sym news ∙ c.in-Looked.is)
    (both_equal c.in-Looked.own c.args.machine c.in-Looked.number c.args.publication c.if-own-machine-2.true c.if-number-publication-2.true) observation refl refl (rw c.in_ok-push-in-Looked.was at c.push.ensures.items)

pub returns-in_ok-known-in-Published-clause-seen : goal.returns-in_ok-known-in-Published-clause-seen
returns-in_ok-known-in-Published-clause-seen c = λ configs past event config stands news observation.
    let sources : c.sources.result ≡ c.args.config.now.sources = c.sources.ensures.value in
    let known = c.in_ok-known-in-Published.ensures configs (event ∷ past) stands in
    published_this configs past event c.args.machine c.args.publication c.in-Published.own c.in-Published.number c.args.self.now _ _ (sym news ∙ c.in-Published.is)
    c.if-own-machine.true c.if-number-publication.true observation refl refl refl
    (known ∙ ap (λ (n : ℕ). filter (λ i. knows configs (accepted configs (event ∷ past)) c.args.machine i) (range_with_len 0 n)) (sources ∙ sym (ap (λ (k : Configuration). k.sources) config)))
    c.new.ensures.items
