use Rattle.std.proofs.Common.{◌≡◌, ◌<◌, ◌^◌, ap, ◌∙◌, subst, rules, arith}
use Rattle.tt_epoch.specs.Course.{Reads, Takes}
use Rattle.tt_server.specs.declared.states.Life.{Life as Current}
use Rattle.tt_server.proofs.Living.{has-settings, some-epoch, took-epoch}
use Rattle.tt_server.proofs.servers.run_life.Goals as goal

pub run-ended-requires-clause-meant : goal.run-ended-requires-clause-meant
run-ended-requires-clause-meant g c κs within =
    let takes = subst (λ r. Takes g.S.Store.does Reads c.args.store.now c.next_epoch.new.store r) c.in-Ok.is c.next_epoch.ensures.course in
    let below : c.in-Ok.epoch < 2 ^ 64 = first_of (search rules, omega arith) in
    has-settings c.args.start.settings.now c.in-Ok.epoch c.of-life.result c.new-server.result.life c.of-life.ensures.value c.new-server.ensures.life
    (some-epoch g.S.Store.does c.args.store.now c.next_epoch.new.store c.in-Ok.epoch takes) below

pub returns-clause-epoch : goal.returns-clause-epoch
returns-clause-epoch g c =
    let takes = subst (λ r. Takes g.S.Store.does Reads c.args.store.now c.next_epoch.new.store r) c.in-Ok.is c.next_epoch.ensures.course in
    let same : c.new-server.result.life.epoch ≡ c.in-Ok.epoch = ap (λ (l : Current). l.epoch) (c.new-server.ensures.life ∙ c.of-life.ensures.value) in
    took-epoch g.S.Store.does c.args.store.now c.next_epoch.new.store c.in-Ok.epoch c.new-server.result.life.epoch c.run-ended.result same takes c.run-ended.ensures.epoch
