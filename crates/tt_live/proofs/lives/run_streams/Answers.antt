use Rattle.std.proofs.Common.{arith}
use Rattle.tt_rounds.specs.RoundLinks.{DoesOver}
use Rattle.tt_live.proofs.Ending.{result_ends}
use Rattle.tt_live.proofs.Running.{node_is}
use Rattle.tt_live.proofs.lives.run_streams.Goals as goal

pub returns : goal.returns
returns g c =
    let did = c.run_node.ensures in record {
      node = node_is c.args.link (λ before call gift after. DoesOver (λ _ _ _. Unit {0}) (record { wire = before.hearing.wire; addresses = before.hearing.hosts.addresses.items; is_six = before.hearing.hosts.is_six; socket = before.hearing.hosts.socket }) call gift (record { wire = after.hearing.wire; addresses = after.hearing.hosts.addresses.items; is_six = after.hearing.hosts.is_six; socket = after.hearing.hosts.socket })) (λ link. link.failures) c.args.live.now c.args.config c.args.shared.gate.now _ _ _ _ _ _ c.run_node.result
          c.rounds.ensures.value c.turns.ensures.value c.lease.ensures.value c.new-daemon.ensures.value c.requires.new c.requires.all
          did.runs did.done did.all did.shares did.reads;
      fault = result_ends c.run_node.result did.fault (λ bad.
          omega (arith, did.bad_limits.0 bad, c.requires.some, c.requires.few, c.requires.each, c.rounds.ensures.some, c.turns.ensures.some));
    }
