use Rattle.std.proofs.Common.{rules, arith}
use Rattle.tt_node.proofs.Sharing.{opened-seats}
use Rattle.tt_server.proofs.servers.posts_of.Goals as goal

pub returns-clause-ready : goal.returns-clause-ready
returns-clause-ready g c =
    let seats = opened-seats c.args.sequencer.now c.args.settings.now.config.workers c.args.seats.items c.requires.opened in
    record {
      count = first_of (search rules, omega arith);
      one_each = seats.0;
      room = first_of (search rules, omega arith);
      new = search rules;
      new_seats = seats.1;
    }
