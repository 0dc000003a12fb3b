use Rattle.std.proofs.Common.{[], sym, append-nil}
use Rattle.tt_session.proofs.Following.{Steps-kept}
use Rattle.tt_session.proofs.talks.Talk.hear.Goals as goal

pub returns-then-byte-ne10-clause-ok : goal.returns-then-byte-ne10-clause-ok
returns-then-byte-ne10-clause-ok g c =
    record {
      text = [];
      steps =
          Steps-kept g.S.Service.allows c.args.waits c.args.service.now c.args.self.now c.keep.new.self c.args.byte
          c.if-byte-ne10.true c.keep.ensures.same c.keep.ensures.kept;
      put = sym (append-nil c.args.replies.now.items);
    }
