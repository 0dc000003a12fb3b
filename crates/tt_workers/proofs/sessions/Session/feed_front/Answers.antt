use Rattle.tt_workers.proofs.Hearing.{front-last, split-is}
use Rattle.tt_workers.proofs.sessions.Session.feed_front.Goals as goal

pub returns : goal.returns
returns g c =
    let front = c.split_at.result.0.now in
    let behind = c.split_at.result.1.now in
    record {
      over =
          front-last c.args.self.now c.args.post c.feed-post.new.self c.feed-post.result.0 c.args.bytes.now front behind c.feed-post.result.1
          (split-is c.args.bytes.now front behind _ c.split_at.ensures.front c.split_at.ensures.back) c.feed-post.ensures.on c.feed-post.ensures.over;
    }
