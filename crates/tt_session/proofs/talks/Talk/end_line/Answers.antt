use Rattle.tt_session.proofs.Following.{Steps-answered}
use Rattle.tt_session.proofs.talks.Talk.end_line.Goals as goal

pub returns-clause-steps : goal.returns-clause-steps
returns-clause-steps g c =
    rw (← c.self.view_is)
    (Steps-answered g.S.Service.allows c.args.waits _ _ _ _ c.judge-judged.result.reply c.judge-judged.result.is_commit
    c.judge-judged.ensures.answered c.judge-judged.ensures.commit c.judge-judged.ensures.empty c.count.ensures.lines c.count.ensures.refused)
