use Rattle.tt_rounds.proofs.Leading.{poll-refused, poll-sent, Leads-went, Leads-broke}
use Rattle.tt_rounds.proofs.rounds.poll_one.Goals as goal

pub returns-in_default-clause-course : goal.returns-in_default-clause-course
returns-in_default-clause-course g c = λ items.
    poll-refused g.L.Link.does _ _ items _ _ _ _ _ _ c.in_default.ensures.refused c.in_default.ensures.unchanged

pub returns-in_default-send-clause-course : goal.returns-in_default-send-clause-course
returns-in_default-send-clause-course g c = λ items.
    poll-sent g.L.Link.does _ _ _ items _ _ _ _ _ _ _ _ _ c.in-Ok.ensures.polled c.in-Ok.ensures.keeps_config c.in-Ok.ensures.request c.in_default-send.ensures.did Leads-broke c.poll-2.ensures

pub returns-clause-course : goal.returns-clause-course
returns-clause-course g c = λ items.
    poll-sent g.L.Link.does _ _ _ items _ _ _ _ _ _ _ _ _ c.in-Ok.ensures.polled c.in-Ok.ensures.keeps_config c.in-Ok.ensures.request c.in-Ok-send.ensures.did Leads-went c.poll-2.ensures
