use Rattle.std.proofs.Common.{Ok, Err, ap}
use Rattle.tt_rounds.proofs.Fusings.{Grows-none, fusion-answered, fuse-published, fuse-refused, last-published, last-refused, publish-ends}
use Rattle.tt_rounds.proofs.rounds.fuse.Goals as goal

pub returns-in-Err-clause-course : goal.returns-in-Err-clause-course
returns-in-Err-clause-course g c =
    rw c.refuse_fusion.ensures (fuse-refused c.args.daemon.now _ _ _ c.args.clock _ _ _
    (fusion-answered c.args.daemon.now c.args.clock (Err c.in-Err.fault) (record { fused = c.in-Err.ensures.fused; back = c.in-Err.ensures.clock_back.1; unknown = c.in-Err.ensures.unknown.1; found = c.in-Err.ensures.found_slowly }))
    c.in-Err.ensures.unchanged c.fuse-in-Err.ensures.fuses)

pub returns-in-Ok-publish-clause-course : goal.returns-in-Ok-publish-clause-course
returns-in-Ok-publish-clause-course g c =
    fuse-published c.args.daemon.now _ _ _ _ c.args.clock c.in-Ok.fused (Ok tt) _ _
    (fusion-answered c.args.daemon.now c.args.clock (Ok c.in-Ok.fused) (record { fused = c.in-Ok.ensures.fused; back = c.in-Ok.ensures.clock_back.1; unknown = c.in-Ok.ensures.unknown.1; found = c.in-Ok.ensures.found_slowly }))
    c.in-Ok.ensures.unchanged
    (record { published = ap (λ teller. teller.items) c.in-Ok-publish.ensures.published; unchanged = tt; back = c.in-Ok-publish.ensures.clock_back; used_up = c.in-Ok-publish.ensures.used_up; no_places = c.in-Ok-publish.ensures.no_places })
    (rw c.copied.ensures.value at c.fuse-2.ensures.fuses)

pub returns-in-Err-publish-clause-course : goal.returns-in-Err-publish-clause-course
returns-in-Err-publish-clause-course g c =
    fuse-published c.args.daemon.now _ _ _ _ c.args.clock c.in-Ok.fused (Err c.in-Err-publish.fault) _ _
    (fusion-answered c.args.daemon.now c.args.clock (Ok c.in-Ok.fused) (record { fused = c.in-Ok.ensures.fused; back = c.in-Ok.ensures.clock_back.1; unknown = c.in-Ok.ensures.unknown.1; found = c.in-Ok.ensures.found_slowly }))
    c.in-Ok.ensures.unchanged
    (record { published = tt; unchanged = ap (λ teller. teller.items) c.in-Err-publish.ensures.unchanged; back = c.in-Err-publish.ensures.clock_back; used_up = c.in-Err-publish.ensures.used_up; no_places = c.in-Err-publish.ensures.no_places })
    (rw c.copied.ensures.value at c.fuse-2.ensures.fuses)

pub returns-in-Err-publish-clause-rounds_fault : goal.returns-in-Err-publish-clause-rounds_fault
returns-in-Err-publish-clause-rounds_fault g c =
    publish-ends c.args.teller.now.items _ c.in-Ok.fused c.in-Err-publish.fault
    (record { published = tt; unchanged = ap (λ teller. teller.items) c.in-Err-publish.ensures.unchanged; back = c.in-Err-publish.ensures.clock_back; used_up = c.in-Err-publish.ensures.used_up; no_places = c.in-Err-publish.ensures.no_places })

pub returns-in-Err-clause-last : goal.returns-in-Err-clause-last
returns-in-Err-clause-last g c = last-refused c.args.teller.now.items _ _ c.fuse-in-Err.ensures.value

pub returns-in-Ok-publish-clause-last : goal.returns-in-Ok-publish-clause-last
returns-in-Ok-publish-clause-last g c =
    last-published _ _ _ _ (rw c.copied.ensures.value at c.fuse-2.ensures.value) (ap (λ teller. teller.items) c.in-Ok-publish.ensures.published)

pub returns-in-Err-publish-clause-grew : goal.returns-in-Err-publish-clause-grew
returns-in-Err-publish-clause-grew g c = rw (ap (λ teller. teller.items) c.in-Err-publish.ensures.unchanged) (Grows-none _ _)
