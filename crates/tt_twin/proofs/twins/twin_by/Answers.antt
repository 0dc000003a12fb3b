use Rattle.std.proofs.Common.{◌≡◌, ℕ, ◌-◌, ap, ◌∙◌, inr}
use Rattle.tt_span.specs.Interval.{Interval}
use Rattle.tt_world.specs.Publications.{Showing}
use Rattle.tt_world.specs.Trace.{outline}
use Rattle.tt_twin.specs.Twin.{end_of}
use Rattle.tt_twin.proofs.Telling.{told_cut, told_value, cut_as, there_too, got, fused_as, looked_as}
use Rattle.tt_twin.proofs.twins.twin_by.Goals as goal

pub returns-then-is_cut-clause-refused : goal.returns-then-is_cut-clause-refused
returns-then-is_cut-clause-refused c = λ configs past same is observation. inr (
    let s : Showing = outline c.in-Some-get.found.now in
    let end : c.end.result ≡ end_of c.args.side s.span = c.end.ensures.value ∙ ap (λ (i : Interval). end_of c.args.side i) c.span.ensures.value in
    let since : c.saturating_sub.result ≡ c.args.asked.clock - s.clock = c.saturating_sub.ensures ∙ ap (λ (n : ℕ). c.args.asked.clock - n) c.clock.ensures.value in
    told_cut c.args.side configs past c.args.asked c.args.config.now _ c.args.observation.now c.in-Some.made s same is observation c.in-Some.is
    (there_too outline c.args.shown.now c.in-Some.made.place c.in-Some-get.found.now (got c.args.shown.now c.in-Some.made.place c.in-Some-get.found.now c.in-Some-get.ensures.lookup.3.0 c.in-Some-get.ensures.lookup.1))
    (cut_as c.args.side c.drift.result c.args.config.now.drift c.end.result (end_of c.args.side s.span) c.saturating_sub.result (c.args.asked.clock - s.clock) _ c.if-is_cut.ensures c.drift.ensures.value end since)
    )

pub returns-clause-value : goal.returns-clause-value
returns-clause-value c = λ configs past same is observation.
    let s : Showing = outline c.in-Some-get.found.now in
    let end : c.end.result ≡ end_of c.args.side s.span = c.end.ensures.value ∙ ap (λ (i : Interval). end_of c.args.side i) c.span.ensures.value in
    let since : c.saturating_sub.result ≡ c.args.asked.clock - s.clock = c.saturating_sub.ensures ∙ ap (λ (n : ℕ). c.args.asked.clock - n) c.clock.ensures.value in
    told_value c.args.side configs past c.args.asked c.args.config.now _ c.args.observation.now c.in-Some.made s c.in_ok-twin.twin.items c.look_all_again.new.twin.items same is observation c.in-Some.is
    (there_too outline c.args.shown.now c.in-Some.made.place c.in-Some-get.found.now (got c.args.shown.now c.in-Some.made.place c.in-Some-get.found.now c.in-Some-get.ensures.lookup.3.0 c.in-Some-get.ensures.lookup.1))
    (cut_as c.args.side c.drift.result c.args.config.now.drift c.end.result (end_of c.args.side s.span) c.saturating_sub.result (c.args.asked.clock - s.clock) _ c.if-is_cut.ensures c.drift.ensures.value end since)
    (fused_as c.end.result (end_of c.args.side s.span) c.args.asked.machine c.clock.result s.clock c.deref.result.now c.in-Some.made.known.items c.spans.result.now s.spans c.in_ok-twin.twin.items c.in_ok-twin.ensures c.deref.ensures.value end c.clock.ensures.value c.spans.ensures.value)
    (looked_as c.args.side c.drift.result c.args.config.now.drift c.args.asked.machine c.clock.result s.clock c.end.result (end_of c.args.side s.span) c.deref-2.result.now c.args.observation.now.glances.items c.in_ok-twin.twin.items c.look_all_again.new.twin.items c.in_ok-look_all_again.ensures c.deref-2.ensures.value c.drift.ensures.value c.clock.ensures.value end)
