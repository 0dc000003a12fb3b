-- The events are those of the parts.
use Rattle.std.proofs.Common.{rules, ◌≡◌, ℕ, List, ◌∙◌, ap}
use Rattle.std.specs.Prelude.{Option}
use Rattle.tt_status.specs.declared.lines.LogEvent.{LogEvent}
use Rattle.tt_telemetry.specs.Records.{answers_again, event_of, events_of, has_unsent, is_silent, numbers_where, outcome_of, refused_answers, refused_event, report_at, suspects_in}
use Rattle.tt_telemetry.proofs.records.records_of.Goals as goal

same_events : (s s' : List ℕ) (o o' r r' : Option LogEvent) (i i' u u' a a' : List ℕ) → s ≡ s' → o ≡ o' → r ≡ r' → i ≡ i' → u ≡ u' → a ≡ a'
    → events_of s o r i u a ≡ events_of s' o' r' i' u' a'
same_events s s' o o' r r' i i' u u' a a' se oe re ie ue ae =
    ap (λ (x : List ℕ). events_of x o r i u a) se
    ∙ ap (λ (x : Option LogEvent). events_of s' x r i u a) oe
    ∙ ap (λ (x : Option LogEvent). events_of s' o' x i u a) re
    ∙ ap (λ (x : List ℕ). events_of s' o' r' x u a) ie
    ∙ ap (λ (x : List ℕ). events_of s' o' r' i' x a) ue
    ∙ ap (λ (x : List ℕ). events_of s' o' r' i' u' x) ae

pub returns-clause-events : goal.returns-clause-events
returns-clause-events c =
    let n = c.args.terms.now.config.sources in
    let sources = c.args.report.now.sources in
    let suspects : c.suspects_in.result.now ≡ suspects_in c.publication_of-shown.result.0 = search rules in
    let outcome : c.event_of.result ≡ event_of (outcome_of c.args.did.now c.args.report.now.fusion) c.args.totals.now.published = search rules in
    let refused : c.refused_event.result ≡ refused_event (refused_answers c.args.did.now) = search rules in
    let silent : c.as_slice.result.now ≡ numbers_where (λ k. is_silent (report_at sources k).outcome) n = search rules in
    let lost : c.as_slice-2.result.now ≡ numbers_where (has_unsent c.args.unsent.now) n = search rules in
    let answering : c.as_slice-3.result.now ≡ numbers_where (answers_again c.args.totals.now.each sources) n = search rules in
    c.events_of-events.ensures.value ∙ same_events _ _ _ _ _ _ _ _ _ _ _ _ suspects outcome refused silent lost answering
