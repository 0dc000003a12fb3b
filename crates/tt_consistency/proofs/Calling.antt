-- Calls one after another leave what the steps of all of them make.
use Rattle.std.proofs.Common.{◌≡◌, ℕ, List, [], ◌∷◌, refl, sym, ap, subst, ◌∙◌}
use Rattle.std.proofs.lemmas.List.{length-replicate}
use Rattle.tt_source.specs.Table.{SourceState, unknown_source}
use Rattle.tt_daemon.specs.Config.{Configuration}
use Rattle.tt_world.proofs.Histories.Places.{all_append}
use Rattle.tt_consistency.specs.Calls.{RoundsCall, kept_after, AreInTurn, calls_steps}
use Rattle.tt_consistency.specs.CourseSteps.{kept_in, rounds_steps}
use Rattle.tt_consistency.specs.Steps.{Kept, Step, new_kept, after_steps}
use Rattle.tt_consistency.specs.Timeline.{AreOf, NamesSource, Timed, steps_told}
use Rattle.tt_consistency.proofs.Coursing.{rounds-made}
use Rattle.tt_consistency.proofs.LivingRounds.{after_steps-append}
use Rattle.tt_consistency.proofs.Naming.{size, after_steps-size, names-rounds}

pub calls-made : (begun : Kept) (calls : List RoundsCall) → AreInTurn begun calls → kept_after begun calls ≡ after_steps begun (calls_steps calls)
calls-made begun [] turn = refl
calls-made begun (call ∷ calls) turn =
    let steps = rounds_steps call.rounds call.turns (call.from []) call.given in
    rounds-made call.rounds call.turns call.given call.exchanges call.from call.to call.answer turn.0
    ∙ ap (λ (kept : Kept). after_steps kept steps) (turn.1 ∙ calls-made begun calls turn.2)
    ∙ sym (after_steps-append begun steps (calls_steps calls))

pub calls-named : (begun : Kept) (calls : List RoundsCall) → AreInTurn begun calls → AreOf (size begun) (calls_steps calls)
calls-named begun [] turn = tt
calls-named begun (call ∷ calls) turn =
    let steps = rounds_steps call.rounds call.turns (call.from []) call.given in
    let same : size (kept_in (call.from [])) ≡ size begun = ap size (turn.1 ∙ calls-made begun calls turn.2) ∙ after_steps-size begun (calls_steps calls) in
    all_append (NamesSource (size begun)) steps (calls_steps calls)
    (subst (λ (n : ℕ). AreOf n steps) same (names-rounds call.rounds call.turns (call.from []) call.given)) (calls-named begun calls turn.2)

-- calls that begin with a new daemon name its sources
pub named-by_calls : (config : Configuration) (m number : ℕ) (timeline : List Timed) (calls : List RoundsCall) → AreInTurn (new_kept config m number) calls → steps_told timeline ≡ calls_steps calls → AreOf config.sources (steps_told timeline)
named-by_calls config m number timeline calls turn are =
    subst (AreOf config.sources) (sym are)
    (subst (λ (n : ℕ). AreOf n (calls_steps calls)) (length-replicate {A = SourceState} config.sources unknown_source) (calls-named (new_kept config m number) calls turn))

-- and leave what the steps of the timeline make of it
pub made-by_calls : (config : Configuration) (m number : ℕ) (timeline : List Timed) (calls : List RoundsCall) → AreInTurn (new_kept config m number) calls → steps_told timeline ≡ calls_steps calls
    → kept_after (new_kept config m number) calls ≡ after_steps (new_kept config m number) (steps_told timeline)
made-by_calls config m number timeline calls turn are = calls-made (new_kept config m number) calls turn ∙ ap (λ (steps : List Step). after_steps (new_kept config m number) steps) (sym are)
