-- What is replied to a script whose run is to be drawn.
use Rattle.std.proofs.Common.{◌≡◌, ◌∙◌, ap, ℕ, List, Ok}
use Rattle.tt_daemon.specs.Config.{Configuration}
use Rattle.tt_trace.specs.Picture.{picture_text_of}
use Rattle.tt_script.specs.Script.{Scenario}
use Rattle.tt_world.specs.declared.events.Event.{Event}
use Rattle.tt_world.specs.Trace.{IsTraceOf, RunTrace}
use Rattle.ttd_commands.specs.Answer.{fine}
use Rattle.ttd_commands.specs.Picturing.{ShowsRun}

-- the text of the picture of a script's run shows that run
pub picture_shown : (script : Scenario) (configs configs2 : List Configuration) (events events2 : List Event) (trace : RunTrace) (text : List ℕ)
    → configs ≡ script.configs → events ≡ script.events → configs2 ≡ script.configs → events2 ≡ script.events
    → IsTraceOf configs events trace → text ≡ picture_text_of configs2 events2 trace → ShowsRun script (Ok (fine text))
picture_shown script configs configs2 events events2 trace text first second third fourth ran written = record {
  trace = trace;
  ran = rw (first, second) at ran;
  is = ap (λ t. Ok (fine t)) (written ∙ ap (λ given. picture_text_of given events2 trace) third ∙ ap (λ given. picture_text_of script.configs given trace) fourth);
}
