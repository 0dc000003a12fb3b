-- The end of a run.
use Rattle.std.proofs.Common.{◌≡◌, ℕ, ◌≤◌, List, ◌++◌, length, drop, ap, sym, ◌∙◌, append-nil, length-drop, arith}
use Rattle.std.proofs.lemmas.List.{nil_from_length}
use Rattle.tt_world.specs.declared.events.Event.{Event}
use Rattle.tt_world.specs.declared.events.Reply.{Reply}
use Rattle.tt_daemon.specs.Config.{Configuration}
use Rattle.tt_world.specs.Reply.{replies_from}

-- where no event is left, all replies have been given
pub told-all : (configs : List Configuration) (events : List Event) (i : ℕ) (past : List Event) (replies all : List Reply) → length events ≤ i →
    replies ++ replies_from configs past (drop i events) ≡ all → replies ≡ all
told-all configs events i past replies all done told =
    sym (append-nil replies) ∙ ap (λ (es : List Event). replies ++ replies_from configs past es) (sym (nil_from_length (drop i events) (omega (arith, length-drop i events)))) ∙ told
